use Rattle.std.proofs.Common.{◌<◌, [], ◌∷◌, true, false, length, take, get_or, set, refl, arith, subst}
use Rattle.std.proofs.lemmas.List.{take_all, take_more, get_or-set_same}
use Rattle.rx_prefilter.specs.Tries.{Walks}
use Rattle.rx_prefilter.proofs.TrieLemmas.{grows-same, grows-on, walks-on, ended_trie, ended_grows}
use Rattle.rx_prefilter.proofs.aho_corasick.trie.Trie.insert.Goals as goal

pub loop-byte-init : goal.loop-byte-init
loop-byte-init c =
    let t = c.requires in
    let tall = t.tall in
    let some = t.some in
    (t, grows-same c.args.self.now.next.items c.args.self.now.ends.items, refl, omega (arith, tall, some))

pub step-requires-clause-trie : goal.step-requires-clause-trie
step-requires-clause-trie c = c.loop-byte.invariant.0

pub step-requires-clause-state : goal.step-requires-clause-state
step-requires-clause-state c = c.loop-byte.invariant.3

pub loop-byte-preserved : goal.loop-byte-preserved
loop-byte-preserved c =
    let start = c.args.self.now in
    let old = c.loop-byte.self in
    let new = c.step.new.self in
    let i = c.loop-byte.byte-index in
    let needle = c.args.needle.now in
    let invariant = c.loop-byte.invariant in
    let step = c.in_ok-state.ensures in
    let more = take_more needle i 0 c.loop-byte-test.true in
    let before = step.1.walks 0 (take i needle) c.loop-byte.state invariant.2 in (
      step.0,
      grows-on start.next.items start.ends.items old.next.items old.ends.items new.next.items new.ends.items invariant.1 step.1,
      rw more (walks-on new.next.items 0 (take i needle) (get_or needle i 0 ∷ []) c.loop-byte.state c.in_ok-state.state before step.2),
      step.3,
    )

pub index_mut-requires : goal.index_mut-requires
index_mut-requires c =
    let invariant = c.loop-byte.invariant in
    let t = invariant.0 in
    let tall = t.tall in
    let wide = t.wide in
    let within = invariant.3 in
    omega (arith, c.loop-byte.self.ends.ok.0, tall, wide, within)

pub returns : goal.returns
returns c =
    let start = c.args.self.now in
    let old = c.loop-byte.self in
    let state = c.loop-byte.state in
    let needle = c.args.needle.now in
    let invariant = c.loop-byte.invariant in
    let t = invariant.0 in
    let tall = t.tall in
    let wide = t.wide in
    let low = invariant.3 in
    let within : state < length old.ends.items = omega (arith, tall, wide, low) in
    let all = take_all c.loop-byte.byte-index needle c.loop-byte-test.false in (
      ended_trie old.next.items old.depths.items old.ends.items state t,
      grows-on start.next.items start.ends.items old.next.items old.ends.items old.next.items (set old.ends.items state true) invariant.1
          (ended_grows old.next.items old.ends.items state within),
      record {
        state = state;
        leads = subst (λ u. Walks old.next.items 0 u state) all invariant.2;
        is_end = get_or-set_same old.ends.items state true false within;
      },
    )
