use Rattle.std.proofs.Common.{◌+◌, ◌++◌, ◌∷◌, [], List, ℕ, map, take, arith, sym, ap}
use Rattle.std.specs.Vec.{vec_items}
use Rattle.std.proofs.lemmas.List.{take_all}
use Rattle.std.proofs.lemmas.List.Elements.{All-same, All-push, All-weaker}
use Rattle.rx_prefilter.specs.Tries.{HasNeedleOf}
use Rattle.rx_prefilter.proofs.ListLemmas.{map-take_more}
use Rattle.rx_prefilter.proofs.TrieLemmas.{needle-grows}
use Rattle.rx_prefilter.proofs.aho_corasick.trie.Trie.of.Goals as goal

pub loop-needle-preserved : goal.loop-needle-preserved
loop-needle-preserved c =
    let x = c.needle-item.result in
    let i = c.loop-needle.needle-index in
    let needles = c.args.needles.now in
    let old = c.loop-needle.trie in
    let new = c.insert.new.self in
    let invariant = c.loop-needle.invariant in
    let insert = c.in_ok-insert.ensures in
    let Q : List ℕ → Type 0 = HasNeedleOf old.next.items old.ends.items in
    let P : List ℕ → Type 0 = HasNeedleOf new.next.items new.ends.items in
    let before = map vec_items (take i needles) in
    let here : P x.items = rw c.deref.ensures.value at insert.2 in (
      insert.0,
      All-same P (map vec_items (take (i + 1) needles)) (before ++ x.items ∷ []) (map-take_more vec_items needles i x (omega arith) c.needle-item.is)
          (All-push P before x.items (All-weaker Q P (λ n has. needle-grows old.next.items old.ends.items new.next.items new.ends.items n insert.1 has) before
          invariant.1) here),
    )

pub returns : goal.returns
returns c =
    let needles = c.args.needles.now in
    let invariant = c.loop-needle.invariant in
    let P : List ℕ → Type 0 = HasNeedleOf c.loop-needle.trie.next.items c.loop-needle.trie.ends.items in (
      invariant.0,
      All-same P (map vec_items needles) (map vec_items (take c.loop-needle.needle-index needles))
          (ap (map vec_items) (sym (take_all c.loop-needle.needle-index needles c.loop-needle-test.false))) invariant.1,
    )
