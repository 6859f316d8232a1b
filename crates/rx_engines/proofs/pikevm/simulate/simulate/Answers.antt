use Rattle.std.proofs.Common.{◌≡◌, ℕ, List, ◌+◌, length, refl, sym, ◌∙◌, ap, subst, arith}
use Rattle.std.specs.Prelude.{true, None, replicate, is_some}
use Rattle.rx_model.specs.Runs.{nowhere}
use Rattle.rx_nfa.specs.declared.state.State.{State}
use Rattle.rx_engines.specs.declared.pikevm.buffers.Buffers.{Buffers}
use Rattle.rx_engines.specs.Threads.{Cells}
use Rattle.rx_engines.specs.Buffers.{IsReady, curr_of}
use Rattle.rx_engines.proofs.lemmas.threads.BufferLemmas.{keeps-twice}
use Rattle.rx_engines.proofs.lemmas.threads.StartLemmas.{cleared-after, none-left}
use Rattle.rx_engines.proofs.lemmas.threads.StageLemmas.{not-some, and-false}
use Rattle.rx_engines.proofs.lemmas.threads.GoingLemmas.{Going, going-begun, begins-here, found-nowhere, found-matched, found-past, found-in_order, found-enough, goes-on, found-over}
use Rattle.rx_engines.proofs.pikevm.simulate.simulate.Goals as goal

pub loop-place-init : goal.loop-place-init
loop-place-init c = record {
  first = omega arith;
  going = going-begun c.args.search.now c.args.earliest (length c.args.buffers.now.best.items) _ _ _ c.requires.none;
  unmatched = λ on. refl;
  cleared = c.requires.cleared;
  ready = c.requires.ready;
  room = record { even = refl; odd = refl; slots = refl; stack = refl; best = refl };
}

-- no thread is alive, and none starts any more

pub returns-in_default-clause-answer : goal.returns-in_default-clause-answer
returns-in_default-clause-answer c =
    found-nowhere c.args.search.now c.args.earliest (length c.args.buffers.now.best.items) c.requires.search c.is_some-matched.ensures c.alive-threads.ensures
    c.loop-place.invariant.going (omega arith) c.in_default.ensures _

pub returns-in_default-clause-cleared : goal.returns-in_default-clause-cleared
returns-in_default-clause-cleared c =
    let none = not-some c.loop-place.best (sym c.is_some-matched.ensures ∙ (c.in_default.ensures c.loop-place.place (omega arith) (omega arith)).0) in
    rw none at c.loop-place.invariant.cleared

pub returns-then-matched-clause-answer : goal.returns-then-matched-clause-answer
returns-then-matched-clause-answer c =
    let s = c.args.search.now in
    let w = length c.args.buffers.now.best.items in
    let here = c.in-Some.here in
    let inside = c.in-Some.ensures.1 in
    let begun : Going s c.args.earliest w c.loop-place.best c.loop-place.buffers.best.items here (here + 1) nowhere
    (curr_of c.seed.new.buffers).table.items (curr_of c.seed.new.buffers).set.items =
    begins-here s c.args.earliest w c.requires.search c.is_some-matched.ensures c.alive-threads.ensures c.loop-place.invariant.going here
    (length c.loop-place.buffers.best.items) _ _ c.in-Some.ensures.0 inside c.in-Some.ensures.2 c.loop-place.invariant.ready.best c.seed.ensures.seeded in
    rw c.seed.ensures.best
    (found-matched s c.args.earliest w c.requires.search inside c.loop-place.invariant.unmatched begun (none-left _ (omega arith))
    (sym c.is_some-matched.ensures ∙ c.if-matched.true))

pub returns-then-search-here-clause-answer : goal.returns-then-search-here-clause-answer
returns-then-search-here-clause-answer c =
    let s = c.args.search.now in
    let w = length c.args.buffers.now.best.items in
    let here = c.in-Some.here in
    let inside = c.in-Some.ensures.1 in
    let begun : Going s c.args.earliest w c.loop-place.best c.loop-place.buffers.best.items here (here + 1) nowhere
    (curr_of c.seed.new.buffers).table.items (curr_of c.seed.new.buffers).set.items =
    begins-here s c.args.earliest w c.requires.search c.is_some-matched.ensures c.alive-threads.ensures c.loop-place.invariant.going here
    (length c.loop-place.buffers.best.items) _ _ c.in-Some.ensures.0 inside c.in-Some.ensures.2 c.loop-place.invariant.ready.best c.seed.ensures.seeded in
    found-past s c.args.earliest w c.requires.search inside c.loop-place.invariant.unmatched begun (none-left _ (omega arith))
    (sym c.is_some-matched.ensures ∙ c.if-matched.false) (omega arith) _

pub better-best-requires : goal.better-best-requires
better-best-requires c =
    let s = c.args.search.now in
    let w = length c.args.buffers.now.best.items in
    let here = c.in-Some.here in
    let inside = c.in-Some.ensures.1 in
    let begun : Going s c.args.earliest w c.loop-place.best c.loop-place.buffers.best.items here (here + 1) nowhere
    (curr_of c.seed.new.buffers).table.items (curr_of c.seed.new.buffers).set.items =
    begins-here s c.args.earliest w c.requires.search c.is_some-matched.ensures c.alive-threads.ensures c.loop-place.invariant.going here
    (length c.loop-place.buffers.best.items) _ _ c.in-Some.ensures.0 inside c.in-Some.ensures.2 c.loop-place.invariant.ready.best c.seed.ensures.seeded in
    found-in_order s c.args.earliest w c.requires.search inside c.loop-place.invariant.unmatched begun c.step-found.result c.step-found.new.buffers.best.items
    c.step-found.ensures.accepted

pub returns-then-is_enough-clause-answer : goal.returns-then-is_enough-clause-answer
returns-then-is_enough-clause-answer c =
    let s = c.args.search.now in
    let w = length c.args.buffers.now.best.items in
    let here = c.in-Some.here in
    let inside = c.in-Some.ensures.1 in
    let begun : Going s c.args.earliest w c.loop-place.best c.loop-place.buffers.best.items here (here + 1) nowhere
    (curr_of c.seed.new.buffers).table.items (curr_of c.seed.new.buffers).set.items =
    begins-here s c.args.earliest w c.requires.search c.is_some-matched.ensures c.alive-threads.ensures c.loop-place.invariant.going here
    (length c.loop-place.buffers.best.items) _ _ c.in-Some.ensures.0 inside c.in-Some.ensures.2 c.loop-place.invariant.ready.best c.seed.ensures.seeded in
    let reached = c.in-Some.ensures.0 in
    let low = c.loop-place.invariant.first in
    found-enough s c.args.earliest w c.requires.search inside c.loop-place.invariant.unmatched begun c.step-found.result c.better-best.result
    c.step-found.new.buffers.best.items (curr_of c.step-found.new.buffers).table.items (curr_of c.step-found.new.buffers).set.items
    c.step-found.ensures.accepted c.better-best.ensures
    (rw c.seed.ensures.best at c.step-found.ensures.kept) c.step-found.ensures.stepped (omega arith) (sym c.if-is_enough.true ∙ c.is_enough.ensures)

pub loop-place-preserved : goal.loop-place-preserved
loop-place-preserved c =
    let s = c.args.search.now in
    let w = length c.args.buffers.now.best.items in
    let here = c.in-Some.here in
    let inside = c.in-Some.ensures.1 in
    let begun : Going s c.args.earliest w c.loop-place.best c.loop-place.buffers.best.items here (here + 1) nowhere
    (curr_of c.seed.new.buffers).table.items (curr_of c.seed.new.buffers).set.items =
    begins-here s c.args.earliest w c.requires.search c.is_some-matched.ensures c.alive-threads.ensures c.loop-place.invariant.going here
    (length c.loop-place.buffers.best.items) _ _ c.in-Some.ensures.0 inside c.in-Some.ensures.2 c.loop-place.invariant.ready.best c.seed.ensures.seeded in
    let reached = c.in-Some.ensures.0 in
    let low = c.loop-place.invariant.first in
    let kept = rw c.seed.ensures.best at c.step-found.ensures.kept in
    let size : length c.seed.new.buffers.best.items ≡ w = ap (λ (b : Cells). length b.items) c.seed.ensures.best ∙ c.loop-place.invariant.ready.best in
    let unmatched : c.args.earliest ≡ true → c.better-best.result ≡ None =
    λ on. not-some c.better-best.result (and-false c.args.earliest (is_some c.better-best.result) (sym c.if-is_enough.false ∙ c.is_enough.ensures) on) in
    record {
      first = omega arith;
      going = goes-on s c.args.earliest w c.requires.search inside c.loop-place.invariant.unmatched begun c.step-found.result c.better-best.result
          c.step-found.new.buffers.best.items (curr_of c.step-found.new.buffers).table.items (curr_of c.step-found.new.buffers).set.items
          c.step-found.ensures.accepted c.better-best.ensures kept c.step-found.ensures.stepped unmatched;
      unmatched = unmatched;
      cleared = cleared-after c.step-found.result c.loop-place.best c.better-best.result here c.loop-place.buffers.best.items
          c.step-found.new.buffers.best.items (replicate w None) c.better-best.ensures kept c.loop-place.invariant.cleared;
      ready = subst (λ n. IsReady s.states.now n c.step-found.new.buffers) size c.step-found.ensures.ready;
      room = keeps-twice c.loop-place.invariant.room (keeps-twice c.seed.ensures.room c.step-found.ensures.room);
    }

pub returns-clause-answer : goal.returns-clause-answer
returns-clause-answer c =
    found-over c.args.search.now c.args.earliest (length c.args.buffers.now.best.items) c.requires.search c.loop-place.invariant.going (omega arith)
    c.loop-place.invariant.unmatched

-- the buffers fit

seed-ready : {states : List State} {w : ℕ} {b : Buffers} → IsReady states w b → IsReady states (length b.best.items) b
seed-ready {states} {w} {b} ready = subst (λ n. IsReady states n b) (sym ready.best) ready

pub seed-requires-clause-ready : goal.seed-requires-clause-ready
seed-requires-clause-ready c = seed-ready c.loop-place.invariant.ready

pub step-found-requires-clause-ready : goal.step-found-requires-clause-ready
step-found-requires-clause-ready c = seed-ready c.seed.ensures.ready

pub returns-then-matched-clause-ready : goal.returns-then-matched-clause-ready
returns-then-matched-clause-ready c = subst (λ n. IsReady c.args.search.now.states.now n c.seed.new.buffers) c.loop-place.invariant.ready.best
    c.seed.ensures.ready

pub returns-then-search-here-clause-ready : goal.returns-then-search-here-clause-ready
returns-then-search-here-clause-ready c = subst (λ n. IsReady c.args.search.now.states.now n c.seed.new.buffers) c.loop-place.invariant.ready.best
    c.seed.ensures.ready

pub returns-then-is_enough-clause-ready : goal.returns-then-is_enough-clause-ready
returns-then-is_enough-clause-ready c =
    let size : length c.seed.new.buffers.best.items ≡ length c.args.buffers.now.best.items = ap (λ (b : Cells). length b.items) c.seed.ensures.best
    ∙ c.loop-place.invariant.ready.best in
    subst (λ n. IsReady c.args.search.now.states.now n c.step-found.new.buffers) size c.step-found.ensures.ready

pub returns-then-matched-clause-room : goal.returns-then-matched-clause-room
returns-then-matched-clause-room c = keeps-twice c.loop-place.invariant.room c.seed.ensures.room

pub returns-then-search-here-clause-room : goal.returns-then-search-here-clause-room
returns-then-search-here-clause-room c = keeps-twice c.loop-place.invariant.room c.seed.ensures.room

pub returns-then-is_enough-clause-room : goal.returns-then-is_enough-clause-room
returns-then-is_enough-clause-room c = keeps-twice c.loop-place.invariant.room (keeps-twice c.seed.ensures.room c.step-found.ensures.room)

-- where there is no match, each slot is empty

pub returns-then-matched-clause-cleared : goal.returns-then-matched-clause-cleared
returns-then-matched-clause-cleared c = rw c.seed.ensures.best c.loop-place.invariant.cleared

pub returns-then-search-here-clause-cleared : goal.returns-then-search-here-clause-cleared
returns-then-search-here-clause-cleared c =
    let none = not-some c.loop-place.best (sym c.is_some-matched.ensures ∙ c.if-matched.false) in
    rw c.seed.ensures.best (rw none at c.loop-place.invariant.cleared)

pub returns-then-is_enough-clause-cleared : goal.returns-then-is_enough-clause-cleared
returns-then-is_enough-clause-cleared c =
    let kept = rw c.seed.ensures.best at c.step-found.ensures.kept in
    cleared-after c.step-found.result c.loop-place.best c.better-best.result c.in-Some.here c.loop-place.buffers.best.items c.step-found.new.buffers.best.items
    (replicate (length c.args.buffers.now.best.items) None) c.better-best.ensures kept c.loop-place.invariant.cleared
