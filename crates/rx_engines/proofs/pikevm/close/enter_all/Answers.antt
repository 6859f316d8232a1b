use Rattle.std.proofs.Common.{◌≡◌, ◌<◌, ◌+◌, [], ◌∷◌, List, ℕ, suc, drop, get_or, refl, sym, ◌∙◌, ap, arith, length}
use Rattle.std.proofs.Math.Seq.{drop-cons}
use Rattle.std.proofs.lemmas.List.{drop_all}
use Rattle.std.specs.Prelude.{map}
use Rattle.rx_nfa.specs.Automaton.{at}
use Rattle.rx_engines.specs.Walk.{explore_all}
use Rattle.rx_engines.specs.declared.frame.Frame.{Frame}
use Rattle.rx_engines.specs.declared.frame.Frame.TheVariants.{Explore}
use Rattle.rx_engines.specs.Search.{graph_until}
use Rattle.rx_engines.proofs.lemmas.threads.SimulationLemmas.{after_frames, Waits-apart, after_frames-stable, Waits-next, Waits-over}
use Rattle.rx_engines.proofs.pikevm.close.enter_all.Goals as goal

-- the frames of the states from number k on
abbrev left : (place k : ℕ) → List ℕ → List Frame
left place k qs = explore_all (map (λ q. at q place) (drop k qs))

-- the first of them is that of state k
left-step : (place : ℕ) (qs : List ℕ) (k q : ℕ) → k < length qs → q ≡ get_or qs k q → left place k qs ≡ Explore q place ∷ left place (k + 1) qs
left-step place qs k q lt is =
    let more : suc k ≡ k + 1 = omega arith in
    ap (λ xs. explore_all (map (λ q. at q place) xs)) (drop-cons qs k q lt ∙ (λ j. sym is j ∷ drop (more j) qs))

pub loop-k-init : goal.loop-k-init
loop-k-init c = record {
  waits = λ end later goal le stable w. w;
  room = c.requires.set;
  rows = c.requires.table;
  width = refl;
  capacity = refl;
  slots_len = refl;
  kept = refl;
  empty = c.requires.empty;
  stack_room = refl;
}

pub loop-k-preserved : goal.loop-k-preserved
loop-k-preserved c =
    let v = c.loop-k.invariant in
    let place = c.args.place in
    let qs = c.args.alternates.now in
    let rest = left place (c.loop-k.k + 1) qs in
    let q = c.index-alternates-k.result in
    let first : left place c.loop-k.k qs ≡ Explore q place ∷ rest = left-step place qs c.loop-k.k q (omega arith) c.index-alternates-k.is in
    record {
      waits = λ end later goal le stable w.
          (let here = rw first at (v.waits end later goal le stable w) in
          let closed = c.enter.ensures.closed end (after_frames (graph_until c.args.search.now end) c.args.start rest c.args.slots.now later) goal le
          (after_frames-stable stable here) (Waits-apart stable here) in
          Waits-next rest closed);
      room = c.enter.ensures.set ∙ v.room;
      rows = c.enter.ensures.table ∙ v.rows;
      width = c.enter.ensures.width ∙ v.width;
      capacity = c.enter.ensures.capacity ∙ v.capacity;
      slots_len = c.enter.ensures.slots ∙ v.slots_len;
      kept = c.enter.ensures.kept ∙ v.kept;
      empty = c.enter.ensures.empty;
      stack_room = c.enter.ensures.stack ∙ v.stack_room;
    }

pub returns-clause-closed : goal.returns-clause-closed
returns-clause-closed c end later goal le stable w =
    let over : drop c.loop-k.k c.args.alternates.now ≡ [] = drop_all c.loop-k.k c.args.alternates.now (omega arith) in
    Waits-over (rw over at (c.loop-k.invariant.waits end later goal le stable w))
