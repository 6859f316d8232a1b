use Rattle.std.proofs.Common.{◌≡◌, ◌<◌, length, refl, sym, ◌∙◌, arith}
use Rattle.std.specs.Prelude.{false}
use Rattle.rx_nfa.specs.Automaton.{forwards}
use Rattle.rx_nfa.proofs.lemmas.runs.AutomatonLemmas.{automaton-bounded}
use Rattle.rx_nfa.specs.Ordered.{has, passed_at}
use Rattle.rx_engines.proofs.lemmas.walks.CloseLemmas.{not-true, not-false}
use Rattle.rx_engines.proofs.lemmas.walks.LineLemmas.{frames-less}
use Rattle.rx_nfa.proofs.lemmas.lists.ClosureLemmas.{found-rests}
use Rattle.rx_nfa.proofs.lemmas.lists.LaterLemmas.{automaton-steps}
use Rattle.rx_nfa.proofs.lemmas.lists.PlaceLemmas.{left-less, passed_at-has, passed_at-elsewhere}
use Rattle.rx_engines.proofs.lemmas.threads.SimulationLemmas.{Waits-passed, Waits-moves, Waits-rests}
use Rattle.rx_engines.proofs.pikevm.close.follow.Goals as goal

pub loop-state-init : goal.loop-state-init
loop-state-init c = record {
  followed = λ end later goal le stable w. w;
  state = c.requires.from;
  inside = c.requires.inside;
  less = omega arith;
  room = refl;
  rows = refl;
  width = refl;
  capacity = refl;
  kept = refl;
  slots_len = refl;
  stack_room = refl;
}

pub visit-requires-clause-room : goal.visit-requires-clause-room
visit-requires-clause-room c =
    let v = c.loop-state.invariant in
    let states = c.args.search.now.states.now in
    let new : has c.loop-state.threads.set.items c.loop-state.state ≡ false = not-true _ (sym c.loop-state-test.true ∙ c.insert.ensures.new) in
    let left = frames-less states (length states) c.args.place c.loop-state.state c.loop-state.threads.set.items v.state new in
    let less = v.less in
    let frames = c.requires.frames in
    let room = v.stack_room in
    omega arith

pub returns-in-Stop-clause-followed : goal.returns-in-Stop-clause-followed
returns-in-Stop-clause-followed c end later goal le stable w =
    let v = c.loop-state.invariant in
    let items = c.loop-state.threads.set.items in
    let q = c.loop-state.state in
    let new : has items q ≡ false = not-true _ (sym c.loop-state-test.true ∙ c.insert.ensures.new) in
    let more = rw c.loop-state-test.true at c.insert.ensures.after in
    let seen = rw c.in-Stop.is at c.visit.ensures.visited in
    let rows = v.rows in
    let table = c.requires.table in
    let inside = v.state in
    let lt : q < length c.loop-state.threads.table.items = omega arith in
    rw (more, c.set.ensures, c.as_slice.ensures, seen.1, seen.2)
    (Waits-rests stable (v.followed end later goal le stable w) new lt seen.0
    (found-rests (forwards c.args.search.now.matcher c.args.search.now.text.now) c.args.search.now.states.now end _
    (automaton-steps (forwards c.args.search.now.matcher c.args.search.now.text.now) c.args.search.now.states.now end) (passed_at items c.args.place) q
    c.args.place v.state le seen.0 (passed_at-has items c.args.place q ∙ new)
    (λ d lt. passed_at-elsewhere items c.args.place d (omega arith))))

pub returns-in-Stop-clause-less : goal.returns-in-Stop-clause-less
returns-in-Stop-clause-less c =
    let v = c.loop-state.invariant in
    let states = c.args.search.now.states.now in
    let new : has c.loop-state.threads.set.items c.loop-state.state ≡ false = not-true _ (sym c.loop-state-test.true ∙ c.insert.ensures.new) in
    let left = frames-less states (length states) c.args.place c.loop-state.state c.loop-state.threads.set.items v.state new in
    let more = rw c.loop-state-test.true at c.insert.ensures.after in
    let frames = c.visit.ensures.frames in
    let less = v.less in
    rw more (omega arith)

pub loop-state-smaller : goal.loop-state-smaller
loop-state-smaller c =
    let v = c.loop-state.invariant in
    let states = c.args.search.now.states.now in
    let new : has c.loop-state.threads.set.items c.loop-state.state ≡ false = not-true _ (sym c.loop-state-test.true ∙ c.insert.ensures.new) in
    let left = left-less (length states) c.args.place c.loop-state.state c.loop-state.threads.set.items v.state new in
    let more = rw c.loop-state-test.true at c.insert.ensures.after in
    rw more (omega arith)

pub loop-state-preserved : goal.loop-state-preserved
loop-state-preserved c =
    let v = c.loop-state.invariant in
    let states = c.args.search.now.states.now in
    let items = c.loop-state.threads.set.items in
    let new : has items c.loop-state.state ≡ false = not-true _ (sym c.loop-state-test.true ∙ c.insert.ensures.new) in
    let left = frames-less states (length states) c.args.place c.loop-state.state items v.state new in
    let more = rw c.loop-state-test.true at c.insert.ensures.after in
    let frames = c.visit.ensures.frames in
    let inside = rw c.in-To.is at c.visit.ensures.inside in
    let above = inside.1 in
    let below = inside.2 in
    let here : c.in-To.place ≡ c.args.place = omega arith in
    let seen = rw here at (rw c.in-To.is at c.visit.ensures.visited) in
    let less = v.less in
    rw more
    (record {
      followed = λ end later goal le stable w.
          Waits-moves stable (v.followed end later goal le stable w)
          (automaton-bounded (forwards c.args.search.now.matcher c.args.search.now.text.now) states end) new seen.0 _ _ (seen.1 end le);
      state = inside.0;
      inside = inside.3;
      less = omega arith;
      room = v.room;
      rows = v.rows;
      width = v.width;
      capacity = v.capacity;
      kept = c.visit.ensures.kept ∙ v.kept;
      slots_len = c.visit.ensures.width ∙ v.slots_len;
      stack_room = c.visit.ensures.room ∙ v.stack_room;
    })

pub returns-in-Back-clause-followed : goal.returns-in-Back-clause-followed
returns-in-Back-clause-followed c end later goal le stable w =
    let v = c.loop-state.invariant in
    let new : has c.loop-state.threads.set.items c.loop-state.state ≡ false = not-true _ (sym c.loop-state-test.true ∙ c.insert.ensures.new) in
    let more = rw c.loop-state-test.true at c.insert.ensures.after in
    let seen = rw c.in-Back.is at c.visit.ensures.visited in
    rw more
    (Waits-moves stable (v.followed end later goal le stable w)
    (automaton-bounded (forwards c.args.search.now.matcher c.args.search.now.text.now) c.args.search.now.states.now end) new seen.0 _ _ (seen.1 end le))

pub returns-in-Back-clause-less : goal.returns-in-Back-clause-less
returns-in-Back-clause-less c =
    let v = c.loop-state.invariant in
    let states = c.args.search.now.states.now in
    let new : has c.loop-state.threads.set.items c.loop-state.state ≡ false = not-true _ (sym c.loop-state-test.true ∙ c.insert.ensures.new) in
    let left = frames-less states (length states) c.args.place c.loop-state.state c.loop-state.threads.set.items v.state new in
    let more = rw c.loop-state-test.true at c.insert.ensures.after in
    let frames = c.visit.ensures.frames in
    let less = v.less in
    rw more (omega arith)

pub returns-clause-followed : goal.returns-clause-followed
returns-clause-followed c end later goal le stable w =
    let seen = not-false _ (sym c.loop-state-test.false ∙ c.insert.ensures.new) in
    let same = rw c.loop-state-test.false at c.insert.ensures.after in
    rw same (Waits-passed stable (c.loop-state.invariant.followed end later goal le stable w) seen)

pub as_slice-requires : goal.as_slice-requires
as_slice-requires c = tt

pub insert-requires : goal.insert-requires
insert-requires c = omega arith

pub returns-clause-inside : goal.returns-clause-inside
returns-clause-inside c = c.loop-state.invariant.inside

pub returns-clause-kept : goal.returns-clause-kept
returns-clause-kept c = c.loop-state.invariant.kept

pub returns-clause-slots : goal.returns-clause-slots
returns-clause-slots c = c.loop-state.invariant.slots_len

pub returns-clause-stack : goal.returns-clause-stack
returns-clause-stack c = c.loop-state.invariant.stack_room

pub returns-clause-table : goal.returns-clause-table
returns-clause-table c = c.loop-state.invariant.rows

pub returns-clause-width : goal.returns-clause-width
returns-clause-width c = c.loop-state.invariant.width

pub returns-in-Back-clause-inside : goal.returns-in-Back-clause-inside
returns-in-Back-clause-inside c = c.in-Back.ensures.inside

pub returns-in-Back-clause-table : goal.returns-in-Back-clause-table
returns-in-Back-clause-table c = c.loop-state.invariant.rows

pub returns-in-Back-clause-width : goal.returns-in-Back-clause-width
returns-in-Back-clause-width c = c.loop-state.invariant.width

pub returns-in-Stop-clause-inside : goal.returns-in-Stop-clause-inside
returns-in-Stop-clause-inside c = c.in-Stop.ensures.inside

pub set-requires-clause-state : goal.set-requires-clause-state
set-requires-clause-state c = omega arith

pub visit-requires-clause-inside : goal.visit-requires-clause-inside
visit-requires-clause-inside c = c.loop-state.invariant.inside

pub visit-requires-clause-place : goal.visit-requires-clause-place
visit-requires-clause-place c = c.requires.place

pub visit-requires-clause-search : goal.visit-requires-clause-search
visit-requires-clause-search c = c.requires.search

pub visit-requires-clause-state : goal.visit-requires-clause-state
visit-requires-clause-state c = c.loop-state.invariant.state
