use Rattle.std.proofs.Common.{◌≡◌, ◌<◌, [], length, length-set, refl, sym, ◌∙◌, ap, inr, arith}
use Rattle.std.specs.Prelude.{true, false}
use Rattle.rx_nfa.specs.Automaton.{forwards, state_at}
use Rattle.rx_nfa.specs.Ordered.{has, is_resting, passed_at}
use Rattle.rx_nfa.proofs.lemmas.runs.AutomatonLemmas.{automaton-bounded}
use Rattle.rx_nfa.proofs.lemmas.runs.StateLemmas.{state-known, names-known}
use Rattle.rx_nfa.proofs.lemmas.lists.ClosureLemmas.{found-rests}
use Rattle.rx_nfa.proofs.lemmas.lists.LaterLemmas.{automaton-steps}
use Rattle.rx_nfa.proofs.lemmas.lists.PlaceLemmas.{left-less, passed_at-has, passed_at-elsewhere}
use Rattle.rx_engines.proofs.lemmas.walks.CloseLemmas.{not-true, not-false}
use Rattle.rx_engines.proofs.lemmas.walks.YieldLemmas.{Yields-saved}
use Rattle.rx_engines.proofs.lemmas.threads.SimulationLemmas.{Waits-passed, Waits-rests, Waits-over, Waits-written}
use Rattle.rx_engines.proofs.pikevm.close.lead_on.Goals as goal

pub loop-next-init : goal.loop-next-init
loop-next-init c = rw c.copy.ensures (record {
  waits = λ end later goal le stable w. w;
  state = c.requires.from;
  room = c.requires.set;
  rows = c.requires.table;
  width = refl;
  capacity = refl;
  slots_len = c.requires.width.0 ∙ sym c.requires.width.1;
  kept = refl;
  empty = c.requires.empty;
  stack_room = refl;
})

pub loop-next-smaller : goal.loop-next-smaller
loop-next-smaller c =
    let v = c.loop-next.invariant in
    let states = c.args.search.now.states.now in
    let new : has c.loop-next.threads.set.items c.loop-next.state ≡ false = not-true _ (sym c.if-not-insert.false ∙ c.insert.ensures.new) in
    let left = left-less (length states) c.args.place c.loop-next.state c.loop-next.threads.set.items v.state new in
    let more = rw c.if-not-insert.false at c.insert.ensures.after in
    rw more (omega arith)

pub loop-next-preserved : goal.loop-next-preserved
loop-next-preserved c =
    let v = c.loop-next.invariant in
    let states = c.args.search.now.states.now in
    let text = c.args.search.now.text.now in
    let matcher = c.args.search.now.matcher in
    let q = c.loop-next.state in
    let items = c.loop-next.threads.set.items in
    let slots = c.loop-next.walk.slots.items in
    let new : has items q ≡ false = not-true _ (sym c.if-not-insert.false ∙ c.insert.ensures.new) in
    let more = rw c.if-not-insert.false at c.insert.ensures.after in
    let is = state-known states _ q _ _ c.as_usize.ensures.value v.state c.index-states-as_usize.is c.in-Capture.is in
    let wide = length-set slots c.in-Capture.slot c.at.result in
    rw (more, c.write.ensures, c.at.ensures)
    (record {
      waits = λ end later goal le stable w.
          Waits-written q c.in-Capture.next c.in-Capture.slot _ stable (automaton-bounded (forwards matcher text) states end) new (ap is_resting is)
          (Yields-saved matcher states text end q c.args.place v.state le _ c.in-Capture.slot c.in-Capture.next is refl refl refl [] _ slots _
          (inr (refl, refl)))
          (v.waits end later goal le stable w);
      state = names-known states q _ c.requires.search.names v.state is;
      room = v.room;
      rows = v.rows;
      width = v.width;
      capacity = v.capacity;
      slots_len = length-set slots c.in-Capture.slot _ ∙ v.slots_len;
      kept = v.kept;
      empty = v.empty;
      stack_room = v.stack_room;
    })

-- the state was passed before

pub returns-then-not-insert-clause-closed : goal.returns-then-not-insert-clause-closed
returns-then-not-insert-clause-closed c end later goal le stable w =
    let seen = not-false _ (sym c.if-not-insert.true ∙ c.insert.ensures.new) in
    let same = rw c.if-not-insert.true at c.insert.ensures.after in
    rw same (Waits-over (Waits-passed stable (c.loop-next.invariant.waits end later goal le stable w) seen))

-- it is followed

pub returns-then-not-is_resting-clause-closed : goal.returns-then-not-is_resting-clause-closed
returns-then-not-is_resting-clause-closed c end later goal le stable w =
    c.close.ensures.closed end later goal le stable (c.loop-next.invariant.waits end later goal le stable w)

-- it rests, and was passed before

pub returns-then-not-insert-2-clause-closed : goal.returns-then-not-insert-2-clause-closed
returns-then-not-insert-2-clause-closed c end later goal le stable w =
    let seen = not-false _ (sym c.if-not-insert-2.true ∙ c.insert-2.ensures.new) in
    let same = rw c.if-not-insert-2.true at c.insert-2.ensures.after in
    rw same (Waits-over (Waits-passed stable (c.loop-next.invariant.waits end later goal le stable w) seen))

-- it rests

pub returns-clause-closed : goal.returns-clause-closed
returns-clause-closed c end later goal le stable w =
    let v = c.loop-next.invariant in
    let states = c.args.search.now.states.now in
    let around = forwards c.args.search.now.matcher c.args.search.now.text.now in
    let items = c.loop-next.threads.set.items in
    let q = c.loop-next.state in
    let new : has items q ≡ false = not-true _ (sym c.if-not-insert-2.false ∙ c.insert-2.ensures.new) in
    let more = rw c.if-not-insert-2.false at c.insert-2.ensures.after in
    let is = state-known states _ q _ _ c.as_usize-2.ensures.value v.state c.index-states-as_usize-2.is refl in
    let rests : is_resting (state_at states q) ≡ true = ap is_resting is ∙ sym c.is_resting.ensures ∙ c.if-not-is_resting.false in
    let rows = v.rows in
    let inside = v.state in
    let lt : q < length c.loop-next.threads.table.items = omega arith in
    rw (c.set.ensures, c.as_slice.ensures, more)
    (Waits-over
    (Waits-rests stable (v.waits end later goal le stable w) new lt rests
    (found-rests around states end _ (automaton-steps around states end) (passed_at items c.args.place) q c.args.place v.state le rests
    (passed_at-has items c.args.place q ∙ new) (λ d lt. passed_at-elsewhere items c.args.place d (omega arith)))))

-- room, and what else is kept

pub returns-then-not-insert-clause-set : goal.returns-then-not-insert-clause-set
returns-then-not-insert-clause-set c = rw (rw c.if-not-insert.true at c.insert.ensures.after) (c.loop-next.invariant.room ∙ sym c.requires.set)

pub returns-then-not-insert-clause-capacity : goal.returns-then-not-insert-clause-capacity
returns-then-not-insert-clause-capacity c = rw (rw c.if-not-insert.true at c.insert.ensures.after) c.loop-next.invariant.capacity

pub returns-then-not-insert-clause-table : goal.returns-then-not-insert-clause-table
returns-then-not-insert-clause-table c = c.loop-next.invariant.rows ∙ sym c.requires.table

pub returns-then-not-insert-clause-width : goal.returns-then-not-insert-clause-width
returns-then-not-insert-clause-width c = c.loop-next.invariant.width

pub returns-then-not-insert-clause-slots : goal.returns-then-not-insert-clause-slots
returns-then-not-insert-clause-slots c = c.loop-next.invariant.slots_len

pub returns-then-not-insert-clause-kept : goal.returns-then-not-insert-clause-kept
returns-then-not-insert-clause-kept c = c.loop-next.invariant.kept

pub returns-then-not-insert-clause-empty : goal.returns-then-not-insert-clause-empty
returns-then-not-insert-clause-empty c = c.loop-next.invariant.empty

pub returns-then-not-insert-clause-stack : goal.returns-then-not-insert-clause-stack
returns-then-not-insert-clause-stack c = c.loop-next.invariant.stack_room

pub returns-then-not-insert-2-clause-set : goal.returns-then-not-insert-2-clause-set
returns-then-not-insert-2-clause-set c = rw (rw c.if-not-insert-2.true at c.insert-2.ensures.after) (c.loop-next.invariant.room ∙ sym c.requires.set)

pub returns-then-not-insert-2-clause-capacity : goal.returns-then-not-insert-2-clause-capacity
returns-then-not-insert-2-clause-capacity c = rw (rw c.if-not-insert-2.true at c.insert-2.ensures.after) c.loop-next.invariant.capacity

pub returns-then-not-insert-2-clause-table : goal.returns-then-not-insert-2-clause-table
returns-then-not-insert-2-clause-table c = c.loop-next.invariant.rows ∙ sym c.requires.table

pub returns-then-not-insert-2-clause-width : goal.returns-then-not-insert-2-clause-width
returns-then-not-insert-2-clause-width c = c.loop-next.invariant.width

pub returns-then-not-insert-2-clause-slots : goal.returns-then-not-insert-2-clause-slots
returns-then-not-insert-2-clause-slots c = c.loop-next.invariant.slots_len

pub returns-then-not-insert-2-clause-kept : goal.returns-then-not-insert-2-clause-kept
returns-then-not-insert-2-clause-kept c = c.loop-next.invariant.kept

pub returns-then-not-insert-2-clause-empty : goal.returns-then-not-insert-2-clause-empty
returns-then-not-insert-2-clause-empty c = c.loop-next.invariant.empty

pub returns-then-not-insert-2-clause-stack : goal.returns-then-not-insert-2-clause-stack
returns-then-not-insert-2-clause-stack c = c.loop-next.invariant.stack_room

pub returns-then-not-is_resting-clause-set : goal.returns-then-not-is_resting-clause-set
returns-then-not-is_resting-clause-set c = c.close.ensures.set ∙ c.loop-next.invariant.room ∙ sym c.requires.set

pub returns-then-not-is_resting-clause-table : goal.returns-then-not-is_resting-clause-table
returns-then-not-is_resting-clause-table c = c.close.ensures.table ∙ c.loop-next.invariant.rows ∙ sym c.requires.table

pub returns-then-not-is_resting-clause-width : goal.returns-then-not-is_resting-clause-width
returns-then-not-is_resting-clause-width c = c.close.ensures.width ∙ c.loop-next.invariant.width

pub returns-then-not-is_resting-clause-capacity : goal.returns-then-not-is_resting-clause-capacity
returns-then-not-is_resting-clause-capacity c = c.close.ensures.capacity ∙ c.loop-next.invariant.capacity

pub returns-then-not-is_resting-clause-slots : goal.returns-then-not-is_resting-clause-slots
returns-then-not-is_resting-clause-slots c = c.close.ensures.slots ∙ c.loop-next.invariant.slots_len

pub returns-then-not-is_resting-clause-kept : goal.returns-then-not-is_resting-clause-kept
returns-then-not-is_resting-clause-kept c = c.close.ensures.kept ∙ c.loop-next.invariant.kept

pub returns-then-not-is_resting-clause-stack : goal.returns-then-not-is_resting-clause-stack
returns-then-not-is_resting-clause-stack c = c.close.ensures.stack ∙ c.loop-next.invariant.stack_room

pub returns-then-not-is_resting-clause-empty : goal.returns-then-not-is_resting-clause-empty
returns-then-not-is_resting-clause-empty c = c.close.ensures.empty

pub returns-clause-set : goal.returns-clause-set
returns-clause-set c = rw (rw c.if-not-insert-2.false at c.insert-2.ensures.after) (c.loop-next.invariant.room ∙ sym c.requires.set)

pub returns-clause-table : goal.returns-clause-table
returns-clause-table c = rw c.set.ensures (length-set _ _ _ ∙ c.loop-next.invariant.rows ∙ sym c.requires.table)

pub returns-clause-width : goal.returns-clause-width
returns-clause-width c = rw c.set.ensures c.loop-next.invariant.width

pub returns-clause-capacity : goal.returns-clause-capacity
returns-clause-capacity c = rw (c.set.ensures, rw c.if-not-insert-2.false at c.insert-2.ensures.after) c.loop-next.invariant.capacity

pub returns-clause-slots : goal.returns-clause-slots
returns-clause-slots c = c.loop-next.invariant.slots_len

pub returns-clause-kept : goal.returns-clause-kept
returns-clause-kept c = c.loop-next.invariant.kept

pub returns-clause-empty : goal.returns-clause-empty
returns-clause-empty c = c.loop-next.invariant.empty

pub returns-clause-stack : goal.returns-clause-stack
returns-clause-stack c = c.loop-next.invariant.stack_room
