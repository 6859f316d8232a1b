use Rattle.std.proofs.Common.{◌+◌, length, drop, refl, sym, ◌∙◌, ap, arith}
use Rattle.rx_nfa.specs.Automaton.{automaton, forwards}
use Rattle.rx_engines.specs.Threads.{StateSet, Cells}
use Rattle.rx_nfa.proofs.lemmas.runs.AutomatonLemmas.{automaton-bounded}
use Rattle.rx_nfa.proofs.lemmas.runs.AutomatonLemmas.{automaton-rises}
use Rattle.rx_engines.proofs.lemmas.threads.StepLemmas.{onward, onward-stable, Stepping-accepts, Stepping-reads, Stepping-ends, Stepping-over, Stepping-begun, acts-known, idle-known, idle-ends, idle-accepts, among-over}
use Rattle.rx_engines.specs.declared.onward.Onward.TheVariants.{To, Back}
use Rattle.rx_engines.proofs.pikevm.step.step_over.Goals as goal
use Rattle.rx_engines.proofs.pikevm.step.step_over.Goals.{in-To, in-Back}

pub loop-k-init : goal.loop-k-init
loop-k-init c = record {
  stepping = λ end later goal le byte stable value. Stepping-begun (ap (λ (s : StateSet). s.items) c.clear.ensures) value;
  accepting = refl;
  room = ap (λ (s : StateSet). s.room) c.clear.ensures ∙ c.requires.set.1;
  rows = c.requires.table.1;
  width = refl;
  capacity = ap (λ (s : StateSet). (s.capacity, (c.args.next.now.table.capacity, c.args.next.now.table.cells))) c.clear.ensures;
  slots_len = refl;
  slots_room = refl;
  kept = refl;
  empty = c.requires.empty;
  stack_room = refl;
}

pub returns-in-Stop-clause-stepped : goal.returns-in-Stop-clause-stepped
returns-in-Stop-clause-stepped c end later goal le byte stable value =
    let acts = acts-known c.args.search.now.matcher c.args.search.now.states.now c.args.search.now.text.now end c.get-state.result c.args.place
    c.requires.search.names (omega arith) le _ _ _ _ _ c.as_usize.ensures.value c.index-states-as_usize.is
    (c.byte_at-byte.ensures ∙ sym byte) c.in-Stop.ensures in
    rw (c.start-start.ensures, c.copy.ensures, c.slots.ensures.value)
    (Stepping-accepts (automaton-bounded (forwards c.args.search.now.matcher c.args.search.now.text.now) c.args.search.now.states.now end)
    c.args.curr.now.set.items c.loop-k.k c.get-state.result (omega arith) c.get-state.ensures.value
    (c.loop-k.invariant.stepping end later goal le byte stable value) c.in-Stop.pattern acts.0 acts.1)

pub returns-in-Stop-clause-accepted : goal.returns-in-Stop-clause-accepted
returns-in-Stop-clause-accepted c =
    rw (c.start-start.ensures, c.copy.ensures, c.slots.ensures.value)
    (c.loop-k.invariant.accepting
    ∙ idle-accepts c.args.search.now.matcher c.args.search.now.states.now c.args.search.now.text.now c.get-state.result c.args.place c.requires.search.names
    (omega arith) c.args.curr.now.table.items c.args.curr.now.set.items c.loop-k.k c.in-Stop.pattern (omega arith) c.get-state.ensures.value
    (idle-known c.args.search.now.matcher c.args.search.now.states.now c.args.search.now.text.now c.get-state.result c.args.place c.requires.search.names
    (omega arith) c.args.curr.now.table.items _ _ _ _ _ c.as_usize.ensures.value c.index-states-as_usize.is c.in-Stop.ensures))

pub loop-k-preserved : goal.loop-k-preserved
loop-k-preserved c =
    elim c.match-act.branch [
      | in-To w ↦
          rw (w.next-is, w.walk-is)
          (record {
            stepping = λ end later goal le byte stable value.
                (let acts = acts-known c.args.search.now.matcher c.args.search.now.states.now c.args.search.now.text.now end c.get-state.result c.args.place
                c.requires.search.names (omega arith) le _ _ _ _ _ c.as_usize.ensures.value c.index-states-as_usize.is (c.byte_at-byte.ensures ∙ sym byte)
                w.in-To.ensures in
                let waits = Stepping-reads (automaton-bounded (forwards c.args.search.now.matcher c.args.search.now.text.now) c.args.search.now.states.now end)
                c.args.curr.now.set.items c.loop-k.k c.get-state.result (omega arith) c.get-state.ensures.value
                (c.loop-k.invariant.stepping end later goal le byte stable value)
                (automaton-rises (forwards c.args.search.now.matcher c.args.search.now.text.now) c.args.search.now.states.now end) w.in-To.target acts.0
                acts.3 acts.4 acts.5 in
                let closed = w.arrive.ensures.closed end (onward c.args.search.now.states.now
                (automaton c.args.search.now.matcher c.args.search.now.states.now c.args.search.now.text.now end) c.args.place c.args.curr.now.table.items
                (drop (c.loop-k.k + 1) c.args.curr.now.set.items) later) goal
                (let lt = acts.2 in omega arith)
                (onward-stable c.args.search.now.states.now (automaton c.args.search.now.matcher c.args.search.now.states.now c.args.search.now.text.now end)
                c.args.place c.args.curr.now.table.items (drop (c.loop-k.k + 1) c.args.curr.now.set.items) later stable)
                (rw (w.start-start-in-To.ensures, w.slots-slots.ensures.value) waits) in
                record { value = closed.value });
            accepting =
                c.loop-k.invariant.accepting
                ∙ idle-ends c.args.search.now.matcher c.args.search.now.states.now c.args.search.now.text.now c.get-state.result c.args.place
                c.requires.search.names (omega arith) c.args.curr.now.table.items c.args.curr.now.set.items c.loop-k.k (To w.in-To.target w.in-To.place)
                (omega arith) c.get-state.ensures.value refl
                (idle-known c.args.search.now.matcher c.args.search.now.states.now c.args.search.now.text.now c.get-state.result c.args.place
                c.requires.search.names (omega arith) c.args.curr.now.table.items _ _ _ _ _ c.as_usize.ensures.value c.index-states-as_usize.is
                w.in-To.ensures);
            room = w.arrive.ensures.set ∙ c.loop-k.invariant.room;
            rows = w.arrive.ensures.table ∙ c.loop-k.invariant.rows;
            width = w.arrive.ensures.width ∙ c.loop-k.invariant.width;
            capacity = w.arrive.ensures.capacity ∙ c.loop-k.invariant.capacity;
            slots_len = w.arrive.ensures.slots ∙ c.loop-k.invariant.slots_len;
            slots_room = w.arrive.ensures.kept ∙ c.loop-k.invariant.slots_room;
            kept = c.loop-k.invariant.kept;
            empty = w.arrive.ensures.empty;
            stack_room = w.arrive.ensures.stack ∙ c.loop-k.invariant.stack_room;
          })
      | in-Back w ↦
          rw (w.next-is, w.walk-is)
          (record {
            stepping = λ end later goal le byte stable value.
                (let acts = acts-known c.args.search.now.matcher c.args.search.now.states.now c.args.search.now.text.now end c.get-state.result c.args.place
                c.requires.search.names (omega arith) le _ _ _ _ _ c.as_usize.ensures.value c.index-states-as_usize.is (c.byte_at-byte.ensures ∙ sym byte)
                w.in-Back.ensures in
                Stepping-ends (automaton-bounded (forwards c.args.search.now.matcher c.args.search.now.text.now) c.args.search.now.states.now end)
                c.args.curr.now.set.items c.loop-k.k c.get-state.result (omega arith) c.get-state.ensures.value
                (c.loop-k.invariant.stepping end later goal le byte stable value) acts);
            accepting =
                c.loop-k.invariant.accepting
                ∙ idle-ends c.args.search.now.matcher c.args.search.now.states.now c.args.search.now.text.now c.get-state.result c.args.place
                c.requires.search.names (omega arith) c.args.curr.now.table.items c.args.curr.now.set.items c.loop-k.k Back (omega arith)
                c.get-state.ensures.value refl
                (idle-known c.args.search.now.matcher c.args.search.now.states.now c.args.search.now.text.now c.get-state.result c.args.place
                c.requires.search.names (omega arith) c.args.curr.now.table.items _ _ _ _ _ c.as_usize.ensures.value c.index-states-as_usize.is
                w.in-Back.ensures);
            room = c.loop-k.invariant.room;
            rows = c.loop-k.invariant.rows;
            width = c.loop-k.invariant.width;
            capacity = c.loop-k.invariant.capacity;
            slots_len = c.loop-k.invariant.slots_len;
            slots_room = c.loop-k.invariant.slots_room;
            kept = c.loop-k.invariant.kept;
            empty = c.loop-k.invariant.empty;
            stack_room = c.loop-k.invariant.stack_room;
          })
    ]

pub returns-clause-stepped : goal.returns-clause-stepped
returns-clause-stepped c end later goal le byte stable value =
    Stepping-over c.args.curr.now.set.items c.loop-k.k (omega arith) (c.loop-k.invariant.stepping end later goal le byte stable value)

pub returns-clause-accepted : goal.returns-clause-accepted
returns-clause-accepted c =
    c.loop-k.invariant.accepting
    ∙ among-over c.args.search.now.states.now (automaton c.args.search.now.matcher c.args.search.now.states.now c.args.search.now.text.now c.args.place) _
    c.args.place c.args.curr.now.table.items c.args.curr.now.set.items c.loop-k.k (omega arith)

pub arrive-requires-clause-state : goal.arrive-requires-clause-state
arrive-requires-clause-state c =
    (acts-known c.args.search.now.matcher c.args.search.now.states.now c.args.search.now.text.now c.args.search.now.end c.get-state.result c.args.place
    c.requires.search.names (omega arith) c.requires.place _ _ _ _ _ c.as_usize.ensures.value c.index-states-as_usize.is c.byte_at-byte.ensures
    c.in-To.ensures).1

pub arrive-requires-clause-place : goal.arrive-requires-clause-place
arrive-requires-clause-place c =
    let lt = (acts-known c.args.search.now.matcher c.args.search.now.states.now c.args.search.now.text.now c.args.search.now.end c.get-state.result c.args.place
    c.requires.search.names (omega arith) c.requires.place _ _ _ _ _ c.as_usize.ensures.value c.index-states-as_usize.is c.byte_at-byte.ensures
    c.in-To.ensures).2 in
    let within = c.requires.search.end in
    omega arith

pub act-requires : goal.act-requires
act-requires c = tt

pub arrive-requires-clause-empty : goal.arrive-requires-clause-empty
arrive-requires-clause-empty c = c.loop-k.invariant.empty

pub arrive-requires-clause-search : goal.arrive-requires-clause-search
arrive-requires-clause-search c = c.requires.search

pub arrive-requires-clause-set : goal.arrive-requires-clause-set
arrive-requires-clause-set c = c.loop-k.invariant.room

pub arrive-requires-clause-stack : goal.arrive-requires-clause-stack
arrive-requires-clause-stack c = omega arith

pub arrive-requires-clause-table : goal.arrive-requires-clause-table
arrive-requires-clause-table c = c.loop-k.invariant.rows

pub as_usize-requires : goal.as_usize-requires
as_usize-requires c = tt

pub bounds-states-as_usize : goal.bounds-states-as_usize
bounds-states-as_usize c = omega arith

pub byte_at-byte-requires : goal.byte_at-byte-requires
byte_at-byte-requires c = c.requires.search.end

pub clear-requires : goal.clear-requires
clear-requires c = tt

pub get-state-requires : goal.get-state-requires
get-state-requires c = omega arith

pub len-k-end-requires : goal.len-k-end-requires
len-k-end-requires c = tt

pub loop-k-smaller : goal.loop-k-smaller
loop-k-smaller c = omega arith

pub returns-clause-capacity : goal.returns-clause-capacity
returns-clause-capacity c = c.loop-k.invariant.capacity

pub returns-clause-empty : goal.returns-clause-empty
returns-clause-empty c = c.loop-k.invariant.empty

pub returns-clause-stack : goal.returns-clause-stack
returns-clause-stack c = c.loop-k.invariant.stack_room

pub returns-clause-width : goal.returns-clause-width
returns-clause-width c = c.loop-k.invariant.width

pub returns-in-Stop-clause-capacity : goal.returns-in-Stop-clause-capacity
returns-in-Stop-clause-capacity c = c.loop-k.invariant.capacity

pub returns-in-Stop-clause-empty : goal.returns-in-Stop-clause-empty
returns-in-Stop-clause-empty c = c.loop-k.invariant.empty

pub returns-in-Stop-clause-kept : goal.returns-in-Stop-clause-kept
returns-in-Stop-clause-kept c = tt

pub returns-in-Stop-clause-stack : goal.returns-in-Stop-clause-stack
returns-in-Stop-clause-stack c = c.loop-k.invariant.stack_room

pub returns-in-Stop-clause-width : goal.returns-in-Stop-clause-width
returns-in-Stop-clause-width c = c.loop-k.invariant.width

pub slots-requires : goal.slots-requires
slots-requires c = omega arith

pub slots-slots-requires : goal.slots-slots-requires
slots-slots-requires c = omega arith

pub start-start-requires : goal.start-start-requires
start-start-requires c = omega arith

pub start-start-requires-in-To : goal.start-start-requires-in-To
start-start-requires-in-To c = omega arith

pub returns-in-Stop-clause-set : goal.returns-in-Stop-clause-set
returns-in-Stop-clause-set c = c.loop-k.invariant.room ∙ sym c.requires.set.1

pub returns-in-Stop-clause-table : goal.returns-in-Stop-clause-table
returns-in-Stop-clause-table c = c.loop-k.invariant.rows ∙ sym c.requires.table.1

pub returns-in-Stop-clause-slots : goal.returns-in-Stop-clause-slots
returns-in-Stop-clause-slots c = (c.loop-k.invariant.slots_len, c.loop-k.invariant.slots_room)

pub returns-clause-set : goal.returns-clause-set
returns-clause-set c = c.loop-k.invariant.room ∙ sym c.requires.set.1

pub returns-clause-table : goal.returns-clause-table
returns-clause-table c = c.loop-k.invariant.rows ∙ sym c.requires.table.1

pub returns-clause-slots : goal.returns-clause-slots
returns-clause-slots c = (c.loop-k.invariant.slots_len, c.loop-k.invariant.slots_room)

pub returns-in-Stop-clause-best : goal.returns-in-Stop-clause-best
returns-in-Stop-clause-best c = (
  ap (λ (r : Cells). length r.items) c.copy.ensures ∙ c.slots.ensures.width ∙ c.requires.width.0,
  ap (λ (r : Cells). r.room) c.copy.ensures ∙ ap (λ (r : Cells). r.room) c.loop-k.invariant.kept,
)

pub copy-requires : goal.copy-requires
copy-requires c = c.slots.ensures.width ∙ c.requires.width.0 ∙ sym (ap (λ (r : Cells). length r.items) c.loop-k.invariant.kept)

pub returns-clause-best : goal.returns-clause-best
returns-clause-best c = (ap (λ (r : Cells). length r.items) c.loop-k.invariant.kept, ap (λ (r : Cells). r.room) c.loop-k.invariant.kept)

pub returns-clause-kept : goal.returns-clause-kept
returns-clause-kept c = ap (λ (r : Cells). r.items) c.loop-k.invariant.kept

pub arrive-requires-clause-width : goal.arrive-requires-clause-width
arrive-requires-clause-width c =
    let wide = sym (c.loop-k.invariant.width ∙ c.requires.width.1) in
    (c.slots-slots.ensures.width ∙ c.requires.width.0 ∙ wide, c.loop-k.invariant.slots_len ∙ c.requires.width.2 ∙ wide)
