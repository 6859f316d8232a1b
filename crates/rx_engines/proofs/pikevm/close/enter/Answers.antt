use Rattle.std.proofs.Common.{◌≡◌, ◌<◌, length, length-set, refl, sym, ◌∙◌, ap, arith}
use Rattle.std.specs.Prelude.{true, false}
use Rattle.rx_nfa.specs.Automaton.{forwards, state_at}
use Rattle.rx_nfa.specs.Ordered.{has, is_resting, passed_at}
use Rattle.rx_nfa.proofs.lemmas.runs.StateLemmas.{state-known}
use Rattle.rx_nfa.proofs.lemmas.lists.ClosureLemmas.{found-rests}
use Rattle.rx_nfa.proofs.lemmas.lists.LaterLemmas.{automaton-steps}
use Rattle.rx_nfa.proofs.lemmas.lists.PlaceLemmas.{passed_at-has, passed_at-elsewhere}
use Rattle.rx_engines.proofs.lemmas.walks.CloseLemmas.{not-true, not-false}
use Rattle.rx_engines.proofs.lemmas.threads.SimulationLemmas.{Waits-passed, Waits-rests, Waits-over}
use Rattle.rx_engines.proofs.pikevm.close.enter.Goals as goal

-- it is followed

pub returns-then-not-is_resting-clause-closed : goal.returns-then-not-is_resting-clause-closed
returns-then-not-is_resting-clause-closed c end later goal le stable w = c.lead_on.ensures.closed end later goal le stable w

-- it was passed before

pub returns-then-not-insert-clause-closed : goal.returns-then-not-insert-clause-closed
returns-then-not-insert-clause-closed c end later goal le stable w =
    let seen = not-false _ (sym c.if-not-insert.true ∙ c.insert.ensures.new) in
    let same = rw c.if-not-insert.true at c.insert.ensures.after in
    rw same (Waits-over (Waits-passed stable w seen))

-- it rests

pub returns-clause-closed : goal.returns-clause-closed
returns-clause-closed c end later goal le stable w =
    let states = c.args.search.now.states.now in
    let items = c.args.threads.now.set.items in
    let q = c.args.state in
    let new : has items q ≡ false = not-true _ (sym c.if-not-insert.false ∙ c.insert.ensures.new) in
    let more = rw c.if-not-insert.false at c.insert.ensures.after in
    let is = state-known states _ q _ _ c.as_usize.ensures.value c.requires.state c.index-states-as_usize.is refl in
    let rests : is_resting (state_at states q) ≡ true = ap is_resting is ∙ sym c.is_resting.ensures ∙ c.if-not-is_resting.false in
    let table = c.requires.table in
    let inside = c.requires.state in
    let lt : q < length c.args.threads.now.table.items = omega arith in
    rw (c.set.ensures, more)
    (Waits-over
    (Waits-rests stable w new lt rests
    (found-rests (forwards c.args.search.now.matcher c.args.search.now.text.now) states end _
    (automaton-steps (forwards c.args.search.now.matcher c.args.search.now.text.now) states end) (passed_at items c.args.place) q c.args.place
    c.requires.state le rests (passed_at-has items c.args.place q ∙ new)
    (λ d lt. passed_at-elsewhere items c.args.place d (omega arith)))))

-- room

pub returns-then-not-insert-clause-set : goal.returns-then-not-insert-clause-set
returns-then-not-insert-clause-set c = rw (rw c.if-not-insert.true at c.insert.ensures.after) refl

pub returns-then-not-insert-clause-capacity : goal.returns-then-not-insert-clause-capacity
returns-then-not-insert-clause-capacity c = rw (rw c.if-not-insert.true at c.insert.ensures.after) refl

pub returns-clause-set : goal.returns-clause-set
returns-clause-set c = rw (rw c.if-not-insert.false at c.insert.ensures.after) refl

pub returns-clause-table : goal.returns-clause-table
returns-clause-table c = rw c.set.ensures (length-set _ _ _)

pub returns-clause-width : goal.returns-clause-width
returns-clause-width c = rw c.set.ensures refl

pub returns-clause-capacity : goal.returns-clause-capacity
returns-clause-capacity c = rw (c.set.ensures, rw c.if-not-insert.false at c.insert.ensures.after) refl
