use Rattle.std.proofs.Common.{◌≡◌, [], refl, sym, ◌∙◌, ap}
use Rattle.std.specs.Prelude.{false, map}
use Rattle.std.proofs.lemmas.List.{append-nil}
use Rattle.rx_nfa.specs.Automaton.{at, forwards}
use Rattle.rx_nfa.specs.Ordered.{has, is_resting}
use Rattle.rx_nfa.proofs.lemmas.runs.AutomatonLemmas.{automaton-bounded}
use Rattle.rx_nfa.proofs.lemmas.runs.StateLemmas.{state-known, names-known}
use Rattle.rx_engines.specs.Walk.{explore_all}
use Rattle.rx_engines.proofs.lemmas.walks.CloseLemmas.{not-true, not-false}
use Rattle.rx_engines.proofs.lemmas.walks.YieldLemmas.{Yields-unwritten}
use Rattle.rx_engines.proofs.lemmas.threads.SimulationLemmas.{Waits-passed, Waits-moves, Waits-over}
use Rattle.rx_engines.proofs.pikevm.close.arrive.Goals as goal

-- it was passed before

pub returns-then-not-insert-clause-closed : goal.returns-then-not-insert-clause-closed
returns-then-not-insert-clause-closed c end later goal le stable w =
    let seen = not-false _ (sym c.if-not-insert.true ∙ c.insert.ensures.new) in
    let same = rw c.if-not-insert.true at c.insert.ensures.after in
    rw same (Waits-over (Waits-passed stable w seen))

-- it gives way to its alternates

pub returns-in-Union-clause-closed : goal.returns-in-Union-clause-closed
returns-in-Union-clause-closed c end later goal le stable w =
    let states = c.args.search.now.states.now in
    let around = forwards c.args.search.now.matcher c.args.search.now.text.now in
    let items = c.args.threads.now.set.items in
    let q = c.args.state in
    let new : has items q ≡ false = not-true _ (sym c.if-not-insert.false ∙ c.insert.ensures.new) in
    let more = rw c.if-not-insert.false at c.insert.ensures.after in
    let is = state-known states _ q _ _ c.as_usize.ensures.value c.requires.state c.index-states-as_usize.is c.in-Union.is in
    let frames = explore_all (map (λ q. at q c.args.place) c.in-Union.alternates) in
    let yields = Yields-unwritten c.args.search.now.matcher states c.args.search.now.text.now end q c.args.place c.requires.state le _ is refl refl [] frames
    c.args.slots.now (sym (append-nil frames)) in
    let moved = Waits-moves stable w (automaton-bounded around states end) new (ap is_resting is) frames c.args.slots.now yields in
    c.enter_all.ensures.closed end later goal le stable (rw (more, c.as_slice.ensures) moved)

pub enter_all-requires-clause-names : goal.enter_all-requires-clause-names
enter_all-requires-clause-names c =
    let is = state-known c.args.search.now.states.now _ c.args.state _ _ c.as_usize.ensures.value c.requires.state c.index-states-as_usize.is c.in-Union.is in
    rw c.as_slice.ensures (names-known c.args.search.now.states.now c.args.state _ c.requires.search.names c.requires.state is)
