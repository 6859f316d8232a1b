use Rattle.std.proofs.Common.{◌≡◌, arith, refl, ap, ◌∙◌}
use Rattle.std.proofs.lemmas.List.{get_or_default}
use Rattle.rx_nfa.specs.Automaton.{state_at}
use Rattle.rx_engines.proofs.lemmas.walks.LineLemmas.{frames_of_states-more}
use Rattle.rx_engines.specs.Simulation.{frames_of_state, frames_of_states}
use Rattle.rx_engines.proofs.room.frames_of_all.Goals as goal

pub loop-q-init : goal.loop-q-init
unfolding frames_of_states
loop-q-init c = refl

pub loop-q-preserved : goal.loop-q-preserved
loop-q-preserved c =
    let more = frames_of_states-more c.args.states.now c.loop-q.q in
    let read : c.index-states-q.result ≡ state_at c.args.states.now c.loop-q.q = c.index-states-q.is ∙ get_or_default c.args.states.now c.loop-q.q _ _
    (omega arith) in
    let size = c.frames_of.ensures ∙ ap frames_of_state read in
    let sum = c.saturating_add-frames.ensures in
    let was = c.loop-q.invariant in
    omega arith
