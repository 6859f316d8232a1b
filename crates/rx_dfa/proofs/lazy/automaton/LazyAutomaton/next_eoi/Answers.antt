use Rattle.std.proofs.Common.{[], ◌∷◌, subst}
use Rattle.std.proofs.lemmas.Result.{IfErr-weaker}
use Rattle.std.specs.Prelude.{Some}
use Rattle.rx_dfa.specs.Automaton.{last_key}
use Rattle.rx_dfa.specs.Clearing.{IsGrown}
use Rattle.rx_dfa.proofs.lemmas.ClearingLemmas.{counts-steps}
use Rattle.rx_dfa.proofs.lazy.automaton.LazyAutomaton.next_eoi.Goals as goal

pub returns-clause-grown : goal.returns-clause-grown
returns-clause-grown g c key h =
    let l = c.args.self.now in
    let old = c.args.cache.now.rows in
    let new = c.step.new.cache.rows in
    subst (λ taken. IsGrown l (key ∷ []) (last_key l.dfa key) old.since (Some taken) old new) c.taken.ensures (c.step.ensures.grown key h)

pub returns-clause-counted : goal.returns-clause-counted
returns-clause-counted g c =
    IfErr-weaker c.step.result _ _
    (λ e p. counts-steps c.args.cache.now.rows c.step.new.cache.rows c.tick.new.self c.taken.result e c.taken.ensures p)
    c.step.ensures.counted
