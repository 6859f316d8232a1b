use Rattle.std.proofs.Common.{◌∙◌, ap, subst}
use Rattle.std.specs.Prelude.{nat_eq}
use Rattle.rx_dfa.specs.Table.{DenseValue, IsDense}
use Rattle.rx_dfa.proofs.lemmas.TableLemmas.{deads}
use Rattle.rx_dfa.proofs.dense.automaton.DenseAutomaton.is_dead.Goals as goal

pub returns : goal.returns
returns c key h =
    c.eq.ensures ∙ ap (λ (x : DenseValue). nat_eq c.args.state x.dead) c.self.view_is
    ∙ deads c.args.self.now (subst IsDense c.self.view_is c.self.invariant) c.args.state key h
