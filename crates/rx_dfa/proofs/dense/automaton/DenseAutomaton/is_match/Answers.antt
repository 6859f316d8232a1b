use Rattle.std.proofs.Common.{◌∙◌, ap, subst}
use Rattle.std.specs.Prelude.{nat_lt}
use Rattle.rx_dfa.specs.Table.{DenseValue, IsDense}
use Rattle.rx_dfa.proofs.lemmas.TableLemmas.{lt-cmp, matched}
use Rattle.rx_dfa.proofs.dense.automaton.DenseAutomaton.is_match.Goals as goal

pub returns : goal.returns
returns c key h =
    c.lt.ensures ∙ lt-cmp c.self.inside.dead c.args.state ∙ ap (λ (x : DenseValue). nat_lt x.dead c.args.state) c.self.view_is
    ∙ matched c.args.self.now (subst IsDense c.self.view_is c.self.invariant) c.args.state key h
