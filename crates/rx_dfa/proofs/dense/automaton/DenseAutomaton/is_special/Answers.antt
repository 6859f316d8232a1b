use Rattle.std.proofs.Common.{sym, ◌∙◌, ap, subst}
use Rattle.std.specs.Prelude.{nat_lt}
use Rattle.rx_dfa.specs.Table.{DenseValue, IsDense}
use Rattle.rx_dfa.proofs.lemmas.TableLemmas.{plain-tells, lt-cmp, lt-from, not-false}
use Rattle.rx_dfa.proofs.dense.automaton.DenseAutomaton.is_special.Goals as goal

pub returns-clause-live : goal.returns-clause-live
returns-clause-live c key h none =
    let dead = ap (λ (x : DenseValue). nat_lt c.args.state x.dead) c.self.view_is in
    let lt = lt-from c.args.state c.args.self.now.dead (sym dead ∙ sym (lt-cmp c.args.state c.self.inside.dead) ∙ sym c.lt.ensures ∙ not-false c.lt.result
    none) in
    (plain-tells c.args.self.now (subst IsDense c.self.view_is c.self.invariant) c.args.state key h lt).0

pub returns-clause-no_match : goal.returns-clause-no_match
returns-clause-no_match c key h none =
    let dead = ap (λ (x : DenseValue). nat_lt c.args.state x.dead) c.self.view_is in
    let lt = lt-from c.args.state c.args.self.now.dead (sym dead ∙ sym (lt-cmp c.args.state c.self.inside.dead) ∙ sym c.lt.ensures ∙ not-false c.lt.result
    none) in
    (plain-tells c.args.self.now (subst IsDense c.self.view_is c.self.invariant) c.args.state key h lt).1
