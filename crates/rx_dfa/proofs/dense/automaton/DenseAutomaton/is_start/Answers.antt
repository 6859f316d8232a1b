use Rattle.std.proofs.Common.{true, false, ◌≡◌, sym, ◌∙◌, ap, subst, true≢false}
use Rattle.std.specs.Prelude.{nat_eq}
use Rattle.rx_determinize.specs.Key.{is_dead, start_key}
use Rattle.rx_dfa.specs.Table.{DenseValue, IsDense}
use Rattle.rx_dfa.proofs.lemmas.TableLemmas.{deads, same-key}
use Rattle.rx_dfa.proofs.dense.automaton.DenseAutomaton.is_start.Goals as goal

pub returns-then-eq : goal.returns-then-eq
returns-then-eq c key h yes_is = absurd (true≢false (sym yes_is))

pub returns : goal.returns
returns c key h yes_is =
    let v = c.args.self.now in
    let d = v.dfa in
    let are : IsDense v = subst IsDense c.self.view_is c.self.invariant in
    let known = c.begins_at.ensures yes_is in
    let test = c.eq.ensures ∙ ap (λ (x : DenseValue). nat_eq c.args.state x.dead) c.self.view_is in
    let live : is_dead key ≡ false = sym (test ∙ deads v are c.args.state key h) ∙ c.if-eq.false in
    (known.0, same-key v are c.args.state key (start_key d.kind d.nfa.states d.nfa.start_anchored true known.0) h known.1 live)
