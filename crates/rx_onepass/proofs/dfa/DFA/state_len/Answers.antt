use Rattle.std.proofs.Common.{subst, arith}
use Rattle.rx_onepass_table.specs.Rows.{IsWhole}
use Rattle.rx_onepass.specs.Dfa.{Dfa, IsSound}
use Rattle.rx_onepass.proofs.dfa.DFA.state_len.Goals as goal

pub returns-clause-few : goal.returns-clause-few
returns-clause-few c =
    let few = c.rows.ensures.whole.few in
    let same = c.rows.ensures.value in
    omega arith

pub returns-clause-whole : goal.returns-clause-whole
returns-clause-whole c = subst (λ (x : Dfa). IsWhole x.table) c.self.view_is c.rows.ensures.whole

pub returns-clause-sound : goal.returns-clause-sound
returns-clause-sound c = subst IsSound c.self.view_is c.self.invariant
