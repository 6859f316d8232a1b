use Rattle.std.proofs.Common.{length, ◌∙◌, ap, subst, arith}
use Rattle.rx_onepass_table.specs.Rows.{IsWhole}
use Rattle.rx_onepass.specs.Dfa.{Dfa, IsSound}
use Rattle.rx_onepass.proofs.lemmas.SizeLemmas.{few-cells, cells-of-rows}
use Rattle.rx_onepass.proofs.dfa.DFA.cells.Goals as goal

pub returns-clause-small : goal.returns-clause-small
returns-clause-small c =
    let sound : IsSound c.args.self.now = subst IsSound c.self.view_is c.self.invariant in
    let whole : IsWhole c.args.self.now.table = subst (λ (x : Dfa). IsWhole x.table) c.self.view_is c.len.ensures.whole in
    let few = few-cells c.args.self.now sound whole in
    let same = c.len.ensures.value ∙ ap (λ (x : Dfa). length x.table.cells) c.self.view_is in
    omega arith

pub returns-clause-rows : goal.returns-clause-rows
returns-clause-rows c =
    let sound : IsSound c.args.self.now = subst IsSound c.self.view_is c.self.invariant in
    let whole : IsWhole c.args.self.now.table = subst (λ (x : Dfa). IsWhole x.table) c.self.view_is c.len.ensures.whole in
    let same = c.len.ensures.value ∙ ap (λ (x : Dfa). length x.table.cells) c.self.view_is in
    same ∙ cells-of-rows c.args.self.now sound whole

pub returns-clause-sound : goal.returns-clause-sound
returns-clause-sound c = subst IsSound c.self.view_is c.self.invariant
