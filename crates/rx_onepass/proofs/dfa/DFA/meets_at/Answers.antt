use Rattle.std.proofs.Common.{sym, subst, ap, ◌∙◌}
use Rattle.std.specs.Prelude.{is_some}
use Rattle.rx_nfa.specs.NextMatch.{start_of}
use Rattle.rx_onepass.specs.Search.{IsStartRow, taken_as}
use Rattle.rx_onepass.proofs.lemmas.CallLemmas.{taken-twice}
use Rattle.rx_onepass.proofs.lemmas.RunLemmas.{run-unknown}
use Rattle.rx_onepass.proofs.dfa.DFA.meets_at.Goals as goal

pub meets-requires-clause-row : goal.meets-requires-clause-row
meets-requires-clause-row c = subst (IsStartRow c.args.self.now (taken_as c.args.input.now.anchor)) c.in-Some.is c.requires.row

pub returns-in-None-clause-value : goal.returns-in-None-clause-value
returns-in-None-clause-value c =
    let d = c.args.self.now in
    let v = c.args.input.now in
    let none = subst (IsStartRow d (taken_as v.anchor)) c.in-None.is c.requires.row in
    sym (ap is_some (run-unknown d v (ap (start_of d.nfa) (sym (taken-twice v.anchor)) ∙ none)))
