use Rattle.std.proofs.Common.{sym, subst, ap, ◌∙◌}
use Rattle.std.specs.Prelude.{is_some}
use Rattle.rx_onepass.specs.Search.{taken_as, IsStartRow, IsUnsupported}
use Rattle.rx_onepass.proofs.lemmas.CallLemmas.{not-unsupported}
use Rattle.rx_onepass.proofs.lemmas.RunLemmas.{run-done}
use Rattle.rx_onepass.proofs.dfa.DFA.is_match.Goals as goal

pub returns-then-is_done-clause-value : goal.returns-then-is_done-clause-value
returns-then-is_done-clause-value c = sym (ap is_some (run-done c.args.self.now c.args.input.now (c.is_done.ensures.0 c.if-is_done.true)))

pub meets_at-requires-clause-row : goal.meets_at-requires-clause-row
meets_at-requires-clause-row c =
    subst (λ a. IsStartRow c.args.self.now a c.in-Ok.start) (c.taken.ensures ∙ ap taken_as c.get_anchored.ensures) c.in-Ok.ensures.found

pub returns-in-Err-clause-value : goal.returns-in-Err-clause-value
returns-in-Err-clause-value c =
    absurd (not-unsupported c.args.self.now c.args.input.now c.requires.each
    (subst (IsUnsupported c.args.self.now) (c.taken.ensures ∙ ap taken_as c.get_anchored.ensures) c.in-Err.ensures.err.1))
