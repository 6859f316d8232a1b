use Rattle.std.proofs.Common.{subst}
use Rattle.rx_search.specs.Matches.{match_value}
use Rattle.rx_search.specs.declared.anchored.MatchKind.{MatchKind}
use Rattle.std.specs.Prelude.{IfOk}
use Rattle.rx_dfa.specs.Search.{IsAnswerFor}
use Rattle.rx_strategy.proofs.AttemptLemmas.{by-inner}
use Rattle.rx_strategy.proofs.dfas.attempts.by_inner.Goals as goal

pub returns-clause-answer : goal.returns-clause-answer
returns-clause-answer g c kind r back is has =
    let v = c.args.input.now in
    subst (λ (k : MatchKind). IfOk c.reverse_inner_attempt.result (IsAnswerFor k r v match_value)) is.own_kind
    (c.reverse_inner_attempt.ensures.answer r is.premises.is_for
    (by-inner c.args.pre.now r v is.premises.utf8 (g.B.Automaton.dfa c.args.rev.now) has))
