use Rattle.std.proofs.Common.{◌≡◌, None, sym, ◌∙◌, subst}
use Rattle.rx_nfa.specs.NextMatch.{next_match_in}
use Rattle.rx_strategy.specs.Core.{CoreValue}
use Rattle.rx_strategy.proofs.AnswerLemmas.{core-none}
use Rattle.rx_strategy.proofs.strategy.engines.Core.is_impossible.Goals as goal

pub returns-clause-none : goal.returns-clause-none
returns-clause-none c impossible =
    let known = c.self.invariant.1 in
    let is = c.is_impossible.ensures.value known.patterns known.properties in
    let end = c.is_impossible.ensures.spanned.end in
    core-none c.args.self.now c.args.input.now end
    (subst (λ (core : CoreValue). next_match_in core.nfa c.args.input.now ≡ None) c.self.view_is
    (known.none c.args.input.now end (sym is ∙ impossible)))
