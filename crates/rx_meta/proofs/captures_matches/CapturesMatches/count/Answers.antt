use Rattle.std.proofs.Common.{◌≡◌, length, subst}
use Rattle.std.specs.Prelude.{IfOk, false, true}
use Rattle.rx_meta.specs.Iterators.{MatchesValue, PromisesEach, matches_to_come, ComeBeforeNone}
use Rattle.rx_meta.proofs.CountLemmas.{made-again}
use Rattle.rx_meta.proofs.captures_matches.CapturesMatches.count.Goals as goal

pub returns-clause-value : goal.returns-clause-value
returns-clause-value g c =
    let it = c.self.inside in
    subst (λ (before : MatchesValue). PromisesEach before → IfOk c.count.result (λ n. n ≡ length (matches_to_come before)))
    (made-again c.from_parts.result c.args.self c.without_captures.result.regex.now it.finder.regex.now it.searcher it.is_ended c.from_parts.ensures
    c.without_captures.ensures c.self.view_is)
    c.count.ensures.value

pub returns-clause-any : goal.returns-clause-any
returns-clause-any g c =
    let it = c.self.inside in
    subst (λ (before : MatchesValue). before.ended ≡ false → IfOk c.count.result (ComeBeforeNone before.regex before.searcher))
    (made-again c.from_parts.result c.args.self c.without_captures.result.regex.now it.finder.regex.now it.searcher it.is_ended c.from_parts.ensures
    c.without_captures.ensures c.self.view_is)
    c.count.ensures.any

pub returns-clause-none : goal.returns-clause-none
returns-clause-none g c =
    let it = c.self.inside in
    subst (λ (before : MatchesValue). before.ended ≡ true → IfOk c.count.result (λ n. n ≡ 0))
    (made-again c.from_parts.result c.args.self c.without_captures.result.regex.now it.finder.regex.now it.searcher it.is_ended c.from_parts.ensures
    c.without_captures.ensures c.self.view_is)
    c.count.ensures.none
