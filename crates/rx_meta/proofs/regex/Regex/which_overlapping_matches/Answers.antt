use Rattle.std.proofs.Common.{sym, ◌∙◌, subst, true≢false}
use Rattle.rx_engines.proofs.lemmas.answers.OverlapLemmas.{keeps-same}
use Rattle.rx_meta.specs.Regex.{RegexValue}
use Rattle.rx_meta.specs.Sets.{AddsMatching, IsFilled}
use Rattle.rx_meta.proofs.ServeLemmas.{with_strategy, none-adds, none-fills}
use Rattle.rx_meta.proofs.regex.Regex.which_overlapping_matches.Goals as goal

pub returns-then-is_impossible-clause-kept : goal.returns-then-is_impossible-clause-kept
returns-then-is_impossible-clause-kept g c = keeps-same c.args.set.now

pub returns-then-is_impossible-clause-matching : goal.returns-then-is_impossible-clause-matching
returns-then-is_impossible-clause-matching g c =
    subst (λ (regex : RegexValue). AddsMatching regex c.args.input.now c.args.set.now c.args.set.now)
    (with_strategy c.args.self.now c.strategy.ensures)
    (none-adds _ c.args.input.now (c.is_impossible.ensures.none c.if-is_impossible.true) c.args.set.now)

pub returns-then-is_impossible-clause-filled : goal.returns-then-is_impossible-clause-filled
returns-then-is_impossible-clause-filled g c =
    subst (λ (regex : RegexValue). IsFilled regex c.args.input.now c.args.set.now c.args.set.now)
    (with_strategy c.args.self.now c.strategy.ensures)
    (none-fills _ c.args.input.now (c.is_impossible.ensures.none c.if-is_impossible.true) c.args.set.now)

pub returns-in_err-lent-clause-kept : goal.returns-in_err-lent-clause-kept
returns-in_err-lent-clause-kept g c = keeps-same c.args.set.now

pub returns-in_err-lent-clause-matching : goal.returns-in_err-lent-clause-matching
returns-in_err-lent-clause-matching g c = λ r p k out there. absurd (true≢false (sym there ∙ out))
