use Rattle.std.proofs.Common.{subst}
use Rattle.std.specs.Prelude.{OnOk}
use Rattle.rx_meta.specs.Regex.{RegexValue}
use Rattle.rx_meta.specs.Sets.{AddsMatching, IsFilled}
use Rattle.rx_meta.proofs.ServeLemmas.{with_strategy, adds-of, filled-of}
use Rattle.rx_meta.proofs.regex.Regex.which_overlapping_matches_with.Goals as goal

pub returns-clause-matching : goal.returns-clause-matching
returns-clause-matching c =
    let called = c.which_overlapping_matches in
    subst (λ (regex : RegexValue). AddsMatching regex c.args.input.now c.args.set.now called.new.set) (with_strategy c.args.self.now c.strategy.ensures)
    (adds-of _ c.args.input.now c.args.set.now called.new.set called.ensures.matching)

pub returns-clause-filled : goal.returns-clause-filled
returns-clause-filled c =
    let called = c.which_overlapping_matches in
    subst (λ (regex : RegexValue). OnOk called.result (IsFilled regex c.args.input.now c.args.set.now called.new.set))
    (with_strategy c.args.self.now c.strategy.ensures)
    (filled-of _ c.args.input.now c.args.set.now called.new.set called.result called.ensures.filled)
