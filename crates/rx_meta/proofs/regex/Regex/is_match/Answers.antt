use Rattle.std.proofs.Common.{subst}
use Rattle.std.specs.Prelude.{false}
use Rattle.rx_meta.specs.Regex.{RegexValue}
use Rattle.rx_meta.specs.Search.{TellsWhether}
use Rattle.rx_meta.proofs.ServeLemmas.{with_strategy, none-there}
use Rattle.rx_meta.proofs.regex.Regex.is_match.Goals as goal

pub returns-then-is_impossible-clause-value : goal.returns-then-is_impossible-clause-value
returns-then-is_impossible-clause-value g c =
    subst (λ (regex : RegexValue). TellsWhether regex c.args.input.now false) (with_strategy c.args.self.now c.strategy.ensures)
    (none-there _ c.args.input.now (c.is_impossible.ensures.none c.if-is_impossible.true))
