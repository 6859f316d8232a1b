use Rattle.std.proofs.Common.{subst}
use Rattle.std.specs.Prelude.{IfOk}
use Rattle.rx_meta.specs.Regex.{RegexValue}
use Rattle.rx_meta.specs.Search.{TellsWhether}
use Rattle.rx_meta.proofs.ServeLemmas.{with_strategy, whether-of}
use Rattle.rx_meta.proofs.regex.Regex.is_match_with.Goals as goal

pub returns-clause-value : goal.returns-clause-value
returns-clause-value c =
    subst (λ (regex : RegexValue). IfOk c.is_match.result (TellsWhether regex c.args.input.now)) (with_strategy c.args.self.now c.strategy.ensures)
    (whether-of _ c.args.input.now c.is_match.result c.is_match.ensures.value)
