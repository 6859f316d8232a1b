use Rattle.std.proofs.Common.{sym, ◌∙◌}
use Rattle.rx_strategy.proofs.strategy.engines.Core.search_half.Goals as goal

pub search_half_told-requires-clause-told : goal.search_half_told-requires-clause-told
search_half_told-requires-clause-told c = sym c.tells.ensures ∙ c.if-tells.true
