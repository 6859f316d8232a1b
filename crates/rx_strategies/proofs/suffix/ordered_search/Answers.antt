use Rattle.std.proofs.Common.{sym, ◌∙◌}
use Rattle.rx_strategies.proofs.ChosenLemmas.{ordered-long}
use Rattle.rx_strategies.proofs.suffix.ordered_search.Goals as goal

pub needle_search-requires : goal.needle_search-requires
needle_search-requires c = ordered-long c.args.exprs.now c.args.suffix.now (sym c.in_ok-suffix_has_no_earlier_match.ensures.value ∙ c.if-branch.true)
