use Rattle.std.proofs.Common.{not, ap, sym, ◌∙◌}
use Rattle.rx_hir.specs.Length.{maximum_len}
use Rattle.rx_hir.specs.Normal.{is_zero}
use Rattle.rx_order.proofs.lemmas.PlaceLemmas.{told-zero, above-zero}
use Rattle.rx_order.proofs.separator.is_consuming.Goals as goal

pub returns-in-Some : goal.returns-in-Some
returns-in-Some c = above-zero c.in-Some.n ∙ ap not (ap is_zero (sym c.in-Some.is ∙ c.maximum_len.ensures) ∙ told-zero (maximum_len c.args.hir.now))

pub returns-in-None : goal.returns-in-None
returns-in-None c = ap not (ap is_zero (sym c.in-None.is ∙ c.maximum_len.ensures) ∙ told-zero (maximum_len c.args.hir.now))
