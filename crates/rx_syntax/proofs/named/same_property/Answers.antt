use Rattle.std.proofs.Common.{sym, ◌∙◌}
use Rattle.rx_syntax.proofs.lemmas.sets.SetLemmas.{named-same}
use Rattle.rx_syntax.proofs.named.same_property.Goals as goal

pub returns : goal.returns
returns c h = named-same c.args.a c.args.b (sym c.eq.ensures ∙ h)
