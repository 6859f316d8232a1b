use Rattle.std.proofs.Common.{rules, sym, ◌∙◌}
use denote.Enum.Bare.{same_true}
use Rattle.rx_sets.specs.contracts.perl.ClassPerlKind.{the_type}
use Rattle.rx_syntax.proofs.named.same_perl.Goals as goal

pub returns : goal.returns
returns c h = same_true the_type (search rules) _ _ (sym c.eq.ensures ∙ h)
