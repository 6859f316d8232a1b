use Rattle.std.proofs.Common.{◌∙◌}
use Rattle.rx_meta.specs.Config.{overwritten}
use Rattle.rx_scan.proofs.answer.builder_without.Goals as goal

pub returns : goal.returns
returns c = c.configure.ensures.config ∙ (λ i. overwritten (c.builder-builder.ensures.config i) (c.config.ensures i))
