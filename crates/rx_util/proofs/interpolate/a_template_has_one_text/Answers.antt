use Rattle.rx_util.proofs.TemplateLemmas.{one, begins}
use Rattle.rx_util.proofs.interpolate.a_template_has_one_text.Goals as goal

pub returns : goal.returns
returns c = record { text = one; fronts = begins }
