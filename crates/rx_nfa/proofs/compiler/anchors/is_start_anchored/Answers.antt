use Rattle.std.proofs.Common.{◌∙◌, ap}
use Rattle.rx_model.specs.Look.{start_text}
use Rattle.rx_search.specs.LookSet.{has}
use Rattle.rx_nfa.proofs.compiler.anchors.is_start_anchored.Goals as goal

pub returns : goal.returns
returns c = c.contains.ensures ∙ ap (λ set. has set start_text) c.look_set_prefix.ensures ∙ c.properties.ensures.first_kinds start_text
