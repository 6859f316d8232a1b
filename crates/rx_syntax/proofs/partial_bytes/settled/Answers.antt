use Rattle.std.proofs.Common.{◌∙◌, ap}
use Rattle.rx_class.specs.Ranges.{next_byte, fewest}
use Rattle.rx_syntax.proofs.lemmas.sets.ByteHeldLemmas.{merged-same}
use Rattle.rx_syntax.proofs.partial_bytes.settled.Goals as goal

pub returns : goal.returns
returns c =
    ap (fewest next_byte) (c.in_ok-from_slice.ensures.items ∙ c.ranges-2.ensures.value ∙ c.in_ok-class.ensures ∙ ap (fewest next_byte) c.deref.ensures.value)
    ∙ merged-same c.args.ranges.items
