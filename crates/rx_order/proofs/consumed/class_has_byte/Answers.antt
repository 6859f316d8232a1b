use Rattle.std.proofs.Common.{◌∙◌, ap}
use Rattle.rx_model.specs.Text.{is_member}
use Rattle.rx_order.proofs.consumed.class_has_byte.Goals as goal

pub has_scalar-requires : goal.has_scalar-requires
has_scalar-requires c = rw c.ranges-else-byte-gt127.ensures.value c.ranges-else-byte-gt127.ensures.fewest

pub has_byte-requires : goal.has_byte-requires
has_byte-requires c = rw c.ranges-in-Bytes.ensures.value c.ranges-in-Bytes.ensures.fewest

pub returns-in-Bytes : goal.returns-in-Bytes
returns-in-Bytes c = rw c.in-Bytes.is (c.has_byte.ensures ∙ ap (λ rs. is_member rs c.args.byte) c.ranges-in-Bytes.ensures.value)
