use Rattle.std.proofs.Common.{◌∙◌, ap, sym}
use Rattle.std.specs.Prelude.{not}
use Rattle.rx_order.proofs.lemmas.MemberLemmas.{member-clear}
use Rattle.rx_order.proofs.members.has_byte.Goals as goal

pub returns : goal.returns
returns c = ap not c.is_clear_of_bytes.ensures ∙ sym (member-clear c.args.ranges.now c.args.byte)
