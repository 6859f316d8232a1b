use Rattle.std.specs.Char.{IsScalar}
use Rattle.rx_class.specs.Ranges.{next_scalar, next_byte}
use Rattle.rx_class.proofs.RangeLemmas.{ends-bound}
use Rattle.rx_class.proofs.SuccessorLemmas.{scalars-succeed, bytes-succeed, IsAny}
use Rattle.rx_class.proofs.laws.ascii_classes_have_ascii_members.Goals as goal

pub returns : goal.returns
returns c = record {
  scalars = λ rs h. ends-bound next_scalar IsScalar scalars-succeed rs 0x7F h.0;
  bytes = λ rs h. ends-bound next_byte IsAny bytes-succeed rs 0x7F h;
}
