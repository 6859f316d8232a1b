use Rattle.std.specs.Char.{IsScalar}
use Rattle.rx_class.specs.Ranges.{next_scalar, next_byte, fewest}
use Rattle.rx_class.proofs.RangeLemmas.{fewest-members, fewest-fewest, fewest-ends, fewest-unique}
use Rattle.rx_class.proofs.SuccessorLemmas.{scalars-succeed, bytes-succeed, IsAny, ends-any, ends-from-scalars, scalars-from-ends}
use Rattle.rx_class.proofs.laws.fewest_ranges_hold_the_members.Goals as goal

pub returns : goal.returns
returns c = record {
  scalars = λ rs ends n scalar. fewest-members next_scalar IsScalar scalars-succeed rs (ends-from-scalars rs ends) n scalar;
  scalar_ranges = λ rs ends. (
    fewest-fewest next_scalar IsScalar scalars-succeed rs,
    scalars-from-ends (fewest next_scalar rs) (fewest-ends next_scalar IsScalar scalars-succeed rs (ends-from-scalars rs ends)),
  );
  one_list_of_scalars = λ qs rs h k same. fewest-unique next_scalar IsScalar scalars-succeed qs rs h.0 k.0 (ends-from-scalars qs h.1) (ends-from-scalars rs k.1)
      same;
  bytes = λ rs n. fewest-members next_byte IsAny bytes-succeed rs (ends-any rs) n tt;
  byte_ranges = λ rs. fewest-fewest next_byte IsAny bytes-succeed rs;
  one_list_of_bytes = λ qs rs h k same. fewest-unique next_byte IsAny bytes-succeed qs rs h k (ends-any qs) (ends-any rs) (λ n _. same n);
}
