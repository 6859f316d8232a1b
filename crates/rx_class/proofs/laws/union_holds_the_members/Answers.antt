use Rattle.std.proofs.Common.{◌++◌, ◌∙◌}
use Rattle.std.specs.Char.{IsScalar}
use Rattle.std.proofs.lemmas.List.Folds.{list_any-append}
use Rattle.rx_class.specs.Ranges.{next_scalar, next_byte, fewest}
use Rattle.rx_class.proofs.RangeLemmas.{fewest-members, fewest-fewest, fewest-ends}
use Rattle.rx_class.proofs.SuccessorLemmas.{scalars-succeed, bytes-succeed, IsAny, ends-any, ends-from-scalars, scalars-from-ends}
use Rattle.rx_class.proofs.laws.union_holds_the_members.Goals as goal
use Rattle.rx_class.proofs.EarlyLemmas.{both-ends}

pub returns : goal.returns
returns c = record {
  scalars = λ xs ys h k n scalar. fewest-members next_scalar IsScalar scalars-succeed (xs ++ ys) (ends-from-scalars (xs ++ ys) (both-ends xs ys h k)) n scalar
      ∙ list_any-append _ xs ys;
  scalar_ranges = λ xs ys h k. (
    fewest-fewest next_scalar IsScalar scalars-succeed (xs ++ ys),
    scalars-from-ends (fewest next_scalar (xs ++ ys)) (fewest-ends next_scalar IsScalar scalars-succeed (xs ++ ys)
        (ends-from-scalars (xs ++ ys) (both-ends xs ys h k))),
  );
  bytes = λ xs ys n. fewest-members next_byte IsAny bytes-succeed (xs ++ ys) (ends-any (xs ++ ys)) n tt ∙ list_any-append _ xs ys;
  byte_ranges = λ xs ys. fewest-fewest next_byte IsAny bytes-succeed (xs ++ ys);
}
