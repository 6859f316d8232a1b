use Rattle.std.proofs.Common.{◌≡◌, ◌-◌, ℕ, List, length, Some, sym, subst}
use Rattle.std.specs.Char.{IsScalar}
use Rattle.std.specs.List.{slice_get}
use Rattle.rx_class.specs.Ranges.{next_scalar}
use Rattle.rx_class.proofs.RangeLemmas.{all-from-last}
use Rattle.rx_class.proofs.SuccessorLemmas.{scalars-succeed}
use Rattle.rx_class.proofs.class.ClassUnicode.is_ascii.Goals as goal

pub returns-in-Some : goal.returns-in-Some
returns-in-Some c =
    let rs = c.args.self.now in
    let last = c.in-Some.field-0.now in
    let found : slice_get rs (length rs - 1) ≡ Some last =
    subst (λ (xs : List (ℕ × ℕ)). slice_get xs (length xs - 1) ≡ Some last) c.ranges-2.ensures.value (sym c.in-Some.ensures.value) in
    all-from-last next_scalar IsScalar scalars-succeed rs 0x7F last c.ranges-2.ensures.fewest.0 found
