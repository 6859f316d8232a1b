use Rattle.std.proofs.Common.{◌≡◌, ◌-◌, ℕ, List, length, Some, ◌∙◌, ap, sym, subst}
use Rattle.std.specs.List.{slice_get}
use Rattle.rx_class.specs.Ranges.{next_byte, is_ascii}
use Rattle.rx_class.proofs.RangeLemmas.{all-from-last}
use Rattle.rx_class.proofs.SuccessorLemmas.{bytes-succeed, IsAny}
use Rattle.rx_class.proofs.class.ClassBytes.is_ascii.Goals as goal

pub returns-in-Some : goal.returns-in-Some
returns-in-Some c =
    let rs = c.self.inside.ranges.items in
    let last = c.in-Some.field-0.now in
    let found : slice_get rs (length rs - 1) ≡ Some last =
    subst (λ (xs : List (ℕ × ℕ)). slice_get xs (length xs - 1) ≡ Some last) c.deref.ensures.value (sym c.in-Some.ensures.value) in
    all-from-last next_byte IsAny bytes-succeed rs 0x7F last c.self.invariant found ∙ ap is_ascii c.self.view_is
