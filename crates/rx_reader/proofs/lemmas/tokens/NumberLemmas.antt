-- On the numbers of groups.
use Rattle.std.proofs.Common.{◌≡◌, ℕ, ◌+◌, ◌<◌, subst}
use Rattle.std.proofs.Math.Nat.{le-add_left}
use Rattle.std.specs.Coded.{le_prop}
use Rattle.std.specs.Int.NonZero.{non_zero_usize_get}
use Rattle.std.specs.declared.num.NonZeroUsize.{NonZeroUsize}
use Rattle.rx_reader.specs.Groups.{number_after}

pub number_is : (x : NonZeroUsize) (groups : ℕ) → non_zero_usize_get x ≡ groups + 1 → x ≡ number_after groups
number_is x groups same =
    subst (λ (n : ℕ). (above : 0 < n) → x ≡ record { value = n; ok = above }) same (λ above i. record { value = x.value; ok = le_prop x.ok above i })
    (le-add_left 1 groups)
