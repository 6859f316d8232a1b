-- Few bytes, one of which stands at the same offset of each needle.
use Rattle.std.specs.Prelude.{◌≡◌, ℕ, ◌<◌, ◌≤◌, true, List, [], ◌∷◌, Option, MatchOption, All, length, slice_index}
use Rattle.rx_prefilter.specs.Bytes.{is_one_of}
use Rattle.rx_prefilter.specs.Needles.{NoneLies}
use Rattle.rx_prefilter.specs.declared.multi.jump.Few.{Few}
use Rattle.rx_prefilter.specs.declared.multi.jump.Few.TheVariants.{One, Two, Three}
use Rattle.rx_prefilter.specs.declared.multi.jump.Jump.{Jump}

-- these bytes
unfoldable pub few_bytes : Few → List ℕ
few_bytes (One a) = a ∷ []
few_bytes (Two a b) = a ∷ b ∷ []
few_bytes (Three a b c) = a ∷ b ∷ c ∷ []

-- no byte is lost
abbrev pub Widens : List ℕ → List ℕ → Type 0
Widens old new = (x : ℕ) → is_one_of old x ≡ true → is_one_of new x ≡ true

-- one of the bytes stands at this offset of the needle
pub record HasAt (bytes : List ℕ) (offset : ℕ) (needle : List ℕ) : Type 0 where
  pub long : offset < length needle
  pub stands : is_one_of bytes (slice_index needle offset) ≡ true

-- one of the jump's bytes stands at its offset of each needle
abbrev pub IsJumpFor : Jump → List (List ℕ) → Type 0
IsJumpFor jump needles = All (HasAt (few_bytes jump.bytes) jump.offset) needles

-- What a jump from place `at` leads to: nothing, where no needle begins there or later; else a place of the text before
-- which none begins.
abbrev pub IsNextPlace : List (List ℕ) → List ℕ → ℕ → Option ℕ → Type 0
IsNextPlace needles text at r = MatchOption r
    ((k : ℕ) → at ≤ k → NoneLies needles text k)
    (λ next. (at ≤ next) × (next < length text) × ((k : ℕ) → at ≤ k → k < next → NoneLies needles text k))
