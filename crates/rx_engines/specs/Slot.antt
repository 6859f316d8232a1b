-- A place or none in one word.
use Rattle.std.proofs.Common.{arith}
use Rattle.std.proofs.lemmas.Bool.Decides.{nat_tests}
use Rattle.std.specs.Prelude.{◌≡◌, ℕ, ◌^◌, ◌-◌, ◌<◌, Option, Some, None, nat_lt, if◌then◌else◌, refl}
use Rattle.rx_model.proofs.lemmas.runs.RunLemmas.{by_test}

-- the greatest word stands for none
abbrev pub place_of : ℕ → Option ℕ
place_of word = if nat_lt word (2 ^ 64 - 1) then Some word else None

abbrev pub word_of : Option ℕ → ℕ
word_of None = 2 ^ 64 - 1
word_of (Some place) = place

pub word_of-place_of : (word : ℕ) → word < 2 ^ 64 → word_of (place_of word) ≡ word
word_of-place_of word lt =
    by_test (nat_lt word (2 ^ 64 - 1)) (λ e. rw e refl) (λ e. rw e (grind (arith, nat_tests)))
