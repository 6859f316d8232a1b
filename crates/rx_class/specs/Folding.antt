-- Folding of case: the characters that share a simple folding with a member.
use Rattle.std.specs.Prelude.{◌≡◌, ℕ, IsTrue, List, ◌++◌, map}
use Rattle.std.specs.List.{filter}
use Rattle.ucd_case.specs.CaseFolding.{fold_pairs, simple_fold}
use Rattle.rx_model.specs.Text.{is_member}
use Rattle.rx_class.specs.Ranges.{next_scalar, fewest}

-- what the pairs join to a member
abbrev pub joined_to : (pairs : List (ℕ × ℕ)) → List (ℕ × ℕ) → List (ℕ × ℕ)
joined_to pairs ranges = map (λ (p : ℕ × ℕ). (p.1, p.1)) (filter (λ (p : ℕ × ℕ). is_member ranges p.0) pairs)

-- The members, and the characters that share a simple folding with one: `fold_pairs` has each pair of two
-- characters that share theirs.
unfoldable pub folded : List (ℕ × ℕ) → List (ℕ × ℕ)
folded ranges = fewest next_scalar (ranges ++ joined_to fold_pairs ranges)

-- some member has the simple folding of this character
abbrev pub SharesFolding : List (ℕ × ℕ) → ℕ → Type 0
SharesFolding ranges c = (m : ℕ) × IsTrue (is_member ranges m) × (simple_fold m ≡ simple_fold c)
