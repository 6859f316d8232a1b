-- The haystacks that a number gives: draws of a linear congruential generator.
use Rattle.std.specs.Prelude.{ℕ, zero, suc, ◌+◌, ◌*◌, ◌/◌, ◌%◌, List, [], ◌∷◌, map}

-- the state after so many draws
unfoldable pub state_at : (seed draws : ℕ) → ℕ
state_at seed zero = seed
state_at seed (suc k) = (state_at seed k * 1103515245 + 12345) % 2147483648

-- what the draw of this number gives, the first of which is draw 0
abbrev pub draw_at : (seed k : ℕ) → ℕ
draw_at seed k = state_at seed (suc k) / 65536

-- what a draw tells: a length, or a letter from `a` to `h`
abbrev pub length_at : (seed k : ℕ) → ℕ
length_at seed k = draw_at seed k % 16

abbrev pub letter_at : (seed k : ℕ) → ℕ
letter_at seed k = 97 + draw_at seed k % 8

-- so many numbers from k on
unfoldable pub numbers : (count k : ℕ) → List ℕ
numbers zero k = []
numbers (suc n) k = k ∷ numbers n (suc k)

-- a haystack from a draw on, which gives its length; the draws behind it give its letters
abbrev pub haystack_at : (seed k : ℕ) → List ℕ
haystack_at seed k = map (letter_at seed) (numbers (length_at seed k) (suc k))

-- from which draw on the haystack of this number is, the first of which is haystack 0
unfoldable pub draws_before : (seed haystack : ℕ) → ℕ
draws_before seed zero = 0
draws_before seed (suc i) = draws_before seed i + 1 + length_at seed (draws_before seed i)

-- so many haystacks
abbrev pub generated : (seed count : ℕ) → List (List ℕ)
generated seed count = map (λ i. haystack_at seed (draws_before seed i)) (numbers count 0)
