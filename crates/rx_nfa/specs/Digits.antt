-- Numbers by their digits: what fits, and how many states read them.
use Rattle.std.specs.Prelude.{ℕ, zero, suc, ◌+◌, ◌-◌, ◌≤◌, ◌/◌, ◌==◌, List, length, sum_by, if◌then◌else◌}
use Rattle.rx_nfa.specs.Ranges.{size_of_block}
use Rattle.rx_nfa.specs.Directed.{pieces_in, lasts_of, before_last}
use Rattle.rx_nfa.specs.declared.backwards.Piece.{Piece}

-- the range has a number, and the bytes of the first digits are bytes
pub record FitsDigits (lead depth : ℕ) (r : ℕ × ℕ) : Type 0 where
  pub ordered : r.0 ≤ r.1
  pub bytes : lead + r.1 / size_of_block depth ≤ 255

-- the last digits are digits
pub record IsDigits (r : ℕ × ℕ) : Type 0 where
  pub ordered : r.0 ≤ r.1
  pub small : r.1 ≤ 63

-- `depth` digits come behind the first one: the last one, and those before it
pub record IsPiece (lead depth : ℕ) (p : Piece) : Type 0 where
  pub rest : FitsDigits lead (depth - 1) (p.first, p.last)
  pub last : IsDigits (p.low, p.high)

-- how many states choose between so many alternatives
abbrev pub joints : ℕ → ℕ
joints n = if n == 1 then 0 else 1

-- with how many alternatives the numbers of the ranges begin, as they are read
unfoldable pub ways_of_digits : (depth : ℕ) → List (ℕ × ℕ) → ℕ
ways_of_digits zero ranges = length ranges
ways_of_digits (suc depth) ranges = length (lasts_of (pieces_in ranges))

-- how many states read these last digits and what stands before them
abbrev pub group_states : (List (ℕ × ℕ) → ℕ) → (List (ℕ × ℕ) → ℕ) → List (ℕ × ℕ) → ℕ
group_states states ways ranges = 1 + (states ranges + joints (ways ranges))

-- how many states read the numbers of the ranges
unfoldable pub states_of_digits : (depth : ℕ) → List (ℕ × ℕ) → ℕ
states_of_digits zero ranges = length ranges
states_of_digits (suc depth) ranges =
    sum_by (λ (last : ℕ × ℕ). group_states (λ rs. states_of_digits depth rs) (ways_of_digits depth) (before_last last (pieces_in ranges)))
    (lasts_of (pieces_in ranges))

abbrev pub states_of_group : (depth : ℕ) → List (ℕ × ℕ) → ℕ
states_of_group depth ranges = group_states (states_of_digits depth) (ways_of_digits depth) ranges

-- those of these last digits, among the pieces
abbrev pub states_behind : (depth : ℕ) → List Piece → (last : ℕ × ℕ) → ℕ
states_behind depth ps last = states_of_group depth (before_last last ps)
