-- What is accounted for expressions.
use Rattle.std.specs.Prelude.{ℕ, zero, suc, ◌+◌, ◌-◌, ◌*◌, ◌/◌, ◌^◌, min, max, List, [], ◌∷◌, length, Option, Some, None, if◌then◌else◌, ◌==◌, nat_lt}
use Rattle.rx_model.specs.Text.{Class, scalar_ranges, byte_ranges}
use Rattle.rx_model.specs.Expression.{Expression, Expressions, empty, literal, class, look, repetition, capture, concat, alternation, nil, cons}
use Rattle.rx_model.specs.Search.{groups_before}

-- The part of a range from `first` to `last`, whose encodings have n bytes: n states where the encodings of the
-- part's ends agree in all but the last byte, else at most 2n - 1 sequences of n. None where they do not meet.
abbrev pub states_of_part : (n first last : ℕ) → ℕ × ℕ → ℕ
states_of_part n first last r =
    let low = max first r.0 in
    let high = min last r.1 in
    if nat_lt high low then 0 else if low / 64 == high / 64 then n else n * (2 * n - 1)

-- a range is cut where the length of the encoding changes, and at the surrogates
abbrev pub states_of_range : ℕ × ℕ → ℕ
states_of_range r =
    states_of_part 1 0 0x7F r + states_of_part 2 0x80 0x7FF r + states_of_part 3 0x800 0xD7FF r
    + states_of_part 3 0xE000 0xFFFF r + states_of_part 4 0x1_0000 0x10_FFFF r

abbrev pub states_of_ranges : List (ℕ × ℕ) → ℕ
states_of_ranges [] = 0
states_of_ranges (r ∷ rs) = states_of_range r + states_of_ranges rs

abbrev pub states_of_class : Class → ℕ
states_of_class (scalar_ranges rs) = 1 + states_of_ranges rs
states_of_class (byte_ranges rs) = 1

-- least to greatest copies of a body of n states
abbrev pub states_of_copies : (least : ℕ) → Option ℕ → (n : ℕ) → ℕ
states_of_copies zero None n = n + 2
states_of_copies (suc least) None n = suc least * n + 1
states_of_copies least (Some greatest) n = greatest * n + (greatest - least) + 1

abbrev mutual
  pub accounted_states : Expression → ℕ
  accounted_states empty = 1
  accounted_states (literal bytes) = length bytes
  accounted_states (class members) = states_of_class members
  accounted_states (look kind) = 1
  accounted_states (repetition least greatest greedy sub) = states_of_copies least greatest (accounted_states sub)
  accounted_states (capture group name sub) = accounted_states sub + 2
  accounted_states (concat subs) = accounted_in subs
  accounted_states (alternation subs) = accounted_in subs + 1

  -- the sum over the list
  pub accounted_in : Expressions → ℕ
  accounted_in nil = 0
  accounted_in (cons sub subs) = accounted_states sub + accounted_in subs

-- the states that are accounted for an NFA: 4, and for each pattern 3 beside those of its expression
abbrev pub nfa_states : List Expression → ℕ
nfa_states [] = 4
nfa_states (h ∷ hs) = accounted_states h + 3 + nfa_states hs

-- how many slots there are: two for each pattern, and two for each group that one names
abbrev pub slots_of : List Expression → ℕ
slots_of hs = 2 * length hs + 2 * groups_before (length hs) hs

-- the bytes that are accounted for a state
abbrev pub state_size : ℕ
state_size = 32

-- a number, or the greatest of 64 bits where it is above
abbrev pub capped : ℕ → ℕ
capped n = min n (2 ^ 64 - 1)

-- the bytes that are accounted for an expression
abbrev pub cost_of : Expression → ℕ
cost_of h = capped (state_size * accounted_states h)
