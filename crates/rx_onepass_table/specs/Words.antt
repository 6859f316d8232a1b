-- The words of a table: a transition, and what a state tells of a match, each in one word of 64 bits.
use Rattle.std.specs.Prelude.{ℕ, ◌+◌, ◌*◌, ◌/◌, ◌%◌, ◌^◌, Bool, ◌==◌, Option, Some, None, if◌then◌else◌}

-- no step: to the dead state
abbrev pub dead : ℕ
dead = 0

-- Where a byte leads from a state of the table, and what is told on the way: slots, and kinds of look-around, each as a set. Slot k
-- of the explicit ones is bit k, and a kind is the bit of its number.
pub record Step : Type 0 where
  pub target : ℕ
  -- the state tells a match that is preferred to this step
  pub wins : Bool
  pub slots : ℕ
  pub looks : ℕ

-- kinds in bits 0 to 9, slots in bits 10 to 41, whether a match wins in bit 42, and the target in bits 43 to 63
abbrev pub step_of : ℕ → Step
step_of word = record {
  target = word / 2 ^ 43;
  wins = word / 2 ^ 42 % 2 == 1;
  slots = word / 2 ^ 10 % 2 ^ 32;
  looks = word % 2 ^ 10;
}

abbrev pub word_of_step : Step → ℕ
word_of_step s = s.target * 2 ^ 43 + (if s.wins then 2 ^ 42 else 0) + s.slots * 2 ^ 10 + s.looks

-- What a state of the table tells of a match at its place: of which pattern, if any, and what is told on the way to it.
pub record Final : Type 0 where
  pub pattern : Option ℕ
  pub slots : ℕ
  pub looks : ℕ

-- as many patterns may be; the number itself stands for none
abbrev pub no_pattern : ℕ
no_pattern = 4194303

abbrev pub pattern_of : ℕ → Option ℕ
pattern_of p = if p == no_pattern then None else Some p

abbrev pub number_of : Option ℕ → ℕ
number_of None = no_pattern
number_of (Some p) = p

-- kinds and slots as in a transition, and the pattern in bits 42 to 63
abbrev pub final_of : ℕ → Final
final_of word = record { pattern = pattern_of (word / 2 ^ 42); slots = word / 2 ^ 10 % 2 ^ 32; looks = word % 2 ^ 10 }

abbrev pub word_of_final : Final → ℕ
word_of_final f = number_of f.pattern * 2 ^ 42 + f.slots * 2 ^ 10 + f.looks

-- no match
abbrev pub no_match : Final
no_match = record { pattern = None; slots = 0; looks = 0 }

-- how many explicit slots a word tells, and how many kinds of look-around: the first ten
abbrev pub slot_limit : ℕ
slot_limit = 32

abbrev pub few_looks : ℕ
few_looks = 10
