-- Where the first run of an expression ends: its parts in their order, each by where the first run of what comes after it
-- ends. Plain is an expression in which each copy takes a byte of what is repeated without a greatest number.
use Rattle.std.specs.Prelude.{◌≡◌, ℕ, zero, suc, ◌+◌, ◌-◌, Bool, true, false, List, length, Option, Some, None, if◌then◌else◌, nat_le}
use Rattle.std.specs.Option.{option_or}
use Rattle.rx_model.specs.Text.{stands_at, member_len}
use Rattle.rx_model.specs.Look.{holds}
use Rattle.rx_model.specs.Length.{minimum_len, is_positive}
use Rattle.rx_model.specs.Expression.{Expression, Expressions, empty, literal, class, look, repetition, capture, concat, alternation, nil, cons}

-- so many bytes on
abbrev pub after : (ℕ → Option ℕ) → Option ℕ → ℕ → Option ℕ
after f None i = None
after f (Some n) i = f (i + n)

-- the body or the exit, in order of preference
abbrev pub either_first : (greedy : Bool) → (body exit : Option ℕ) → Option ℕ
either_first true body exit = option_or body exit
either_first false body exit = option_or exit body

-- n times in a row
abbrev pub times_go : ((ℕ → Option ℕ) → ℕ → Option ℕ) → ℕ → (ℕ → Option ℕ) → ℕ → Option ℕ
times_go go zero f i = f i
times_go go (suc n) f i = go (λ j. times_go go n f j) i

-- up to n times in a row, more or fewer of them by preference
abbrev pub up_to : (greedy : Bool) → ((ℕ → Option ℕ) → ℕ → Option ℕ) → ℕ → (ℕ → Option ℕ) → ℕ → Option ℕ
up_to greedy go zero f i = f i
up_to greedy go (suc n) f i = either_first greedy (go (λ j. up_to greedy go n f j) i) (f i)

-- how many copies more there may be at place i: those up to the greatest number, or as many as there are places left
abbrev pub copies_left : (end least : ℕ) → Option ℕ → (i : ℕ) → ℕ
copies_left end least None i = end + 1 - i
copies_left end least (Some most) i = most - least

module _ (terminator : ℕ) (text : List ℕ) (end : ℕ) where
  unfoldable mutual
    -- where the first run from place i ends, within `end`, if f tells it for each place that the expression leads to
    pub onward : Expression → (ℕ → Option ℕ) → ℕ → Option ℕ
    onward empty f i = f i
    onward (literal bytes) f i = after f (if stands_at text i bytes then Some (length bytes) else None) i
    onward (class members) f i = after f (member_len text members i) i
    onward (look kind) f i = if holds terminator text kind i then f i else None
    onward (repetition least most greedy sub) f i =
        times_go (onward sub) least (λ j. up_to greedy (onward sub) (copies_left end least most j) f j) i
    onward (capture group name sub) f i = onward sub f i
    onward (concat subs) f i = onward_in_turn subs f i
    onward (alternation subs) f i = onward_one subs f i

    pub onward_in_turn : Expressions → (ℕ → Option ℕ) → ℕ → Option ℕ
    onward_in_turn nil f i = f i
    onward_in_turn (cons sub subs) f i = onward sub (λ j. onward_in_turn subs f j) i

    pub onward_one : Expressions → (ℕ → Option ℕ) → ℕ → Option ℕ
    onward_one nil f i = None
    onward_one (cons sub subs) f i = option_or (onward sub f i) (onward_one subs f i)

-- the place, within `end`
abbrev pub within : (end i : ℕ) → Option ℕ
within end i = if nat_le i end then Some i else None

-- the copies of what is repeated take bytes, or their number is bounded
abbrev pub IsPlainCount : Option ℕ → Expression → Type 0
IsPlainCount None sub = is_positive (minimum_len sub) ≡ true
IsPlainCount (Some m) sub = Unit {0}

unfoldable mutual
  -- each copy takes a byte of what is repeated without a greatest number
  pub IsPlain : Expression → Type 0
  IsPlain empty = Unit {0}
  IsPlain (literal bytes) = Unit {0}
  IsPlain (class members) = Unit {0}
  IsPlain (look kind) = Unit {0}
  IsPlain (repetition least most greedy sub) = IsPlainCount most sub × IsPlain sub
  IsPlain (capture group name sub) = IsPlain sub
  IsPlain (concat subs) = ArePlain subs
  IsPlain (alternation subs) = ArePlain subs

  pub ArePlain : Expressions → Type 0
  ArePlain nil = Unit {0}
  ArePlain (cons sub subs) = IsPlain sub × ArePlain subs
