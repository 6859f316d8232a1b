-- What a source gives and a sink takes, and when they may fail.
use Rattle.std.specs.Prelude.{◌≡◌, ℕ, ◌+◌, ◌-◌, ◌^◌, ◌<◌, ◌≤◌, min, nat_lt, ◌⊎◌, List, [], ◌++◌, length, take, ⊤, Option, Some, None, Result, MatchResult, if◌then◌else◌}
use Rattle.std.specs.Io.KnownBytes.{Consumes, IsAtEnd}

-- Faults were counted between. A count that stands at the end of its type may have stood still, so it is taken as one that rose.
abbrev pub HasRisen : (before after : ℕ) → Type 0
HasRisen before after = (before < after) ⊎ (after ≡ 2 ^ 64 - 1)

-- one more, but no more than its type holds
abbrev pub raised : ℕ → ℕ
raised n = min (n + 1) (2 ^ 64 - 1)

-- a count of calls, which tells nothing once it stands at the end of its type
abbrev pub counted : ℕ → Option ℕ
counted n = if nat_lt n (2 ^ 64 - 1) then Some n else None

-- One call more was counted, where calls are counted. A source may stop counting.
abbrev pub CountsCall : (before after : Option ℕ) → Type 0
CountsCall before None = ⊤
CountsCall None (Some now) = ⊥
CountsCall (Some had) (Some now) = now ≡ had + 1

-- at most so many calls more were counted, where calls are counted
abbrev pub CountsAtMost : (before after : Option ℕ) → (most : ℕ) → Type 0
CountsAtMost before None most = ⊤
CountsAtMost None (Some now) most = ⊥
CountsAtMost (Some had) (Some now) most = now ≤ had + most

-- the source gave at most so many bytes, where it tells them
abbrev pub GivesAtMost : (before after : Option (List ℕ)) → (most : ℕ) → Type 0
GivesAtMost before after most = (given : List ℕ) × Consumes before after given × (length given ≤ most)

-- The sink holds these bytes more, where it tells what it holds. A sink may stop telling.
abbrev pub Gains : (before after : Option (List ℕ)) → List ℕ → Type 0
Gains before None bytes = ⊤
Gains None (Some now) bytes = ⊥
Gains (Some had) (Some now) bytes = now ≡ had ++ bytes

-- `read` gave the first n bytes of its buffer at `Ok(n)`, none only at the end of the input or without room, and nothing at an error
abbrev pub Reads : {E : Type 0} → (before after : Option (List ℕ)) → (buffer : List ℕ) → Result ℕ E → Type 0
Reads before after buffer r =
    MatchResult r (λ n. (n ≤ length buffer) × Consumes before after (take n buffer) × (n ≡ 0 → 0 < length buffer → IsAtEnd after))
    (λ _. Consumes before after [])

-- `write` took the first n bytes of the piece at `Ok(n)`, none only of an empty piece, and nothing at an error
abbrev pub Writes : {E : Type 0} → (before after : Option (List ℕ)) → (piece : List ℕ) → Result ℕ E → Type 0
Writes before after piece r =
    MatchResult r (λ n. (n ≤ length piece) × (0 < length piece → 0 < n) × Gains before after (take n piece))
    (λ _. Gains before after [])

-- The sink gained a front of the text, shorter than it.
abbrev pub GainsPrefix : (before after : Option (List ℕ)) → List ℕ → Type 0
GainsPrefix before after text = (n : ℕ) × (n < length text) × Gains before after (take n text)

-- A source in memory to a contract: the bytes that are still to come, how many are given at a time at most, the numbers
-- of the calls that fail, counted from 0, and how many calls and faults there were.
pub record BytesValue : Type 0 where
  pub left : List ℕ
  pub most : ℕ
  pub failing : List ℕ
  pub calls : ℕ
  pub faults : ℕ

-- A sink in memory to a contract: the bytes that it holds, where it tells them; the rest as of a source, which it always
-- tells.
pub record KeptValue : Type 0 where
  pub held : Option (List ℕ)
  pub most : ℕ
  pub failing : List ℕ
  pub calls : ℕ
  pub faults : ℕ
