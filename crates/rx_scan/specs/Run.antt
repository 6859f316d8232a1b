-- What a call of `run` does.
use Rattle.std.specs.Prelude.{◌≡◌, ℕ, ◌≤◌, ◌⊎◌, List, length, Option, true}
use Rattle.std.specs.Io.KnownBytes.{Consumes, IsAtEnd}
use Rattle.rx_scan.specs.Answer.{AnswerValue, answer}
use Rattle.rx_scan.specs.Ends.{HasRisen, Gains, GainsPrefix}
use Rattle.rx_scan.specs.Status.{code, needs_all}
use Rattle.rx_scan.specs.declared.status.Status.{Status}

-- The source gave these bytes: at most one more than the limit, and all that it had where the answer depends on the
-- whole input.
pub record Gave (before after : Option (List ℕ)) (given : List ℕ) (status : Status) : Type 0 where
  pub bytes : Consumes before after given
  pub limit : length given ≤ 16777217
  pub whole : needs_all status ≡ true → IsAtEnd after

-- the text was written, or the sink failed
abbrev pub Finished : AnswerValue → (held held' : Option (List ℕ)) → (faults faults' result : ℕ) → Type 0
Finished a held held' faults faults' result =
    ((result ≡ code a.status) × Gains held held' a.text) ⊎ ((result ≡ 7) × HasRisen faults faults' × GainsPrefix held held' a.text)

module _ (words : List (List ℕ)) (left left' held held' : Option (List ℕ)) where
  -- the bytes that were given have an answer with this status, and the sink gained its text
  abbrev pub Answers : (status : ℕ) → Type 0
  Answers status =
      (given : List ℕ) × Gave left left' given (answer words given).status × (status ≡ code (answer words given).status)
      × Gains held held' (answer words given).text

  -- the sink gained a front of the text, shorter than it
  abbrev pub BreaksOff : Type 0
  BreaksOff = (given : List ℕ) × Gave left left' given (answer words given).status × GainsPrefix held held' (answer words given).text
