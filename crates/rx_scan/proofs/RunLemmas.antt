-- What a call of `run` does, from what its parts do.
use Rattle.std.proofs.Common.{◌≡◌, ℕ, ◌<◌, ◌≤◌, ◌≢◌, ◌⊎◌, false, List, [], length, Option, Some, sym, subst, ◌∙◌, inl, inr, arith}
use Rattle.std.proofs.lemmas.Bool.{false≢true}
use Rattle.std.proofs.KnownBytes.{Consumes-nil}
use Rattle.rx_scan.specs.Answer.{AnswerValue, answer, answer_input, answer_call}
use Rattle.rx_scan.proofs.AnswerLemmas.{answer_input-short, answer_call-few, answer-call}
use Rattle.std.specs.Io.KnownBytes.{Consumes, IsAtEnd}
use Rattle.rx_scan.specs.Ends.{HasRisen, Gains, GainsPrefix}
use Rattle.rx_scan.specs.Run.{Gave, Answers, BreaksOff, Finished}
use Rattle.rx_scan.specs.Status.{code, needs_all}
use Rattle.rx_scan.specs.Arguments.{call_of}
use Rattle.rx_scan.specs.declared.arguments.Call.{Call}
use Rattle.rx_scan.specs.declared.arguments.Command.{Command}
use Rattle.rx_scan.specs.declared.status.Status.{Status}

-- nothing was given, where nothing needs to be
pub Gave-none : (left : Option (List ℕ)) (status : Status) → needs_all status ≡ false → Gave left left [] status
Gave-none left status e = record { bytes = Consumes-nil left; limit = omega arith; whole = λ all. absurd (false≢true (sym e ∙ all)) }

-- the whole input was given, or more than the limit
pub Gave-input : (command : Command) (left left' : Option (List ℕ)) (given : List ℕ) (a : AnswerValue) → a ≡ answer_input command given → Consumes left left' given
    → length given ≤ 16777217
    → (length given ≤ 16777216 → IsAtEnd left') → Gave left left' given a.status
Gave-input command left left' given a e bytes limit whole =
    let P : AnswerValue → Type 0 = λ b. Gave left left' given b.status in
    subst P (sym e) (record { bytes = bytes; limit = limit; whole = λ all. whole (answer_input-short command given all) })

module _ (words : List (List ℕ)) (left left' held held' : Option (List ℕ)) (faults faults' result : ℕ) (a : AnswerValue) (given : List ℕ)
    (same : answer words given ≡ a) (gave : Gave left left' given a.status) (few : code a.status ≤ 5) where
  pub Answers-finished : Finished a held held' faults faults' result → result ≤ 5 → Answers words left left' held held' result
  Answers-finished (inl done) le =
      let P : AnswerValue → Type 0 = λ b. Gave left left' given b.status × (result ≡ code b.status) × Gains held held' b.text in
      let p = subst P (sym same) (gave, done.0, done.1) in
      (given, p.0, p.1, p.2)
  Answers-finished (inr failed) le = absurd (omega (arith, failed.0))

  pub BreaksOff-finished : Finished a held held' faults faults' result → result ≡ 7 → HasRisen faults faults' × BreaksOff words left left' held held'
  BreaksOff-finished (inl done) e = absurd (omega (arith, done.0))
  BreaksOff-finished (inr failed) e =
      let P : AnswerValue → Type 0 = λ b. Gave left left' given b.status × GainsPrefix held held' b.text in
      let p = subst P (sym same) (gave, failed.2) in
      (failed.1, (given, p.0, p.1))

-- the answer to what was given, where the words ask for this
pub same-call : (words : List (List ℕ)) (given : List ℕ) (a : AnswerValue) (call : Call) → Some call ≡ call_of words → a ≡ answer_call call given
    → answer words given ≡ a
same-call words given a call asked e = answer-call words given call (sym asked) ∙ sym e

pub few-call : (call : Call) (given : List ℕ) (a : AnswerValue) → a ≡ answer_call call given → code a.status ≤ 5
few-call call given a e =
    let P : AnswerValue → Type 0 = λ b. code b.status ≤ 5 in
    subst P (sym e) (answer_call-few call given)

module _ (a : AnswerValue) (held held' : Option (List ℕ)) (faults faults' result : ℕ) (few : code a.status ≤ 5) where
  pub finished-few : Finished a held held' faults faults' result → (result ≤ 5) ⊎ (result ≡ 7)
  finished-few (inl done) = inl (omega (arith, done.0))
  finished-few (inr failed) = inr failed.0

  -- not a status that has no text
  pub finished-not : (n : ℕ) → 5 < n → n ≢ 7 → Finished a held held' faults faults' result → result ≡ n → ⊥
  finished-not n big other (inl done) e = omega (arith, done.0)
  finished-not n big other (inr failed) e = other (sym e ∙ failed.0)

  pub finished-complete : Finished a held held' faults faults' result → ¬ (HasRisen faults faults') → (result ≤ 5) ⊎ (result ≡ 8)
  finished-complete (inl done) none = inl (omega (arith, done.0))
  finished-complete (inr failed) none = absurd (none failed.1)
