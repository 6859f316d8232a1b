-- The loop over plain states.
use Rattle.std.proofs.Common.{◌≡◌, ℕ, suc, ◌<◌, [], refl, sym, ◌∙◌, ap, subst, arith}
use Rattle.std.specs.Prelude.{false, Option, Some}
use Rattle.rx_nfa.specs.Nfa.{Nfa}
use Rattle.rx_determinize.specs.Key.{Key, is_dead}
use Rattle.rx_dfa.specs.Automaton.{Dfa, next_key, IsReadable, StartFails, StepFails}
use Rattle.rx_dfa.specs.Course.{along, placed, ArePlain, IsPassed}
use Rattle.rx_dfa.specs.declared.step_error.StepError.{StepError}
use Rattle.rx_dfa.specs.declared.step_error.StepError.TheVariants.{Quit as QuitsAt, GaveUp as GivesUp, Memory as WantsMemory}
use Rattle.rx_dfa.proofs.lemmas.CourseLemmas.{plain-none, plain-more}

-- The first n bytes led over plain states, the last of which is this one.
pub record IsUnderWay (Held : ℕ → Key → Type 0) (d : Dfa) (byte : ℕ → ℕ) (k : Key) (n state : ℕ) : Type 0 where
  pub plain : ArePlain d byte k n
  pub held : Held state (along d byte n k)
  pub alive : is_dead (along d byte n k) ≡ false

module _ (Held : ℕ → Key → Type 0) (d : Dfa) (byte : ℕ → ℕ) (k : Key) where
  pub way-first : (n state : ℕ) → n ≡ 0 → Held state k → is_dead k ≡ false → IsUnderWay Held d byte k n state
  way-first n state none held alive =
      subst (λ m. IsUnderWay Held d byte k m state) (sym none) (record { plain = plain-none d byte k; held = held; alive = alive })

  pub way-end : (n count state : ℕ) → n ≡ count → IsUnderWay Held d byte k n state → IsPassed Held d byte k n count state
  way-end n count state same w = record {
    within = omega arith;
    plain = w.plain;
    at_end = λ at. w.held;
    behind = λ lt. absurd (omega arith);
  }

-- one byte on
pub way-more : (Old New : ℕ → Key → Type 0) (d : Dfa) (byte : ℕ → ℕ) (k : Key) (n more old new read : ℕ) → more ≡ suc n → read ≡ byte n
    → IsUnderWay Old d byte k n old → New new (next_key d (along d byte n k) read) → is_dead (next_key d (along d byte n k) read) ≡ false
    → (next_key d (along d byte n k) read).matches ≡ [] → IsReadable d.nfa (Some read) → IsUnderWay New d byte k more new
way-more Old New d byte k n more old new read is is_byte w held alive none readable =
    let here : next_key d (along d byte n k) read ≡ along d byte (suc n) k = ap (next_key d (along d byte n k)) is_byte in
    subst (λ m. IsUnderWay New d byte k m new) (sym is)
    (record {
      plain = plain-more d byte k n w.plain (sym (ap is_dead here) ∙ alive) (sym (ap (λ (x : Key). x.matches) here) ∙ none)
          (subst (λ (b : ℕ). IsReadable d.nfa (Some b)) is_byte readable);
      held = subst (New new) here held;
      alive = sym (ap is_dead here) ∙ alive;
    })

-- or to a state that is not plain
pub way-out : (Old New : ℕ → Key → Type 0) (d : Dfa) (byte : ℕ → ℕ) (k : Key) (n count old new read : ℕ) → n < count → read ≡ byte n
    → IsUnderWay Old d byte k n old → New new (next_key d (along d byte n k) read) → IsReadable d.nfa (Some read) → IsPassed New d byte k n count new
way-out Old New d byte k n count old new read lt is_byte w held readable = record {
  within = omega arith;
  plain = w.plain;
  at_end = λ at. absurd (omega arith);
  behind = λ inside.
      (subst (New new) (ap (next_key d (along d byte n k)) is_byte) held, subst (λ (b : ℕ). IsReadable d.nfa (Some b)) is_byte readable);
}

-- one byte alone, from a state that may not be plain
pub passed-one : (Old New : ℕ → Key → Type 0) (d : Dfa) (byte : ℕ → ℕ) (k : Key) (n count old new read : ℕ) → n ≡ 0 → 0 < count → read ≡ byte 0
    → Old old k → is_dead k ≡ false → New new (next_key d k read) → IsReadable d.nfa (Some read) → IsPassed New d byte k n count new
passed-one Old New d byte k n count old new read none some is held alive next readable =
    subst (λ m. IsPassed New d byte k m count new) (sym none)
    (way-out Old New d byte k 0 count old new read some is (way-first Old d byte k 0 old refl held alive) next readable)

-- the error of a step where the search is told its place
pub placed-fails : (nfa : Nfa) (byte : Option ℕ) (beside place : ℕ) (gives_up wants : Type 0) (e : StepError) → StepFails nfa byte gives_up wants e
    → StartFails nfa byte beside place gives_up wants (placed beside place e)
placed-fails nfa byte beside place gives_up wants (QuitsAt quit) h = (refl, h.0, h.1)
placed-fails nfa byte beside place gives_up wants GivesUp h = (refl, h)
placed-fails nfa byte beside place gives_up wants WantsMemory h = h
