-- What words come to, one after another, and by their first bytes.
use Rattle.std.proofs.Common.{◌≡◌, ℕ, suc, ◌+◌, ◌<◌, List, [], ◌∷◌, length, ◌++◌, refl, sym, ◌∙◌, ap, arith}
use Rattle.std.specs.Prelude.{◌==◌, nat_lt, if◌then◌else◌, All, Option, None}
use Rattle.std.specs.Option.{option_or}
use Rattle.std.proofs.lemmas.List.Elements.{All-head, All-tail}
use Rattle.rx_model.specs.Runs.{Configuration, first_some}
use Rattle.rx_model.proofs.lemmas.runs.OptionLemmas.{or-assoc}
use Rattle.rx_model.proofs.lemmas.runs.RunLemmas.{by_test}
use Rattle.rx_nfa.specs.Prefixes.{spells, lands, rests}

module _ {A : Type 0} where
  pub first_some-append : (go : Configuration → Option A) (ds es : List Configuration)
      → first_some go (ds ++ es) ≡ option_or (first_some go ds) (first_some go es)
  first_some-append go [] es = refl
  first_some-append go (d ∷ ds) es = ap (option_or (go d)) (first_some-append go ds es) ∙ sym (or-assoc (go d) (first_some go ds) (first_some go es))

  pub lands-append : (f : ℕ → Option A) (byte : ℕ → ℕ) (end i : ℕ) (ws vs : List (List ℕ))
      → lands f byte end i (ws ++ vs) ≡ option_or (lands f byte end i ws) (lands f byte end i vs)
  lands-append f byte end i [] vs = refl
  lands-append f byte end i (w ∷ ws) vs =
      let here = if spells byte end i w then f (i + length w) else None in
      ap (option_or here) (lands-append f byte end i ws vs) ∙ sym (or-assoc here (lands f byte end i ws) (lands f byte end i vs))

  -- what is told of later places alone matters, where no word is empty
  pub lands-alike : (f g : ℕ → Option A) (byte : ℕ → ℕ) (end i : ℕ) (ws : List (List ℕ)) → ((j : ℕ) → i < j → f j ≡ g j)
      → All (λ w. 0 < length w) ws → lands f byte end i ws ≡ lands g byte end i ws
  lands-alike f g byte end i [] alike some = refl
  lands-alike f g byte end i (w ∷ ws) alike some =
      let more = All-head (λ w. 0 < length w) w ws some in
      (λ k. option_or (if spells byte end i w then alike (i + length w) (omega arith) k else None)
      (lands-alike f g byte end i ws alike (All-tail (λ w. 0 < length w) w ws some) k))

  -- by the byte that stands at the place
  pub lands-rests : (f : ℕ → Option A) (byte : ℕ → ℕ) (end i : ℕ) (ws : List (List ℕ)) → All (λ w. 0 < length w) ws
      → lands f byte end i ws ≡ (if nat_lt i end then lands f byte end (i + 1) (rests (byte i) ws) else None)
  lands-rests f byte end i [] some = by_test (nat_lt i end) (λ e. rw e refl) (λ e. rw e refl)
  lands-rests f byte end i ([] ∷ ws) some = absurd (let more = All-head (λ w. 0 < length w) [] ws some in omega arith)
  lands-rests f byte end i ((b ∷ w) ∷ ws) some =
      let later = lands-rests f byte end i ws (All-tail (λ w. 0 < length w) (b ∷ w) ws some) in
      let place : i + suc (length w) ≡ i + 1 + length w = omega arith in
      by_test (nat_lt i end)
      (λ e.
      let on : lands f byte end i ws ≡ lands f byte end (i + 1) (rests (byte i) ws) = rw e at later in
      by_test (b == byte i)
      (λ k. rw (e, k) (λ j. option_or (if spells byte end (i + 1) w then f (place j) else None) (on j)))
      (λ k. rw (e, k) on))
      (λ e. let none : lands f byte end i ws ≡ None = rw e at later in rw e none)
