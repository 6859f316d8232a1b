-- What f gives after a literal that lies at a place.
use Rattle.std.proofs.Common.{◌≡◌, ℕ, ◌+◌, true, false, List, [], ◌∷◌, ◌++◌, length, drop, refl, sym, ap, ◌∙◌, arith, true≢false, length-append, append_assoc}
use Rattle.std.proofs.lemmas.List.{append_cancel_left}
use Rattle.std.specs.Prelude.{Option, None, if◌then◌else◌}
use Rattle.std.specs.Option.{option_or}
use Rattle.rx_model.specs.Text.{stands_at}
use Rattle.rx_model.proofs.lemmas.runs.RunLemmas.{by_test}
use Rattle.rx_model.proofs.lemmas.meaning.CharLemmas.{stands_at_parts, stands_at_from}
use Rattle.rx_literal.specs.Literals.{Literal, bytes_of}
use Rattle.rx_literal.proofs.lemmas.prefixes.BeginLemmas.{stands-append}

pub no_exact : {P : Type 0} → false ≡ true → P
no_exact h = absurd (true≢false (sym h))

module _ (hay : List ℕ) where
  -- f after the bytes, if they stand at i
  abbrev pub one : List ℕ → (ℕ → Option ℕ) → ℕ → Option ℕ
  one bytes f i = if stands_at hay i bytes then f (i + length bytes) else None

  -- the first that f gives after a literal that lies at i
  abbrev pub first_end : (ℕ → Option ℕ) → ℕ → List Literal → Option ℕ
  first_end f i [] = None
  first_end f i (l ∷ ls) = option_or (one (bytes_of l) f i) (first_end f i ls)

  stands-left : (i : ℕ) (s t : List ℕ) → stands_at hay i (s ++ t) ≡ true → stands_at hay i s ≡ true
  stands-left i s t h =
      let rest = drop (i + length (s ++ t)) hay in
      stands_at_from hay i s (t ++ rest) (stands_at_parts hay i (s ++ t) h ∙ append_assoc s t rest)

  stands-right : (i : ℕ) (s t : List ℕ) → stands_at hay i (s ++ t) ≡ true → stands_at hay i s ≡ true → stands_at hay (i + length s) t ≡ true
  stands-right i s t h g =
      let rest = drop (i + length (s ++ t)) hay in
      let whole : s ++ drop (i + length s) hay ≡ s ++ (t ++ rest) =
      sym (stands_at_parts hay i s g) ∙ stands_at_parts hay i (s ++ t) h ∙ append_assoc s t rest in
      stands_at_from hay (i + length s) t rest (append_cancel_left s (drop (i + length s) hay) (t ++ rest) whole)

  pub one-append : (f : ℕ → Option ℕ) (i : ℕ) (s t : List ℕ) → one (s ++ t) f i ≡ (if stands_at hay i s then one t f (i + length s) else None)
  one-append f i s t =
      let place : i + length (s ++ t) ≡ i + length s + length t = let long = length-append s t in omega arith in
      by_test (stands_at hay i s)
      (λ e.
      by_test (stands_at hay (i + length s) t)
      (λ d. let both : stands_at hay i (s ++ t) ≡ true = stands-append hay i s t e d in rw (e, d, both) (ap f place))
      (λ d.
      let not : stands_at hay i (s ++ t) ≡ false = by_test (stands_at hay i (s ++ t)) (λ b. absurd (true≢false (sym (stands-right i s t b e) ∙ d))) (λ b. b) in
      rw (e, d, not) refl))
      (λ e.
      let not : stands_at hay i (s ++ t) ≡ false = by_test (stands_at hay i (s ++ t)) (λ b. absurd (true≢false (sym (stands-left i s t b) ∙ e))) (λ b. b) in
      rw (e, not) refl)
