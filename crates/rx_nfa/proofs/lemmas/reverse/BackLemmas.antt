-- What an expression means, read backwards from the end of the text.
use Rattle.std.proofs.Common.{◌≡◌, ℕ, zero, suc, ◌+◌, ◌-◌, ◌≤◌, List, [], ◌∷◌, ◌++◌, refl, sym, ◌∙◌, ap, subst, arith, length}
use Rattle.std.specs.Prelude.{true, ◌&&◌, reverse, slice_index, nat_eq}
use Rattle.std.proofs.lemmas.Bool.{and_parts}
use Rattle.std.proofs.lemmas.Bool.Decides.{nat_tests}
use Rattle.std.proofs.lemmas.List.{reverse-append}
use Rattle.rx_model.specs.Text.{stands_at}
use Rattle.rx_model.specs.Meaning.{Pieces}
use Rattle.rx_nfa.proofs.lemmas.runs.ChainLemmas.{stands-none, stands-cons}
use Rattle.rx_nfa.specs.Automaton.{byte_of}
use Rattle.rx_nfa.proofs.lemmas.reverse.WalkLemmas.{ReadsBytes}
use Rattle.rx_model.proofs.lemmas.meaning.PieceLemmas.{pieces-rise, last-piece}

-- Places are distances from the end of a text of n bytes: R read so.
abbrev pub back : (n : ℕ) → (ℕ → ℕ → Type 0) → ℕ → ℕ → Type 0
back n R d e = (d ≤ e) × R (n - e) (n - d)

module _ (R : ℕ → ℕ → Type 0) where
  -- one piece more, at the end
  Pieces-last : (n i k j : ℕ) → Pieces R n i k → R k j → Pieces R (suc n) i j
  Pieces-last zero i k j e r = (j, subst (λ x. R x j) (sym e) r, refl)
  Pieces-last (suc n) i k j h r = (h.0, h.1, Pieces-last n h.0 k j h.2 r)

  module _ (rises : (i j : ℕ) → R i j → i ≤ j) (len : ℕ) where
    -- pieces that are read backwards
    pub Pieces-back : (n d e : ℕ) → d ≤ e → e ≤ len → Pieces (back len R) n d e → Pieces R n (len - e) (len - d)
    Pieces-back zero d e le fits h = ap (λ x. len - x) (sym h)
    Pieces-back (suc n) d e le fits h =
        let k = h.0 in
        let onward = Pieces-rise-back n k e h.2 in
        Pieces-last n (len - e) (len - k) (len - d) (Pieces-back n k e onward fits h.2) h.1.1
      where
        Pieces-rise-back : (n i j : ℕ) → Pieces (back len R) n i j → i ≤ j
        Pieces-rise-back zero i j e = omega arith
        Pieces-rise-back (suc n) i j h = let x = h.1.0 in let y = Pieces-rise-back n h.0 j h.2 in omega arith

    pub back-Pieces : (n d e : ℕ) → d ≤ e → e ≤ len → Pieces R n (len - e) (len - d) → Pieces (back len R) n d e
    back-Pieces zero d e le fits h = omega arith
    back-Pieces (suc n) d e le fits h =
        let x = last-piece R n (len - e) (len - d) h in
        let first = pieces-rise R rises n (len - e) x.0 x.1 in
        let last = rises x.0 (len - d) x.2 in
        let at : x.0 ≡ len - (len - x.0) = omega arith in (
          len - x.0,
          (omega arith, subst (λ y. R y (len - d)) at x.2),
          back-Pieces n (len - x.0) e (omega arith) fits (subst (λ y. Pieces R n (len - e) y) at x.1),
        )

-- The bytes of a literal.
module _ (text : List ℕ) (end : ℕ) (fits : end ≤ length text) where
  -- the byte at a distance from the end
  abbrev pub byte_back : ℕ → ℕ
  byte_back d = byte_of text (length text - suc d)

  abbrev pub ReadsBack : List ℕ → ℕ → ℕ → Type 0
  ReadsBack bytes d e = ReadsBytes byte_back end bytes d e

  ReadsBack-append : (xs ys : List ℕ) (d k e : ℕ) → ReadsBack xs d k → ReadsBack ys k e → ReadsBack (xs ++ ys) d e
  ReadsBack-append [] ys d k e h later = subst (λ x. ReadsBack ys x e) (sym h) later
  ReadsBack-append (x ∷ xs) ys d k e h later = (h.0, h.1, ReadsBack-append xs ys (d + 1) k e h.2 later)

  ReadsBack-split : (xs ys : List ℕ) (d e : ℕ) → ReadsBack (xs ++ ys) d e → (k : ℕ) × ReadsBack xs d k × ReadsBack ys k e
  ReadsBack-split [] ys d e h = (d, refl, h)
  ReadsBack-split (x ∷ xs) ys d e h = let r = ReadsBack-split xs ys (d + 1) e h.2 in (r.0, (h.0, h.1, r.1), r.2)

  turned : (b : ℕ) (bytes : List ℕ) → reverse (b ∷ bytes) ≡ reverse bytes ++ b ∷ []
  turned b bytes = reverse-append (b ∷ []) bytes

  -- a literal that is read from its last byte to its first stands there
  pub literal-stands : (bytes : List ℕ) (d e : ℕ) → e ≤ end → ReadsBack (reverse bytes) d e
      → (stands_at text (length text - e) bytes ≡ true) × (length text - e + length bytes ≡ length text - d)
  literal-stands [] d e le h = (stands-none text (length text - e), let same : d ≡ e = h in omega arith)
  literal-stands (b ∷ bytes) d e le h =
      let x = ReadsBack-split (reverse bytes) (b ∷ []) d e (subst (λ bs. ReadsBack bs d e) (turned b bytes) h) in
      let lt = x.2.0 in
      let last : x.0 + 1 ≡ e = x.2.2 in
      let before = literal-stands bytes d x.0 (omega arith) x.1 in
      let on : length text - x.0 ≡ suc (length text - e) = omega arith in
      let at : length text - suc x.0 ≡ length text - e = omega arith in
      let byte : b ≡ slice_index text (length text - e) = sym x.2.1 ∙ ap (λ n. slice_index text n) at in
      let sum = before.1 in (
        stands-cons text (length text - e) b bytes (omega arith)
            ∙ (λ i. nat_same b (slice_index text (length text - e)) byte i && (ap (λ n. stands_at text n bytes) (sym on) ∙ before.0) i),
        omega arith,
      )
    where
      nat_same : (x y : ℕ) → x ≡ y → nat_eq x y ≡ true
      nat_same x y same = grind (arith, nat_tests)

  pub stands-literal : (bytes : List ℕ) (d e : ℕ) → d ≤ e → e ≤ end → stands_at text (length text - e) bytes ≡ true
      → length text - e + length bytes ≡ length text - d → ReadsBack (reverse bytes) d e
  stands-literal [] d e le fits' stands sum = omega arith
  stands-literal (b ∷ bytes) d e le fits' stands sum =
      let k : ℕ = e - 1 in
      let on : length text - k ≡ suc (length text - e) = omega arith in
      let at : length text - e ≡ length text - suc k = omega arith in
      let both = and_parts (nat_eq b (slice_index text (length text - e))) (stands_at text (suc (length text - e)) bytes)
      (sym (stands-cons text (length text - e) b bytes (omega arith)) ∙ stands) in
      let byte : b ≡ slice_index text (length text - e) = nat_equal b (slice_index text (length text - e)) both.0 in
      let before = stands-literal bytes d k (omega arith) (omega arith) (ap (λ n. stands_at text n bytes) on ∙ both.1) (omega arith) in
      subst (λ bs. ReadsBack bs d e) (sym (turned b bytes))
      (ReadsBack-append (reverse bytes) (b ∷ []) d k e before (omega arith, ap (λ n. slice_index text n) (sym at) ∙ sym byte, omega arith))
    where
      nat_equal : (x y : ℕ) → nat_eq x y ≡ true → x ≡ y
      nat_equal x y e = grind (arith, nat_tests)
