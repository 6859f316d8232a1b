-- A part of UTF-8 that is UTF-8 itself, and not empty, begins and ends between characters.
use Rattle.std.proofs.Common.{◌≡◌, ℕ, ◌+◌, ◌-◌, ◌≤◌, ◌<◌, List, length, take, drop, slice_index, refl, sym, ◌∙◌, ap, subst, arith, length-take, length-drop}
use Rattle.std.proofs.lemmas.Bool.Decides.{nat_tests}
use Rattle.std.proofs.lemmas.List.{get_or-take, get_or-drop}
use Rattle.std.proofs.lemmas.Str.{IsUtf8-drop, IsCharBoundary-start, IsCharBoundary-from_take, IsCharBoundary-from_rest}
use Rattle.std.specs.Prelude.{true, false, ◌&&◌, nat_lt, nat_le, IsUtf8, IsCharBoundary}
use Rattle.rx_model.specs.Search.{is_permitted}
use Rattle.rx_model.proofs.lemmas.runs.RunLemmas.{by_test}

-- a match may start where a character begins, at the end of the text, and past it
permitted-boundary : (text : List ℕ) (i : ℕ) → IsCharBoundary text i → is_permitted true text i ≡ true
permitted-boundary text i boundary =
    by_test (nat_lt i (length text))
    (λ e.
    let lt : i < length text = grind (arith, nat_tests) in
    let inside : (nat_le 0x80 (slice_index text i) && nat_le (slice_index text i) 0xBF) ≡ false =
    by_test (nat_le 0x80 (slice_index text i))
    (λ low.
    let high = boundary.1 lt (grind (arith, nat_tests)) in
    let over : nat_le (slice_index text i) 0xBF ≡ false = grind (arith, nat_tests) in
    rw (low, over) refl)
    (λ low. rw low refl) in
    rw (e, inside) refl)
    (λ e. rw e refl)

permitted-past : (text : List ℕ) (i : ℕ) → length text ≤ i → is_permitted true text i ≡ true
permitted-past text i past = let e : nat_lt i (length text) ≡ false = grind (arith, nat_tests) in rw e refl

module _ (text : List ℕ) (whole : IsUtf8 text) (i j : ℕ) (lt : i < j) (part : IsUtf8 (take (j - i) (drop i text))) where
  begins : i < length text → IsCharBoundary text i
  begins within =
      let span = take (j - i) (drop i text) in
      let here : i + 0 ≡ i = omega arith in
      let some : 0 < length span = omega (arith, length-take (j - i) (drop i text), length-drop i text) in
      let first : slice_index span 0 ≡ slice_index text i =
      get_or-take (j - i) (drop i text) 0 0 (omega arith) ∙ get_or-drop i text 0 0 ∙ ap (slice_index text) here in
      let start = IsCharBoundary-start span part in
      (omega arith, λ _ high. subst (λ b. 192 ≤ b) first (start.1 some (subst (λ b. 128 ≤ b) (sym first) high)))

  ends : j ≤ length text → IsCharBoundary text j
  ends within =
      let rest = IsUtf8-drop text i whole (begins (omega arith)) in
      let fits : j - i ≤ length (drop i text) = omega (arith, length-drop i text) in
      let place : i + (j - i) ≡ j = omega arith in
      subst (IsCharBoundary text) place (IsCharBoundary-from_rest text i (j - i) (omega arith) (IsCharBoundary-from_take (drop i text) (j - i) rest fits part))

  -- so a match may start at both its ends
  pub part-permitted : (is_permitted true text i ≡ true) × (is_permitted true text j ≡ true)
  part-permitted = (
    by_test (nat_lt i (length text))
        (λ e. permitted-boundary text i (begins (grind (arith, nat_tests))))
        (λ e. permitted-past text i (grind (arith, nat_tests))),
    by_test (nat_le j (length text))
        (λ e. permitted-boundary text j (ends (grind (arith, nat_tests))))
        (λ e. permitted-past text j (grind (arith, nat_tests))),
  )
