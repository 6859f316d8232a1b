-- Matches that are UTF-8 and not empty start where a match may start.
use Rattle.std.proofs.Common.{◌≡◌, ℕ, zero, suc, ◌+◌, ◌-◌, ◌<◌, ◌≤◌, true, false, Bool, List, [], ◌∷◌, length, take, drop, slice_index, refl, ap, ◌∙◌, arith, length-take, length-drop}
use Rattle.std.specs.Prelude.{nat_lt, nat_le, ◌&&◌, IsUtf8}
use Rattle.std.proofs.lemmas.List.{get_or-drop}
use Rattle.std.proofs.lemmas.Str.{IsCharBoundary-start}
use Rattle.std.proofs.lemmas.Bool.{and_parts}
use Rattle.std.proofs.lemmas.Bool.Decides.{nat_tests}
use Rattle.rx_model.specs.Expression.{Expression}
use Rattle.rx_model.specs.Meaning.{Means}
use Rattle.rx_model.specs.Search.{Patterns, is_permitted}
use Rattle.rx_model.proofs.lemmas.runs.RunLemmas.{by_test}
use Rattle.rx_model.proofs.lemmas.meaning.EmptyLemmas.{means-rises}
use Rattle.rx_hir.specs.Properties.{is_utf8}
use Rattle.rx_hir.proofs.Utf8Lemmas.{part, means-utf8}
use Rattle.rx_order.specs.Order.{IsThenLiteral, IsThen, Begins, StartsArePermitted}
use Rattle.rx_order.specs.Tests.{is_not_empty}
use Rattle.rx_order.proofs.lemmas.Separators.{each-of, not-empty}
use Rattle.std.specs.List.{list_all}

take-head : (xs : List ℕ) (n : ℕ) → 1 ≤ n → slice_index (take n xs) 0 ≡ slice_index xs 0
take-head [] zero le = refl
take-head [] (suc n) le = refl
take-head (x ∷ xs) zero le = absurd (omega arith)
take-head (x ∷ xs) (suc n) le = refl

-- the first byte of a part that is UTF-8
first-byte : (text : List ℕ) (i j : ℕ) → i < j → i < length text → IsUtf8 (part text i j) → 128 ≤ slice_index text i → 192 ≤ slice_index text i
first-byte text i j lt fits utf8 big =
    let head : slice_index (part text i j) 0 ≡ slice_index text (i + 0) = take-head (drop i text) (j - i) (omega arith) ∙ get_or-drop i text 0 0 in
    let place : i + 0 ≡ i = omega arith in
    let same : slice_index (part text i j) 0 ≡ slice_index text i = head ∙ ap (slice_index text) place in
    let long = length-take (j - i) (drop i text) in
    let rest = length-drop i text in
    let up = (IsCharBoundary-start (part text i j) utf8).1 (omega arith) (omega arith) in
    omega arith

permitted-byte : (u : Bool) (text : List ℕ) (i : ℕ) → (i < length text → 128 ≤ slice_index text i → 192 ≤ slice_index text i) → is_permitted u text i ≡ true
permitted-byte u text i each =
    by_test (u && nat_lt i (length text))
    (λ e.
    let lt : i < length text = (let x = (and_parts u (nat_lt i (length text)) e).1 in grind (arith, nat_tests)) in
    rw e (by_test (nat_le 0x80 (slice_index text i))
    (λ f. let up = each lt (grind (arith, nat_tests)) in let g : nat_le (slice_index text i) 0xBF ≡ false = grind (arith, nat_tests) in rw (f, g) refl)
    (λ f. rw f refl)))
    (λ e. rw e refl)

pub utf8-permitted : (h : Expression) → is_utf8 h ≡ true → ((t : ℕ) (text : List ℕ) (i j : ℕ) → Means t text h i j → i < j)
    → (r : Patterns) (text : List ℕ) (a b : ℕ) → StartsArePermitted r text a b h
utf8-permitted h utf8 some r text a b i low m =
    permitted-byte r.utf8_empty text i
    (λ lt big. first-byte text i m.0 (some r.terminator text i m.0 m.2) lt (means-utf8 r.terminator text h utf8 i m.0 m.2) big)

pub suffix-some : (h x : Expression) (s : List ℕ) → IsThenLiteral h x s → is_not_empty s ≡ true → (t : ℕ) (text : List ℕ) (i j : ℕ) → Means t text h i j → i < j
suffix-some h x s is some t text i j m =
    let parts = (is t text i j).0 m in
    let up = means-rises t text x i parts.0 parts.1 in
    let long = not-empty s some in
    let ends = parts.3 in
    omega arith

pub inner-some : (h p q : Expression) (ls : List (List ℕ)) → IsThen h p q → Begins ls q → list_all is_not_empty ls ≡ true → (t : ℕ) (text : List ℕ) (i j : ℕ)
    → Means t text h i j → i < j
inner-some h p q ls is begins some t text i j m =
    let parts = (is t text i j).0 m in
    let up = means-rises t text p i parts.0 parts.1 in
    let lit = begins t text parts.0 j parts.2 in
    let long = not-empty lit.0 (each-of is_not_empty ls lit.0 some lit.1) in
    let ends = lit.3 in
    omega arith
