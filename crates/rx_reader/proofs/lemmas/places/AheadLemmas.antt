-- On the characters ahead of a place.
use Rattle.std.proofs.Common.{◌≡◌, ℕ, zero, suc, ◌+◌, ◌-◌, ◌<◌, ◌≤◌, true, false, ◌&&◌, List, [], ◌∷◌, length, drop, Option, Some, refl, ◌∙◌, ap, sym, arith}
use Rattle.std.proofs.lemmas.Bool.Decides.{nat_tests}
use Rattle.std.proofs.lemmas.List.{drop-drop, length-drop}
use Rattle.std.specs.Option.{option_eq}
use Rattle.rx_reader.specs.Reading.{Place, past, begins}
use Rattle.rx_reader.specs.Ahead.{past_n, skip, skipped_len}
use Rattle.rx_reader.specs.declared.flags.Flags.{Flags}
use Rattle.std.specs.Prelude.{nat_eq, slice_get, codes}
use Rattle.std.specs.List.{starts_with}

pub by_zero : {P : Type 0} (n : ℕ) → (n ≡ 0 → P) → (0 < n → P) → P
by_zero zero none some = none refl
by_zero (suc n) none some = some (omega arith)

pub past_none : (n : ℕ) (p : Place) → n ≡ 0 → past_n n p ≡ p
unfolding past_n
past_none n p is = ap (λ (k : ℕ). past_n k p) is

pub past_more : (n k : ℕ) (p q : Place) → n ≡ suc k → q ≡ past p → past_n n p ≡ past_n k q
unfolding past_n
past_more n k p q is next = ap (λ (m : ℕ). past_n m p) is ∙ ap (past_n k) (sym next)

pub past_one : (p : Place) → past_n 1 p ≡ past p
unfolding past_n
past_one p = refl

pub text_past : (n : ℕ) (p : Place) → (past_n n p).text ≡ drop n p.text
unfolding past_n
text_past zero p = refl
text_past (suc n) p =
    let one : 1 + n ≡ suc n = omega arith in
    text_past n (past p) ∙ drop-drop n 1 p.text ∙ ap (λ (k : ℕ). drop k p.text) one

next_is : (cs : List ℕ) (n c : ℕ) → option_eq nat_eq (slice_get cs n) (Some c) ≡ starts_with nat_eq (drop n cs) (c ∷ [])
next_is [] zero c = refl
next_is [] (suc n) c = refl
next_is (d ∷ cs) zero c = turned
  where
    turned : nat_eq d c ≡ (nat_eq c d && true)
    turned = grind (arith, nat_tests)
next_is (d ∷ cs) (suc n) c = next_is cs n c

-- whether a `?` stands after what is skipped
pub lazy_at : (p : Place) (flags : Flags) (n : ℕ) (next : Option ℕ) → n ≡ skipped_len flags p.text → next ≡ slice_get p.text n
    → option_eq nat_eq next (Some 63) ≡ begins "?" (skip flags p)
lazy_at p flags n next count is =
    ap (λ (o : Option ℕ). option_eq nat_eq o (Some 63)) is ∙ next_is p.text n 63 ∙ ap (λ (xs : List ℕ). starts_with nat_eq xs (codes "?")) (sym (text_past n p))
    ∙ ap (λ (k : ℕ). begins "?" (past_n k p)) count

-- past a character there is no more to read than before
pub past_shorter : (p q : Place) → q ≡ past p → length q.text ≤ length p.text
past_shorter p q next =
    let size : length q.text ≡ length p.text - 1 = ap (λ (r : Place). length r.text) next ∙ length-drop 1 p.text in
    omega (arith, size)

pub skip_none : (flags : Flags) (p : Place) → flags.ignore_whitespace ≡ false → skip flags p ≡ p
unfolding past_n
skip_none flags p keeps = rw keeps refl
