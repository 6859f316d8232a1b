-- The test whether two expressions are one holds exactly where they are.
use Rattle.std.specs.Prelude.{◌≡◌, ℕ, Bool, true, ◌&&◌, ◌==◌, nat_eq, Option, Some, None, bytes_eq, refl}
use Rattle.std.specs.Bool.{beq, Decides, one_answer}
use Rattle.std.specs.Cmp.{IsPartialEquivalence, IsEquivalence, partial_equiv_from_equiv, unsigned_Decides, booleans_Decides}
use Rattle.std.specs.Cmp.Lexicographic.{pointwise_decides, bytes_decides}
use Rattle.std.specs.Option.{option_eq}
use Rattle.std.proofs.Common.{ap, sym, ◌∙◌, true≢false}
use Rattle.std.proofs.lemmas.Bool.{and_parts, and_from}
use Rattle.std.proofs.lemmas.Option.{same_Some}
use Rattle.rx_model.specs.Text.{Class, scalar_ranges, byte_ranges}
use Rattle.rx_model.specs.Look.{Look, look_number, look_of, look-back}
use Rattle.rx_model.specs.Expression.{Expression, Expressions, empty, literal, class, look, repetition, capture, concat, alternation, nil, cons}
use Rattle.rx_search.specs.Look.{is_same_kind}
use Rattle.rx_hir.specs.Same.{same_range, same_class, same_count, same_name, is_same, are_same}

same-range : (q r : ℕ × ℕ) → Decides (same_range q r) (q ≡ r)
same-range q r = (
  λ e.
      let both = and_parts (nat_eq q.0 r.0) (nat_eq q.1 r.1) e in
      let low = (unsigned_Decides q.0 r.0).0 both.0 in
      let high = (unsigned_Decides q.1 r.1).0 both.1 in
      λ i. (low i, high i),
  λ e. and_from (nat_eq q.0 r.0) (nat_eq q.1 r.1) ((unsigned_Decides q.0 r.0).1 (ap (λ (p : ℕ × ℕ). p.0) e))
      ((unsigned_Decides q.1 r.1).1 (ap (λ (p : ℕ × ℕ). p.1) e)),
)

same-class-to : (a b : Class) → same_class a b ≡ true → a ≡ b
same-class-to (scalar_ranges qs) (scalar_ranges rs) e = ap scalar_ranges ((pointwise_decides same-range qs rs).0 e)
same-class-to (byte_ranges qs) (byte_ranges rs) e = ap byte_ranges ((pointwise_decides same-range qs rs).0 e)
same-class-to (scalar_ranges qs) (byte_ranges rs) e = absurd (true≢false (sym e))
same-class-to (byte_ranges qs) (scalar_ranges rs) e = absurd (true≢false (sym e))

same-class-itself : (a : Class) → same_class a a ≡ true
same-class-itself (scalar_ranges qs) = (pointwise_decides same-range qs qs).1 refl
same-class-itself (byte_ranges qs) = (pointwise_decides same-range qs qs).1 refl

same-option-to : {A : Type 0} (E : A → A → Bool) → ((x y : A) → Decides (E x y) (x ≡ y)) → (a b : Option A) → option_eq E a b ≡ true → a ≡ b
same-option-to E each None None e = refl
same-option-to E each None (Some y) e = absurd (true≢false (sym e))
same-option-to E each (Some x) None e = absurd (true≢false (sym e))
same-option-to E each (Some x) (Some y) e = ap Some ((each x y).0 e)

same-option-itself : {A : Type 0} (E : A → A → Bool) → ((x y : A) → Decides (E x y) (x ≡ y)) → (a : Option A) → option_eq E a a ≡ true
same-option-itself E each None = refl
same-option-itself E each (Some x) = (each x x).1 refl

pub same-kind : (a b : Look) → is_same_kind a b ≡ true → a ≡ b
same-kind a b e =
    same_Some a b (sym (look-back a) ∙ ap look_of ((unsigned_Decides (look_number a) (look_number b)).0 e) ∙ look-back b)

mutual
  unfolding is_same

  same-to : (g h : Expression) → is_same g h ≡ true → g ≡ h
  same-to empty empty e = refl
  same-to (literal a) (literal b) e = ap literal ((bytes_decides a b).0 e)
  same-to (class a) (class b) e = ap class (same-class-to a b e)
  same-to (look a) (look b) e = ap look (same-kind a b e)
  same-to (repetition least greatest greedy a) (repetition min max is_greedy b) e =
      let both = and_parts ((least == min) && (same_count greatest max && beq greedy is_greedy)) (is_same a b) e in
      let counts = and_parts (least == min) (same_count greatest max && beq greedy is_greedy) both.0 in
      let more = and_parts (same_count greatest max) (beq greedy is_greedy) counts.1 in
      let low = (unsigned_Decides least min).0 counts.0 in
      let high = same-option-to nat_eq unsigned_Decides greatest max more.0 in
      let greed = (booleans_Decides greedy is_greedy).0 more.1 in
      let body = same-to a b both.1 in
      λ i. repetition (low i) (high i) (greed i) (body i)
  same-to (capture group name a) (capture number called b) e =
      let both = and_parts ((group == number) && same_name name called) (is_same a b) e in
      let which = and_parts (group == number) (same_name name called) both.0 in
      let at = (unsigned_Decides group number).0 which.0 in
      let name_is = same-option-to bytes_eq bytes_decides name called which.1 in
      let body = same-to a b both.1 in
      λ i. capture (at i) (name_is i) (body i)
  same-to (concat gs) (concat hs) e = ap concat (sames-to gs hs e)
  same-to (alternation gs) (alternation hs) e = ap alternation (sames-to gs hs e)
  same-to g h e = absurd (true≢false (sym e))

  sames-to : (gs hs : Expressions) → are_same gs hs ≡ true → gs ≡ hs
  sames-to nil nil e = refl
  sames-to (cons a gs) (cons b hs) e =
      let both = and_parts (is_same a b) (are_same gs hs) e in
      let first = same-to a b both.0 in
      let rest = sames-to gs hs both.1 in
      λ i. cons (first i) (rest i)
  sames-to gs hs e = absurd (true≢false (sym e))

mutual
  unfolding is_same

  same-itself : (h : Expression) → is_same h h ≡ true
  same-itself empty = refl
  same-itself (literal a) = (bytes_decides a a).1 refl
  same-itself (class a) = same-class-itself a
  same-itself (look a) = (unsigned_Decides (look_number a) (look_number a)).1 refl
  same-itself (repetition least greatest greedy a) =
      and_from ((least == least) && (same_count greatest greatest && beq greedy greedy)) (is_same a a)
      (and_from (least == least) (same_count greatest greatest && beq greedy greedy) ((unsigned_Decides least least).1 refl)
      (and_from (same_count greatest greatest) (beq greedy greedy) (same-option-itself nat_eq unsigned_Decides greatest)
      ((booleans_Decides greedy greedy).1 refl)))
      (same-itself a)
  same-itself (capture group name a) =
      and_from ((group == group) && same_name name name) (is_same a a)
      (and_from (group == group) (same_name name name) ((unsigned_Decides group group).1 refl) (same-option-itself bytes_eq bytes_decides name))
      (same-itself a)
  same-itself (concat gs) = sames-itself gs
  same-itself (alternation gs) = sames-itself gs

  sames-itself : (gs : Expressions) → are_same gs gs ≡ true
  sames-itself nil = refl
  sames-itself (cons a gs) = and_from (is_same a a) (are_same gs gs) (same-itself a) (sames-itself gs)

-- the test holds exactly where the expressions are one
pub same-decides : (g h : Expression) → Decides (is_same g h) (g ≡ h)
same-decides g h = (same-to g h, λ e. ap (is_same g) (sym e) ∙ same-itself g)

pub same-equivalence : IsEquivalence is_same
same-equivalence = record {
  refl = same-itself;
  symm = λ g h. one_answer (is_same g h) (is_same h g) (same-decides g h) ((λ e. sym (same-to h g e)), (λ e. (same-decides h g).1 (sym e)));
  congr = λ g h k e. ap (λ x. is_same x k) (same-to g h e);
}

pub same-partial-equivalence : IsPartialEquivalence is_same
same-partial-equivalence = partial_equiv_from_equiv same-equivalence
