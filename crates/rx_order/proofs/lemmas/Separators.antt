-- What the class of a separator means: a block of members; and what isn't consuming means the empty string.
use Rattle.std.proofs.Common.{◌≡◌, ℕ, zero, suc, ◌+◌, ◌<◌, ◌≤◌, Bool, true, List, [], ◌∷◌, length, Option, Some, None, refl, sym, ap, subst, ◌∙◌, arith, get_or, true≢false}
use Rattle.std.specs.Prelude.{nat_le, Contains}
use Rattle.std.specs.List.{list_all}
use Rattle.std.proofs.lemmas.Bool.{and_parts}
use Rattle.std.proofs.lemmas.Option.{none-some, same_Some}
use Rattle.std.proofs.lemmas.Bool.Decides.{nat_tests}
use Rattle.rx_model.specs.Text.{Class}
use Rattle.rx_model.specs.Expression.{Expression, empty, literal, class, look, repetition, capture, concat, alternation}
use Rattle.rx_model.specs.Meaning.{Pieces, Means}
use Rattle.rx_model.proofs.lemmas.runs.RunLemmas.{by_test}
use Rattle.rx_model.proofs.lemmas.meaning.EmptyLemmas.{means-rises}
use Rattle.rx_hir.specs.Length.{maximum_len}
use Rattle.rx_hir.specs.Normal.{is_zero}
use Rattle.rx_hir.proofs.SpanLemmas.{means-short}
use Rattle.rx_hir.proofs.LookLemmas.{zero-len}
use Rattle.rx_order.specs.Tests.{plain_class, separator_class, is_not_empty, passes}
use Rattle.rx_order.proofs.lemmas.Apart.{Row, row-pieces, class-in, class-long}

pub passed : (o : Option Class) (test : Class → Bool) → passes o test ≡ true → (k : Class) × (o ≡ Some k) × (test k ≡ true)
passed None test e = absurd (true≢false (sym e))
passed (Some k) test e = (k, refl, e)

-- what holds of each of a list holds of a member
pub each-of : (test : List ℕ → Bool) (ls : List (List ℕ)) (l : List ℕ) → list_all test ls ≡ true → Contains ls l → test l ≡ true
each-of test ls l all m = at_index ls all m.0 m.1 m.2
  where
    at_index : (ls : List (List ℕ)) → list_all test ls ≡ true → (k : ℕ) → k < length ls → get_or ls k l ≡ l → test l ≡ true
    at_index [] all k lt e = absurd (omega arith)
    at_index (x ∷ ls) all zero lt e = ap test (sym e) ∙ (and_parts (test x) (list_all test ls) all).0
    at_index (x ∷ ls) all (suc k) lt e = at_index ls (and_parts (test x) (list_all test ls) all).1 k (omega arith) e

pub not-empty : (l : List ℕ) → is_not_empty l ≡ true → 1 ≤ length l
not-empty [] e = absurd (true≢false (sym e))
not-empty (b ∷ l) e = omega arith

module _ (t : ℕ) (text : List ℕ) where
  -- a block of members
  abbrev Block : Class → ℕ → ℕ → Type 0
  Block k i j = (i < j) × Row text k true i j

  plain-in : (h : Expression) (k : Class) → plain_class h ≡ Some k → (i j : ℕ) → Means t text h i j → Block k i j
  unfolding Means plain_class
  plain-in (class members) k e i j m =
      let same = same_Some members k e in
      let long = class-long text members i m.0 m.1 in
      let ends = m.2 in
      (omega arith, subst (λ d. Row text k true i d) m.2 (subst (λ q. Row text q true i (i + m.0)) same (class-in text members i m.0 m.1)))
  plain-in (capture group name sub) k e i j m = plain-in sub k e i j m
  plain-in empty k e i j m = absurd (none-some k e)
  plain-in (literal bytes) k e i j m = absurd (none-some k e)
  plain-in (look kind) k e i j m = absurd (none-some k e)
  plain-in (repetition least greatest greedy sub) k e i j m = absurd (none-some k e)
  plain-in (concat subs) k e i j m = absurd (none-some k e)
  plain-in (alternation subs) k e i j m = absurd (none-some k e)

  pub pieces-rise : (R : ℕ → ℕ → Type 0) → ((i j : ℕ) → R i j → i < j) → (count i j : ℕ) → Pieces R count i j → i + count ≤ j
  pieces-rise R each zero i j e = omega arith
  pieces-rise R each (suc count) i j h =
      let now = each i h.0 h.1 in
      let later = pieces-rise R each count h.0 j h.2 in
      omega arith

  pub separator-in : (h : Expression) (k : Class) → separator_class h ≡ Some k → (i j : ℕ) → Means t text h i j → Block k i j
  unfolding Means separator_class
  separator-in (class members) k e i j m =
      let same = same_Some members k e in
      let long = class-long text members i m.0 m.1 in
      let ends = m.2 in
      (omega arith, subst (λ d. Row text k true i d) m.2 (subst (λ q. Row text q true i (i + m.0)) same (class-in text members i m.0 m.1)))
  separator-in (repetition least greatest greedy sub) k e i j m =
      by_test (nat_le 1 least)
      (λ some.
      let plain : plain_class sub ≡ Some k = rw some at e in
      let long = pieces-rise (Means t text sub) (λ x y piece. (plain-in sub k plain x y piece).0) m.0 i j m.2 in
      let enough = m.1.0 in
      let one : 1 ≤ least = grind (arith, nat_tests) in
      (omega arith, row-pieces text k true (Means t text sub) (λ x y piece. (plain-in sub k plain x y piece).1) m.0 i j m.2))
      (λ none. absurd (none-some k (rw none at e)))
  separator-in (capture group name sub) k e i j m = separator-in sub k e i j m
  separator-in empty k e i j m = absurd (none-some k e)
  separator-in (literal bytes) k e i j m = absurd (none-some k e)
  separator-in (look kind) k e i j m = absurd (none-some k e)
  separator-in (concat subs) k e i j m = absurd (none-some k e)
  separator-in (alternation subs) k e i j m = absurd (none-some k e)

  -- what isn't consuming means the empty string
  pub still : (h : Expression) (i j : ℕ) → is_zero (maximum_len h) ≡ true → Means t text h i j → i ≡ j
  still h i j e m =
      let short = means-short t text h 0 (zero-len (maximum_len h) e) i j m in
      let up = means-rises t text h i j m in
      omega arith
