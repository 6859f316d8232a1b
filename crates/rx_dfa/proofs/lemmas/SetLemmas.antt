-- Sets of patterns.
use Rattle.std.proofs.Common.{◌≡◌, ◌≢◌, ℕ, zero, suc, ◌+◌, ◌≤◌, ◌<◌, List, [], ◌∷◌, length, set, refl, sym, ◌∙◌, ap, subst, inl, inr, arith, true≢false}
use Rattle.std.specs.Prelude.{Bool, true, false, cond, ◌==◌, Some, None, slice_get, nat_lt}
use Rattle.std.proofs.lemmas.Bool.Decides.{nat_tests, Decides-eqb}
use Rattle.std.proofs.lemmas.List.{get_or-set_same, get_or-set_other, length-set}
use Rattle.std.proofs.lemmas.List.Elements.{All-get_or}
use Rattle.std.proofs.lemmas.List.Sums.{count_by-le-length, sum_by-cons}
use Rattle.std.proofs.lemmas.Option.{get_or_from_slice_get, slice_get_within, slice_get_cases}
use Rattle.rx_model.proofs.lemmas.runs.RunLemmas.{by_test}
use Rattle.rx_model.proofs.lemmas.runs.FirstLemmas.{none-is-some, some-is}
use Rattle.rx_model.specs.Search.{Patterns}
use Rattle.rx_search.specs.Input.{InputValue}
use Rattle.rx_search.specs.PatternSet.{has, count_of}
use Rattle.rx_search.specs.Sets.{KeepsMembers, GainsMatching}
use Rattle.rx_nfa.specs.Ordered.{AreBelow, has as stands_in}
use Rattle.rx_dfa.specs.Overlapping.{AddsTold}

pub keeps-same : (old : List Bool) → KeepsMembers old old
keeps-same old = record { room = refl; kept = λ p e. e }

pub keeps-twice : (a b c : List Bool) → KeepsMembers a b → KeepsMembers b c → KeepsMembers a c
keeps-twice a b c one two = record { room = two.room ∙ one.room; kept = λ p e. two.kept p (one.kept p e) }

pub gains-same : (r : Patterns) (v : InputValue) (old : List Bool) → GainsMatching r v old old
gains-same r v old p missing there = absurd (true≢false (sym there ∙ missing))

-- One pattern is put into a set.
module _ (old : List Bool) (p : ℕ) where
  pub set-there : p < length old → has (set old p true) p ≡ true
  set-there lt = get_or-set_same old p true false lt

  pub set-keeps : p < length old → KeepsMembers old (set old p true)
  set-keeps lt = record {
    room = length-set old p true;
    kept = λ q there.
        by_test (q == p)
        (λ e. let same : q ≡ p = (Decides-eqb q p).0 e in ap (has (set old p true)) same ∙ set-there lt)
        (λ e. get_or-set_other old p q true false (apart q e) ∙ there);
  }
    where
      apart : (q : ℕ) → (q == p) ≡ false → q ≢ p
      apart q e same = true≢false (sym ((Decides-eqb q p).1 same) ∙ e)

  pub set-gains : (q : ℕ) → has old q ≡ false → has (set old p true) q ≡ true → q ≡ p
  set-gains q missing there =
      by_test (q == p)
      (λ e. (Decides-eqb q p).0 e)
      (λ e.
      let differ : q ≢ p = λ same. true≢false (sym ((Decides-eqb q p).1 same) ∙ e) in
      absurd (true≢false (sym there ∙ get_or-set_other old p q true false differ ∙ missing)))

-- a set with as many patterns as it has room for has each of them
pub full-has : (set : List Bool) → count_of set ≡ length set → (p : ℕ) → p < length set → has set p ≡ true
full-has [] full p lt = absurd (omega arith)
full-has (true ∷ rest) full zero lt = refl
full-has (true ∷ rest) full (suc p) lt =
    let count = sum_by-cons (λ b. cond b 1 0) true rest in
    full-has rest (omega arith) p (omega arith)
full-has (false ∷ rest) full p lt =
    let count = sum_by-cons (λ b. cond b 1 0) false rest in
    let few = count_by-le-length (λ b. b) rest in
    absurd (omega arith)

-- Patterns that are told.

-- what stands at a place of a list stands in it, and the other way round
pub get-stands : (xs : List ℕ) (k p : ℕ) → slice_get xs k ≡ Some p → stands_in xs p ≡ true
get-stands [] k p is = cc
get-stands (x ∷ xs) zero p is = let same : (x == p) ≡ true = (Decides-eqb x p).1 (some-is is) in rw same refl
get-stands (x ∷ xs) (suc k) p is =
    by_test (x == p)
    (λ e. rw e refl)
    (λ e. rw e (get-stands xs k p is))

pub stands-get : (xs : List ℕ) (p : ℕ) → stands_in xs p ≡ true → (k : ℕ) × (k < length xs) × (slice_get xs k ≡ Some p)
stands-get [] p there = absurd (true≢false (sym there))
stands-get (x ∷ xs) p there =
    by_test (x == p)
    (λ e. (0, omega arith, ap Some ((Decides-eqb x p).0 e)))
    (λ e. let later = stands-get xs p (rw e at there) in let lt = later.1 in (suc later.0, omega arith, later.2))

pub get-below : (n : ℕ) (xs : List ℕ) (k p : ℕ) → AreBelow n xs → slice_get xs k ≡ Some p → p < n
get-below n xs k p below is =
    subst (λ q. q < n) (get_or_from_slice_get xs k p 0 is) (All-get_or (λ q. q < n) xs k 0 (slice_get_within xs k p is) below)

get-past : (xs : List ℕ) (k : ℕ) → slice_get xs k ≡ None → length xs ≤ k
get-past xs k none =
    elim (slice_get_cases xs k).1 [
      | inl there ↦ none-is-some (sym none ∙ there.2)
      | inr past ↦ past.0
    ]

-- The first n of these patterns were added, and no others.
pub record AddsFirst (patterns : List ℕ) (n : ℕ) (old new : List Bool) : Type 0 where
  pub added : (k p : ℕ) → k < n → slice_get patterns k ≡ Some p → has new p ≡ true
  pub gained : (p : ℕ) → has old p ≡ false → has new p ≡ true → stands_in patterns p ≡ true

pub first-none : (patterns : List ℕ) (old : List Bool) → AddsFirst patterns 0 old old
first-none patterns old = record {
  added = λ k p lt. absurd (omega arith);
  gained = λ p missing there. absurd (true≢false (sym there ∙ missing));
}

pub first-more : (patterns : List ℕ) (n p : ℕ) (old here new : List Bool) → slice_get patterns n ≡ Some p → p < length here → new ≡ set here p true
    → AddsFirst patterns n old here → AddsFirst patterns (n + 1) old new
first-more patterns n p old here new is lt same first = record {
  added = λ k q le at.
      ap (λ s. has s q) same
      ∙ by_test (nat_lt k n)
      (λ e. (set-keeps here p lt).kept q (first.added k q (grind (arith, nat_tests)) at))
      (λ e.
      let last : n ≡ k = grind (arith, nat_tests) in
      let own : q ≡ p = some-is (sym at ∙ ap (slice_get patterns) (sym last) ∙ is) in
      ap (has (set here p true)) own ∙ set-there here p lt);
  gained = λ q missing there.
      by_test (has here q)
      (λ e. first.gained q missing e)
      (λ e.
      let own : q ≡ p = set-gains here p q e (ap (λ s. has s q) (sym same) ∙ there) in
      get-stands patterns n q (is ∙ ap Some (sym own)));
}

pub first-all : (may : Bool) (patterns : List ℕ) (n : ℕ) (old new : List Bool) → may ≡ true → KeepsMembers old new → length patterns ≤ n
    → AddsFirst patterns n old new → AddsTold may patterns old new
first-all may patterns n old new on kept few first = record {
  kept = kept;
  added = λ _ p there. let x = stands-get patterns p there in let lt = x.1 in first.added x.0 p (omega arith) x.2;
  gained = λ p missing there. (on, first.gained p missing there);
}

pub first-past : (may : Bool) (patterns : List ℕ) (n : ℕ) (old new : List Bool) → may ≡ true → KeepsMembers old new → slice_get patterns n ≡ None
    → AddsFirst patterns n old new → AddsTold may patterns old new
first-past may patterns n old new on kept none first = first-all may patterns n old new on kept (get-past patterns n none) first

-- where nothing is told, the set stays
pub adds-nothing : (may : Bool) (set : List Bool) → AddsTold may [] set set
adds-nothing may set = record {
  kept = keeps-same set;
  added = λ on p there. absurd (true≢false (sym there));
  gained = λ p missing there. absurd (true≢false (sym there ∙ missing));
}
