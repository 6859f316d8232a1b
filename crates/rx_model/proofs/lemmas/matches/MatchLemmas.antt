-- The next match is at the least start, of the least pattern there.
use Rattle.std.proofs.Common.{◌≡◌, ℕ, zero, suc, ◌+◌, ◌-◌, ◌≤◌, ◌<◌, Bool, true, false, List, [], ◌∷◌, Option, Some, None, slice_get, refl, sym, ◌∙◌, ap, subst, inl, inr, arith}
use Rattle.std.specs.Prelude.{option_map, if◌then◌else◌, nat_lt, nat_le, IsTrue}
use Rattle.std.proofs.lemmas.Bool.Decides.{nat_tests}
use Rattle.rx_model.specs.Expression.{Expression}
use Rattle.rx_model.specs.Runs.{Trace}
use Rattle.rx_model.specs.Search.{Patterns, first, is_permitted, Anchor, free, anchored, anchored_to, is_anchored, first_of_patterns, first_of_pattern, starting_at, Match, first_start, starts, next_match, is_empty_at, next_after, matches_from}
use Rattle.rx_model.specs.Matches.{IsStart, IsSought, MayStart, HasFirstRun, IsNextMatch}
use Rattle.rx_model.proofs.lemmas.runs.RunLemmas.{by_test, or-none, map-none}
use Rattle.rx_model.proofs.lemmas.runs.FirstLemmas.{none-is-some, some-is, tells}
use Rattle.rx_model.proofs.lemmas.graphs.GraphLemmas.{first-pattern, first-end}
use Rattle.rx_model.proofs.lemmas.runs.OptionLemmas.{or-cases}

-- What a search answers depends only on what a match from each start tells.

pub first_start-alike : (permitted : ℕ → Bool) (from from' : ℕ → Option Trace) → ((i : ℕ) → from i ≡ from' i) → (n i : ℕ)
    → first_start permitted from n i ≡ first_start permitted from' n i
unfolding first_start
first_start-alike permitted from from' alike zero i = refl
first_start-alike permitted from from' alike (suc n) i =
    rw (alike i, first_start-alike permitted from from' alike n (i + 1)) refl

pub next_after-alike : (search search' : ℕ → Option Match) → ((i : ℕ) → search i ≡ search' i) → (i : ℕ) → next_after search i ≡ next_after search' i
next_after-alike search search' alike i = λ k. if is_empty_at i (alike i k) then alike (i + 1) k else alike i k

pub matches_from-alike : (search search' : ℕ → Option Match) → ((i : ℕ) → search i ≡ search' i) → (n : ℕ) (m : Option Match)
    → matches_from search n m ≡ matches_from search' n m
unfolding matches_from
matches_from-alike search search' alike zero m = refl
matches_from-alike search search' alike (suc n) None = refl
matches_from-alike search search' alike (suc n) (Some m) =
    ap (λ ms. m ∷ ms)
    (matches_from-alike search search' alike n (next_after search m.trace.end)
    ∙ ap (matches_from search' n) (next_after-alike search search' alike m.trace.end))

-- the first start from which something is told

abbrev started : ℕ → Trace → Match
started i t = record { start = i; trace = t }

abbrev at_start : (ℕ → Bool) → (ℕ → Option Trace) → ℕ → Option Match
at_start permitted from i = if permitted i then option_map (started i) (from i) else None

at_start-some : (permitted : ℕ → Bool) (from : ℕ → Option Trace) (i : ℕ) (m : Match) → at_start permitted from i ≡ Some m
    → (m.start ≡ i) × IsTrue (permitted i) × (from i ≡ Some m.trace)
at_start-some permitted from i m h = cases (permitted i) (from i) refl refl h
  where
    cases : (p : Bool) (o : Option Trace) → permitted i ≡ p → from i ≡ o → (if p then option_map (started i) o else None) ≡ Some m
        → (m.start ≡ i) × IsTrue (permitted i) × (from i ≡ Some m.trace)
    cases true (Some t) p o e = let same = some-is e in (ap (λ (x : Match). x.start) (sym same), p, o ∙ ap (λ (x : Match). Some x.trace) same)
    cases true None p o e = none-is-some e
    cases false o p e' e = none-is-some e

at_start-none : (permitted : ℕ → Bool) (from : ℕ → Option Trace) (i : ℕ) → at_start permitted from i ≡ None → IsTrue (permitted i) → from i ≡ None
at_start-none permitted from i h p = map-none (started i) (from i) (rw p at h)

-- what is known of the first of the n places from i on
pub record IsFirstStart (permitted : ℕ → Bool) (from : ℕ → Option Trace) (n i : ℕ) (m : Match) : Type 0 where
  pub within : (i ≤ m.start) × (m.start < i + n)
  pub allowed : IsTrue (permitted m.start)
  pub told : from m.start ≡ Some m.trace
  pub none_before : (j : ℕ) → i ≤ j → j < m.start → IsTrue (permitted j) → from j ≡ None

pub first_start-some : (permitted : ℕ → Bool) (from : ℕ → Option Trace) (n i : ℕ) (m : Match) → first_start permitted from n i ≡ Some m
    → IsFirstStart permitted from n i m
unfolding first_start
first_start-some permitted from zero i m h = none-is-some h
first_start-some permitted from (suc n) i m h =
    elim (or-cases (at_start permitted from i) (first_start permitted from n (i + 1)) m h) [
      | inl here ↦
          let x = at_start-some permitted from i m here in
          let e = x.0 in
          record {
            within = (omega arith, omega arith);
            allowed = subst (λ j. IsTrue (permitted j)) (sym e) x.1;
            told = ap from e ∙ x.2;
            none_before = λ j low high p. absurd (omega arith);
          }
      | inr later ↦
          let x = first_start-some permitted from n (i + 1) m later.1 in
          let low = x.within.0 in
          let high = x.within.1 in
          record {
            within = (omega arith, omega arith);
            allowed = x.allowed;
            told = x.told;
            none_before = λ j low' high' p.
                by_test (nat_le (i + 1) j)
                (λ le. x.none_before j (grind (arith, nat_tests)) high' p)
                (λ gt. let e : j ≡ i = grind (arith, nat_tests) in
                ap from e ∙ at_start-none permitted from i later.0 (subst (λ k. IsTrue (permitted k)) e p));
          }
    ]

pub first_start-none : (permitted : ℕ → Bool) (from : ℕ → Option Trace) (n i : ℕ) → first_start permitted from n i ≡ None → (j : ℕ) → i ≤ j → j < i + n
    → IsTrue (permitted j) → from j ≡ None
unfolding first_start
first_start-none permitted from zero i h j low high p = absurd (omega arith)
first_start-none permitted from (suc n) i h j low high p =
    let both = or-none (at_start permitted from i) (first_start permitted from n (i + 1)) h in
    by_test (nat_le (i + 1) j)
    (λ le. first_start-none permitted from n (i + 1) both.1 j (grind (arith, nat_tests)) (omega arith) p)
    (λ gt. let e : j ≡ i = grind (arith, nat_tests) in
    ap from e ∙ at_start-none permitted from i both.0 (subst (λ k. IsTrue (permitted k)) e p))

-- a start from which something is told is the first of the places from it on
pub first_start-here : (permitted : ℕ → Bool) (from : ℕ → Option Trace) (n : ℕ) (m : Match) → 0 < n → IsTrue (permitted m.start) → from m.start ≡ Some m.trace
    → first_start permitted from n m.start ≡ Some m
unfolding first_start
first_start-here permitted from zero m lt p told = absurd (omega arith)
first_start-here permitted from (suc n) m lt p told = rw (p, told) refl

-- the first of the patterns, numbered from p on, that has a run

module _ (r : Patterns) (text : List ℕ) (end i : ℕ) where
  pub first_of_patterns-some : (p : ℕ) (hs : List Expression) (t : Trace) → first_of_patterns r text end p hs i ≡ Some t
      → (k : ℕ) × (h : Expression) × (slice_get hs k ≡ Some h) × (first r text end (p + k) h i ≡ Some t)
      × ((j : ℕ) (h' : Expression) → j < k → slice_get hs j ≡ Some h' → first r text end (p + j) h' i ≡ None)
  unfolding first_of_patterns
  first_of_patterns-some p [] t e = none-is-some e
  first_of_patterns-some p (h ∷ hs) t e =
      elim (or-cases (first r text end p h i) (first_of_patterns r text end (suc p) hs i) t e) [
        | inl here ↦ (0, h, refl, ap (λ q. first r text end q h i) zero_more ∙ here, λ j h' lt. absurd (omega arith))
        | inr later ↦
            let x = first_of_patterns-some (suc p) hs t later.1 in (
              suc x.0,
              x.1,
              x.2,
              ap (λ q. first r text end q x.1 i) (moved x.0) ∙ x.3,
              λ j h' lt is. earlier x.0 x.4 j h' lt is (later.0),
            )
      ]
    where
      zero_more : p + 0 ≡ p
      zero_more = omega arith

      moved : (k : ℕ) → p + suc k ≡ suc p + k
      moved k = omega arith

      earlier : (k : ℕ) → ((j : ℕ) (h' : Expression) → j < k → slice_get hs j ≡ Some h' → first r text end (suc p + j) h' i ≡ None)
          → (j : ℕ) (h' : Expression) → j < suc k → slice_get (h ∷ hs) j ≡ Some h' → first r text end p h i ≡ None → first r text end (p + j) h' i ≡ None
      earlier k others zero h' lt is none = ap (λ q. first r text end q h' i) zero_more ∙ subst (λ x. first r text end p x i ≡ None) (some-is is) none
      earlier k others (suc j) h' lt is none = ap (λ q. first r text end q h' i) (moved j) ∙ others j h' (omega arith) is

  pub first_of_patterns-none : (p : ℕ) (hs : List Expression) → first_of_patterns r text end p hs i ≡ None → (k : ℕ) (h : Expression) → slice_get hs k ≡ Some h
      → first r text end (p + k) h i ≡ None
  unfolding first_of_patterns
  first_of_patterns-none p [] e k h is = none-is-some is
  first_of_patterns-none p (x ∷ hs) e zero h is =
      let zero_more : p + 0 ≡ p = omega arith in
      ap (λ q. first r text end q h i) zero_more ∙ subst (λ y. first r text end p y i ≡ None) (some-is is) (or-none _ _ e).0
  first_of_patterns-none p (x ∷ hs) e (suc k) h is =
      let moved : p + suc k ≡ suc p + k = omega arith in
      ap (λ q. first r text end q h i) moved ∙ first_of_patterns-none (suc p) hs (or-none _ _ e).1 k h is

-- what a match that starts at a place tells
module _ (r : Patterns) (text : List ℕ) (b : ℕ) where
  -- the least pattern that is sought and has a run from i, and its first run
  pub record IsLeastRun (anchor : Anchor) (i : ℕ) (t : Trace) : Type 0 where
    pub run : HasFirstRun r text anchor b i t.pattern t
    pub least : (p : ℕ) (u : Trace) → HasFirstRun r text anchor b i p u → t.pattern ≤ p

  all-some : (anchor : Anchor) → ((p : ℕ) → IsSought anchor p) → (i : ℕ) (t : Trace) → first_of_patterns r text b 0 r.expressions i ≡ Some t
      → IsLeastRun anchor i t
  all-some anchor sought i t e =
      let x = first_of_patterns-some r text b i 0 r.expressions t e in
      let none_more : 0 + x.0 ≡ x.0 = omega arith in
      let told : first r text b x.0 x.1 i ≡ Some t = ap (λ q. first r text b q x.1 i) (sym none_more) ∙ x.3 in
      let is : t.pattern ≡ x.0 = first-pattern r text b x.0 x.1 i t told in
      record {
        run = subst (λ p. HasFirstRun r text anchor b i p t) (sym is) (sought x.0, (x.1, x.2, told));
        least = λ p u has.
            by_test (nat_lt p x.0)
            (λ lt.
            let none : first r text b (0 + p) has.1.0 i ≡ None = x.4 p has.1.0 (grind (arith, nat_tests)) has.1.1 in
            let none_more' : 0 + p ≡ p = omega arith in
            none-is-some (sym none ∙ ap (λ q. first r text b q has.1.0 i) none_more' ∙ has.1.2))
            (λ ge. grind (arith, nat_tests));
      }

  all-none : (anchor : Anchor) (i : ℕ) → first_of_patterns r text b 0 r.expressions i ≡ None → (p : ℕ) (t : Trace) → HasFirstRun r text anchor b i p t → ⊥
  all-none kind i e p t has =
      let none_more : 0 + p ≡ p = omega arith in
      none-is-some (sym (first_of_patterns-none r text b i 0 r.expressions e p has.1.0 has.1.1) ∙ ap (λ q. first r text b q has.1.0 i) none_more ∙ has.1.2)

  one-some : (p i : ℕ) (t : Trace) (o : Option Expression) → slice_get r.expressions p ≡ o → first_of_pattern r text b p o i ≡ Some t
      → IsLeastRun (anchored_to p) i t
  one-some p i t None is e = none-is-some e
  one-some p i t (Some h) is e =
      let same : t.pattern ≡ p = first-pattern r text b p h i t e in
      record {
        run = subst (λ q. HasFirstRun r text (anchored_to p) b i q t) (sym same) (refl, (h, is, e));
        least = λ q u has. (let only = has.0 in omega arith);
      }

  one-none : (p i : ℕ) (o : Option Expression) → slice_get r.expressions p ≡ o → first_of_pattern r text b p o i ≡ None → (q : ℕ) (t : Trace)
      → HasFirstRun r text (anchored_to p) b i q t → ⊥
  one-none p i None is e q t has = none-is-some (sym (ap (λ x. slice_get r.expressions x) has.0 ∙ is) ∙ has.1.1)
  one-none p i (Some h) is e q t has =
      let there : slice_get r.expressions p ≡ Some has.1.0 = ap (λ x. slice_get r.expressions x) (sym has.0) ∙ has.1.1 in
      let same : h ≡ has.1.0 = some-is (sym is ∙ there) in
      none-is-some (sym e ∙ (λ k. first r text b (sym has.0 k) (same k) i) ∙ has.1.2)

  pub starting_at-some : (anchor : Anchor) (i : ℕ) (t : Trace) → starting_at r text b anchor i ≡ Some t → IsLeastRun anchor i t
  unfolding starting_at
  starting_at-some free i t e = all-some free (λ p. tt) i t e
  starting_at-some anchored i t e = all-some anchored (λ p. tt) i t e
  starting_at-some (anchored_to p) i t e = one-some p i t (slice_get r.expressions p) refl e

  pub starting_at-none : (anchor : Anchor) (i : ℕ) → starting_at r text b anchor i ≡ None → (p : ℕ) (t : Trace) → HasFirstRun r text anchor b i p t → ⊥
  unfolding starting_at
  starting_at-none free i e p t has = all-none free i e p t has
  starting_at-none anchored i e p t has = all-none anchored i e p t has
  starting_at-none (anchored_to q) i e p t has = one-none q i (slice_get r.expressions q) refl e p t has

-- the places at which a search may start are those that it looks at
pub IsStart-within : (anchor : Anchor) (b a i : ℕ) → IsStart anchor b a i → (a ≤ i) × (i < a + starts anchor a b)
IsStart-within free b a i s =
    let low = s.0 in let high = s.1 in let over : nat_lt b a ≡ false = grind (arith, nat_tests) in (low, rw over (omega arith))
IsStart-within anchored b a i s =
    let is = s.0 in let le = s.1 in let over : nat_lt b a ≡ false = grind (arith, nat_tests) in (omega arith, rw over (omega arith))
IsStart-within (anchored_to p) b a i s =
    let is = s.0 in let le = s.1 in let over : nat_lt b a ≡ false = grind (arith, nat_tests) in (omega arith, rw over (omega arith))

pub within-IsStart : (anchor : Anchor) (b a i : ℕ) → a ≤ i → i < a + starts anchor a b → IsStart anchor b a i
within-IsStart anchor b a i low high =
    by_test (nat_lt b a)
    (λ e. let none : starts anchor a b ≡ 0 = rw e refl in absurd (omega arith))
    (λ e. let le : a ≤ b = grind (arith, nat_tests) in cases anchor (rw e at high) le)
  where
    cases : (anchor : Anchor) → i < a + (if is_anchored anchor then 1 else b + 1 - a) → a ≤ b → IsStart anchor b a i
    cases free lt le = (low, omega arith)
    cases anchored lt le = (omega arith, le)
    cases (anchored_to p) lt le = (omega arith, le)

module _ (r : Patterns) (text : List ℕ) (anchor : Anchor) (b a : ℕ) where
  -- what the search finds is the next match
  pub next-is : (m : Match) → next_match r text anchor b a ≡ Some m → IsNextMatch r text anchor b a m
  unfolding next_match
  next-is m e =
      let x = first_start-some (is_permitted r.utf8_empty text) (starting_at r text b anchor) (starts anchor a b) a m e in
      let least = starting_at-some r text b anchor m.start m.trace x.told in
      record {
        start = (within-IsStart anchor b a m.start x.within.0 x.within.1, x.allowed);
        run = least.run;
        least_start = λ i p t may has.
            by_test (nat_lt i m.start)
            (λ lt.
            let none = x.none_before i (IsStart-within anchor b a i may.0).0 (grind (arith, nat_tests)) may.1 in
            absurd (starting_at-none r text b anchor i none p t has))
            (λ ge. grind (arith, nat_tests));
        least_pattern = least.least;
      }

  -- where it finds none, no pattern has a run from a permitted start
  pub next-none : next_match r text anchor b a ≡ None → (i p : ℕ) (t : Trace) → MayStart r text anchor b a i → HasFirstRun r text anchor b i p t → ⊥
  unfolding next_match
  next-none e i p t may has =
      let within = IsStart-within anchor b a i may.0 in
      starting_at-none r text b anchor i (first_start-none (is_permitted r.utf8_empty text) (starting_at r text b anchor) (starts anchor a b) a e i within.0
      within.1 may.1) p t has

  -- there is one next match
  IsNextMatch-one : (m n : Match) → IsNextMatch r text anchor b a m → IsNextMatch r text anchor b a n → m ≡ n
  IsNextMatch-one m n x y =
      let below = x.least_start n.start n.trace.pattern n.trace y.start y.run in
      let above = y.least_start m.start m.trace.pattern m.trace x.start x.run in
      let place : m.start ≡ n.start = omega arith in
      let y_run : HasFirstRun r text anchor b m.start n.trace.pattern n.trace =
      subst (λ i. HasFirstRun r text anchor b i n.trace.pattern n.trace) (sym place) y.run in
      let x_run : HasFirstRun r text anchor b n.start m.trace.pattern m.trace =
      subst (λ i. HasFirstRun r text anchor b i m.trace.pattern m.trace) place x.run in
      let low = x.least_pattern n.trace.pattern n.trace y_run in
      let high = y.least_pattern m.trace.pattern m.trace x_run in
      let pattern : m.trace.pattern ≡ n.trace.pattern = omega arith in
      let expression : x.run.1.0 ≡ y.run.1.0 = some-is (sym x.run.1.1 ∙ ap (λ p. slice_get r.expressions p) pattern ∙ y.run.1.1) in
      let told : m.trace ≡ n.trace = some-is (sym x.run.1.2 ∙ (λ k. first r text b (pattern k) (expression k) (place k)) ∙ y.run.1.2) in
      λ k. record { start = place k; trace = told k }

  -- the next match is found
  pub is-next : (m : Match) → IsNextMatch r text anchor b a m → next_match r text anchor b a ≡ Some m
  is-next m x =
      elim (tells (next_match r text anchor b a)) [
        | inl none ↦ absurd (next-none none m.start m.trace.pattern m.trace x.start x.run)
        | inr some ↦ some.1 ∙ ap Some (IsNextMatch-one some.0 m (next-is some.0 some.1) x)
      ]

  -- where a match lies
  pub next-within : (m : Match) → next_match r text anchor b a ≡ Some m → (a ≤ m.start) × (m.start ≤ m.trace.end) × (m.trace.end ≤ b)
  next-within m e =
      let x = next-is m e in
      let ends = first-end r text b m.trace.pattern x.run.1.0 m.start m.trace x.run.1.2 in
      ((IsStart-within anchor b a m.start x.start.0).0, ends.0, ends.1)
