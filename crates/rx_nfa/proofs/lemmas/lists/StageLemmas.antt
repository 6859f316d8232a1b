-- A search by an ordered list at a place: the first success on the list, then the best match before, and then the starts to
-- come. What is told of a match is left open, so a search that tells slots is an instance, and so is one that tells the
-- pattern and the end alone.
use Rattle.std.proofs.Common.{◌≡◌, ℕ, zero, suc, ◌+◌, ◌-◌, ◌≤◌, ◌<◌, List, refl, sym, ◌∙◌, ap, arith, inl, inr, true≢false}
use Rattle.std.specs.Prelude.{Bool, true, false, Option, Some, None, option_map, is_some, nat_lt}
use Rattle.std.specs.Option.{option_or}
use Rattle.std.proofs.lemmas.Bool.Decides.{nat_tests}
use Rattle.rx_model.specs.Runs.{PriorityGraph, Passed, nowhere, and_at, Trace, found, IsBounded, NeverFalls, Configuration}
use Rattle.rx_model.specs.Search.{Match as Found, first_start}
use Rattle.rx_model.proofs.lemmas.runs.RunLemmas.{by_test}
use Rattle.rx_model.proofs.lemmas.runs.FirstLemmas.{tells}
use Rattle.rx_model.proofs.lemmas.runs.FoundLemmas.{found-prune, found-forget, option_map-or}
use Rattle.rx_model.proofs.lemmas.runs.RiseLemmas.{found-end}
use Rattle.rx_model.proofs.lemmas.runs.OptionLemmas.{or-none_right}
use Rattle.rx_nfa.specs.Automaton.{at}
use Rattle.rx_nfa.specs.Ordered.{passed_at, IsStable, first_of_starts}
use Rattle.rx_nfa.proofs.lemmas.runs.NextMatchLemmas.{first_start-alike}
use Rattle.rx_nfa.proofs.lemmas.lists.PlaceLemmas.{passed_at-elsewhere}

-- Starts that tell nothing.

-- where no start tells anything
pub first_start-none : (permitted : ℕ → Bool) (f : ℕ → Option Trace) (n i : ℕ) → ((j : ℕ) → i ≤ j → f j ≡ None) → first_start permitted f n i ≡ None
unfolding first_start
first_start-none permitted f zero i none = refl
first_start-none permitted f (suc n) i none =
    let rest = first_start-none permitted f n (i + 1) (λ j le. none j (omega arith)) in
    by_test (permitted i) (λ e. rw (e, none i (omega arith), rest) refl) (λ e. rw (e, rest) refl)

-- starts that tell nothing may come after the others
pub first_start-more : (permitted : ℕ → Bool) (f : ℕ → Option Trace) (n m i : ℕ) → n ≤ m → ((j : ℕ) → i + n ≤ j → f j ≡ None)
    → first_start permitted f m i ≡ first_start permitted f n i
unfolding first_start
first_start-more permitted f zero m i le none = first_start-none permitted f m i (λ j low. none j (omega arith))
first_start-more permitted f (suc n) zero i le none = absurd (omega arith)
first_start-more permitted f (suc n) (suc m) i le none =
    rw (first_start-more permitted f n m (i + 1) (omega arith) (λ j low. none j (omega arith))) refl

-- no run that is found starts past the end
pub found-beyond : (g : PriorityGraph) → IsBounded g → NeverFalls g → (end : ℕ) → ((c : Configuration) → is_some (g.accepted c) ≡ true → c.place ≤ end)
    → (q i : ℕ) → end < i → found g nowhere (at q i) ≡ None
found-beyond g bounded rises end within q i lt =
    elim (tells (found g nowhere (at q i))) [
      | inl none ↦ none
      | inr some ↦
          let ends = found-end g bounded rises end within nowhere (at q i) some.0 some.1 in
          absurd (let a = ends.0 in let b = ends.1 in omega arith)
    ]

pub no_best : {A : Type 0} (best : Option A) → false ≡ is_some best → best ≡ None
no_best None h = refl
no_best (Some x) h = absurd (true≢false (sym h))

pub some_best : {A : Type 0} (best : Option A) → true ≡ is_some best → (x : A) × (best ≡ Some x)
some_best None h = absurd (true≢false h)
some_best (Some x) h = (x, refl)

-- what a run tells that starts at place i
abbrev pub told_at : {A : Type 0} → (Found → A) → (i : ℕ) → Option Trace → Option A
told_at told i o = option_map (λ t. told (record { start = i; trace = t })) o

told_at-start : {A : Type 0} (told : Found → A) (i : ℕ) (o : Option Trace)
    → option_map told (option_map (λ t. record { start = i; trace = t }) o) ≡ told_at told i o
told_at-start told i None = refl
told_at-start told i (Some t) = refl

-- The next n starts, and what is told of them.
module _ {A : Type 0} (told : Found → A) (g : PriorityGraph) (may : ℕ → Bool) (start : ℕ) where
  abbrev pub told_next : (n i : ℕ) → Passed → Option A
  told_next n i p = option_map told (first_of_starts g may start n i p)

  pub told_next-stable : (n i : ℕ) → IsStable g (told_next n i)
  told_next-stable n i p x none =
      ap (option_map told)
      (first_start-alike may (λ j. found g p (at start j)) (λ j. found g (and_at x p) (at start j)) n i (λ j le. found-prune g p x (at start j) none))

  -- what was passed before a start doesn't matter
  pub told_next-forget : NeverFalls g → (items : List ℕ) (n i : ℕ) → told_next n (i + 1) (passed_at items i) ≡ told_next n (i + 1) nowhere
  told_next-forget rises items n i =
      ap (option_map told)
      (first_start-alike may (λ j. found g (passed_at items i) (at start j)) (λ j. found g nowhere (at start j)) n (i + 1)
      (λ j le. found-forget g rises (passed_at items i) nowhere (at start j) (λ d above. passed_at-elsewhere items i d (λ e. omega arith))))

  -- a thread that begins here stands for the start
  pub told_next-here : (n i : ℕ) (p : Passed) → may i ≡ true
      → told_next (suc n) i p ≡ option_or (told_at told i (found g p (at start i))) (told_next n (i + 1) p)
  unfolding first_start
  told_next-here n i p allowed =
      let here = option_map (λ t. record { start = i; trace = t }) (found g p (at start i)) in
      rw allowed
      (option_map-or told here (first_of_starts g may start n (i + 1) p)
      ∙ ap (λ o. option_or o (told_next n (i + 1) p)) (told_at-start told i (found g p (at start i))))

  -- or none may begin here
  pub told_next-not_here : (n i : ℕ) (p : Passed) → may i ≡ false → told_next (suc n) i p ≡ told_next n (i + 1) p
  unfolding first_start
  told_next-not_here n i p forbidden = rw forbidden refl

  pub told_next-none : (i : ℕ) (p : Passed) → told_next zero i p ≡ None
  unfolding first_start
  told_next-none i p = refl

-- All starts up to the last one.
module _ {A : Type 0} (told : Found → A) (g : PriorityGraph) (may : ℕ → Bool) (start last : ℕ) where
  -- what is told of the starts from place i on
  abbrev pub told_from : (i : ℕ) → Passed → Option A
  told_from i p = told_next told g may start (last + 1 - i) i p

  -- the best match before, and else the starts to come
  abbrev pub best_or_later : Option A → (i : ℕ) → Passed → Option A
  best_or_later best i p = option_or best (told_from i p)

  pub later-stable : (best : Option A) (i : ℕ) → IsStable g (best_or_later best i)
  later-stable best i p x nothing = ap (option_or best) (told_next-stable told g may start (last + 1 - i) i p x nothing)

  pub later-forget : NeverFalls g → (best : Option A) (items : List ℕ) (i : ℕ)
      → best_or_later best (i + 1) (passed_at items i) ≡ best_or_later best (i + 1) nowhere
  later-forget rises best items i = ap (option_or best) (told_next-forget told g may start rises items (last + 1 - (i + 1)) i)

  one-more : (i : ℕ) → i ≤ last → last + 1 - i ≡ suc (last + 1 - (i + 1))
  one-more i le = omega arith

  pub starts-over : (i : ℕ) (p : Passed) → last < i → told_from i p ≡ None
  starts-over i p lt = let e : last + 1 - i ≡ 0 = omega arith in ap (λ n. told_next told g may start n i p) e ∙ told_next-none told g may start i p

  pub starts-here : (i : ℕ) (p : Passed) → i ≤ last → may i ≡ true
      → told_from i p ≡ option_or (told_at told i (found g p (at start i))) (told_from (i + 1) p)
  starts-here i p le allowed =
      ap (λ n. told_next told g may start n i p) (one-more i le) ∙ told_next-here told g may start (last + 1 - (i + 1)) i p allowed

  pub starts-not_here : (i : ℕ) (p : Passed) → i ≤ last → may i ≡ false → told_from i p ≡ told_from (i + 1) p
  starts-not_here i p le forbidden =
      ap (λ n. told_next told g may start n i p) (one-more i le) ∙ told_next-not_here told g may start (last + 1 - (i + 1)) i p forbidden

  -- no match may start at the next places
  pub starts-skip : (p : Passed) (n i : ℕ) → ((j : ℕ) → i ≤ j → j < i + n → may j ≡ false) → told_from i p ≡ told_from (i + n) p
  starts-skip p zero i none = let same : i ≡ i + 0 = omega arith in ap (λ k. told_from k p) same
  starts-skip p (suc n) i none =
      let place : i + 1 + n ≡ i + suc n = omega arith in
      by_test (nat_lt last i)
      (λ e. starts-over i p (grind (arith, nat_tests)) ∙ sym (starts-over (i + suc n) p (grind (arith, nat_tests))))
      (λ e.
      starts-not_here i p (grind (arith, nat_tests)) (none i (omega arith) (omega arith))
      ∙ starts-skip p n (i + 1) (λ j low high. none j (omega arith) (omega arith)) ∙ ap (λ k. told_from k p) place)

  -- nothing starts past the end
  pub starts-beyond : IsBounded g → NeverFalls g → (end : ℕ) → ((c : Configuration) → is_some (g.accepted c) ≡ true → c.place ≤ end)
      → (i : ℕ) → end < i → told_from i nowhere ≡ None
  starts-beyond bounded rises end within i lt =
      ap (option_map told)
      (first_start-none may (λ j. found g nowhere (at start j)) (last + 1 - i) i (λ j le. found-beyond g bounded rises end within start j (omega arith)))

  -- The list in front, and what it leads to. No thread starts at place i: there is a match already,
  pub unseeded-matched : (best front goal : Option A) (p p' : Passed) (i : ℕ) → true ≡ is_some best
      → option_or front (best_or_later best i p) ≡ goal → option_or front (best_or_later best (i + 1) p') ≡ goal
  unseeded-matched best front goal p p' i matched value = let b = some_best best matched in rw b.1 (rw b.1 at value)

  -- or no start is left,
  pub unseeded-past : (best front goal : Option A) (p p' : Passed) (i : ℕ) → last < i
      → option_or front (best_or_later best i p) ≡ goal → option_or front (best_or_later best (i + 1) p') ≡ goal
  unseeded-past best front goal p p' i lt value =
      ap (λ o. option_or front (option_or best o)) (starts-over (i + 1) p' (omega arith) ∙ sym (starts-over i p lt)) ∙ value

  -- or none may be here.
  pub unseeded-forbidden : NeverFalls g → (best front goal : Option A) (items : List ℕ) (i : ℕ) → i ≤ last → may i ≡ false
      → option_or front (best_or_later best i (passed_at items i)) ≡ goal → option_or front (best_or_later best (i + 1) nowhere) ≡ goal
  unseeded-forbidden rises best front goal items i le forbidden value =
      ap (option_or front)
      (sym (later-forget rises best items i) ∙ ap (option_or best) (sym (starts-not_here i (passed_at items i) le forbidden)))
      ∙ value

  -- A thread starts here, behind the list: what it leads to comes next.
  pub seeded-here : (best front goal : Option A) (p : Passed) (i : ℕ) → false ≡ is_some best → i ≤ last → may i ≡ true
      → option_or front (best_or_later best i p) ≡ goal
      → option_or front (option_or (told_at told i (found g p (at start i))) (best_or_later best (i + 1) p)) ≡ goal
  seeded-here best front goal p i unmatched le allowed value =
      let none = no_best best unmatched in
      ap (λ b. option_or front (option_or (told_at told i (found g p (at start i))) (option_or b (told_from (i + 1) p)))) none
      ∙ ap (option_or front) (sym (starts-here i p le allowed))
      ∙ ap (λ b. option_or front (option_or b (told_from i p))) (sym none)
      ∙ value

  -- No thread is left. There is a match,
  pub over-matched : (best goal : Option A) (p : Passed) (i : ℕ) → is_some best ≡ true → best_or_later best i p ≡ goal → best ≡ goal
  over-matched None goal p i some value = absurd (true≢false (sym some))
  over-matched (Some b) goal p i some value = value

  -- or there is none, and no start either.
  pub over-past : (best goal : Option A) (p : Passed) (i : ℕ) → is_some best ≡ false → last < i → best_or_later best i p ≡ goal → None ≡ goal
  over-past (Some b) goal p i none lt value = absurd (true≢false none)
  over-past None goal p i none lt value = sym (starts-over i p lt) ∙ value

  -- or no start is left
  pub over-end : (best goal : Option A) (p : Passed) (i : ℕ) → last < i → best_or_later best i p ≡ goal → best ≡ goal
  over-end best goal p i lt value = sym (or-none_right best) ∙ ap (option_or best) (sym (starts-over i p lt)) ∙ value
