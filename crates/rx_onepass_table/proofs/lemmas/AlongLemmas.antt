-- The walk along the rows tells the same as the first run, and under `All` as the first run of the farthest end.
use Rattle.std.proofs.Common.{◌≡◌, ℕ, zero, suc, ◌+◌, ◌≤◌, ◌<◌, ◌==◌, List, length, refl, sym, ◌∙◌, ap, arith, slice_index}
use Rattle.std.specs.Prelude.{Bool, true, false, Option, Some, None, All}
use Rattle.std.specs.Option.{option_or}
use Rattle.std.proofs.lemmas.Bool.Decides.{nat_tests}
use Rattle.rx_model.specs.Runs.{Trace, Sieve, sifted, everywhere, ending_at}
use Rattle.rx_model.proofs.lemmas.runs.RunLemmas.{by_test}
use Rattle.rx_nfa.specs.Automaton.{NamesBelow}
use Rattle.rx_nfa.specs.Nfa.{Nfa}
use Rattle.rx_onepass_table.specs.Along.{all_hold, written_at, with_writes, trace_of, told_here, preferred, goes_on, told_later, walk, BothTellSame, farthest, first_from}
use Rattle.rx_onepass_table.specs.Rows.{TableValue, step_in, final_in, IsRowOf, IsTableOf}
use Rattle.rx_onepass_table.specs.Words.{Step, Final}
use Rattle.rx_onepass_table.proofs.lemmas.StepLemmas.{last-row, step-row, later-of_none}

module _ (nfa : Nfa) (names : All (NamesBelow (length nfa.states)) nfa.states) (text : List ℕ) (end : ℕ)
    (bytes : (k : ℕ) → k < end → slice_index text k < 256) (entries : List ℕ) (t : TableValue) (table : IsTableOf nfa entries t) (ok : Sieve) where
  pub walk-tells : (n i row entry : ℕ) → i + n ≡ end → IsRowOf entries row entry
      → BothTellSame nfa (first_from nfa ok text end entry i) (walk nfa t true ok text n i row)
  unfolding walk
  walk-tells zero i row entry ends is =
      let r = table row entry is in
      last-row nfa names ok text end i (omega arith) entry r.inside r.clear.states (final_in t row) r.final (omega arith)
  walk-tells (suc n) i row entry ends is =
      let r = table row entry is in
      let less : i < end = omega arith in
      let s = step_in t row (slice_index text i) in
      step-row nfa names ok text end i (omega arith) entry r.inside r.clear.states (final_in t row) r.final less entries s
      (r.steps (slice_index text i) (bytes i less)) (walk nfa t true ok text n (i + 1) s.target)
      (λ next there. walk-tells n (i + 1) s.target next (omega arith) there)

-- Of the ends in turn.

pub farthest-alike : (f h : ℕ → Option Trace) (n i : ℕ) → ((e : ℕ) → i ≤ e → f e ≡ h e) → farthest f n i ≡ farthest h n i
unfolding farthest
farthest-alike f h zero i alike = refl
farthest-alike f h (suc n) i alike =
    let rest = farthest-alike f h n (i + 1) (λ e le. alike e (omega arith)) in
    let first = alike i (omega arith) in
    (λ k. option_or (rest k) (first k))

-- both of two, where each tells the same as the other one
both-or : (nfa : Nfa) (a b c d : Option Trace) → BothTellSame nfa a b → BothTellSame nfa c d → BothTellSame nfa (option_or a c) (option_or b d)
both-or nfa None None c d h k = k
both-or nfa None (Some u) c d h k = absurd h
both-or nfa (Some t) None c d h k = absurd h
both-or nfa (Some t) (Some u) c d h k = h

pub farthest-same : (nfa : Nfa) (f h : ℕ → Option Trace) → ((e : ℕ) → BothTellSame nfa (f e) (h e)) → (n i : ℕ)
    → BothTellSame nfa (farthest f n i) (farthest h n i)
unfolding farthest
farthest-same nfa f h same zero i = tt
farthest-same nfa f h same (suc n) i =
    both-or nfa (farthest f n (i + 1)) (farthest h n (i + 1)) (f i) (h i) (farthest-same nfa f h same n (i + 1)) (same i)

module _ (nfa : Nfa) (text : List ℕ) where
  -- a match is told at its end alone
  here-elsewhere : (e place : ℕ) (f : Final) → (place == e) ≡ false → told_here nfa (ending_at e) text f place ≡ None
  here-elsewhere e place f apart =
      by_test (all_hold nfa.terminator text f.looks place)
      (λ h. rw h (by f.pattern))
      (λ h. rw h refl)
    where
      by : (o : Option ℕ) → trace_of (sifted (ending_at e) place o) place (written_at nfa f.slots place) ≡ None
      by None = refl
      by (Some p) = rw apart refl

  here-there : (place : ℕ) (f : Final) → told_here nfa (ending_at place) text f place ≡ told_here nfa everywhere text f place
  here-there place f =
      by_test (all_hold nfa.terminator text f.looks place)
      (λ h. rw h (by f.pattern))
      (λ h. rw h refl)
    where
      by : (o : Option ℕ) → trace_of (sifted (ending_at place) place o) place (written_at nfa f.slots place)
          ≡ trace_of (sifted everywhere place o) place (written_at nfa f.slots place)
      by None = refl
      by (Some p) = let same : (place == place) ≡ true = grind (arith, nat_tests) in rw same refl

  later-or : (s : Step) (i : ℕ) (a b : Option Trace)
      → told_later nfa text s i (option_or a b) ≡ option_or (told_later nfa text s i a) (told_later nfa text s i b)
  later-or s i a b = by_test (goes_on nfa text s i) (λ e. rw e (by a)) (λ e. rw e refl)
    where
      by : (a : Option Trace) → with_writes (written_at nfa s.slots i) (option_or a b)
          ≡ option_or (with_writes (written_at nfa s.slots i) a) (with_writes (written_at nfa s.slots i) b)
      by None = refl
      by (Some x) = refl

  farthest-later : (s : Step) (i : ℕ) (f : ℕ → Option Trace) (n e : ℕ)
      → farthest (λ j. told_later nfa text s i (f j)) n e ≡ told_later nfa text s i (farthest f n e)
  unfolding farthest
  farthest-later s i f zero e = sym (later-of_none nfa text s i)
  farthest-later s i f (suc n) e =
      ap (λ o. option_or o (told_later nfa text s i (f e))) (farthest-later s i f n (e + 1))
      ∙ sym (later-or s i (farthest f n (e + 1)) (f e))

  preferred-here : (wins : Bool) (here : Option Trace) → preferred wins here None ≡ here
  preferred-here true None = refl
  preferred-here true (Some x) = refl
  preferred-here false here = refl

  preferred-later : (wins : Bool) (later : Option Trace) → preferred wins None later ≡ later
  preferred-later true later = refl
  preferred-later false None = refl
  preferred-later false (Some x) = refl

  module _ (t : TableValue) where
    -- no walk ends before its place
    walk-before : (e n place row : ℕ) → e < place → walk nfa t true (ending_at e) text n place row ≡ None
    unfolding walk
    walk-before e zero place row lt =
        let apart : (place == e) ≡ false = grind (arith, nat_tests) in here-elsewhere e place (final_in t row) apart
    walk-before e (suc n) place row lt =
        let apart : (place == e) ≡ false = grind (arith, nat_tests) in
        let s = step_in t row (slice_index text place) in
        let here = here-elsewhere e place (final_in t row) apart in
        let later = ap (told_later nfa text s place) (walk-before e n (place + 1) s.target (omega arith)) ∙ later-of_none nfa text s place in
        (λ k. preferred s.wins (here k) (later k)) ∙ preferred-here s.wins None

    -- the walks to each of the ends, the farthest one first, are one walk on which no match wins
    pub farthest-walk : (n place row : ℕ)
        → farthest (λ e. walk nfa t true (ending_at e) text n place row) (suc n) place ≡ walk nfa t false everywhere text n place row
    unfolding farthest walk
    farthest-walk zero place row = here-there place (final_in t row)
    farthest-walk (suc n) place row =
        let s = step_in t row (slice_index text place) in
        let rest : farthest (λ e. walk nfa t true (ending_at e) text (suc n) place row) (suc n) (place + 1)
        ≡ told_later nfa text s place (walk nfa t false everywhere text n (place + 1) s.target) =
        farthest-alike (λ e. walk nfa t true (ending_at e) text (suc n) place row)
        (λ e. told_later nfa text s place (walk nfa t true (ending_at e) text n (place + 1) s.target)) (suc n) (place + 1)
        (λ e le.
        let apart : (place == e) ≡ false = grind (arith, nat_tests) in
        ap (λ o. preferred s.wins o (told_later nfa text s place (walk nfa t true (ending_at e) text n (place + 1) s.target)))
        (here-elsewhere e place (final_in t row) apart)
        ∙ preferred-later s.wins (told_later nfa text s place (walk nfa t true (ending_at e) text n (place + 1) s.target)))
        ∙ farthest-later s place (λ e. walk nfa t true (ending_at e) text n (place + 1) s.target) (suc n) (place + 1)
        ∙ ap (told_later nfa text s place) (farthest-walk n (place + 1) s.target) in
        let here : walk nfa t true (ending_at place) text (suc n) place row ≡ told_here nfa everywhere text (final_in t row) place =
        ap (preferred s.wins (told_here nfa (ending_at place) text (final_in t row) place))
        (ap (told_later nfa text s place) (walk-before place n (place + 1) s.target (omega arith)) ∙ later-of_none nfa text s place)
        ∙ preferred-here s.wins (told_here nfa (ending_at place) text (final_in t row) place)
        ∙ here-there place (final_in t row) in
        (λ k. option_or (rest k) (here k))
