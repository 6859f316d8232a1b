-- Where the walk along a table ends.
use Rattle.std.proofs.Common.{◌≡◌, ◌⊎◌, ℕ, zero, suc, ◌+◌, ◌≤◌, List, refl, sym, ap, inl, inr, arith, true≢false, slice_index}
use Rattle.std.specs.Prelude.{Bool, true, false, ◌&&◌, Option, Some, None, option_map, is_some}
use Rattle.std.specs.Option.{option_or}
use Rattle.rx_model.specs.Runs.{Trace, Sieve, sifted}
use Rattle.rx_model.proofs.lemmas.runs.RunLemmas.{by_test}
use Rattle.rx_model.proofs.lemmas.runs.FirstLemmas.{none-is-some, some-is}
use Rattle.rx_nfa.specs.Nfa.{Nfa}
use Rattle.rx_onepass_table.specs.Along.{all_hold, written_at, with_writes, trace_of, told_here, preferred, goes_on, told_later, walk, BothTellSame}
use Rattle.rx_onepass_table.specs.Rows.{TableValue, step_in, final_in}
use Rattle.rx_onepass_table.specs.Words.{Step, Final}
use Rattle.rx_onepass.specs.Search.{match_from}

trace-end : (o : Option ℕ) (place : ℕ) (writes : List (ℕ × ℕ)) (u : Trace) → trace_of o place writes ≡ Some u → u.end ≡ place
trace-end None place writes u e = none-is-some e
trace-end (Some p) place writes u e = ap (λ (t : Trace). t.end) (sym (some-is e))

after-end : (writes : List (ℕ × ℕ)) (later : Option Trace) (u : Trace) → with_writes writes later ≡ Some u
    → (t : Trace) × (later ≡ Some t) × (u.end ≡ t.end)
after-end writes None u e = none-is-some e
after-end writes (Some t) u e = (t, refl, ap (λ (x : Trace). x.end) (sym (some-is e)))

pub or-cases : (a b : Option Trace) (u : Trace) → option_or a b ≡ Some u → (a ≡ Some u) ⊎ (b ≡ Some u)
or-cases None b u e = inr e
or-cases (Some a) b u e = inl e

pub or-first : (a b : Option Trace) → is_some a ≡ true → is_some (option_or a b) ≡ true
or-first None b e = absurd (true≢false (sym e))
or-first (Some a) b e = refl

pub or-second : (a b : Option Trace) → is_some b ≡ true → is_some (option_or a b) ≡ true
or-second None b e = e
or-second (Some a) b e = refl

preferred-cases : (wins : Bool) (here later : Option Trace) (u : Trace) → preferred wins here later ≡ Some u → (here ≡ Some u) ⊎ (later ≡ Some u)
preferred-cases true here later u e = or-cases here later u e
preferred-cases false here later u e = swapped (or-cases later here u e)
  where
    swapped : (later ≡ Some u) ⊎ (here ≡ Some u) → (here ≡ Some u) ⊎ (later ≡ Some u)
    swapped (inl h) = inr h
    swapped (inr h) = inl h

module _ (nfa : Nfa) (t : TableValue) (may_win : Bool) (ok : Sieve) (text : List ℕ) where
  here-end : (f : Final) (place : ℕ) (u : Trace) → told_here nfa ok text f place ≡ Some u → u.end ≡ place
  here-end f place u e =
      by_test (all_hold nfa.terminator text f.looks place)
      (λ yes. trace-end (sifted ok place f.pattern) place (written_at nfa f.slots place) u (rw yes at e))
      (λ no. none-is-some (rw no at e))

  later-end : (s : Step) (place : ℕ) (later : Option Trace) (u : Trace) → told_later nfa text s place later ≡ Some u
      → (t : Trace) × (later ≡ Some t) × (u.end ≡ t.end)
  later-end s place later u e =
      by_test (goes_on nfa text s place)
      (λ yes. after-end (written_at nfa s.slots place) later u (rw yes at e))
      (λ no. none-is-some (rw no at e))

  -- it ends in the span
  pub walk-within : (n place row : ℕ) (u : Trace) → walk nfa t may_win ok text n place row ≡ Some u → (place ≤ u.end) × (u.end ≤ place + n)
  unfolding walk
  walk-within zero place row u e = let is = here-end (final_in t row) place u e in (omega arith, omega arith)
  walk-within (suc n) place row u e =
      let s = step_in t row (slice_index text place) in
      elim (preferred-cases (may_win && s.wins) (told_here nfa ok text (final_in t row) place)
      (told_later nfa text s place (walk nfa t may_win ok text n (place + 1) s.target)) u e) [
        | inl here ↦ let is = here-end (final_in t row) place u here in (omega arith, omega arith)
        | inr there ↦
            let x = later-end s place (walk nfa t may_win ok text n (place + 1) s.target) u there in
            let within = walk-within n (place + 1) s.target x.0 x.1 in
            let low = within.0 in
            let high = within.1 in
            let is = x.2 in
            (omega arith, omega arith)
      ]

-- What tells the same is the same match.

pub same-some : (nfa : Nfa) (one other : Option Trace) → BothTellSame nfa one other → is_some one ≡ is_some other
same-some nfa None None same = refl
same-some nfa None (Some u) same = absurd same
same-some nfa (Some t) None same = absurd same
same-some nfa (Some t) (Some u) same = refl

pub same-match : (nfa : Nfa) (start : ℕ) (one other : Option Trace) → BothTellSame nfa one other
    → option_map (match_from start) one ≡ option_map (match_from start) other
same-match nfa start None None same = refl
same-match nfa start None (Some u) same = absurd same
same-match nfa start (Some t) None same = absurd same
same-match nfa start (Some t) (Some u) same = (λ i. Some (record { pattern = same.pattern i; start = start; end = same.end i }))
