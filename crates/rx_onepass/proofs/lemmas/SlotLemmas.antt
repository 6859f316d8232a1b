-- What a search leaves in the slots.
use Rattle.std.proofs.Common.{◌≡◌, ◌≢◌, ℕ, zero, suc, ◌+◌, ◌-◌, ◌*◌, ◌<◌, ◌≤◌, ◌==◌, List, length, refl, sym, ◌∙◌, ap, subst, arith, if◌then◌else◌}
use Rattle.std.specs.Prelude.{true, false, nat_le, nat_lt, Option, Some, None, option_map, is_some, replicate, IfSome, slice_set, slice_index_or}
use Rattle.std.proofs.lemmas.Bool.Decides.{nat_tests}
use Rattle.std.proofs.lemmas.List.{get_or-set_same, get_or-set_other, length-set, length-replicate}
use Rattle.rx_model.specs.Runs.{Trace, everywhere, last_write}
use Rattle.rx_model.proofs.lemmas.runs.RunLemmas.{by_test}
use Rattle.rx_model.proofs.lemmas.runs.FirstLemmas.{none-is-some, some-is}
use Rattle.rx_search.specs.Input.{InputValue}
use Rattle.rx_search.specs.Matches.{HalfMatchValue}
use Rattle.rx_nfa.specs.Nfa.{Nfa}
use Rattle.rx_nfa.specs.Ordered.{half}
use Rattle.rx_onepass_table.specs.Along.{TellSame, BothTellSame}
use Rattle.rx_onepass_table.specs.Entry.{explicit_start}
use Rattle.rx_onepass_build.specs.Config.{kind_of}
use Rattle.rx_onepass.specs.Dfa.{Dfa}
use Rattle.rx_onepass.specs.Search.{run_in, match_from, is_explicit, slot_of, AreSlotsOf, IsFound}
use Rattle.rx_onepass.specs.Walked.{may_win, told_from, IsSlotAt, IsWalked}
use Rattle.rx_onepass.proofs.lemmas.WalkLemmas.{walk-within}

pub none-replicated : (n k : ℕ) → ◌≡◌ {A = Option ℕ} (slice_index_or (replicate n None) k None) None
none-replicated zero k = refl
none-replicated (suc n) zero = refl
none-replicated (suc n) (suc k) = none-replicated n k

-- Nothing was found.

pub found-none : (d : Dfa) (v : InputValue) (slots : List (Option ℕ)) (n : ℕ) → run_in d v ≡ None → slots ≡ replicate n None → IsFound d v None slots
found-none d v slots n none empty = record {
  value = sym (ap (option_map (match_from v.start)) none);
  slots_are = subst (λ o. IfSome o (AreSlotsOf d.nfa v.start slots)) (sym none) tt;
  none = empty ∙ ap (λ m. replicate m None) (sym (length-replicate n None) ∙ sym (ap length empty));
  within = tt;
}

pub told-none : (nfa : Nfa) (run told : Option Trace) → BothTellSame nfa run told → (h : Option HalfMatchValue) → h ≡ None → is_some h ≡ is_some told → run ≡ None
told-none nfa None told same h none any = refl
told-none nfa (Some t) None same h none any = absurd same
told-none nfa (Some t) (Some u) same h none any = none-is-some (by (ap is_some (sym none) ∙ any))
  where
    by : false ≡ true → ◌≡◌ {A = Option ℕ} None (Some 0)
    by e = (λ i. if e i then Some 0 else None)

-- A match was found.

pub record IsHit (nfa : Nfa) (run told : Option Trace) (h : HalfMatchValue) : Type 0 where
  pub t : Trace
  pub run_is : run ≡ Some t
  pub u : Trace
  pub told_is : told ≡ Some u
  pub pattern : t.pattern ≡ h.pattern
  pub end : t.end ≡ h.offset
  pub same : TellSame nfa t u

pub hit : (nfa : Nfa) (run told : Option Trace) → BothTellSame nfa run told → (h : HalfMatchValue) → ◌≡◌ {A = Option HalfMatchValue} (Some h) (option_map half told)
    → IsHit nfa run told h
hit nfa None None same h is = none-is-some (sym is)
hit nfa None (Some u) same h is = absurd same
hit nfa (Some t) None same h is = absurd same
hit nfa (Some t) (Some u) same h is = record {
  t = t;
  run_is = refl;
  u = u;
  told_is = refl;
  pattern = same.pattern ∙ sym (ap (λ (x : HalfMatchValue). x.pattern) (some-is is));
  end = same.end ∙ sym (ap (λ (x : HalfMatchValue). x.offset) (some-is is));
  same = same;
}

module _ (d : Dfa) (v : InputValue) (row n : ℕ) (in_order : v.start ≤ v.end) (h : HalfMatchValue) (old new : List (Option ℕ)) (empty : old ≡ replicate n None)
    (calm : v.earliest ≡ false) (walked : IsWalked d v row old (Some h) new) (same : BothTellSame d.nfa (run_in d v) (told_from d v row)) where
  abbrev x : IsHit d.nfa (run_in d v) (told_from d v row) h
  x = hit d.nfa (run_in d v) (told_from d v row) same h (walked.value calm)

  abbrev told-slots : List (Option ℕ)
  told-slots = slice_set (slice_set new (2 * h.pattern) (Some v.start)) (2 * h.pattern + 1) (Some h.offset)

  -- it ends in the span
  pub hit-within : (v.start ≤ h.offset) × (h.offset ≤ v.end)
  hit-within =
      let within = walk-within d.nfa d.table (may_win (kind_of d.config)) everywhere v.haystack (v.end - v.start) v.start row x.u x.told_is in
      let ends = x.same.end in
      let end = x.end in
      let low = within.0 in
      let high = within.1 in
      (omega arith, omega arith)

  none-before : (k : ℕ) → slice_index_or old k None ≡ None
  none-before k = ap (λ xs. slice_index_or xs k None) empty ∙ none-replicated n k

  -- a slot that is not of the whole match
  walked-slot : (k : ℕ) → k < length new → slice_index_or new k None ≡ (if is_explicit d.nfa k then last_write x.t.writes k else None)
  walked-slot k there =
      by_test (nat_le (explicit_start d.nfa) k)
      (λ above.
      let le : explicit_start d.nfa ≤ k = grind (arith, nat_tests) in
      let place : k ≡ explicit_start d.nfa + (k - explicit_start d.nfa) = omega arith in
      by_test (nat_lt k d.nfa.slots)
      (λ below.
      let lt : k < d.nfa.slots = grind (arith, nat_tests) in
      let told = subst (λ o. IfSome o (λ t. (j slot : ℕ) → IsSlotAt d new j slot → slice_index_or new slot None ≡ last_write t.writes slot)) x.told_is
      (walked.slots_are calm) in
      let at : IsSlotAt d new (k - explicit_start d.nfa) k = record { is = place; explicit = omega arith; there = there } in
      let is : (if is_explicit d.nfa k then last_write x.t.writes k else None) ≡ last_write x.t.writes k = rw (above, below) refl in
      told (k - explicit_start d.nfa) k at
      ∙ ap (last_write x.u.writes) place ∙ sym (x.same.slots (k - explicit_start d.nfa)) ∙ ap (last_write x.t.writes) (sym place) ∙ sym is)
      (λ past.
      let le' : d.nfa.slots ≤ k = grind (arith, nat_tests) in
      let is : (if is_explicit d.nfa k then last_write x.t.writes k else None) ≡ None = rw (above, past) refl in
      walked.past k (omega arith) ∙ none-before k ∙ sym is))
      (λ below.
      let lt : k < explicit_start d.nfa = grind (arith, nat_tests) in
      let is : (if is_explicit d.nfa k then last_write x.t.writes k else None) ≡ None = rw below refl in
      walked.implicit k lt ∙ none-before k ∙ sym is)

  slot-told : (k : ℕ) → k < length told-slots → slice_index_or told-slots k None ≡ slot_of d.nfa v.start x.t k
  slot-told k there =
      let first = 2 * h.pattern in
      let long = length-set (slice_set new first (Some v.start)) (first + 1) (Some h.offset) ∙ length-set new first (Some v.start) in
      let longer = length-set new first (Some v.start) in
      let pattern = x.pattern in
      by_test (k == 2 * x.t.pattern)
      (λ yes.
      let at : k ≡ 2 * x.t.pattern = grind (arith, nat_tests) in
      let is : k ≡ first = omega arith in
      let value : slot_of d.nfa v.start x.t k ≡ Some v.start = rw yes refl in
      get_or-set_other (slice_set new first (Some v.start)) (first + 1) k (Some h.offset) None (omega arith)
      ∙ ap (λ j. slice_index_or (slice_set new first (Some v.start)) j None) is
      ∙ get_or-set_same new first (Some v.start) None (omega arith) ∙ sym value)
      (λ no.
      by_test (k == 2 * x.t.pattern + 1)
      (λ yes.
      let at : k ≡ 2 * x.t.pattern + 1 = grind (arith, nat_tests) in
      let is : k ≡ first + 1 = omega arith in
      let value : slot_of d.nfa v.start x.t k ≡ Some x.t.end = rw (no, yes) refl in
      ap (λ j. slice_index_or told-slots j None) is
      ∙ get_or-set_same (slice_set new first (Some v.start)) (first + 1) (Some h.offset) None (omega arith)
      ∙ ap Some (sym x.end) ∙ sym value)
      (λ none.
      let other : k ≢ 2 * x.t.pattern = grind (arith, nat_tests) in
      let other_too : k ≢ 2 * x.t.pattern + 1 = grind (arith, nat_tests) in
      let apart : k ≢ first = λ e. other (omega arith) in
      let apart_too : k ≢ first + 1 = λ e. other_too (omega arith) in
      let value : slot_of d.nfa v.start x.t k ≡ (if is_explicit d.nfa k then last_write x.t.writes k else None) = rw (no, none) refl in
      get_or-set_other (slice_set new first (Some v.start)) (first + 1) k (Some h.offset) None apart_too
      ∙ get_or-set_other new first k (Some v.start) None apart
      ∙ walked-slot k (omega arith) ∙ sym value))

  pub found-some : IsFound d v (Some (record { pattern = h.pattern; start = v.start; end = h.offset })) told-slots
  found-some = record {
    value =
        (λ i. Some (record { pattern = sym x.pattern i; start = v.start; end = sym x.end i })) ∙ sym (ap (option_map (match_from v.start)) x.run_is);
    slots_are = subst (λ o. IfSome o (AreSlotsOf d.nfa v.start told-slots)) (sym x.run_is) slot-told;
    none = tt;
    within = (let w = hit-within in (omega arith, w.1));
  }
