-- What a search keeps at each place, and what it answers where it is over.
use Rattle.std.proofs.Common.{◌≡◌, ℕ, suc, ◌+◌, ◌^◌, ◌<◌, ◌==◌, List, [], ◌∷◌, ◌++◌, length, refl, sym, ◌∙◌, ap, subst, arith, true≢false}
use Rattle.std.specs.Prelude.{Bool, true, false, ◌&&◌, ◌||◌, Option, Some, None, option_map, is_some, IfSome, nat_lt, if◌then◌else◌, slice_index, slice_index_or}
use Rattle.std.specs.Int.{bit_at}
use Rattle.std.specs.Option.{option_or}
use Rattle.std.proofs.lemmas.Bool.{and_parts}
use Rattle.std.proofs.lemmas.Bool.Decides.{nat_tests}
use Rattle.std.proofs.lemmas.Nat.Bits.{bit_at_above}
use Rattle.rx_model.specs.Runs.{Trace, everywhere, last_write, sifted}
use Rattle.rx_model.proofs.lemmas.runs.RunLemmas.{by_test}
use Rattle.rx_model.proofs.lemmas.runs.FirstLemmas.{none-is-some, some-is}
use Rattle.rx_model.proofs.lemmas.runs.OptionLemmas.{or-assoc, or-none_right}
use Rattle.rx_search.specs.Matches.{HalfMatchValue}
use Rattle.rx_nfa.specs.Nfa.{Nfa}
use Rattle.rx_nfa.specs.Ordered.{half}
use Rattle.rx_onepass_table.specs.Along.{all_hold, walk, with_writes, written_at, trace_of, told_here, told_later, goes_on, preferred}
use Rattle.rx_onepass_table.specs.Entry.{explicit_start}
use Rattle.rx_onepass_table.specs.Rows.{TableValue, step_in, final_in}
use Rattle.rx_onepass_table.specs.Search.{AreWritten, IsAnswer, IsTellingOf, IsSearching, stops}
use Rattle.rx_onepass_table.specs.Words.{Step, Final, slot_limit}
use Rattle.rx_onepass_table.proofs.lemmas.SetLemmas.{last-set}

-- What is written last.

none-more : (ws : List (ℕ × ℕ)) → ws ++ [] ≡ ws
none-more [] = refl
none-more (w ∷ ws) = ap (λ xs. w ∷ xs) (none-more ws)

last-append : (ws vs : List (ℕ × ℕ)) (slot : ℕ) → last_write (ws ++ vs) slot ≡ option_or (last_write vs slot) (last_write ws slot)
last-append [] vs slot = sym (or-none_right (last_write vs slot))
last-append (w ∷ ws) vs slot =
    ap (λ o. option_or o (if w.0 == slot then Some w.1 else None)) (last-append ws vs slot)
    ∙ or-assoc (last_write vs slot) (last_write ws slot) (if w.0 == slot then Some w.1 else None)

-- the slots of a set, behind what was written before
behind-set : (nfa : Nfa) (set place : ℕ) (writes : List (ℕ × ℕ)) (k : ℕ) → set < 2 ^ 32
    → (if bit_at set k == 1 then Some place else last_write writes (explicit_start nfa + k))
    ≡ last_write (writes ++ written_at nfa set place) (explicit_start nfa + k)
behind-set nfa set place writes k fits =
    let alone : last_write (written_at nfa set place) (explicit_start nfa + k) ≡ (if nat_lt k slot_limit && (bit_at set k == 1) then Some place else None) =
    ap (λ ws. last_write ws (explicit_start nfa + k)) (sym (none-more (written_at nfa set place))) ∙ last-set (explicit_start nfa) set place slot_limit [] k in
    let whole = last-append writes (written_at nfa set place) (explicit_start nfa + k) in
    by_test (bit_at set k == 1)
    (λ e.
    let within : nat_lt k slot_limit ≡ true = in-range e in
    let there : last_write (written_at nfa set place) (explicit_start nfa + k) ≡ Some place = alone ∙ (rw (within, e) refl) in
    rw e (sym (whole ∙ ap (λ o. option_or o (last_write writes (explicit_start nfa + k))) there)))
    (λ e.
    let there : last_write (written_at nfa set place) (explicit_start nfa + k) ≡ None =
    alone ∙ ap (λ b. if b then Some place else None) (and-false (nat_lt k slot_limit) (bit_at set k == 1) e) in
    rw e (sym (whole ∙ ap (λ o. option_or o (last_write writes (explicit_start nfa + k))) there)))
  where
    in-range : (bit_at set k == 1) ≡ true → nat_lt k slot_limit ≡ true
    in-range e =
        by_test (nat_lt k slot_limit)
        (λ h. h)
        (λ h.
        let none : bit_at set k ≡ 0 = bit_at_above set 32 k fits (grind (arith, nat_tests)) in
        absurd (true≢false (sym e ∙ ap (λ b. b == 1) none)))

    and-false : (a b : Bool) → b ≡ false → (a && b) ≡ false
    and-false true b h = h
    and-false false b h = refl

-- Options of traces.

writes-twice : (one other : List (ℕ × ℕ)) (o : Option Trace) → with_writes one (with_writes other o) ≡ with_writes (one ++ other) o
writes-twice one other None = refl
writes-twice one other (Some t) = ap (λ ws. Some (record t { writes = ws })) (assoc one)
  where
    assoc : (ws : List (ℕ × ℕ)) → ws ++ (other ++ t.writes) ≡ (ws ++ other) ++ t.writes
    assoc [] = refl
    assoc (w ∷ ws) = ap (λ xs. w ∷ xs) (assoc ws)

writes-or : (ws : List (ℕ × ℕ)) (a b : Option Trace) → with_writes ws (option_or a b) ≡ option_or (with_writes ws a) (with_writes ws b)
writes-or ws None b = refl
writes-or ws (Some t) b = refl

writes-none : (o : Option Trace) → option_or (with_writes [] o) None ≡ o
writes-none None = refl
writes-none (Some t) = refl

preferred-none_here : (wins : Bool) (later : Option Trace) → preferred wins None later ≡ later
preferred-none_here true later = refl
preferred-none_here false None = refl
preferred-none_here false (Some t) = refl

preferred-none_later : (wins : Bool) (here : Option Trace) → preferred wins here None ≡ here
preferred-none_later true None = refl
preferred-none_later true (Some t) = refl
preferred-none_later false here = refl

pub preferred-some : (wins : Bool) (h : Trace) (later : Option Trace) → is_some (preferred wins (Some h) later) ≡ true
preferred-some true h later = refl
preferred-some false h None = refl
preferred-some false h (Some t) = refl

some-map : (o : Option Trace) → is_some (option_map half o) ≡ is_some o
some-map None = refl
some-map (Some t) = refl

some-written : (ws : List (ℕ × ℕ)) (o b : Option Trace) → is_some o ≡ true → is_some (option_or (with_writes ws o) b) ≡ true
some-written ws None b h = absurd (true≢false (sym h))
some-written ws (Some t) b h = refl

-- what a row tells was written at its place
here-writes : (nfa : Nfa) (text : List ℕ) (f : Final) (place : ℕ) (t : Trace) → told_here nfa everywhere text f place ≡ Some t
    → t.writes ≡ written_at nfa f.slots place
here-writes nfa text f place t e =
    by_test (all_hold nfa.terminator text f.looks place)
    (λ h. by f.pattern (rw h at e))
    (λ h. none-is-some (rw h at e))
  where
    by : (o : Option ℕ) → trace_of (sifted everywhere place o) place (written_at nfa f.slots place) ≡ Some t → t.writes ≡ written_at nfa f.slots place
    by None h = none-is-some h
    by (Some p) h = ap (λ (x : Trace). x.writes) (sym (some-is h))

module _ (nfa : Nfa) (t : TableValue) (may_win : Bool) (text : List ℕ) (told : Option Trace) (places : List (Option ℕ)) (best best' : Option HalfMatchValue)
    (out out' : List (Option ℕ)) (same : length out' ≡ length places) where
  -- the best match, with that of the row at this place
  abbrev best_here : (writes : List (ℕ × ℕ)) → (here before : Option Trace) → Option Trace
  best_here writes here before = option_or (with_writes writes here) before

  pub record IsBest (found : Option Trace) : Type 0 where
    pub best_is : best' ≡ option_map half found
    pub out_are : IfSome found (λ b. AreWritten nfa b.writes out')

  module _ (writes : List (ℕ × ℕ)) (before : Option Trace) (places_are : AreWritten nfa writes places) (best_is : best ≡ option_map half before)
      (out_are : IfSome before (λ b. AreWritten nfa b.writes out)) where
    tells-best : (f : Final) → f.slots < 2 ^ 32 → (place : ℕ) (here : Option Trace) → ((h : Trace) → here ≡ Some h → h.writes ≡ written_at nfa f.slots place)
        → IsTellingOf f place here places best best' out out' → IsBest (best_here writes here before)
    tells-best f fits place None written telling =
        let kept = telling.none refl in
        record { best_is = kept.0 ∙ best_is; out_are = subst (λ o. IfSome before (λ b. AreWritten nfa b.writes o)) (sym kept.1) out_are }
    tells-best f fits place (Some h) written telling = record { best_is = telling.some; out_are = filled }
      where
        filled : AreWritten nfa (writes ++ h.writes) out'
        filled k lt =
            let inside : k < length places = omega arith in
            telling.slots k lt
            ∙ ap (λ o. if bit_at f.slots k == 1 then Some place else o) (places_are k inside)
            ∙ behind-set nfa f.slots place writes k fits
            ∙ ap (λ ws. last_write (writes ++ ws) (explicit_start nfa + k)) (sym (written h refl))

  -- the search is over, and its best match is what is told
  pub answers-best : (earliest : Bool) (found : Option Trace) → IsBest found → told ≡ found → IsAnswer nfa earliest told best' out'
  answers-best earliest found is e = record {
    value = λ _. (is.best_is ∙ ap (option_map half) (sym e));
    any = ap is_some is.best_is ∙ some-map found ∙ ap is_some (sym e);
    slots = λ _. subst (λ o. IfSome o (λ b. AreWritten nfa b.writes out')) (sym e) is.out_are;
  }

  module _ (place row : ℕ) (telling : IsTellingOf (final_in t row) place (told_here nfa everywhere text (final_in t row) place) places best best' out out') where
    abbrev here : Option Trace
    here = told_here nfa everywhere text (final_in t row) place

    slots-fit : (final_in t row).slots < 2 ^ 32
    slots-fit = omega arith

    best-there : (n : ℕ) (s : IsSearching nfa t may_win text told n place row places best out) → IsBest (best_here s.writes here s.before)
    best-there n s =
        tells-best s.writes s.before s.places_are s.best_is s.out_are (final_in t row) slots-fit place here (λ h e. here-writes nfa text (final_in t row) place h e)
        telling

    -- at the end
    pub searching-ends : (earliest : Bool) → IsSearching nfa t may_win text told 0 place row places best out → IsAnswer nfa earliest told best' out'
    unfolding walk
    searching-ends earliest s = answers-best earliest (best_here s.writes here s.before) (best-there 0 s) s.told_is

    -- over a byte
    module _ (n : ℕ) (s : IsSearching nfa t may_win text told (suc n) place row places best out) where
      abbrev step : Step
      step = step_in t row (slice_index text place)

      abbrev after : Option Trace
      after = walk nfa t may_win everywhere text n (place + 1) step.target

      abbrev later : Option Trace
      later = told_later nfa text step place after

      told-now : told ≡ option_or (with_writes s.writes (preferred (may_win && step.wins) here later)) s.before
      unfolding walk
      told-now = s.told_is

      -- where a match stops it
      pub searching-stops : (earliest : Bool) → stops (is_some here) earliest may_win step.wins ≡ true → IsAnswer nfa earliest told best' out'
      searching-stops earliest h =
          by here refl (best-there (suc n) s) (and_parts (is_some here) (earliest || (may_win && step.wins)) h)
        where
          by : (o : Option Trace) → here ≡ o → IsBest (best_here s.writes o s.before) → (is_some o ≡ true) × ((earliest || (may_win && step.wins)) ≡ true)
              → IsAnswer nfa earliest told best' out'
          by None e best p = absurd (true≢false (sym p.0))
          by (Some x) e best p =
              let now : told ≡ option_or (with_writes s.writes (preferred (may_win && step.wins) (Some x) later)) s.before =
              told-now ∙ ap (λ o. option_or (with_writes s.writes (preferred (may_win && step.wins) o later)) s.before) e in
              record {
                value = λ not-earliest. (best.best_is ∙ ap (option_map half) (sym (wins not-earliest now)));
                any =
                    ap is_some best.best_is
                    ∙ sym (ap is_some now ∙ some-written s.writes (preferred (may_win && step.wins) (Some x) later) s.before
                    (preferred-some (may_win && step.wins) x later));
                slots = λ not-earliest. subst (λ o. IfSome o (λ b. AreWritten nfa b.writes out')) (sym (wins not-earliest now)) best.out_are;
              }
            where
              wins : earliest ≡ false → told ≡ option_or (with_writes s.writes (preferred (may_win && step.wins) (Some x) later)) s.before
                  → told ≡ best_here s.writes (Some x) s.before
              wins not-earliest now =
                  let win : (may_win && step.wins) ≡ true = ap (λ b. b || (may_win && step.wins)) (sym not-earliest) ∙ p.1 in
                  now ∙ ap (λ b. option_or (with_writes s.writes (preferred b (Some x) later)) s.before) win

      -- where the transition leads nowhere
      pub searching-dies : (earliest : Bool) → goes_on nfa text step place ≡ false → IsAnswer nfa earliest told best' out'
      searching-dies earliest h =
          let none : later ≡ None = rw h refl in
          answers-best earliest (best_here s.writes here s.before) (best-there (suc n) s)
          (told-now
          ∙ ap (λ o. option_or (with_writes s.writes o) s.before)
          (ap (preferred (may_win && step.wins) here) none ∙ preferred-none_later (may_win && step.wins) here))

      -- where it goes on
      pub searching-on : (earliest : Bool) → stops (is_some here) earliest may_win step.wins ≡ false → goes_on nfa text step place ≡ true
          → (places' : List (Option ℕ)) → length places' ≡ length places
          → ((k : ℕ) → k < length places' → slice_index_or places' k None ≡ (if bit_at step.slots k == 1 then Some place else slice_index_or places k None))
          → IsSearching nfa t may_win text told n (place + 1) step.target places' best' out'
      searching-on earliest h goes places' len written =
          let best = best-there (suc n) s in
          let fits : step.slots < 2 ^ 32 = omega arith in
          record {
            writes = s.writes ++ written_at nfa step.slots place;
            before = best_here s.writes here s.before;
            told_is =
                told-now ∙ by here h
                ∙ ap (λ o. option_or o (best_here s.writes here s.before))
                (ap (with_writes s.writes) goes-there ∙ writes-twice s.writes (written_at nfa step.slots place) after);
            places_are = λ k lt.
                (let inside : k < length places = omega arith in
                written k lt
                ∙ ap (λ o. if bit_at step.slots k == 1 then Some place else o) (s.places_are k inside)
                ∙ behind-set nfa step.slots place s.writes k fits);
            best_is = best.best_is;
            out_are = best.out_are;
          }
        where
          goes-there : later ≡ with_writes (written_at nfa step.slots place) after
          goes-there = rw goes refl

          by : (o : Option Trace) → stops (is_some o) earliest may_win step.wins ≡ false
              → option_or (with_writes s.writes (preferred (may_win && step.wins) o later)) s.before
              ≡ option_or (with_writes s.writes later) (best_here s.writes o s.before)
          by None k = ap (λ x. option_or (with_writes s.writes x) s.before) (preferred-none_here (may_win && step.wins) later)
          by (Some x) k =
              let loses : (may_win && step.wins) ≡ false = second earliest k in
              ap (λ b. option_or (with_writes s.writes (preferred b (Some x) later)) s.before) loses
              ∙ ap (λ o. option_or o s.before) (writes-or s.writes later (Some x))
              ∙ or-assoc (with_writes s.writes later) (with_writes s.writes (Some x)) s.before
            where
              second : (b : Bool) → (b || (may_win && step.wins)) ≡ false → (may_win && step.wins) ≡ false
              second true e = absurd (true≢false e)
              second false e = e

-- at the start
pub searching-starts : (nfa : Nfa) (t : TableValue) (may_win : Bool) (text : List ℕ) (n place row : ℕ) (places out : List (Option ℕ))
    → ((k : ℕ) → slice_index_or places k None ≡ None)
    → IsSearching nfa t may_win text (walk nfa t may_win everywhere text n place row) n place row places None out
searching-starts nfa t may_win text n place row places out empty = record {
  writes = [];
  before = None;
  told_is = sym (writes-none (walk nfa t may_win everywhere text n place row));
  places_are = λ k lt. empty k;
  best_is = refl;
  out_are = tt;
}

-- What a row tells.

pub here-no_pattern : (nfa : Nfa) (text : List ℕ) (f : Final) (place : ℕ) → f.pattern ≡ None → told_here nfa everywhere text f place ≡ None
here-no_pattern nfa text f place e =
    by_test (all_hold nfa.terminator text f.looks place)
    (λ h. rw h (ap (λ o. trace_of (sifted everywhere place o) place (written_at nfa f.slots place)) e))
    (λ h. rw h refl)

pub here-fails : (nfa : Nfa) (text : List ℕ) (f : Final) (place : ℕ) → all_hold nfa.terminator text f.looks place ≡ false
    → told_here nfa everywhere text f place ≡ None
here-fails nfa text f place h = rw h refl

pub here-told : (nfa : Nfa) (text : List ℕ) (f : Final) (place p : ℕ) → f.pattern ≡ Some p → all_hold nfa.terminator text f.looks place ≡ true
    → told_here nfa everywhere text f place ≡ Some (record { pattern = p; end = place; writes = written_at nfa f.slots place })
here-told nfa text f place p e h = rw h (ap (λ o. trace_of (sifted everywhere place o) place (written_at nfa f.slots place)) e)

pub telling-nothing : (f : Final) (place : ℕ) (told : Option Trace) (places : List (Option ℕ)) (best : Option HalfMatchValue) (out : List (Option ℕ))
    → told ≡ None → IsTellingOf f place told places best best out out
telling-nothing f place told places best out e = record {
  some = subst (λ o. IfSome o (λ t. best ≡ Some (half t))) (sym e) tt;
  slots = subst (λ o. IfSome o (λ t. (k : ℕ) → k < length out
      → slice_index_or out k None ≡ (if bit_at f.slots k == 1 then Some place else slice_index_or places k None))) (sym e) tt;
  none = λ _. (refl, refl);
}

pub telling-match : (f : Final) (place : ℕ) (told : Option Trace) (places : List (Option ℕ)) (best best' : Option HalfMatchValue)
    (out out' : List (Option ℕ)) (t : Trace) → told ≡ Some t → best' ≡ Some (half t)
    → ((k : ℕ) → k < length out' → slice_index_or out' k None ≡ (if bit_at f.slots k == 1 then Some place else slice_index_or places k None))
    → IsTellingOf f place told places best best' out out'
telling-match f place told places best best' out out' t e is slots = record {
  some = subst (λ o. IfSome o (λ u. best' ≡ Some (half u))) (sym e) is;
  slots = subst (λ o. IfSome o (λ u. (k : ℕ) → k < length out'
      → slice_index_or out' k None ≡ (if bit_at f.slots k == 1 then Some place else slice_index_or places k None))) (sym e) slots;
  none = λ none. none-is-some (sym none ∙ e);
}
