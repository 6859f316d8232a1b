-- Slots of which a range was lent.
use Rattle.std.proofs.Common.{◌≡◌, ℕ, zero, suc, ◌+◌, ◌-◌, ◌<◌, ◌≤◌, List, [], ◌∷◌, ◌++◌, length, take, drop, min, length-append, length-drop, refl, sym, ◌∙◌, ap, subst, arith}
use Rattle.std.specs.Prelude.{Bool, false, Option, Some, None, IfSome, nat_lt, slice_index_or}
use Rattle.std.proofs.lemmas.Bool.Decides.{nat_tests}
use Rattle.std.proofs.lemmas.List.{get_or_append_left, get_or-append_right, get_or-take, get_or-drop, get_or_past, length-take-le}
use Rattle.rx_model.specs.Runs.{Trace, everywhere, last_write}
use Rattle.rx_model.proofs.lemmas.runs.RunLemmas.{by_test}
use Rattle.rx_search.specs.Input.{InputValue}
use Rattle.rx_search.specs.Matches.{HalfMatchValue}
use Rattle.rx_onepass_table.specs.Along.{walk}
use Rattle.rx_onepass_table.specs.Entry.{explicit_start}
use Rattle.rx_onepass_table.specs.Search.{IsAnswer, AreWritten}
use Rattle.rx_onepass_build.specs.Config.{kind_of}
use Rattle.rx_onepass.specs.Dfa.{Dfa, explicit_slots}
use Rattle.rx_onepass.specs.Walked.{may_win, told_from, IsSlotAt, IsWalked}

take-none : (n : ℕ) (slots : List (Option ℕ)) → ((k : ℕ) → slice_index_or slots k None ≡ None) → (k : ℕ) → slice_index_or (take n slots) k None ≡ None
take-none zero slots empty k = refl
take-none (suc n) [] empty k = refl
take-none (suc n) (slot ∷ slots) empty zero = empty zero
take-none (suc n) (slot ∷ slots) empty (suc k) = take-none n slots (λ j. empty (suc j)) k

-- where no slot has a place, none of a range has
pub range-empty : (slots : List (Option ℕ)) (first n : ℕ) → ((k : ℕ) → slice_index_or slots k None ≡ None)
    → (k : ℕ) → slice_index_or (take n (drop first slots)) k None ≡ None
range-empty slots first n empty = take-none n (drop first slots) (λ k. get_or-drop first slots k None ∙ empty (first + k))

-- the slots from `first` on, as many as in `out`, are those
module _ (old out new : List (Option ℕ)) (first count n : ℕ) (long : length out ≡ count) (inside : first + count ≤ length old) (n_is : n ≡ count)
    (is : new ≡ take first old ++ (out ++ drop n (drop first old))) where
  front : length (take first old) ≡ first
  front = length-take-le first old (omega arith)

  room : length new ≡ length old
  room =
      let whole = ap length is in
      let parts = length-append (take first old) (out ++ drop n (drop first old)) in
      let rest = length-append out (drop n (drop first old)) in
      let past = length-drop n (drop first old) in
      let behind_first = length-drop first old in
      let long_front = front in
      omega arith

  before : (i : ℕ) → i < first → slice_index_or new i None ≡ slice_index_or old i None
  before i lt =
      let long_front = front in
      ap (λ xs. slice_index_or xs i None) is
      ∙ get_or_append_left (take first old) (out ++ drop n (drop first old)) None i (omega arith)
      ∙ get_or-take first old i None lt

  behind : (i : ℕ) → first ≤ i → slice_index_or new i None ≡ slice_index_or (out ++ drop n (drop first old)) (i - first) None
  behind i le =
      ap (λ xs. slice_index_or xs i None) is
      ∙ get_or-append_right (take first old) (out ++ drop n (drop first old)) first i None front le

  within : (i : ℕ) → first ≤ i → i < first + count → slice_index_or new i None ≡ slice_index_or out (i - first) None
  within i le lt = behind i le ∙ get_or_append_left out (drop n (drop first old)) None (i - first) (omega arith)

  after : (i : ℕ) → first + count ≤ i → slice_index_or new i None ≡ slice_index_or old i None
  after i le =
      let place : first + (n + (i - first - count)) ≡ i = omega arith in
      behind i (omega arith)
      ∙ get_or-append_right out (drop n (drop first old)) count (i - first) None long (omega arith)
      ∙ get_or-drop n (drop first old) (i - first - count) None
      ∙ get_or-drop first old (n + (i - first - count)) None
      ∙ ap (λ j. slice_index_or old j None) place

  module _ (d : Dfa) (v : InputValue) (row : ℕ) (wins : Bool) (found : Option HalfMatchValue) (wins_is : wins ≡ may_win (kind_of d.config))
      (answer : IsAnswer d.nfa v.earliest (walk d.nfa d.table wins everywhere v.haystack (v.end - v.start) v.start row) found out)
      (first_is : first ≡ min (explicit_start d.nfa) (length old)) (count_is : count ≡ min (explicit_slots d.nfa) (length old - first)) where
    told : IsAnswer d.nfa v.earliest (told_from d v row) found out
    told =
        subst (λ w. IsAnswer d.nfa v.earliest (walk d.nfa d.table w everywhere v.haystack (v.end - v.start) v.start row) found out) wins_is answer

    slot-at : (t : Trace) → AreWritten d.nfa t.writes out → (k slot : ℕ) → IsSlotAt d new k slot → slice_index_or new slot None ≡ last_write t.writes slot
    slot-at t written k place_of at =
        let place = at.is in
        let few = at.explicit in
        let there = at.there in
        let same_room = room in
        let start : first ≡ explicit_start d.nfa = omega arith in
        let lt : k < count = omega arith in
        let same : place_of - first ≡ k = omega arith in
        within place_of (omega arith) (omega arith)
        ∙ ap (λ j. slice_index_or out j None) same
        ∙ written k (omega arith) ∙ ap (last_write t.writes) (sym place)

    slots : v.earliest ≡ false → (o : Option Trace) → o ≡ told_from d v row
        → IfSome o (λ t. (k slot : ℕ) → IsSlotAt d new k slot → slice_index_or new slot None ≡ last_write t.writes slot)
    slots calm None e = tt
    slots calm (Some t) e =
        slot-at t (subst (λ o. IfSome o (λ u. AreWritten d.nfa u.writes out)) (sym e) (told.slots calm))

    pub walked-of : IsWalked d v row old found new
    walked-of = record {
      value = told.value;
      any = told.any;
      slots_are = λ calm. slots calm (told_from d v row) refl;
      implicit = implicit;
      past = λ s le. after s (omega arith);
    }
      where
        implicit : (s : ℕ) → s < explicit_start d.nfa → slice_index_or new s None ≡ slice_index_or old s None
        implicit s lt =
            by_test (nat_lt s first)
            (λ e. let less : s < first = grind (arith, nat_tests) in before s less)
            (λ e.
            let le : first ≤ s = grind (arith, nat_tests) in
            let past : length old ≤ s = omega arith in
            let same_room = room in
            get_or_past new s None (omega arith) ∙ sym (get_or_past old s None past))
