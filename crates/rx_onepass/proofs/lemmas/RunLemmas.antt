-- The run that a search tells, and the walk along the table.
use Rattle.std.proofs.Common.{◌≡◌, ℕ, suc, ◌+◌, ◌-◌, ◌<◌, ◌≤◌, refl, sym, subst, arith, slice_index}
use Rattle.std.specs.Prelude.{Bool, true, false, ◌&&◌, nat_le, Some, None, if◌then◌else◌}
use Rattle.std.proofs.lemmas.Bool.Decides.{nat_tests}
use Rattle.rx_model.specs.Runs.{everywhere, ending_at}
use Rattle.rx_model.specs.Search.{is_permitted}
use Rattle.rx_search.specs.Input.{InputValue}
use Rattle.rx_search.specs.declared.anchored.MatchKind.{MatchKind}
use Rattle.rx_search.specs.declared.anchored.MatchKind.TheVariants.{All, LeftmostFirst}
use Rattle.rx_nfa.specs.Nfa.{IsInRange}
use Rattle.rx_nfa.specs.NextMatch.{start_of}
use Rattle.rx_onepass_table.specs.Along.{walk, farthest, first_from, BothTellSame}
use Rattle.rx_onepass_table.proofs.lemmas.AlongLemmas.{walk-tells, farthest-same, farthest-walk}
use Rattle.rx_onepass_build.specs.Config.{kind_of}
use Rattle.rx_onepass.specs.Dfa.{Dfa}
use Rattle.rx_onepass.specs.Search.{taken_as, run_from, run_of, may_start, run_in, BelongsTo}
use Rattle.rx_onepass.specs.Walked.{may_win, told_from}

module _ (d : Dfa) (v : InputValue) (range : IsInRange d.nfa) (in_order : v.start ≤ v.end)
    (bytes : (k : ℕ) → k < v.end → slice_index v.haystack k < 256) (row q : ℕ) (b : BelongsTo d row q) where
  places : v.start + (v.end - v.start) ≡ v.end
  places = omega arith

  count : suc (v.end - v.start) ≡ v.end + 1 - v.start
  count = omega arith

  by-kind : (kind : MatchKind) → BothTellSame d.nfa (run_from kind d.nfa v.haystack v.end q v.start)
      (walk d.nfa d.table (may_win kind) everywhere v.haystack (v.end - v.start) v.start row)
  by-kind LeftmostFirst =
      walk-tells d.nfa range.names v.haystack v.end bytes b.entries d.table b.table everywhere (v.end - v.start) v.start row q places b.row_of
  by-kind All =
      let n = v.end - v.start in
      subst (λ m. BothTellSame d.nfa (farthest (λ e. first_from d.nfa (ending_at e) v.haystack v.end q v.start) m v.start)
      (walk d.nfa d.table false everywhere v.haystack n v.start row)) count
      (subst (BothTellSame d.nfa (farthest (λ e. first_from d.nfa (ending_at e) v.haystack v.end q v.start) (suc n) v.start))
      (farthest-walk d.nfa v.haystack d.table n v.start row)
      (farthest-same d.nfa (λ e. first_from d.nfa (ending_at e) v.haystack v.end q v.start)
      (λ e. walk d.nfa d.table true (ending_at e) v.haystack n v.start row)
      (λ e. walk-tells d.nfa range.names v.haystack v.end bytes b.entries d.table b.table (ending_at e) n v.start row q places b.row_of) (suc n) v.start))

  -- where a match may start, from the state at which the search begins
  pub run-told : start_of d.nfa (taken_as v.anchor) ≡ Some q → is_permitted d.nfa.utf8 v.haystack v.start ≡ true
      → BothTellSame d.nfa (run_in d v) (told_from d v row)
  run-told start permitted =
      let ordered : nat_le v.start v.end ≡ true = grind (arith, nat_tests) in
      subst (λ o. BothTellSame d.nfa o (told_from d v row)) (sym run) (by-kind (kind_of d.config))
    where
      run : run_in d v ≡ run_from (kind_of d.config) d.nfa v.haystack v.end q v.start
      run =
          let ordered : nat_le v.start v.end ≡ true = grind (arith, nat_tests) in
          rw (ordered, permitted, start) refl

-- Where there is no run.

pub run-not-permitted : (d : Dfa) (v : InputValue) → is_permitted d.nfa.utf8 v.haystack v.start ≡ false → run_in d v ≡ None
run-not-permitted d v refused = by_le (nat_le v.start v.end)
  where
    by_le : (le : Bool) → (if le && is_permitted d.nfa.utf8 v.haystack v.start then run_of (kind_of d.config) d.nfa v.haystack v.end
        (start_of d.nfa (taken_as v.anchor)) v.start else None) ≡ None
    by_le true = rw refused refl
    by_le false = refl

pub run-done : (d : Dfa) (v : InputValue) → v.end < v.start → run_in d v ≡ None
run-done d v less = let e : nat_le v.start v.end ≡ false = grind (arith, nat_tests) in rw e refl

pub run-unknown : (d : Dfa) (v : InputValue) → start_of d.nfa (taken_as v.anchor) ≡ None → run_in d v ≡ None
run-unknown d v none = by (may_start d v)
  where
    by : (b : Bool) → (if b then run_of (kind_of d.config) d.nfa v.haystack v.end (start_of d.nfa (taken_as v.anchor)) v.start else None) ≡ None
    by true = rw none refl
    by false = refl
