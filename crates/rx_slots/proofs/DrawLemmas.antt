-- Each step of `Draws` keeps its rule.
use Rattle.std.proofs.Common.{◌≡◌, ℕ, zero, suc, ◌+◌, ◌%◌, ◌^◌, ◌<◌, ◌≤◌, ◌==◌, ⊎_elim, true, false, true≢false, min, List, [], ◌∷◌, ◌++◌, length, length-set, length-append, get_or, get_or-set_same, slice_index, set, sym, refl, ap, ◌∙◌, arith, count_by, if◌then◌else◌}
use Rattle.std.specs.List.{sum_by}
use Rattle.std.proofs.Math.Nat.{mod-eq_of_lt}
use Rattle.std.proofs.lemmas.List.Sums.{sum_by-cons}
use Rattle.std.proofs.lemmas.Bool.{cases_lt}
use Rattle.std.proofs.lemmas.Bool.Decides.{nat_tests}
use mathlib.Core.Option.{some, none, some-injective, some-ne-none}
use lib.ListN.{get_elem?}
use Rattle.atomic_table.specs.Table.{State, step, keeps, Allows, Splits, opening, stepped}
use Rattle.atomic_table.proofs.Lists.{at_set, at_snoc}
use Rattle.rx_slots.specs.declared.draws.Bounds.{Bounds}
use Rattle.rx_slots.specs.declared.draws.DrawView.{DrawView}
use Rattle.rx_slots.specs.Draws.{first_drawer, new_drawer, with_one_less, with_number, when_done, draws_of, done_of, once_below, EachOnce, Draws}
use Rattle.rx_slots.proofs.Views.{sum_changes, sum_gains, one_missing, times_cons, times_append}

draws_more : (x n : ℕ) (xs : List ℕ) → count_by (λ y. y == x) (xs ++ n ∷ []) ≡ count_by (λ y. y == x) xs + (if n == x then 1 else 0)
draws_more x n xs = omega (arith, times_append x xs (n ∷ []), times_cons x n [])

once_more : (x n : ℕ) → once_below x (n + 1) ≡ once_below x n + (if n == x then 1 else 0)
once_more x n = grind (arith, nat_tests)

none_below : (x : ℕ) → once_below x 0 ≡ 0
none_below x = grind (arith, nat_tests)

done_one : (v : DrawView) → done_of v ≤ 1
done_one v = grind arith

not_done : (v : DrawView) → v.done ≡ false → done_of v ≡ 0
not_done v e = rw e

module _ (b : Bounds) where
  -- one view changes, and the word rises
  kept : (s : State (Unit {0}) DrawView) (id : ℕ) (v w : DrawView) (m : ℕ) (c : List (ℕ × Unit {0})) → EachOnce b s → get_elem? s.views id ≡ some v
      → ((x : ℕ) → draws_of x w + once_below x (min (slice_index s.words 0) b.limit) ≡ draws_of x v + once_below x (min m b.limit))
      → m ≤ b.limit + sum_by done_of (set s.views id w) → slice_index s.words 0 ≤ m → (w.done ≡ true → b.limit ≤ m) → w.limit ≡ v.limit → w.left ≡ v.left
      → EachOnce b (stepped s 0 m id c w keeps)
  kept s id v w m c rule here gains bound rises ends limit left =
      let word : get_or (set s.words 0 m) 0 0 ≡ m = (let some_word : 0 < length s.words = omega (arith, rule.one_word) in rw get_or-set_same) in
      record {
        one_word = length-set s.words 0 m ∙ rule.one_word;
        fits = rule.fits;
        drawn = λ x. rw word (omega (arith, sum_changes (draws_of x) s.views id v w here, rule.drawn x, gains x));
        bound = rw word bound;
        ended = λ by u there is_done. rw word (⊎_elim (λ new. ends (ap (λ (d : DrawView). d.done) new.1
            ∙ is_done)) (λ old. omega (arith, rule.ended by u old.1 is_done, rises)) (at_set s.views id by w u there));
        limits = λ by u there. ⊎_elim (λ new. sym (ap (λ (d : DrawView). d.limit) new.1) ∙ limit
            ∙ rule.limits id v here) (λ old. rule.limits by u old.1) (at_set s.views id by w u there);
        seats = omega (arith, length-set s.views id w, sum_changes (λ (d : DrawView). d.left) s.views id v w here, rule.seats, left);
      }

  pub draws : (slots id : ℕ) (v : DrawView) (c : List (ℕ × Unit {0})) → v.done ≡ false
      → Allows (EachOnce b) slots id (v, c) 0 (λ n. (n + 1) % 2 ^ 64) (Draws (step slots 0 1 0 none) (v, c))
  draws slots id v c going s rule len here small =
      let n : ℕ = slice_index s.words 0 in
      let idle = not_done v going in
      let missing = one_missing done_of s.views id v done_one here idle in
      let room : n + 1 < 2 ^ 64 = omega (arith, rule.fits, rule.bound, rule.seats, missing) in
      let wraps : (n + 1) % 2 ^ 64 ≡ n + 1 = mod-eq_of_lt room in
      let limit = rule.limits id v here in
      ⊎_elim
      (λ lt. (
        with_number v n,
        keeps,
        tt,
        rw wraps (kept s id v (with_number v n) (n + 1) c rule here
            (λ x. let low : min n b.limit ≡ n = omega (arith, lt) in let high : min (n + 1) b.limit ≡ n + 1 = omega (arith, lt) in
            rw (low, high) (omega (arith, draws_more x n v.numbers, once_more x n)))
            (omega (arith, lt)) (omega arith) (λ e. absurd (true≢false (sym e ∙ going))) refl refl),
        ((λ under. refl), (λ over. absurd (omega (arith, lt, limit, over)))),
      ))
      (λ ge. (
        when_done v,
        keeps,
        tt,
        rw wraps (kept s id v (when_done v) (n + 1) c rule here
            (λ x. let low : min n b.limit ≡ b.limit = omega (arith, ge) in let high : min (n + 1) b.limit ≡ b.limit = omega (arith, ge) in rw (low, high))
            (omega (arith, sum_changes done_of s.views id v (when_done v) here, idle, rule.bound)) (omega arith) (λ e. omega (arith, ge)) refl refl),
        ((λ under. absurd (omega (arith, ge, limit, under))), (λ over. refl)),
      ))
      (cases_lt n b.limit)

  pub splits : (id : ℕ) (v : DrawView) → 0 < v.left → Splits (EachOnce b) id v (with_one_less v) (new_drawer v)
  splits id v left s rule here =
      let made : DrawView = with_one_less v in
      let views : List DrawView = set s.views id made in
      record {
        one_word = rule.one_word;
        fits = rule.fits;
        drawn = λ x. omega (arith, sum_gains (draws_of x) views (new_drawer v), sum_changes (draws_of x) s.views id v made here, rule.drawn x);
        bound = omega (arith, sum_gains done_of views (new_drawer v), sum_changes done_of s.views id v made here, rule.bound);
        ended = λ by u there is_done. ⊎_elim
            (λ old. ⊎_elim (λ new. rule.ended id v here (ap (λ (d : DrawView). d.done) new.1
            ∙ is_done)) (λ same. rule.ended by u same.1 is_done) (at_set s.views id by made u old))
            (λ new. absurd (true≢false (sym is_done ∙ sym (ap (λ (d : DrawView). d.done) new)))) (at_snoc views (new_drawer v) u by there);
        limits = λ by u there. ⊎_elim
            (λ old. ⊎_elim (λ new. sym (ap (λ (d : DrawView). d.limit) new.1)
            ∙ rule.limits id v here) (λ same. rule.limits by u same.1) (at_set s.views id by made u old))
            (λ new. sym (ap (λ (d : DrawView). d.limit) new) ∙ rule.limits id v here) (at_snoc views (new_drawer v) u by there);
        seats = omega (
          arith,
          length-append views (new_drawer v ∷ []),
          length-set s.views id made,
          sum_gains (λ (d : DrawView). d.left) views
              (new_drawer v),
          sum_changes (λ (d : DrawView). d.left) s.views id v made here,
          rule.seats,
          left,
        );
      }

  none_is_done : (by : ℕ) (u : DrawView) → get_elem? (first_drawer b ∷ []) by ≡ some u → u.done ≡ true → ⊥
  none_is_done zero u there e = true≢false (sym e ∙ sym (ap (λ (d : DrawView). d.done) (some-injective (first_drawer b) u there)))
  none_is_done (suc by) u there e = some-ne-none u (sym there)

  limit_at : (by : ℕ) (u : DrawView) → get_elem? (first_drawer b ∷ []) by ≡ some u → b.limit ≡ u.limit
  limit_at zero u there = ap (λ (d : DrawView). d.limit) (some-injective (first_drawer b) u there)
  limit_at (suc by) u there = absurd (some-ne-none u (sym there))

  pub opens : 0 < b.seats → b.limit + b.seats < 2 ^ 64 → EachOnce b (opening (0 ∷ []) [] (first_drawer b))
  opens any fits = record {
    one_word = refl;
    fits = fits;
    drawn = λ x. let low : min 0 b.limit ≡ 0 = omega arith in rw low (sum_by-cons (draws_of x) (first_drawer b) [] ∙ sym (none_below x));
    bound = omega arith;
    ended = λ by u there is_done. absurd (none_is_done by u there is_done);
    limits = λ by u there. sym (limit_at by u there);
    seats = omega (arith, any, sum_by-cons (λ (d : DrawView). d.left) (first_drawer b) []);
  }
