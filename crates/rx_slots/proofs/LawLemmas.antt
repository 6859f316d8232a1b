-- What the rules say of two seats, and of all.
use Rattle.std.proofs.Common.{◌≡◌, ℕ, ◌%◌, ◌<◌, ◌≤◌, ◌==◌, List, [], ◌∷◌, min, All, Contains, length, slice_index, refl, ◌∙◌, ⊎_elim, arith, Option, Some, if◌then◌else◌}
use Rattle.std.specs.List.{sum_by}
use Rattle.std.proofs.lemmas.List.Elements.{All-nil, All-cons, All-contains}
use Rattle.std.proofs.lemmas.Bool.{cases_lt}
use Rattle.std.proofs.lemmas.Bool.Decides.{nat_tests}
use mathlib.Core.Option.{some}
use mathlib.Core.Logic.{dite}
use native.Mathlib.Decide.{ℕ_discrete}
use lib.ListN.{get_elem?}
use Rattle.atomic_table.specs.Table.{State}
use Rattle.rx_slots.specs.declared.slot_pool.SlotView.{SlotView}
use Rattle.rx_slots.specs.declared.draws.Bounds.{Bounds}
use Rattle.rx_slots.specs.declared.draws.DrawView.{DrawView}
use Rattle.rx_slots.specs.Slots.{holds_of, AreAt, AreNotAbove, Turns, Holds, HasSeen}
use Rattle.rx_slots.specs.Draws.{draws_of, once_below, EachOnce, HasDrawn, IsDone}
use Rattle.rx_slots.proofs.Views.{at_least, two_at_least, one_counts, counts_one, contains_number, contains_first, is_one}

-- Lists of turns

at_turn : (words : List ℕ) (hs : List (ℕ × ℕ)) → AreAt words hs → All (λ (h : ℕ × ℕ). slice_index words h.0 ≡ h.1) hs
at_turn words [] h = All-nil (λ (h : ℕ × ℕ). slice_index words h.0 ≡ h.1)
at_turn words (x ∷ hs) h = All-cons (λ (h : ℕ × ℕ). slice_index words h.0 ≡ h.1) x hs h.0 (at_turn words hs h.1)

not_above : (words : List ℕ) (hs : List (ℕ × ℕ)) → AreNotAbove words hs → All (λ (h : ℕ × ℕ). h.1 ≤ slice_index words h.0) hs
not_above words [] h = All-nil (λ (h : ℕ × ℕ). h.1 ≤ slice_index words h.0)
not_above words (x ∷ hs) h = All-cons (λ (h : ℕ × ℕ). h.1 ≤ slice_index words h.0) x hs h.0 (not_above words hs h.1)

-- Slots

module _ {T : Type 0} (s : State (Option T) SlotView) (rule : Turns s) where
  pub holds_one : (id k turn : ℕ) (h : Holds s id k turn) → 1 ≤ holds_of k h.0
  holds_one id k turn h = omega (arith, counts_one (λ (y : ℕ × ℕ). if y.0 == k then 1 else 0) h.0.held (k, turn) h.2, is_one k k refl)

  pub one_hand : (k i j a b : ℕ) → k < length s.words → Holds s i k a → Holds s j k b → i ≡ j
  one_hand k i j a b near one other = dite (ℕ_discrete i j) (λ e. e) (λ ne. absurd (omega (
    arith,
    two_at_least (holds_of k) s.views i j one.0 other.0 ne one.1 other.1,
    holds_one i k a one,
    holds_one j k b other,
    rule.once k near,
  )))

  pub at_its_turn : (k id turn : ℕ) → Holds s id k turn → slice_index s.words k ≡ turn
  at_its_turn k id turn h =
      All-contains (λ (y : ℕ × ℕ). slice_index s.words y.0 ≡ y.1) h.0.held (k, turn) (at_turn s.words h.0.held (rule.held id h.0 h.1)) h.2

  pub odd_turn : (k id turn : ℕ) → k < length s.words → Holds s id k turn → turn % 2 ≡ 1
  odd_turn k id turn near h = omega (
    arith,
    at_its_turn k id turn h,
    holds_one id k turn h,
    at_least (holds_of k) s.views id h.0 h.1,
    rule.once k near,
  )

  pub holds_seen : (k id turn : ℕ) → Holds s id k turn → HasSeen s id k turn
  holds_seen k id turn h = (h.0, h.1, All-contains (Contains h.0.seen) h.0.held (k, turn) (rule.known id h.0 h.1) h.2)

  pub not_to_come : (k id turn : ℕ) → HasSeen s id k turn → turn ≤ slice_index s.words k
  not_to_come k id turn h =
      All-contains (λ (y : ℕ × ℕ). y.1 ≤ slice_index s.words y.0) h.0.seen (k, turn) (not_above s.words h.0.seen (rule.seen id h.0 h.1)) h.2

  pub in_no_hand : (k : ℕ) → k < length s.words → ((id turn : ℕ) → Holds s id k turn → ⊥)
      → (x : T) × (get_elem? s.homes k ≡ some (some (Some x)))
  in_no_hand k near nobody = dite (ℕ_discrete (slice_index s.words k % 2) 0) (λ even. rule.home k near even) (λ odd.
      let one = one_counts (holds_of k) s.views (omega (arith, rule.once k near, odd)) in
      let held = contains_first k one.1.held one.3 in absurd (nobody one.0 held.0 (one.1, one.2, held.1)))

-- Draws

module _ (b : Bounds) (s : State (Unit {0}) DrawView) (rule : EachOnce b s) where
  pub drew_one : (id n : ℕ) (d : HasDrawn s id n) → 1 ≤ draws_of n d.0
  drew_one id n d = omega (arith, counts_one (λ (y : ℕ). if y == n then 1 else 0) d.0.numbers n d.2, is_one n n refl)

  at_most_once : (n m : ℕ) → once_below n m ≤ 1
  at_most_once n m = grind (arith, nat_tests)

  none_above : (n m : ℕ) → m ≤ n → once_below n m ≡ 0
  none_above n m above = grind (arith, nat_tests)

  one_below : (n m : ℕ) → n < m → once_below n m ≡ 1
  one_below n m below = grind (arith, nat_tests)

  pub one_drew : (n i j : ℕ) → HasDrawn s i n → HasDrawn s j n → i ≡ j
  one_drew n i j one other = dite (ℕ_discrete i j) (λ e. e) (λ ne. absurd (omega (
    arith,
    two_at_least (draws_of n) s.views i j one.0 other.0 ne one.1 other.1,
    drew_one i n one,
    drew_one j n other,
    rule.drawn n,
    at_most_once n (min (slice_index s.words 0) b.limit),
  )))

  pub drew_once : (n id : ℕ) (v : DrawView) → get_elem? s.views id ≡ some v → draws_of n v ≤ 1
  drew_once n id v here = omega (arith, at_least (draws_of n) s.views id v here, rule.drawn n, at_most_once n (min (slice_index s.words 0) b.limit))

  pub drew_below : (n id : ℕ) → HasDrawn s id n → n < b.limit
  drew_below n id d = ⊎_elim (λ lt. lt) (λ ge. absurd (omega (
    arith,
    at_least (draws_of n) s.views id d.0 d.1,
    drew_one id n d,
    rule.drawn n,
    none_above n (min (slice_index s.words 0) b.limit) (omega (arith, ge)),
  ))) (cases_lt n b.limit)

  pub drew_all : (id : ℕ) → IsDone s id → (n : ℕ) → n < b.limit → (by : ℕ) × HasDrawn s by n
  drew_all id done n below =
      let reached = rule.ended id done.0 done.1 done.2 in
      let once : sum_by (draws_of n) s.views ≡ 1 = rule.drawn n ∙ one_below n (min (slice_index s.words 0) b.limit) (omega (arith, reached, below)) in
      let one = one_counts (draws_of n) s.views (omega (arith, once)) in
      (one.0, (one.1, one.2, contains_number n one.1.numbers one.3))
