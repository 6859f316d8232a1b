-- How many states read numbers by their digits, from the last one on: no more than are accounted.
use Rattle.std.proofs.Common.{◌≡◌, ℕ, zero, suc, ◌+◌, ◌-◌, ◌*◌, ◌/◌, ◌%◌, ◌<◌, ◌≤◌, List, [], ◌∷◌, ◌++◌, refl, sym, ◌∙◌, ap, subst, arith, length}
use Rattle.std.specs.Prelude.{true, false, ◌||◌, Option, Some, None, IfSome, Contains, sum_by, if◌then◌else◌, ◌==◌, nat_le}
use Rattle.std.specs.List.{list_any}
use Rattle.std.proofs.lemmas.Bool.{eq-eqb}
use Rattle.std.proofs.lemmas.List.Sums.{sum_by-cons, sum_by-append}
use Rattle.rx_model.proofs.lemmas.runs.RunLemmas.{by_test}
use Rattle.rx_model.proofs.lemmas.runs.MemberLemmas.{first-among, later-among}
use Rattle.rx_nfa.specs.Directed.{whole_from, whole_to, low_piece, middle_piece, high_piece, some_list, pieces_of, pieces_of_range, pieces_in, last_of, before_of, is_range, lasts_from, lasts_of, before_last}
use Rattle.rx_nfa.specs.Digits.{joints, ways_of_digits, states_of_digits, states_of_group, states_behind}
use Rattle.rx_nfa.specs.Ranges.{is_narrow, cost_of_part, cost_of_parts}
use Rattle.rx_nfa.specs.declared.backwards.Piece.{Piece}
use Rattle.rx_nfa.proofs.lemmas.parts.PieceLemmas.{low-one, low-whole, low-part, middle-one, middle-none, middle-some, high-one, high-whole, high-part}
use Rattle.rx_nfa.proofs.lemmas.parts.LastLemmas.{range-same, range-itself, Distinct, lasts-distinct, before-none, before-here, before-other, before-some}
use Rattle.std.proofs.Math.Bool.{or-true}

-- Sums.

sum-none : {X : Type 0} (f : X → ℕ) (xs : List X) → ((x : X) → f x ≡ 0) → sum_by f xs ≡ 0
sum-none f [] each = refl
sum-none f (x ∷ xs) each = let e = each x in let later = sum-none f xs each in let sum = sum_by-cons f x xs in omega arith

sum-among : {X : Type 0} (f g : X → ℕ) (xs : List X) → ((x : X) → Contains xs x → f x ≤ g x) → sum_by f xs ≤ sum_by g xs
sum-among f g [] each = omega arith
sum-among f g (x ∷ xs) each =
    let first = each x (first-among x xs) in
    let later = sum-among f g xs (λ y m. each y (later-among x y xs m)) in
    let sum = sum_by-cons f x xs in
    let sum' = sum_by-cons g x xs in
    omega arith

sum-most : {X : Type 0} (f g : X → ℕ) (xs : List X) → ((x : X) → f x ≤ g x) → sum_by f xs ≤ sum_by g xs
sum-most f g xs each = sum-among f g xs (λ x m. each x)

sum-ones : {X : Type 0} (f : X → ℕ) (xs : List X) → ((x : X) → f x ≡ 1) → sum_by f xs ≡ length xs
sum-ones f [] each = refl
sum-ones f (x ∷ xs) each = let e = each x in let later = sum-ones f xs each in let sum = sum_by-cons f x xs in omega arith

-- Pieces by their last digits: each piece counts once.

module _ (w : ℕ × ℕ → ℕ) where
  abbrev weighed : List Piece → ℕ × ℕ → ℕ
  weighed ps = λ last. sum_by w (before_last last ps)

  -- what a piece adds, where its last digits are among these
  abbrev added : Piece → List (ℕ × ℕ) → ℕ
  added p lasts = if list_any (is_range (last_of p)) lasts then w (before_of p) else 0

  added-most : (p : Piece) (lasts : List (ℕ × ℕ)) → added p lasts ≤ w (before_of p)
  added-most p lasts = by_test (list_any (is_range (last_of p)) lasts) (λ e. rw e (omega arith)) (λ e. rw e (omega arith))

  added-none : (p : Piece) (lasts : List (ℕ × ℕ)) → list_any (is_range (last_of p)) lasts ≡ false → added p lasts ≡ 0
  added-none p lasts e = rw e refl

  added-some : (p : Piece) (lasts : List (ℕ × ℕ)) → list_any (is_range (last_of p)) lasts ≡ true → added p lasts ≡ w (before_of p)
  added-some p lasts e = rw e refl

  added-more : (p : Piece) (last : ℕ × ℕ) (lasts : List (ℕ × ℕ)) → added p lasts ≤ added p (last ∷ lasts)
  added-more p last lasts =
      by_test (list_any (is_range (last_of p)) lasts)
      (λ e.
      let more : list_any (is_range (last_of p)) (last ∷ lasts) ≡ true = ap (λ b. is_range (last_of p) last || b) e ∙ or-true (is_range (last_of p) last) in
      let a = added-some p lasts e in
      let b = added-some p (last ∷ lasts) more in
      omega arith)
      (λ e. let a = added-none p lasts e in omega arith)

  piece-added : (p : Piece) (ps : List Piece) (lasts : List (ℕ × ℕ)) → Distinct lasts
      → sum_by (weighed (p ∷ ps)) lasts ≤ added p lasts + sum_by (weighed ps) lasts
  piece-added p ps [] d = omega arith
  piece-added p ps (last ∷ lasts) d =
      let later = piece-added p ps lasts d.1 in
      let sum = sum_by-cons (weighed (p ∷ ps)) last lasts in
      let sum' = sum_by-cons (weighed ps) last lasts in
      by_test (is_range last (last_of p))
      (λ e.
      let same = range-same last (last_of p) e in
      let here : weighed (p ∷ ps) last ≡ w (before_of p) + weighed ps last =
      ap (sum_by w) (before-here last p ps e) ∙ sum_by-cons w (before_of p) (before_last last ps) in
      let once = added-none p lasts (ap (λ r. list_any (is_range r) lasts) (sym same) ∙ d.0) in
      let first : list_any (is_range (last_of p)) (last ∷ lasts) ≡ true =
      ap (λ r. is_range (last_of p) r || list_any (is_range (last_of p)) lasts) same
      ∙ ap (λ b. b || list_any (is_range (last_of p)) lasts) (range-itself (last_of p)) in
      let now = added-some p (last ∷ lasts) first in
      omega arith)
      (λ e.
      let here : weighed (p ∷ ps) last ≡ weighed ps last = ap (sum_by w) (before-other last p ps e) in
      let more = added-more p last lasts in
      omega arith)

  pieces-once : (ps : List Piece) (lasts : List (ℕ × ℕ)) → Distinct lasts → sum_by (weighed ps) lasts ≤ sum_by (λ p. w (before_of p)) ps
  pieces-once [] lasts d = let none = sum-none (weighed []) lasts (λ last. ap (sum_by w) (before-none last)) in omega arith
  pieces-once (p ∷ ps) lasts d =
      let later = pieces-once ps lasts d in
      let first = piece-added p ps lasts d in
      let most = added-most p lasts in
      let sum = sum_by-cons (λ (q : Piece). w (before_of q)) p ps in
      omega arith

-- How many states there are at most for a range: with the state that chooses between its ways, where there is more than
-- one, and without it.

abbrev pub wide : ℕ → ℕ
wide zero = 1
wide (suc depth) = 2 * depth + 6 + wide depth

abbrev pub weight : (depth : ℕ) → ℕ × ℕ → ℕ
weight depth r = if is_narrow r then depth + 1 else wide depth

abbrev pub lone : (depth : ℕ) → ℕ × ℕ → ℕ
lone zero r = 1
lone (suc depth) r = if is_narrow r then depth + 2 else 2 * depth + 5 + wide depth

wide-least : (depth : ℕ) → depth + 1 ≤ wide depth
wide-least zero = omega arith
wide-least (suc depth) = let before = wide-least depth in omega arith

weight-narrow : (depth : ℕ) (r : ℕ × ℕ) → is_narrow r ≡ true → weight depth r ≡ depth + 1
weight-narrow depth r e = rw e refl

weight-wide : (depth : ℕ) (r : ℕ × ℕ) → is_narrow r ≡ false → weight depth r ≡ wide depth
weight-wide depth r e = rw e refl

weight-most : (depth : ℕ) (r : ℕ × ℕ) → weight depth r ≤ wide depth
weight-most depth r =
    let least = wide-least depth in
    by_test (is_narrow r) (λ e. let is = weight-narrow depth r e in omega arith) (λ e. let is = weight-wide depth r e in omega arith)

weight-one : (depth n : ℕ) → weight depth (n, n) ≡ depth + 1
weight-one depth n = weight-narrow depth (n, n) (eq-eqb (n / 64) (n / 64) refl)

lone-narrow : (depth : ℕ) (r : ℕ × ℕ) → is_narrow r ≡ true → lone (suc depth) r ≡ depth + 2
lone-narrow depth r e = rw e refl

lone-wide : (depth : ℕ) (r : ℕ × ℕ) → is_narrow r ≡ false → lone (suc depth) r ≡ 2 * depth + 5 + wide depth
lone-wide depth r e = rw e refl

lone-weight : (depth : ℕ) (r : ℕ × ℕ) → lone depth r ≤ weight depth r
lone-weight zero r = by_test (is_narrow r) (λ e. let is = weight-narrow zero r e in omega arith) (λ e. let is = weight-wide zero r e in omega arith)
lone-weight (suc depth) r =
    by_test (is_narrow r)
    (λ e. let is = weight-narrow (suc depth) r e in let is' = lone-narrow depth r e in omega arith)
    (λ e. let is = weight-wide (suc depth) r e in let is' = lone-wide depth r e in omega arith)

-- The pieces of a range.

abbrev piece_weight : (depth : ℕ) → Piece → ℕ
piece_weight depth = λ (p : Piece). 1 + weight depth (before_of p)

option-most : (f : Piece → ℕ) (o : Option Piece) (n : ℕ) → IfSome o (λ p. f p ≤ n) → sum_by f (some_list o) ≤ n
option-most f None n h = omega arith
option-most f (Some p) n h = let sum = sum_by-cons f p [] in let none : sum_by f [] ≡ 0 = refl in omega arith

module _ (depth : ℕ) (r : ℕ × ℕ) where
  abbrev Most : ℕ → Option Piece → Type 0
  Most n o = IfSome o (λ p. piece_weight depth p ≤ n)

  known : (n : ℕ) (o o' : Option Piece) → o ≡ o' → Most n o' → sum_by (piece_weight depth) (some_list o) ≤ n
  known n o o' e h = option-most (piece_weight depth) o n (subst (Most n) (sym e) h)

  pieces-sum : (a b c : ℕ) → sum_by (piece_weight depth) (some_list (low_piece 64 r.0 r.1)) ≤ a
      → sum_by (piece_weight depth) (some_list (middle_piece 64 r.0 r.1)) ≤ b → sum_by (piece_weight depth) (some_list (high_piece 64 r.0 r.1)) ≤ c
      → sum_by (piece_weight depth) (pieces_of 64 r.0 r.1) ≤ a + (b + c)
  pieces-sum a b c x y z =
      let l = some_list (low_piece 64 r.0 r.1) in
      let m = some_list (middle_piece 64 r.0 r.1) in
      let h = some_list (high_piece 64 r.0 r.1) in
      let sum = sum_by-append (piece_weight depth) l (m ++ h) in
      let sum' = sum_by-append (piece_weight depth) m h in
      omega arith

  pieces-narrow : is_narrow r ≡ true → sum_by (piece_weight depth) (pieces_of 64 r.0 r.1) ≤ lone (suc depth) r
  pieces-narrow e =
      let is = lone-narrow depth r e in
      let one = weight-one depth (r.0 / 64) in
      let sum = pieces-sum (depth + 2) 0 0
      (known (depth + 2) (low_piece 64 r.0 r.1) _ (low-one 64 r.0 r.1 e) (omega arith))
      (known 0 (middle_piece 64 r.0 r.1) None (middle-one 64 r.0 r.1 e) tt)
      (known 0 (high_piece 64 r.0 r.1) None (high-one 64 r.0 r.1 e) tt) in
      omega arith

  pieces-wide : is_narrow r ≡ false → sum_by (piece_weight depth) (pieces_of 64 r.0 r.1) ≤ lone (suc depth) r
  pieces-wide e =
      let is = lone-wide depth r e in
      let one = weight-one depth (r.0 / 64) in
      let last = weight-one depth (r.1 / 64) in
      let most = weight-most depth (whole_from 64 r.0, whole_to 64 r.1 - 1) in
      let sum = pieces-sum (depth + 2) (1 + wide depth) (depth + 2)
      (by_test (r.0 % 64 == 0)
      (λ z. known (depth + 2) (low_piece 64 r.0 r.1) None (low-whole 64 r.0 r.1 e z) tt)
      (λ z. known (depth + 2) (low_piece 64 r.0 r.1) _ (low-part 64 r.0 r.1 e z) (omega arith)))
      (by_test (nat_le (whole_to 64 r.1) (whole_from 64 r.0))
      (λ z. known (1 + wide depth) (middle_piece 64 r.0 r.1) None (middle-none 64 r.0 r.1 e z) tt)
      (λ z. known (1 + wide depth) (middle_piece 64 r.0 r.1) _ (middle-some 64 r.0 r.1 e z) (omega arith)))
      (by_test (r.1 % 64 + 1 == 64)
      (λ z. known (depth + 2) (high_piece 64 r.0 r.1) None (high-whole 64 r.0 r.1 e z) tt)
      (λ z. known (depth + 2) (high_piece 64 r.0 r.1) _ (high-part 64 r.0 r.1 e z) (omega arith))) in
      omega arith

range-weight : (depth : ℕ) (r : ℕ × ℕ) → sum_by (piece_weight depth) (pieces_of_range r) ≤ lone (suc depth) r
range-weight depth r =
    by_test (nat_le r.0 r.1)
    (λ e. let most = by_test (is_narrow r) (pieces-narrow depth r) (pieces-wide depth r) in rw e most)
    (λ e. rw e (omega arith))

pieces-weight : (depth : ℕ) (rs : List (ℕ × ℕ)) → sum_by (piece_weight depth) (pieces_in rs) ≤ sum_by (lone (suc depth)) rs
pieces-weight depth [] = omega arith
pieces-weight depth (r ∷ rs) =
    let later = pieces-weight depth rs in
    let first = range-weight depth r in
    let sum = sum_by-append (piece_weight depth) (pieces_of_range r) (pieces_in rs) in
    let sum' = sum_by-cons (lone (suc depth)) r rs in
    omega arith

-- Each digit more.

abbrev before_weight : (depth : ℕ) → ℕ × ℕ → ℕ
before_weight depth = λ (r : ℕ × ℕ). 1 + weight depth r

pub joints-most : (n : ℕ) → joints n ≤ 1
joints-most n = by_test (n == 1) (λ e. rw e (omega arith)) (λ e. rw e (omega arith))

joints-one : (n : ℕ) → n ≡ 1 → joints n ≡ 0
joints-one n e = let same = eq-eqb n 1 e in rw same refl

-- one way, where all numbers have the same but for their last digit
ways-narrow : (depth : ℕ) (r : ℕ × ℕ) → is_narrow r ≡ true → nat_le r.0 r.1 ≡ true → ways_of_digits (suc depth) (r ∷ []) ≡ 1
unfolding ways_of_digits lasts_from
ways-narrow depth r e some = rw (some, low-one 64 r.0 r.1 e, middle-one 64 r.0 r.1 e, high-one 64 r.0 r.1 e) refl

-- no states, where there are no numbers
states-none : (depth : ℕ) (r : ℕ × ℕ) → nat_le r.0 r.1 ≡ false → states_of_digits (suc depth) (r ∷ []) ≡ 0
unfolding states_of_digits lasts_from
states-none depth r none = rw none refl

ways-first : (rs : List (ℕ × ℕ)) → ways_of_digits zero rs ≡ length rs
unfolding ways_of_digits
ways-first rs = refl

states-first : (rs : List (ℕ × ℕ)) → states_of_digits zero rs ≡ length rs
unfolding states_of_digits
states-first rs = refl

pub states-next : (depth : ℕ) (rs : List (ℕ × ℕ)) → states_of_digits (suc depth) rs ≡ sum_by (states_behind depth (pieces_in rs)) (lasts_of (pieces_in rs))
unfolding states_of_digits
states-next depth rs = refl

-- the states of a group, by those of its ranges alone
group-most : (depth : ℕ) (rs : List (ℕ × ℕ)) → ((xs : List (ℕ × ℕ)) → states_of_digits depth xs ≤ sum_by (lone depth) xs) → 0 < length rs
    → states_of_group depth rs ≤ sum_by (before_weight depth) rs
group-most depth [] most some = absurd (omega arith)
group-most depth (r ∷ []) most some =
    let sum = sum_by-cons (before_weight depth) r [] in
    let none : sum_by (before_weight depth) [] ≡ 0 = refl in
    let one = alone depth r (most (r ∷ [])) in
    omega arith
  where
    alone : (depth : ℕ) (r : ℕ × ℕ) → states_of_digits depth (r ∷ []) ≤ sum_by (lone depth) (r ∷ [])
        → states_of_digits depth (r ∷ []) + joints (ways_of_digits depth (r ∷ [])) ≤ weight depth r
    alone zero r most =
        let states = states-first (r ∷ []) in
        let ways = joints-one (ways_of_digits zero (r ∷ [])) (ways-first (r ∷ [])) in
        let least = lone-weight zero r in
        omega arith
    alone (suc depth) r most =
        let sum = sum_by-cons (lone (suc depth)) r [] in
        let none : sum_by (lone (suc depth)) [] ≡ 0 = refl in
        by_test (is_narrow r)
        (λ e.
        let is = lone-narrow depth r e in
        let is' = weight-narrow (suc depth) r e in
        by_test (nat_le r.0 r.1)
        (λ some. let ways = joints-one (ways_of_digits (suc depth) (r ∷ [])) (ways-narrow depth r e some) in omega arith)
        (λ empty.
        let states = states-none depth r empty in
        let ways = joints-most (ways_of_digits (suc depth) (r ∷ [])) in
        omega arith))
        (λ e.
        let ways = joints-most (ways_of_digits (suc depth) (r ∷ [])) in
        let is = lone-wide depth r e in
        let is' = weight-wide (suc depth) r e in
        omega arith)
group-most depth (r ∷ s ∷ rs) most some =
    let all = most (r ∷ s ∷ rs) in
    let ways = joints-most (ways_of_digits depth (r ∷ s ∷ rs)) in
    let a = sum_by-cons (before_weight depth) r (s ∷ rs) in
    let b = sum_by-cons (before_weight depth) s rs in
    let a' = sum_by-cons (lone depth) r (s ∷ rs) in
    let b' = sum_by-cons (lone depth) s rs in
    let first = lone-weight depth r in
    let second = lone-weight depth s in
    let later = sum-most (lone depth) (before_weight depth) rs (λ x. let le = lone-weight depth x in omega arith) in
    omega arith

states-lone : (depth : ℕ) (rs : List (ℕ × ℕ)) → states_of_digits depth rs ≤ sum_by (lone depth) rs
states-lone zero rs = let states = states-first rs in let ones = sum-ones (lone zero) rs (λ r. refl) in omega arith
states-lone (suc depth) rs =
    let ps = pieces_in rs in
    let states = states-next depth rs in
    let groups =
    sum-among (states_behind depth (pieces_in rs)) (λ last. sum_by (before_weight depth) (before_last last (pieces_in rs))) (lasts_of (pieces_in rs))
    (λ last m. group-most depth (before_last last (pieces_in rs)) (states-lone depth) (before-some (pieces_in rs) last m)) in
    let once = pieces-once (before_weight depth) (pieces_in rs) (lasts_of (pieces_in rs)) (lasts-distinct [] (pieces_in rs) tt) in
    let pieces = pieces-weight depth rs in
    omega arith

part-cost : (depth : ℕ) (r : ℕ × ℕ) → depth ≤ 3 → lone depth r ≤ cost_of_part (depth + 1) r
part-cost zero r deep = by_test (is_narrow r) (λ e. rw e (omega arith)) (λ e. rw e (omega arith))
part-cost (suc zero) r deep = by_test (is_narrow r) (λ e. rw e (omega arith)) (λ e. rw e (omega arith))
part-cost (suc (suc zero)) r deep = by_test (is_narrow r) (λ e. rw e (omega arith)) (λ e. rw e (omega arith))
part-cost (suc (suc (suc zero))) r deep = by_test (is_narrow r) (λ e. rw e (omega arith)) (λ e. rw e (omega arith))
part-cost (suc (suc (suc (suc n)))) r deep = absurd (omega arith)

parts-cost : (depth : ℕ) (rs : List (ℕ × ℕ)) → depth ≤ 3 → sum_by (lone depth) rs ≤ cost_of_parts (depth + 1) rs
unfolding cost_of_parts
parts-cost depth [] deep = omega arith
parts-cost depth (r ∷ rs) deep =
    let first = part-cost depth r deep in let later = parts-cost depth rs deep in let sum = sum_by-cons (lone depth) r rs in omega arith

-- no more than are accounted
pub digits-accounted : (depth : ℕ) (rs : List (ℕ × ℕ)) → depth ≤ 3 → states_of_digits depth rs ≤ cost_of_parts (depth + 1) rs
digits-accounted depth rs deep = let most = states-lone depth rs in let cost = parts-cost depth rs deep in omega arith
