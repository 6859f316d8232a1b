-- The slots of a row among those that a search fills.
use Rattle.std.proofs.Common.{◌≡◌, ℕ, zero, suc, ◌+◌, ◌-◌, ◌*◌, ◌<◌, ◌≤◌, Bool, false, cond, List, [], ◌∷◌, ◌++◌, length, take, drop, get_or, Option, Some, None, refl, sym, ap, ◌∙◌, inl, inr, arith, drop-cons, length-append}
use Rattle.std.specs.Prelude.{map, nat_lt}
use Rattle.std.proofs.lemmas.Bool.{ltb-true, ltb-false}
use Rattle.std.proofs.lemmas.List.{length-map, get_or_append_left}
use Rattle.std.proofs.Math.Seq.{get_or-append_seam}
use Rattle.rx_model.specs.Expression.{Expression}
use Rattle.rx_model.specs.Matches.{IsMatch}
use Rattle.rx_model.specs.Search.{Patterns, Match, greatest_group, groups_before, has_explicit_groups, slot_of, slot_value, next_match, free}
use Rattle.rx_model.proofs.lemmas.matches.WithinLemmas.{next-run, match-slots, match-others}
use Rattle.rx_model.proofs.lemmas.runs.RunLemmas.{by_test}
use Rattle.rx_search.specs.GroupInfo.{groups_at, slot_of_group, explicit_before, groups_in_expression, group_count as all_groups, slot_count}
use Rattle.rx_search.specs.Told.{HasSlots}
use Rattle.rx_search.specs.declared.span.Span.{Span}
use Rattle.rx_search.proofs.GroupSlotLemmas.{slot_written}
use Rattle.rx_search.specs.PatternGroups.{group_names, pattern_groups}
use Rattle.rx_scan.specs.Layout.{explicit_slots, all_explicit_slots, slots_in, own_slots, HaveImplicit}
use Rattle.rx_scan.specs.Row.{group_count, group_slots, slots_from, row_of}
use Rattle.rx_hir.proofs.GroupLemmas.{length-group_names}

-- The slots that all patterns have together.
rest-implicit : (groups : List (Option (List ℕ))) (info : List (List (Option (List ℕ)))) (n : ℕ) → HaveImplicit (groups ∷ info) (suc n) → HaveImplicit info n
rest-implicit groups info n all = λ p below. all (suc p) (omega arith)

-- as many patterns have at least as many groups
pub patterns-few : (info : List (List (Option (List ℕ)))) (n : ℕ) → HaveImplicit info n → n ≤ all_groups info
patterns-few info zero all = omega arith
patterns-few [] (suc n) all = absurd (omega (arith, all 0 (omega arith)))
patterns-few (groups ∷ info) (suc n) all = omega (arith, all 0 (omega arith), patterns-few info n (rest-implicit groups info n all))

explicit-few : (info : List (List (Option (List ℕ)))) (p : ℕ) → HaveImplicit info (length info) → p < length info
    → length info + explicit_before p info + (length (groups_at info p) - 1) ≤ all_groups info
explicit-few [] p all below = absurd (omega arith)
explicit-few (groups ∷ info) zero all below = omega (arith, all 0 (omega arith), patterns-few info (length info) (rest-implicit groups info (length info) all))
explicit-few (groups ∷ info) (suc p) all below =
    omega (arith, all 0 (omega arith), explicit-few info p (rest-implicit groups info (length info) all) (omega arith))

-- the slot after the last one of pattern p
last-slot : (info : List (List (Option (List ℕ)))) (p n : ℕ) → 0 < n → slot_of_group info p n ≡ 2 * (length info + explicit_before p info + (n - 1))
last-slot info p zero above = absurd (omega arith)
last-slot info p (suc n) above = omega arith

pub last-within : (info : List (List (Option (List ℕ)))) (p : ℕ) → HaveImplicit info (length info) → p < length info
    → slot_of_group info p (length (groups_at info p)) ≤ slot_count info
last-within info p all below =
    omega (arith, last-slot info p (length (groups_at info p)) (all p below), explicit-few info p all below)

-- the explicit slots of pattern p, if it has some, are among them
pub explicit-within : (info : List (List (Option (List ℕ)))) (p : ℕ) (span : Span) → HaveImplicit info (length info) → p < length info
    → Some span ≡ explicit_slots info p
    → (span.start ≤ span.end) × (span.end ≤ slot_count info)
explicit-within info p span all below is =
    by_test (nat_lt 1 (length (groups_at info p)))
    (λ some.
    let same : Some span ≡ Some (record { start = slot_of_group info p 1; end = slot_of_group info p (length (groups_at info p)) }) =
    is ∙ ap (λ (b : Bool). cond b (Some (record { start = slot_of_group info p 1; end = slot_of_group info p (length (groups_at info p)) })) None) some in
    let starts : span.start ≡ slot_of_group info p 1 = same-start same in
    let ends : span.end ≡ slot_of_group info p (length (groups_at info p)) = same-end same in
    let several = ltb-true _ _ some in (
      omega (arith, starts, ends, last-slot info p 1 (omega arith), last-slot info p (length (groups_at info p)) (omega (arith, several)), several),
      omega (arith, ends, last-within info p all below),
    ))
    (λ few. absurd (no-span (is ∙ ap (λ (b : Bool). cond b
    (Some (record { start = slot_of_group info p 1; end = slot_of_group info p (length (groups_at info p)) })) None) few)))
  where
    same-start : {x y : Span} → Some x ≡ Some y → x.start ≡ y.start
    same-start e = cc

    same-end : {x y : Span} → Some x ≡ Some y → x.end ≡ y.end
    same-end e = cc

    no-span : {x : Span} → Some x ≡ None → ⊥
    no-span e = cc

-- What was gathered for each pattern.
pub length-all : (info : List (List (Option (List ℕ)))) (n : ℕ) → length (all_explicit_slots info n) ≡ n
unfolding all_explicit_slots
length-all info zero = refl
length-all info (suc n) = omega (arith, length-append (all_explicit_slots info n) (explicit_slots info n ∷ []), length-all info n)

pub explicit-at : (info : List (List (Option (List ℕ)))) (n p : ℕ) (d : Option Span) → p < n → get_or (all_explicit_slots info n) p d ≡ explicit_slots info p
unfolding all_explicit_slots
explicit-at info zero p d below = absurd (omega arith)
explicit-at info (suc n) p d below =
    by_test (nat_lt p n)
    (λ before.
    let lower : p < n = ltb-true _ _ before in
    get_or_append_left (all_explicit_slots info n) (explicit_slots info n ∷ []) d p (omega (arith, length-all info n, lower)) ∙ explicit-at info n p d lower)
    (λ not_before.
    let last : length (all_explicit_slots info n) ≡ p = omega (arith, length-all info n, below, ltb-false _ _ not_before) in
    let same : n ≡ p = omega (arith, below, ltb-false _ _ not_before) in
    ap (λ k. get_or (all_explicit_slots info n ++ explicit_slots info n ∷ []) k d) (sym last)
    ∙ get_or-append_seam (all_explicit_slots info n) (explicit_slots info n) [] d ∙ ap (explicit_slots info) same)

-- Where the groups are those of expressions.
group-lengths : (hs : List Expression) → map length (pattern_groups hs) ≡ map groups_in_expression hs
group-lengths [] = refl
group-lengths (h ∷ hs) = λ i. (length-group_names h ∙ (let e : suc (greatest_group h) ≡ 1 + greatest_group h = omega arith in e)) i ∷ group-lengths hs i

counted : (hs : List Expression) (p : ℕ) → p < length hs → length (groups_at (pattern_groups hs) p) ≡ group_count hs p + 1
counted [] p below = absurd (omega arith)
counted (h ∷ hs) zero below = length-group_names h ∙ (let e : suc (greatest_group h) ≡ greatest_group h + 1 = omega arith in e)
counted (h ∷ hs) (suc p) below = counted hs p (omega arith)

module _ (r : Patterns) (text : List ℕ) (b a : ℕ) (m : Match) (found : next_match r text free b a ≡ Some m) where
  abbrev p : ℕ
  p = m.trace.pattern

  abbrev info : List (List (Option (List ℕ)))
  info = pattern_groups r.expressions

  is : IsMatch r text free b a m
  is = next-run r text free b a m found

  pub there : p < length r.expressions
  there = (match-slots r text free b a m is).0

  -- where explicit groups are not told, their slots stay empty
  left-empty : (slot : ℕ) → has_explicit_groups r.which_captures ≡ false → 2 * length r.expressions ≤ slot → slot_value m slot ≡ None
  left-empty slot untold above =
      match-others r text free b a m is is.expression is.is_there slot (λ own. elim own [
        | inl opens ↦ omega (arith, there, above, opens)
        | inr other ↦ elim other [
          | inl closes ↦ omega (arith, there, above, closes)
          | inr explicit ↦ no-slot (sym (untold-slot explicit.0) ∙ explicit.3)
        ]
      ])
    where
      untold-slot : (g : ℕ) → slot_of r p g ≡ None
      untold-slot g = rw untold refl

      no-slot : {x : ℕ} → None ≡ Some x → ⊥
      no-slot e = cc

  -- so the slots of each group from 1 on hold what is told of it
  group-told : (g : ℕ) → 0 < g → group_slots m (Some (slot_of_group info p g)) ≡ group_slots m (slot_of r p g)
  group-told zero above = absurd (omega arith)
  group-told (suc g) above =
      by_test (has_explicit_groups r.which_captures)
      (λ explicit. ap (group_slots m) (sym (slot_written r info p (suc g) explicit (group-lengths r.expressions) (omega arith))))
      (λ untold.
      let past : 2 * length r.expressions ≤ slot_of_group info p (suc g) = omega (arith, length-map r.expressions group_names) in
      (λ i. left-empty (slot_of_group info p (suc g)) untold past i ∷ left-empty (slot_of_group info p (suc g) + 1) untold (omega (arith, past)) i ∷ [])
      ∙ ap (λ (o : Bool). group_slots m (cond o (Some (2 * length r.expressions + 2 * groups_before p r.expressions + 2 * (suc g - 1))) None)) (sym untold))

  module _ (xs : List (Option ℕ)) (has : HasSlots xs m) where
    -- two slots side by side are those of a group
    pair-read : (at n : ℕ) → at + 1 < length xs → take (2 + n) (drop at xs) ≡ group_slots m (Some at) ++ take n (drop (at + 2) xs)
    pair-read at n below =
        let here : get_or xs at None ≡ slot_value m at = has at (omega arith) in
        let next : get_or xs (suc at) None ≡ slot_value m (at + 1) =
        has (suc at) (omega arith) ∙ (let e : suc at ≡ at + 1 = omega arith in ap (slot_value m) e) in
        let rest : suc (suc at) ≡ at + 2 = omega arith in
        let count : 2 + n ≡ suc (suc n) = omega arith in
        (λ i. take (count i) (drop at xs))
        ∙ ap (λ l. take (suc (suc n)) l) (drop-cons xs at None (omega arith))
        ∙ ap (λ l. get_or xs at None ∷ take (suc n) l) (drop-cons xs (suc at) None (omega arith))
        ∙ (λ i. here i ∷ next i ∷ take n (drop (rest i) xs))

    -- the slots of n groups side by side
    slots-read : (n g : ℕ) → 0 < g → slot_of_group info p g + 2 * n ≤ length xs → take (2 * n) (drop (slot_of_group info p g) xs) ≡ slots_from r m n g
    unfolding slots_from
    slots-read zero g above below = refl
    slots-read (suc n) zero above below = absurd (omega arith)
    slots-read (suc n) (suc g) above below =
        let at = slot_of_group info p (suc g) in
        let count : 2 * suc n ≡ 2 + 2 * n = omega arith in
        let next : at + 2 ≡ slot_of_group info p (suc (suc g)) = omega arith in
        let further : suc (suc g) ≡ suc g + 1 = omega arith in
        (λ i. take (count i) (drop at xs))
        ∙ pair-read at (2 * n) (omega (arith, below))
        ∙ (λ i. group-told (suc g) (omega arith) i ++ take (2 * n) (drop (next i) xs))
        ∙ ap (λ l. group_slots m (slot_of r p (suc g)) ++ l) (slots-read n (suc (suc g)) (omega arith) (omega (arith, below, next)))
        ∙ ap (λ k. group_slots m (slot_of r p (suc g)) ++ slots_from r m n k) further

    explicit-read : HaveImplicit info (length info) → length xs ≡ slot_count info
        → slots_in (explicit_slots info p) xs ≡ slots_from r m (group_count r.expressions p) 1
    unfolding slots_from
    explicit-read all wide =
        let n = group_count r.expressions p in
        let len = counted r.expressions p there in
        let patterns = length-map r.expressions group_names in
        by_test (nat_lt 1 (length (groups_at info p)))
        (λ some.
        let last = last-within info p all (omega (arith, there, patterns)) in
        let width : slot_of_group info p (length (groups_at info p)) ≡ slot_of_group info p 1 + 2 * n =
        ap (slot_of_group info p) (len ∙ (let e : n + 1 ≡ suc n = omega arith in e))
        ∙ (let e : slot_of_group info p (suc n) ≡ slot_of_group info p 1 + 2 * n = omega arith in e) in
        let size : slot_of_group info p (length (groups_at info p)) - slot_of_group info p 1 ≡ 2 * n = omega (arith, width) in
        ap (λ (t : Bool). slots_in (cond t (Some (record { start = slot_of_group info p 1; end = slot_of_group info p (length (groups_at info p)) })) None) xs)
        some
        ∙ ap (λ k. take k (drop (slot_of_group info p 1) xs)) size
        ∙ slots-read n 1 (omega arith) (omega (arith, wide, last, width)))
        (λ few.
        let none : 0 ≡ n = omega (arith, len, ltb-false _ _ few) in
        ap (λ (t : Bool). slots_in (cond t (Some (record { start = slot_of_group info p 1; end = slot_of_group info p (length (groups_at info p)) })) None) xs)
        few
        ∙ ap (λ k. slots_from r m k 1) none)

    -- a match's own slots are those of its row
    pub own-row : HaveImplicit info (length info) → length xs ≡ slot_count info → own_slots info p xs ≡ (row_of r m).slots
    own-row all wide =
        let own = match-slots r text free b a m is in
        let patterns = length-map r.expressions group_names in
        let few = patterns-few info (length info) all in
        let first : get_or xs (2 * p) None ≡ Some m.start = has (2 * p) (omega (arith, there, patterns, few, wide)) ∙ own.1 in
        let second : get_or xs (2 * p + 1) None ≡ Some m.trace.end = has (2 * p + 1) (omega (arith, there, patterns, few, wide)) ∙ own.2 in
        λ i. first i ∷ second i ∷ explicit-read all wide i
