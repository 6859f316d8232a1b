-- The groups of patterns, and how many slots they have.
use Rattle.std.proofs.Common.{◌≡◌, ℕ, zero, suc, ◌+◌, ◌-◌, ◌*◌, ◌<◌, ◌⊎◌, List, [], ◌∷◌, Option, Some, refl, sym, ◌∙◌, ap, inl, inr, arith, length, get_or}
use Rattle.std.specs.Prelude.{true, All, IfSome, None, map, nat_lt, option_map}
use Rattle.std.proofs.lemmas.Bool.Decides.{nat_tests}
use Rattle.std.proofs.lemmas.List.{length-map}
use Rattle.std.proofs.lemmas.List.Elements.{All-nil, All-cons}
use Rattle.rx_model.specs.Expression.{Expression}
use Rattle.rx_model.specs.Search.{WhichCaptures, all, implicit, none, greatest_group, groups_before}
use Rattle.rx_search.specs.GroupInfo.{explicit_before, groups_at, slot_count, slot_of_group, BeginsUnnamed}
use Rattle.rx_hir.specs.Names.{group_names}
use Rattle.rx_nfa.specs.Compiled.{slots_of, groups_of, first_slot_of}
use Rattle.rx_nfa.specs.Slots.{IsSlotOf}
use Rattle.rx_hir.proofs.GroupLemmas.{length-group_names}

-- each pattern's first group is the whole match
pub groups-begin : (hs : List Expression) → All BeginsUnnamed (map group_names hs)
groups-begin [] = All-nil BeginsUnnamed
groups-begin (h ∷ hs) = All-cons BeginsUnnamed (group_names h) (map group_names hs) refl (groups-begin hs)

-- each group has two slots
pub slots-counted : (hs : List Expression) → slots_of hs ≡ slot_count (groups_of hs)
slots-counted [] = refl
slots-counted (h ∷ hs) = omega (arith, slots-counted hs, length-group_names h)

-- The slots of a pattern's groups.

-- pattern k has the groups of its expression
pub groups_at-names : (hs : List Expression) (k : ℕ) (h : Expression) → k < length hs → h ≡ get_or hs k h
    → length (groups_at (groups_of hs) k) ≡ suc (greatest_group h)
groups_at-names [] k h lt is = absurd (omega arith)
groups_at-names (x ∷ hs) zero h lt is = length-group_names x ∙ ap (λ y. suc (greatest_group y)) (sym is)
groups_at-names (x ∷ hs) (suc k) h lt is = groups_at-names hs k h (omega arith) is

explicit-names : (k : ℕ) (hs : List Expression) → explicit_before k (groups_of hs) ≡ groups_before k hs
explicit-names zero hs = refl
explicit-names (suc k) [] = refl
explicit-names (suc k) (h ∷ hs) = omega (arith, explicit-names k hs, length-group_names h)

-- the groups that it names begin with their first slot
pub first_slot-group : (which : WhichCaptures) (hs : List Expression) (k : ℕ)
    → IfSome (first_slot_of which hs k) (λ first. first ≡ slot_of_group (groups_of hs) k 1)
first_slot-group all hs k = omega (arith, explicit-names k hs, length-map hs group_names)
first_slot-group implicit hs k = tt
first_slot-group none hs k = tt

-- one of the two slots of a group that is there
group-own : (groups : List (List (Option (List ℕ)))) (p g slot : ℕ) → g < length (groups_at groups p)
    → (slot ≡ slot_of_group groups p g) ⊎ (slot ≡ slot_of_group groups p g + 1) → IsSlotOf groups p slot
group-own groups p g slot lt is =
    let there : nat_lt g (length (groups_at groups p)) ≡ true = grind (arith, nat_tests) in
    (g, slot_of_group groups p g, rw there refl, is)

-- of the whole match
pub whole-own : (groups : List (List (Option (List ℕ)))) (p : ℕ) (slot : Option ℕ) → 0 < length (groups_at groups p) → IfSome slot (λ first. first ≡ 2 * p)
    → IfSome slot (λ number. IsSlotOf groups p number)
whole-own groups p None lt is = tt
whole-own groups p (Some first) lt is = group-own groups p 0 first lt (inl is)

pub whole-own-last : (groups : List (List (Option (List ℕ)))) (p : ℕ) (slot : Option ℕ) → 0 < length (groups_at groups p) → IfSome slot (λ first. first ≡ 2 * p)
    → IfSome (option_map suc slot) (λ number. IsSlotOf groups p number)
whole-own-last groups p None lt is = tt
whole-own-last groups p (Some first) lt is = group-own groups p 0 (suc first) lt (inr (omega arith))

-- of a group that the pattern names
pub named-own : (groups : List (List (Option (List ℕ)))) (p g first slot : ℕ) → 0 < g → g < length (groups_at groups p) → first ≡ slot_of_group groups p 1
    → (slot ≡ first + 2 * (g - 1)) ⊎ (slot ≡ first + 2 * (g - 1) + 1) → IsSlotOf groups p slot
named-own groups p zero first slot some lt is at = absurd (omega arith)
named-own groups p (suc g) first slot some lt is (inl at) = group-own groups p (suc g) slot lt (inl (omega arith))
named-own groups p (suc g) first slot some lt is (inr at) = group-own groups p (suc g) slot lt (inr (omega arith))
