-- Parts that write slots.
use Rattle.std.proofs.Common.{◌≡◌, ℕ, suc, ◌+◌, ◌*◌, ◌<◌, ◌≤◌, List, [], ◌∷◌, refl, sym, ◌∙◌, ap, subst, arith, length, get_or}
use Rattle.std.specs.Prelude.{Bool, Option, Some, None, option_map, IfSome}
use Rattle.rx_model.specs.Expression.{Expression}
use Rattle.rx_model.specs.Graph as graph
use Rattle.rx_nfa.specs.Draft.{Draft, pushed}
use Rattle.rx_nfa.specs.States.{Stands}
use Rattle.rx_model.specs.Search.{Patterns, WhichCaptures, all, implicit, none, slot_of, groups_before, greatest_group}
use Rattle.rx_nfa.specs.Built.{Built, bound, build_bounds, compiled_pattern, slot_from, whole_slot}
use Rattle.rx_nfa.specs.Directed.{build_directed, directed_part}
use Rattle.rx_nfa.specs.Compiled.{slots_of, slots_written, first_slot_of}
use Rattle.rx_nfa.proofs.lemmas.parts.ExpressionLemmas.{groups_before-more, groups_before-all}
use Rattle.rx_nfa.proofs.lemmas.parts.BuiltLemmas.{Stands-pushed, Extends-pushed, Built-state, Built-then, pushed-length}
use Rattle.rx_nfa.specs.declared.state.State.TheVariants.{Capture, Union}

pub Built-slot : (number pattern next : ℕ) (old new : Draft) (q : ℕ) → q ≡ length old.states → new ≡ pushed old (Capture next pattern number)
    → Built (graph.build_state (graph.slot number)) next old new q
Built-slot number pattern next old new q id is =
    subst (Built (graph.build_state (graph.slot number)) next old new) (sym id)
    (subst (λ d. Built (graph.build_state (graph.slot number)) next old d (length old.states)) (sym is)
    (Built-state (graph.slot number) next old (pushed old (Capture next pattern number)) (length old.states) (Extends-pushed old (Capture next pattern number))
    (omega arith) (let l = pushed-length old (Capture next pattern number) in omega arith)
    (λ f next' same. (
      pattern,
      subst (λ n. Stands (length old.states) (pushed old (Capture next pattern number)).states (length old.states)
          (Capture n pattern number)) (sym same) (Stands-pushed old (Capture next pattern number)),
    ))))

-- a slot before the body, and one after it
pub Built-group : (body : graph.Builder) (number pattern next close inner start : ℕ) (old mid after new : Draft) → close ≡ length old.states
    → mid ≡ pushed old (Capture next pattern (number + 1))
    → Built body close mid after inner → start ≡ length after.states → new ≡ pushed after (Capture inner pattern number)
    → Built (graph.build_group (Some number) body) next old new start
Built-group body number pattern next close inner start old mid after new close_is mid_is b start_is new_is =
    let more : number + 1 ≡ suc number = omega arith in
    let last = Built-slot (suc number) pattern next old mid close close_is (mid_is ∙ ap (λ n. pushed old (Capture next pattern n)) more) in
    Built-then (graph.build_state (graph.slot number)) (graph.build_then body (graph.build_state (graph.slot (suc number)))) next inner start old after new
    (Built-then body (graph.build_state (graph.slot (suc number))) next close inner old mid after last b)
    (Built-slot number pattern inner after new start start_is new_is)

-- a state that just goes on
pub Built-way : (next : ℕ) (old new : Draft) (q : ℕ) → q ≡ length old.states → new ≡ pushed old (Union (next ∷ []))
    → Built (graph.build_state (bound None)) next old new q
Built-way next old new q id is =
    subst (Built (graph.build_state (bound None)) next old new) (sym id)
    (subst (λ d. Built (graph.build_state (bound None)) next old d (length old.states)) (sym is)
    (Built-state (bound None) next old (pushed old (Union (next ∷ []))) (length old.states) (Extends-pushed old (Union (next ∷ []))) (omega arith)
    (let l = pushed-length old (Union (next ∷ [])) in omega arith)
    (λ f next' same. subst (λ n. Stands (length old.states) (pushed old (Union (next ∷ []))).states (length old.states) (Union (n ∷ []))) (sym same)
    (Stands-pushed old (Union (next ∷ []))))))

-- the body between its bounds
pub Built-bounds : (body : graph.Builder) (slot : Option ℕ) (next close inner start : ℕ) (old mid after new : Draft)
    → Built (graph.build_state (bound (option_map suc slot))) next old mid close
    → Built body close mid after inner → Built (graph.build_state (bound slot)) inner after new start → Built (build_bounds slot body) next old new start
Built-bounds body slot next close inner start old mid after new last b first =
    Built-then (graph.build_state (bound slot)) (graph.build_then body (graph.build_state (bound (option_map suc slot)))) next inner start old after new
    (Built-then body (graph.build_state (bound (option_map suc slot))) next close inner old mid after last b) first

-- The slots that the groups have.

-- the slots of a pattern's groups are those that the graph gives them
pub slot_from-first : (r : Patterns) (p group : ℕ) → slot_from (first_slot_of r.which_captures r.expressions p) group ≡ slot_of r p group
slot_from-first r p group = of r.which_captures
  where
    of : (which : WhichCaptures) → slot_from (first_slot_of which r.expressions p) group ≡ slot_of (record r { which_captures = which }) p group
    of all = refl
    of implicit = refl
    of none = refl

-- there are slots for the groups of the pattern at k
pub groups-inside : (which : WhichCaptures) (hs : List Expression) (k : ℕ) (h : Expression) → k < length hs → h ≡ get_or hs k h
    → IfSome (first_slot_of which hs k) (λ first. first + 2 * greatest_group h ≤ slots_written which hs)
groups-inside all hs k h lt is = let e = groups_before-all hs k h h lt is in omega arith
groups-inside implicit hs k h lt is = tt
groups-inside none hs k h lt is = tt

-- and for its whole match
pub whole-inside : (which : WhichCaptures) (hs : List Expression) (k : ℕ) → k < length hs
    → IfSome (whole_slot which k) (λ slot. slot + 1 < slots_written which hs)
whole-inside all hs k lt = omega arith
whole-inside implicit hs k lt = omega arith
whole-inside none hs k lt = tt

-- which come first
pub whole-is : (which : WhichCaptures) (p : ℕ) → IfSome (whole_slot which p) (λ slot. slot ≡ 2 * p)
whole-is all p = refl
whole-is implicit p = refl
whole-is none p = tt

-- no more slots are written than there are
pub written-within : (which : WhichCaptures) (hs : List Expression) → slots_written which hs ≤ slots_of hs
written-within all hs = omega arith
written-within implicit hs = omega arith
written-within none hs = omega arith

-- the slots of the next pattern's groups
pub first_slot-more : (which : WhichCaptures) (hs : List Expression) (k : ℕ) (h : Expression) → k < length hs → h ≡ get_or hs k h
    → option_map (λ first. first + 2 * greatest_group h) (first_slot_of which hs k) ≡ first_slot_of which hs (k + 1)
first_slot-more all hs k h lt is =
    let more = groups_before-more hs k h h lt is in
    let e : 2 * length hs + 2 * groups_before k hs + 2 * greatest_group h ≡ 2 * length hs + 2 * groups_before (k + 1) hs = omega arith in
    ap Some e
first_slot-more implicit hs k h lt is = refl
first_slot-more none hs k h lt is = refl

-- what was compiled is the part of the pattern at k
pub part-is : (r : Patterns) (p k : ℕ) (h : Expression) (whole first : Option ℕ) → whole ≡ whole_slot r.which_captures p
    → first ≡ first_slot_of r.which_captures r.expressions k → p ≡ k
    → (backwards : Bool) → compiled_pattern whole (build_directed backwards (slot_from first) h) p ≡ directed_part backwards r k h
part-is r p k h whole first is at same backwards =
    λ i. compiled_pattern ((is ∙ ap (whole_slot r.which_captures) same) i)
    (build_directed backwards (λ group. (ap (λ o. slot_from o group) at ∙ slot_from-first r k group) i) h) (same i)

pub room-more : (o : Option ℕ) (a m n : ℕ) → m ≤ n → IfSome o (λ first. first + a ≤ m) → IfSome o (λ first. first + a ≤ n)
room-more None a m n le fits = tt
room-more (Some first) a m n le fits = omega arith

-- the slots of the groups of the pattern at k are there
pub groups-there : (which : WhichCaptures) (hs : List Expression) (k : ℕ) (h : Expression) → k < length hs → h ≡ get_or hs k h
    → IfSome (first_slot_of which hs k) (λ first. first + 2 * greatest_group h ≤ slots_of hs)
groups-there which hs k h lt is = room-more (first_slot_of which hs k) (2 * greatest_group h) (slots_written which hs) (slots_of hs) (written-within which hs)
    (groups-inside which hs k h lt is)
