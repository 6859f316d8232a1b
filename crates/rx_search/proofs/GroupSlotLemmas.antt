-- The slots of a `GroupInfo` are those that the graphs of expressions write.
use Rattle.std.proofs.Common.{ℕ, zero, suc, ◌+◌, ◌-◌, ◌*◌, ◌≡◌, ◌<◌, List, [], ◌∷◌, length, map, Option, None, Some, Bool, true, cond, ap, ◌∙◌, refl, arith}
use Rattle.rx_model.specs.Expression.{Expression}
use Rattle.rx_model.specs.Search.{Patterns, groups_before, greatest_group, has_explicit_groups, slot_of}
use Rattle.rx_search.specs.GroupInfo.{explicit_before, groups_in_expression, slot_of_group, SlotsAreWritten}

-- as many explicit groups come before each pattern
pub before_same : (p : ℕ) (hs : List Expression) (info : List (List (Option (List ℕ)))) → map length info ≡ map groups_in_expression hs
    → groups_before p hs ≡ explicit_before p info
before_same zero hs info same = refl
before_same (suc p) [] [] same = refl
before_same (suc p) [] (g ∷ info) same = absurd (cc)
before_same (suc p) (h ∷ hs) [] same = absurd (cc)
before_same (suc p) (h ∷ hs) (g ∷ info) same =
    let first : length g ≡ 1 + greatest_group h = cc in
    let rest : map length info ≡ map groups_in_expression hs = cc in
    omega (arith, first, before_same p hs info rest)

-- and there are as many patterns
pub length_same : (hs : List Expression) (info : List (List (Option (List ℕ)))) → map length info ≡ map groups_in_expression hs → length hs ≡ length info
length_same [] [] same = refl
length_same [] (g ∷ info) same = absurd (cc)
length_same (h ∷ hs) [] same = absurd (cc)
length_same (h ∷ hs) (g ∷ info) same =
    let rest : map length info ≡ map groups_in_expression hs = cc in
    omega (arith, length_same hs info rest)

pub slot_written : (r : Patterns) (info : List (List (Option (List ℕ)))) (p g : ℕ) → has_explicit_groups r.which_captures ≡ true
    → map length info ≡ map groups_in_expression r.expressions → 0 < g → slot_of r p g ≡ Some (slot_of_group info p g)
slot_written r info p zero all same some = absurd (omega arith)
slot_written r info p (suc g) all same some =
    let before = before_same p r.expressions info same in
    let patterns = length_same r.expressions info same in
    ap (λ (b : Bool). cond b (Some (2 * length r.expressions + 2 * groups_before p r.expressions + 2 * (suc g - 1))) None) all
    ∙ ap Some (omega (arith, before, patterns))

pub slots_written : SlotsAreWritten
slots_written = slot_written
