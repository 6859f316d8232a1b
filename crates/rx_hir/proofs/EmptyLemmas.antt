-- Which expressions of a list can be empty, from each place on.
use Rattle.std.proofs.Common.{◌≡◌, ℕ, ◌+◌, ◌<◌, ◌≤◌, List, length, get_or, drop, ap, refl}
use Rattle.std.specs.Prelude.{Bool, true, false, ◌&&◌, ◌||◌}
use Rattle.rx_model.specs.Expression.{Expression}
use Rattle.rx_model.specs.Empty.{can_be_empty, all_can_be_empty, one_can_be_empty}
use Rattle.rx_hir.specs.Normal.{expressions}
use Rattle.rx_hir.proofs.JoinedLemmas.{expressions-drop, drop-past}

pub all-drop : (hs : List Expression) (i : ℕ) (h : Expression) → i < length hs → h ≡ get_or hs i h
    → all_can_be_empty (expressions (drop i hs)) ≡ (can_be_empty h && all_can_be_empty (expressions (drop (i + 1) hs)))
unfolding can_be_empty
all-drop hs i h lt at = ap all_can_be_empty (expressions-drop hs i h lt at)

pub all-past : (hs : List Expression) (i : ℕ) → length hs ≤ i → all_can_be_empty (expressions (drop i hs)) ≡ true
unfolding can_be_empty
all-past hs i le = ap (λ ys. all_can_be_empty (expressions ys)) (drop-past hs i le)

pub one-drop : (hs : List Expression) (i : ℕ) (h : Expression) → i < length hs → h ≡ get_or hs i h
    → one_can_be_empty (expressions (drop i hs)) ≡ (can_be_empty h || one_can_be_empty (expressions (drop (i + 1) hs)))
unfolding can_be_empty
one-drop hs i h lt at = ap one_can_be_empty (expressions-drop hs i h lt at)

pub one-past : (hs : List Expression) (i : ℕ) → length hs ≤ i → one_can_be_empty (expressions (drop i hs)) ≡ false
unfolding can_be_empty
one-past hs i le = ap (λ ys. one_can_be_empty (expressions ys)) (drop-past hs i le)

pub and-true : (a b : Bool) → a ≡ true → (a && b) ≡ b
and-true a b e = rw e refl

pub or-false : (a b : Bool) → a ≡ false → (a || b) ≡ b
or-false a b e = rw e refl
