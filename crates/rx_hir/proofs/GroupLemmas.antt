-- The groups of an expression, and the greatest group of a list, from each place on.
use Rattle.std.proofs.Common.{◌≡◌, ℕ, suc, ◌+◌, ◌<◌, ◌≤◌, List, length, get_or, drop, ap}
use Rattle.std.specs.Prelude.{max}
use Rattle.rx_model.specs.Expression.{Expression}
use Rattle.rx_model.specs.Search.{greatest_group, greatest_in}
use Rattle.rx_hir.specs.Normal.{expressions}
use Rattle.rx_hir.proofs.JoinedLemmas.{expressions-drop, drop-past}
use Rattle.std.proofs.lemmas.List.FromFn.{length-map-range_with_len}
use Rattle.rx_hir.specs.Names.{group_names, name_in}

pub greatest_in-drop : (hs : List Expression) (i : ℕ) (h : Expression) → i < length hs → h ≡ get_or hs i h
    → greatest_in (expressions (drop i hs)) ≡ max (greatest_group h) (greatest_in (expressions (drop (i + 1) hs)))
unfolding greatest_in
greatest_in-drop hs i h lt at = ap greatest_in (expressions-drop hs i h lt at)

pub greatest_in-past : (hs : List Expression) (i : ℕ) → length hs ≤ i → greatest_in (expressions (drop i hs)) ≡ 0
unfolding greatest_in
greatest_in-past hs i le = ap (λ ys. greatest_in (expressions ys)) (drop-past hs i le)

-- the whole match, and the groups up to the greatest
pub length-group_names : (h : Expression) → length (group_names h) ≡ suc (greatest_group h)
length-group_names h = ap suc (length-map-range_with_len (λ g. name_in g h) 1 (greatest_group h))
