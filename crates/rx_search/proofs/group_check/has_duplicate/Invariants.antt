use Rattle.std.proofs.Common.{ℕ, ◌≡◌, take, List, false}
use Rattle.std.specs.List.{list_any}
use Rattle.std.specs.BTreeSet.{contains_by}
use Rattle.std.specs.Cmp.Lexicographic.{slice_cmp}
use Rattle.std.specs.Ordering.{nat_cmp}
use Rattle.rx_search.specs.GroupInfo.{names_of, is_named, has_duplicate}
use Rattle.rx_search.proofs.group_check.has_duplicate.Given as goal

abbrev pub invariant-loop-group : goal.invariant-loop-group
invariant-loop-group l =
    ((name : List ℕ) → contains_by (λ k. slice_cmp nat_cmp name k.now) l.seen ≡ list_any (is_named name) (take l.group-index (names_of l.groups)))
    × (has_duplicate (take l.group-index (names_of l.groups)) ≡ false)
