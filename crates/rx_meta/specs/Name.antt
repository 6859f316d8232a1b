-- How a regex searches: by which strategy, the name of that, and whether it is fast.
use Rattle.std.specs.Prelude.{ℕ, Bool, true, false, ◌&&◌, not, List, [], ◌∷◌, Option, Some, None, codes, if◌then◌else◌}
use Rattle.rx_model.specs.Expression.{Expression, alternation}
use Rattle.rx_hir.specs.Normal.{expressions}
use Rattle.rx_strategy.specs.declared.config.Config.{Config}
use Rattle.rx_meta.specs.Config.{kind_of, auto_prefilter_of, is_leftmost}
use Rattle.rx_meta.specs.Impossible.{is_always_anchored_start, is_always_anchored_end}
use Rattle.rx_meta.specs.Prefilter.{prefilter_for}
pub use Rattle.rx_pre.specs.Literals.{literal_needles}
pub use Rattle.rx_prefilter.specs.Choices.{chosen}
unfoldable pub use Rattle.rx_prefilter.specs.Choices.{accounted, is_fast}
pub use Rattle.rx_order.specs.Inner.{inner_of}
pub use Rattle.rx_strategy.specs.Ending.{is_fast_by}
pub use Rattle.rx_strategies.specs.Choice.{literals_for, suffix_of_one, if_in_order, if_inner_in_order}
unfoldable pub use Rattle.rx_strategies.specs.Strategy.{literal_name}

-- the strategies, with what they search for
pub data Way : Type 0 where
  -- literals that stand for all that the expressions are
  by_literals : (needles : List (List ℕ)) → Way
  -- each match from the end of the haystack
  from_end : Way
  -- the literal that ends each match
  by_suffix : (suffix : List ℕ) → Way
  -- literals, one of which lies within each match behind such a prefix
  by_inner : (prefix : Expression) → (needles : List (List ℕ)) → Way
  -- none of these
  plain : Way

-- each match of these ends at the end of the haystack, and not each begins at its start
abbrev pub end_alone : List Expression → Bool
end_alone hs = is_always_anchored_end (alternation (expressions hs)) && not (is_always_anchored_start (alternation (expressions hs)))

-- They may be searched from candidate to candidate: prefilters are made, the kind is leftmost-first, there are DFAs and no prefilter
-- that is expected to be fast, and not each match begins at the start of the haystack.
abbrev pub may_try : Config → List Expression → (dfas : Bool) → Bool
may_try c hs dfas =
    auto_prefilter_of c
    && (is_leftmost (kind_of c) && (dfas && (not (is_fast_by (prefilter_for c hs)) && not (is_always_anchored_start (alternation (expressions hs))))))

-- the literal by which they are searched so: the longest that ends each match, where no match starts before the first that it confirms
abbrev pub suffix_by : Config → List Expression → (dfas : Bool) → Option (List ℕ)
suffix_by c hs dfas = if may_try c hs dfas then if_in_order hs (suffix_of_one hs) else None

-- .. and the literals within each match, with what stands before them
abbrev pub inner_by : Config → List Expression → (dfas : Bool) → Option (Expression × List (List ℕ))
inner_by c hs dfas = if may_try c hs dfas then if_inner_in_order (inner_of hs) else None

-- the first that applies

abbrev pub literals_or : Option (List (List ℕ)) → Way → Way
literals_or (Some needles) other = by_literals needles
literals_or None other = other

abbrev pub from_end_or : Bool → Way → Way
from_end_or true other = from_end
from_end_or false other = other

abbrev pub suffix_or : Option (List ℕ) → Way → Way
suffix_or (Some suffix) other = by_suffix suffix
suffix_or None other = other

abbrev pub inner_if : Bool → Expression × List (List ℕ) → Way
inner_if true found = by_inner found.0 found.1
inner_if false found = plain

abbrev pub inner_or_plain : Option (Expression × List (List ℕ)) → (reads : Expression → Bool) → Way
inner_or_plain (Some found) reads = inner_if (reads found.0) found
inner_or_plain None reads = plain

-- The strategy of these expressions: the first that applies, where there are DFAs or not, and one or none that reads a prefix.
abbrev pub way_for : Config → List Expression → (dfas : Bool) → (reads : Expression → Bool) → Way
way_for c hs dfas reads =
    literals_or (literals_for c hs) (from_end_or (dfas && end_alone hs) (suffix_or (suffix_by c hs dfas) (inner_or_plain (inner_by c hs dfas) reads)))

-- the name of the strategy
abbrev pub way_name : Way → List ℕ
way_name (by_literals needles) = literal_name (chosen needles)
way_name from_end = codes "reverse anchored"
way_name (by_suffix suffix) = codes "reverse suffix"
way_name (by_inner prefix needles) = codes "reverse inner"
way_name plain = codes "core"

-- A search may leave out much: by a search for literals that is expected to be fast, or by reading from the end; else by a prefilter.
abbrev pub accelerated_by : Way → (pre : Option (List (List ℕ))) → Bool
accelerated_by (by_literals needles) pre = is_fast (chosen needles) needles
accelerated_by from_end pre = true
accelerated_by (by_suffix suffix) pre = is_fast (chosen (suffix ∷ [])) (suffix ∷ [])
accelerated_by (by_inner prefix needles) pre = is_fast (chosen needles) needles
accelerated_by plain pre = is_fast_by pre
