-- Which strategy there is, in the order in which they are tried.
use Rattle.std.specs.Prelude.{◌≡◌, ℕ, Bool, true, false, not, ◌&&◌, List, [], ◌∷◌, Option, Some, None, is_some, if◌then◌else◌, Result, Ok, Err}
use Rattle.rx_model.specs.Expression.{Expression, alternation}
use Rattle.rx_hir.specs.PropertiesViews.{AreOf}
use Rattle.rx_pre.specs.Literals.{literal_needles}
use Rattle.rx_hir.specs.Normal.{expressions}
use Rattle.rx_literal.specs.Extract.{suffixes}
use Rattle.rx_literal.specs.Trim.{longest_common_suffix}
use Rattle.rx_order.specs.Inner.{inner_of}
use Rattle.rx_order.specs.Strip.{suffix_of_one_has_no_earlier_match}
use Rattle.rx_order.specs.Tests.{inner_has_no_earlier}
use Rattle.rx_strategy.specs.Config.{kind_of, auto_prefilter_of, prefilter_of, is_leftmost}
use Rattle.rx_strategy.specs.Impossible.{is_always_anchored_start, is_always_anchored_end}
use Rattle.rx_strategy.specs.Strategy.{properties_of, has_dfas, is_accelerated}
use Rattle.rx_strategy.specs.declared.config.Config.{Config}
use Rattle.rx_strategy.specs.declared.strategy.Strategy.{Strategy as CoreStrategy}

-- a prefilter is made of what each match begins with, if there is one
abbrev pub is_automatic : Config → Bool
is_automatic c = auto_prefilter_of c && not (is_some (prefilter_of c))

-- the literals that are looked for in place of these expressions, where they stand for all that these are
abbrev pub literals_for : Config → List Expression → Option (List (List ℕ))
literals_for c hs = if is_automatic c then literal_needles (kind_of c) hs else None

-- The patterns, which together are this expression, are searched from the end of the haystack: each match ends there, and not each
-- begins at its start; and the core has DFAs.
abbrev pub is_from_end : CoreStrategy → Expression → Bool
is_from_end core h = has_dfas core && (is_always_anchored_end h && not (is_always_anchored_start h))

-- each match of the core's patterns ends at the end of the haystack
pub record EndsLast (core : CoreStrategy) : Type 0 where
  pub ends : (h : Expression) → AreOf h (properties_of core) → is_always_anchored_end h ≡ true

-- What a search from the end is made of: the core, where its patterns are searched so; and else it gives the core back.
abbrev pub IsFromEnd : CoreStrategy → Result CoreStrategy CoreStrategy → Type 0
IsFromEnd core (Ok anchored) = (anchored ≡ core) × ((h : Expression) → AreOf h (properties_of core) → is_from_end core h ≡ true)
IsFromEnd core (Err back) = (back ≡ core) × ((h : Expression) → AreOf h (properties_of core) → is_from_end core h ≡ false)

-- The patterns, which together are this expression, may be searched by candidates: prefilters are made, the kind is leftmost-first, the
-- core has DFAs and no prefilter that is expected to be fast, and not each match begins at the start of the haystack.
abbrev pub may_attempt : Config → CoreStrategy → Expression → Bool
may_attempt c core h =
    auto_prefilter_of c && (is_leftmost (kind_of c) && (has_dfas core && (not (is_accelerated core) && not (is_always_anchored_start h))))

-- the longest text that ends each match of the only expression
abbrev pub suffix_of_one : List Expression → Option (List ℕ)
suffix_of_one [] = None
suffix_of_one (h ∷ []) = longest_common_suffix (suffixes h)
suffix_of_one (h ∷ g ∷ hs) = None

-- .. where no match starts earlier than its first confirmed candidate
abbrev pub if_in_order : List Expression → Option (List ℕ) → Option (List ℕ)
if_in_order hs None = None
if_in_order hs (Some s) = if suffix_of_one_has_no_earlier_match hs s then Some s else None

-- and the same of literals within each match, with what stands before them
abbrev pub if_inner_in_order : Option (Expression × List (List ℕ)) → Option (Expression × List (List ℕ))
if_inner_in_order None = None
if_inner_in_order (Some found) = if inner_has_no_earlier found.0 found.1 then Some found else None

-- the literal that ends each match, if the patterns are searched by it
abbrev pub suffix_for : Config → CoreStrategy → List Expression → Option (List ℕ)
suffix_for c core hs = if may_attempt c core (alternation (expressions hs)) then if_in_order hs (suffix_of_one hs) else None

-- and the literals within each match with what stands before them, if the patterns may be searched by these
abbrev pub inner_for : Config → CoreStrategy → List Expression → Option (Expression × List (List ℕ))
inner_for c core hs = if may_attempt c core (alternation (expressions hs)) then if_inner_in_order (inner_of hs) else None
