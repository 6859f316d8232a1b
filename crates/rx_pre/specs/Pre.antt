-- What a search in place of an expression is to a contract.
use Rattle.std.specs.Prelude.{◌≡◌, ℕ, Bool, List, [], ◌∷◌, Option, None, option_map, if◌then◌else◌}
use Rattle.rx_model.specs.Expression.{Expression, alternation}
use Rattle.rx_model.specs.Search.{Patterns, Match}
use Rattle.rx_search.specs.Input.{InputValue}
use Rattle.rx_search.specs.Told.{tells}
use Rattle.rx_search.specs.declared.span.Span.{Span}
use Rattle.rx_hir.specs.Normal.{expressions}
use Rattle.rx_hir.specs.PropertiesViews.{AreOf}
use Rattle.rx_hir.specs.declared.hir.properties.Properties.{Properties}
use Rattle.rx_pre.specs.Found.{span_in}
use Rattle.rx_pre.specs.Whole.{AreWhole}

pub record PreValue : Type 0 where
  -- the literals that are looked for
  pub needles : List (List ℕ)
  -- matches are told
  pub tells : Bool
  -- the properties of the expression, and its groups by their names
  pub properties : Properties
  pub groups : List (List (Option (List ℕ)))

-- it searches for these patterns: there is one, and the literals are all that it is
pub record IsPreFor (p : PreValue) (r : Patterns) : Type 0 where
  pub expression : Expression
  pub one : r.expressions ≡ expression ∷ []
  pub whole : AreWhole p.needles expression
  pub told : tells r.which_captures ≡ p.tells
  pub properties : AreOf (alternation (expressions r.expressions)) p.properties

-- the match of an expression without groups that covers the span, with what its run writes
abbrev pub match_over : Span → Match
match_over span = record {
  start = span.start;
  trace = record { pattern = 0; end = span.end; writes = (0, span.start) ∷ (1, span.end) ∷ [] };
}

-- what a search finds, where matches are told
abbrev pub finds : PreValue → InputValue → Option Match
finds p v = if p.tells then option_map match_over (span_in p.needles v) else None
