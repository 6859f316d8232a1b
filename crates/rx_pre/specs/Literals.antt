-- Which literals stand for a whole expression.
use Rattle.std.specs.Prelude.{ℕ, Bool, true, false, ◌&&◌, List, [], ◌∷◌, Option, Some, None, if◌then◌else◌}
use Rattle.std.specs.Option.{option_or}
use Rattle.rx_model.specs.Expression.{Expression, Expressions, empty, literal, class, look, repetition, capture, concat, alternation, nil, cons}
use Rattle.rx_literal.specs.Extract.{prefixes}
use Rattle.rx_literal.specs.First.{all_exact}
use Rattle.rx_literal.specs.Literals.{Seq}
use Rattle.rx_literal.specs.Trim.{trimmed_by_preference}
use Rattle.rx_prefilter.specs.Choices.{served}
use Rattle.rx_prefilter.specs.Prefixes.{served_by}
use Rattle.rx_order.specs.Alternation.{texts_in}
use Rattle.rx_search.specs.declared.anchored.MatchKind.{MatchKind}
use Rattle.rx_search.specs.declared.anchored.MatchKind.TheVariants.{All as all_matches, LeftmostFirst as leftmost_first}

abbrev mutual
  -- neither a group nor a look-around stands in the expression
  pub is_plain : Expression → Bool
  is_plain empty = true
  is_plain (literal bytes) = true
  is_plain (class members) = true
  is_plain (look kind) = false
  is_plain (repetition least most greedy sub) = is_plain sub
  is_plain (capture group name sub) = false
  is_plain (concat subs) = are_plain subs
  is_plain (alternation subs) = are_plain subs

  -- nor in one of the list
  pub are_plain : Expressions → Bool
  are_plain nil = true
  are_plain (cons sub subs) = is_plain sub && are_plain subs

-- the literals of a sequence, where each is exact and they fit a kind of search
abbrev pub exact_needles : Seq → Option (List (List ℕ))
exact_needles ss = if all_exact ss then served_by ss else None

-- these texts, where they fit a kind of search
abbrev pub served_texts : Option (List (List ℕ)) → Option (List (List ℕ))
served_texts None = None
served_texts (Some texts) = served texts

-- The literals that stand for the whole expression, in which there is neither a group nor a look-around: its prefixes, trimmed by
-- preference, where each is exact; else those of an alternation of at least 3000 literals; and both where they fit a kind of search.
unfoldable pub needles_in : Expression → Option (List (List ℕ))
needles_in h = if is_plain h then option_or (exact_needles (trimmed_by_preference (prefixes h))) (served_texts (texts_in h)) else None

-- .. of one expression
abbrev pub needles_of_one : List Expression → Option (List (List ℕ))
needles_of_one [] = None
needles_of_one (h ∷ []) = needles_in h
needles_of_one (h ∷ g ∷ hs) = None

-- .. where the first match is sought
abbrev pub literal_needles : MatchKind → List Expression → Option (List (List ℕ))
literal_needles all_matches hs = None
literal_needles leftmost_first hs = needles_of_one hs
