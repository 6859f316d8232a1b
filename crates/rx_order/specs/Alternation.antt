-- The literals of an alternation of many.
use Rattle.std.specs.Prelude.{ℕ, List, [], ◌∷◌, length, Option, Some, None, if◌then◌else◌, nat_lt}
use Rattle.std.specs.Option.{option_map}
use Rattle.rx_model.specs.Expression.{Expression, empty, literal, class, look, repetition, capture, concat, alternation}
use Rattle.rx_hir.specs.Normal.{list_of}
use Rattle.rx_search.specs.declared.anchored.MatchKind.{MatchKind}
use Rattle.rx_search.specs.declared.anchored.MatchKind.TheVariants.{All as all_matches, LeftmostFirst as leftmost_first}

-- the bytes of a literal
abbrev pub text_of : Expression → Option (List ℕ)
text_of (literal bytes) = Some bytes
text_of empty = None
text_of (class members) = None
text_of (look kind) = None
text_of (repetition min max greedy sub) = None
text_of (capture group name sub) = None
text_of (concat subs) = None
text_of (alternation subs) = None

abbrev pub before_each : Option (List ℕ) → Option (List (List ℕ)) → Option (List (List ℕ))
before_each None rest = None
before_each (Some bytes) rest = option_map (λ texts. bytes ∷ texts) rest

-- the bytes of each, where all of them are literals
unfoldable pub texts_of : List Expression → Option (List (List ℕ))
texts_of [] = Some []
texts_of (h ∷ hs) = before_each (text_of h) (texts_of hs)

-- .. where they are as many at least
unfoldable pub many_texts : (fewest : ℕ) → List Expression → Option (List (List ℕ))
many_texts fewest hs = if nat_lt (length hs) fewest then None else texts_of hs

-- those of an alternation of at least 3000 literals, which has no groups and no look-around
unfoldable pub texts_in : Expression → Option (List (List ℕ))
texts_in (alternation subs) = many_texts 3000 (list_of subs)
texts_in empty = None
texts_in (literal bytes) = None
texts_in (class members) = None
texts_in (look kind) = None
texts_in (repetition min max greedy sub) = None
texts_in (capture group name sub) = None
texts_in (concat subs) = None

-- .. of one expression
abbrev pub texts_of_one : List Expression → Option (List (List ℕ))
texts_of_one [] = None
texts_of_one (h ∷ []) = texts_in h
texts_of_one (h ∷ g ∷ hs) = None

-- .. where the first match is sought
abbrev pub alternation_literals : MatchKind → List Expression → Option (List (List ℕ))
alternation_literals all_matches hs = None
alternation_literals leftmost_first hs = texts_of_one hs
