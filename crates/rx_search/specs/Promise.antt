-- Under what a search promises its answer.
use Rattle.std.specs.Prelude.{◌≡◌, ℕ, true, false, List, Option}
use Rattle.rx_model.specs.Search.{Patterns, is_anchored}
use Rattle.rx_model.specs.Utf8.{MeansUtf8}
use Rattle.rx_search.specs.Input.{InputValue}
use Rattle.rx_search.specs.Needles.{BeginsEachMatch}
use Rattle.rx_search.specs.Told.{tells}
use Rattle.rx_search.specs.declared.anchored.MatchKind.{MatchKind}
use Rattle.rx_search.specs.declared.anchored.MatchKind.TheVariants.{LeftmostFirst}

-- What each answer about matches stands under: what searches is for these patterns; where the search is not anchored, each
-- match of them begins with one of the needles, if there are needles; and where no match may start inside a character, the
-- haystack and all that the patterns mean in it is UTF-8.
pub record Premises (IsFor : Type 0) (needles : Option (List (List ℕ))) (r : Patterns) (v : InputValue) : Type 0 where
  pub is_for : IsFor
  pub begins : is_anchored v.anchor ≡ false → BeginsEachMatch needles r
  pub utf8 : r.utf8_empty ≡ true → MeansUtf8 r v.haystack

-- What an answer that names the next match stands under: these premises, the kind is leftmost-first, matches are told,
-- and not just any match will do.
pub record Promised (IsFor : Type 0) (needles : Option (List (List ℕ))) (kind : MatchKind) (r : Patterns) (v : InputValue) : Type 0 where
  pub premises : Premises IsFor needles r v
  pub leftmost : kind ≡ LeftmostFirst
  pub told : tells r.which_captures ≡ true
  pub whole : v.earliest ≡ false
