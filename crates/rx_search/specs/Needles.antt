-- What the needles of a prefilter tell of the matches of patterns.
use Rattle.std.specs.Prelude.{◌≡◌, ◌⊎◌, ℕ, ◌+◌, ◌≤◌, true, List, [], ◌∷◌, length, Option, Some, None}
use Rattle.rx_model.specs.Expression.{Expression}
use Rattle.rx_model.specs.Meaning.{Means}
use Rattle.rx_model.specs.Search.{Patterns}
use Rattle.rx_model.specs.Text.{stands_at}

-- one of the patterns means the span
abbrev pub MeansSome : (terminator : ℕ) (text : List ℕ) → List Expression → (i j : ℕ) → Type 0
MeansSome terminator text [] i j = ⊥
MeansSome terminator text (h ∷ hs) i j = Means terminator text h i j ⊎ MeansSome terminator text hs i j

-- one of the needles stands at place i of the text, and ends by j
abbrev pub OneBegins : (text : List ℕ) → (i j : ℕ) → List (List ℕ) → Type 0
OneBegins text i j [] = ⊥
OneBegins text i j (needle ∷ needles) = ((stands_at text i needle ≡ true) × (i + length needle ≤ j)) ⊎ OneBegins text i j needles

-- Each match of the patterns, in whichever text, begins with one of the needles, if there are needles.
abbrev pub BeginsEachMatch : Option (List (List ℕ)) → Patterns → Type 0
BeginsEachMatch None r = Unit {0}
BeginsEachMatch (Some needles) r = (text : List ℕ) (i j : ℕ) → MeansSome r.terminator text r.expressions i j → OneBegins text i j needles
