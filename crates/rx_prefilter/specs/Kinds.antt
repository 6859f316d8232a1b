-- The needles of a search, and its kind.
use Rattle.std.specs.Prelude.{◌≡◌, ℕ, List, [], ◌∷◌, Option, None, Some, MatchOption}
use Rattle.rx_prefilter.specs.Bytes.{single}
use Rattle.rx_prefilter.specs.Choices.{choice_of}
use Rattle.rx_prefilter.specs.declared.choice.Choice.{Choice}
use Rattle.rx_prefilter.specs.declared.choice.Choice.TheVariants as choices
use Rattle.rx_prefilter.specs.declared.prefilter.kind.Kind.{Kind}
use Rattle.rx_prefilter.specs.declared.prefilter.kind.Kind.TheVariants.{Memchr, Memchr2, Memchr3, Memmem, Multi, ByteSet, AhoCorasick}

-- what is searched for
unfoldable pub needles_of : Kind → List (List ℕ)
needles_of (Memchr a) = single a ∷ []
needles_of (Memchr2 a b) = single a ∷ single b ∷ []
needles_of (Memchr3 a b c) = single a ∷ single b ∷ single c ∷ []
needles_of (Memmem finder) = finder ∷ []
needles_of (Multi needles) = needles
needles_of (ByteSet needles) = needles
needles_of (AhoCorasick needles) = needles

-- by which kind
unfoldable pub kind_choice : Kind → Choice
kind_choice (Memchr a) = choices.Memchr
kind_choice (Memchr2 a b) = choices.Memchr2
kind_choice (Memchr3 a b c) = choices.Memchr3
kind_choice (Memmem finder) = choices.Memmem
kind_choice (Multi needles) = choices.Multi
kind_choice (ByteSet needles) = choices.ByteSet
kind_choice (AhoCorasick needles) = choices.AhoCorasick

-- the kind is that which the needles take
abbrev pub IsChosen : Kind → Type 0
IsChosen kind = choice_of (needles_of kind) ≡ Some (kind_choice kind)

-- the search that is made for needles: none where they fit no kind
pub record IsSearchFor (needles : List (List ℕ)) (choice : Choice) (kind : Kind) : Type 0 where
  pub same : needles_of kind ≡ needles
  pub by : kind_choice kind ≡ choice

abbrev pub IsMadeFor : List (List ℕ) → Option Kind → Type 0
IsMadeFor needles made = MatchOption made (choice_of needles ≡ None) (λ kind. (needles_of kind ≡ needles) × IsChosen kind)
