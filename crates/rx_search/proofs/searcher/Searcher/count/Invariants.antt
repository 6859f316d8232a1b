use Rattle.std.proofs.Common.{◌≡◌, ℕ, ◌+◌, ◌≤◌, List, length}
use Rattle.std.specs.Prelude.{Option, map}
use Rattle.rx_model.specs.Search.{Match}
use Rattle.rx_search.specs.Input.{InputValue}
use Rattle.rx_search.specs.Matches.{MatchValue, match_value}
use Rattle.rx_search.specs.Searcher.{SearcherValue, places_left, to_come, AtEachPlace, IsReached}
use Rattle.rx_search.proofs.SearcherLemmas.{Progress, AnswersAlike}
use Rattle.rx_search.proofs.searcher.Searcher.count.Given as goal

-- the matches so far, of which there are as many as were counted
pub record Counted (searches : InputValue → Option Match) (all : List Match) (count : ℕ) (s : SearcherValue) : Type 0 where
  pub so_far : List MatchValue
  pub progress : Progress searches match_value (map match_value all) so_far s
  pub counted : length so_far ≡ count

abbrev pub invariant-loop-count : goal.invariant-loop-count
invariant-loop-count g l = record {
  counted : AtEachPlace (g.F.Finder.promises l.fn.finder) l.fn.self.input
      → Counted (g.F.Finder.searches l.finder) (to_come (g.F.Finder.searches l.fn.finder) l.fn.self) l.count l.self;
  can : AtEachPlace (g.F.Finder.can_search l.finder) l.self.input;
  promised : AtEachPlace (g.F.Finder.promises l.fn.finder) l.fn.self.input → AtEachPlace (g.F.Finder.promises l.finder) l.self.input;
  alike : AnswersAlike g.F.Finder.searches g.F.Finder.can_search g.F.Finder.promises g.F.Finder.fails g.F.Finder.keeps l.fn.finder l.finder;
  reached : IsReached (g.F.Finder.searches l.fn.finder) (AtEachPlace (g.F.Finder.promises l.fn.finder) l.fn.self.input) l.fn.self l.self;
  room : l.count + places_left l.self ≤ places_left l.fn.self;
}

abbrev pub decreases-loop-count : goal.decreases-loop-count
decreases-loop-count g l = places_left l.self
