use Rattle.std.specs.Prelude.{map}
use Rattle.rx_search.specs.Matches.{match_value}
use Rattle.rx_search.specs.Searcher.{places_left, to_come, AtEachPlace, IsReached}
use Rattle.rx_search.proofs.SearcherLemmas.{Progress, AnswersAlike}
use Rattle.rx_search.proofs.searcher.Searcher.collect.Given as goal

abbrev pub invariant-loop-all : goal.invariant-loop-all
invariant-loop-all g l = record {
  progress : AtEachPlace (g.F.Finder.promises l.fn.finder) l.fn.self.input
      → Progress (g.F.Finder.searches l.finder) match_value (map match_value (to_come (g.F.Finder.searches l.fn.finder) l.fn.self)) l.all.items l.self;
  can : AtEachPlace (g.F.Finder.can_search l.finder) l.self.input;
  promised : AtEachPlace (g.F.Finder.promises l.fn.finder) l.fn.self.input → AtEachPlace (g.F.Finder.promises l.finder) l.self.input;
  alike : AnswersAlike g.F.Finder.searches g.F.Finder.can_search g.F.Finder.promises g.F.Finder.fails g.F.Finder.keeps l.fn.finder l.finder;
  reached : IsReached (g.F.Finder.searches l.fn.finder) (AtEachPlace (g.F.Finder.promises l.fn.finder) l.fn.self.input) l.fn.self l.self;
}

abbrev pub decreases-loop-all : goal.decreases-loop-all
decreases-loop-all g l = places_left l.self
