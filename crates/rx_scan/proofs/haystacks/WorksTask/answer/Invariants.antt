use Rattle.std.proofs.Common.{◌≡◌, ℕ, ◌+◌, List, [], length, get_or}
use Rattle.std.specs.Prelude.{map}
use Rattle.rx_model.specs.Search.{Patterns}
use Rattle.rx_search.specs.Input.{from_place, whole}
use Rattle.rx_search.specs.Searcher.{places_left, successive, AtEachPlace}
use Rattle.rx_search.proofs.SearcherLemmas.{Progress}
use Rattle.rx_meta.specs.Finder.{PromisesFor}
use Rattle.rx_meta.specs.Regex.{searches}
use Rattle.rx_scan.specs.Haystacks.{FindsRows}
use Rattle.rx_scan.specs.Row.{RowValue, row_of}
use Rattle.rx_scan.proofs.haystacks.WorksTask.answer.Given as goal

abbrev pub invariant-matches : goal.invariant-matches
invariant-matches g l = record {
  same : l.finder.regex.now ≡ l.initial.finder.regex.now;
  place : (i : ℕ) → from_place i l.searcher.input ≡ from_place i (whole (get_or (g.H.Haystacks.texts l.self.haystacks.now) l.index []));
  promised : (r : Patterns) → FindsRows l.initial.finder.regex.now r (get_or (g.H.Haystacks.texts l.self.haystacks.now) l.index [])
      → AtEachPlace (PromisesFor l.finder.regex.now) l.searcher.input;
  told : (rows : List RowValue)
      × ((i : ℕ) (all : List (List RowValue)) → l.index ≡ i + length all → g.O.Outcome.holds l.self.outcome.now i all [] l.initial.value
      → g.O.Outcome.holds l.self.outcome.now i all rows l.value)
      × ((r : Patterns) → FindsRows l.initial.finder.regex.now r (get_or (g.H.Haystacks.texts l.self.haystacks.now) l.index [])
      → Progress (searches l.finder.regex.now) (row_of r)
      (map (row_of r) (successive (searches l.initial.finder.regex.now) (whole (get_or (g.H.Haystacks.texts l.self.haystacks.now) l.index [])))) rows l.searcher);
}

abbrev pub decreases-matches : goal.decreases-matches
decreases-matches g l = places_left l.searcher
