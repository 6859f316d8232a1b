-- What the needles of a prefilter tell of the runs of an NFA.
use Rattle.std.specs.Prelude.{◌≡◌, ℕ, ◌≤◌, false, List, Option, Some, None, is_some, IsTrue}
use Rattle.rx_model.specs.Search.{is_anchored}
use Rattle.rx_search.specs.Input.{InputValue}
use Rattle.rx_search.specs.Needles.{OneBegins}
use Rattle.rx_nfa.specs.Nfa.{Nfa}
use Rattle.rx_nfa.specs.NextMatch.{start_of, first_from}

-- Each run of the NFA in the input's span begins with one of the needles, if there are needles: it stands where the run
-- starts, and ends in the span. Of an anchored search nothing is asked, since it looks for no needle.
-- What the engines' clauses take (DECISIONS: the premise on needles is said twice).
abbrev pub BeginsEachRun : Option (List (List ℕ)) → Nfa → InputValue → Type 0
BeginsEachRun None nfa v = Unit {0}
BeginsEachRun (Some needles) nfa v =
    is_anchored v.anchor ≡ false
    → (i : ℕ) → v.start ≤ i → i ≤ v.end → IsTrue (is_some (first_from nfa.terminator nfa.states v.haystack v.end (start_of nfa v.anchor) i))
    → OneBegins v.haystack i v.end needles
