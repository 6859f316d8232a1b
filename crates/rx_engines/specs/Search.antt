-- What is searched, and the next match there.
use Rattle.std.specs.Prelude.{◌≡◌, ℕ, zero, suc, ◌+◌, ◌-◌, ◌≤◌, ◌<◌, Bool, true, false, ◌&&◌, List, length, All, Option, None, is_some, IfSome, option_map, nat_lt, slice_index_or, if◌then◌else◌}
use Rattle.rx_model.specs.Runs.{PriorityGraph, first_trace}
use Rattle.rx_model.specs.Search.{Match, is_permitted, first_start, slot_value}
use Rattle.rx_search.specs.Matches.{MatchValue, match_value}
use Rattle.rx_nfa.specs.Automaton.{at, automaton, NamesBelow}
use Rattle.rx_engines.specs.Candidates.{is_candidate, is_begun}
use Rattle.rx_engines.specs.declared.search.Search.{Search}

-- the states that are named are there, and the places are in order
pub record IsInside (s : Search) : Type 0 where
  pub names : All (NamesBelow (length s.states.now)) s.states.now
  pub start : s.start < length s.states.now
  pub first : s.first ≤ s.last
  pub last : s.last ≤ s.end
  pub end : s.end ≤ length s.text.now

-- the graph whose runs are searched, of those that end by `end`
abbrev pub graph_until : Search → (end : ℕ) → PriorityGraph
graph_until s end = automaton s.matcher s.states.now s.text.now end

-- the same in all that is searched
abbrev pub graph_for : Search → PriorityGraph
graph_for s = graph_until s s.end

-- A match may begin at place i, by what is known before the search. Where it may begin at the first place alone, nothing is
-- asked.
abbrev pub is_offered : Search → ℕ → Bool
is_offered s i = if s.free then is_candidate s.candidates.now s.text.now s.end i else true

-- the same by one look at a table
abbrev pub may_begin : Search → ℕ → Bool
may_begin s i = if s.free then is_begun s.candidates.now s.text.now s.end i else true

-- Each place at which a match may begin by both tests is offered. Others may be.
abbrev pub OffersAll : Search → (offered : ℕ → Bool) → Type 0
OffersAll s offered = (i : ℕ) → is_offered s i ≡ true → may_begin s i ≡ true → offered i ≡ true

-- a search starts at place i: the place is offered, and not inside a character where that is asked for
abbrev pub may_start : (offered : ℕ → Bool) → Search → ℕ → Bool
may_start offered s i = offered i && is_permitted s.utf8 s.text.now i

-- the next match that ends by `end`, of those that begin at places that are offered
abbrev pub next_until : (offered : ℕ → Bool) → Search → (end : ℕ) → Option Match
next_until offered s end =
    first_start (may_start offered s) (λ i. first_trace (graph_until s end) (at s.start i)) (s.last + 1 - s.first) s.first

-- the next match in all that is searched
abbrev pub next_of : (offered : ℕ → Bool) → Search → Option Match
next_of offered s = next_until offered s s.end

-- the first of the n places from i on at which the test holds, or else the other place
unfoldable pub first_place : (ℕ → Bool) → (other n i : ℕ) → ℕ
first_place test other zero i = other
first_place test other (suc n) i = if test i then i else first_place test other n (i + 1)

-- Where the search stops: at the end, or with `earliest` at the first place by which a match ends.
abbrev pub stop_of : (offered : ℕ → Bool) → Search → (earliest : Bool) → ℕ
stop_of offered s earliest = if earliest then first_place (λ e. is_some (next_until offered s e)) s.end (s.end - s.first) s.first else s.end

-- what the search answers: the next match that ends by the place where it stops
abbrev pub answer_of : (offered : ℕ → Bool) → Search → (earliest : Bool) → Option Match
answer_of offered s earliest = next_until offered s (stop_of offered s earliest)

-- No run starts at a place of the search that is not offered.
abbrev pub PassesNoRun : (offered : ℕ → Bool) → Search → Type 0
PassesNoRun offered s =
    (end i : ℕ) → end ≤ s.end → s.first ≤ i → i ≤ s.last → offered i ≡ false → first_trace (graph_until s end) (at s.start i) ≡ None

-- What a search answers: for some test that offers all candidates, the match of the places that are offered, and the slots
-- that it leaves. A slot that the search has no room for stays empty.
pub record IsAnswered (s : Search) (earliest : Bool) (result : Option MatchValue) (slots : List (Option ℕ)) : Type 0 where
  pub offered : ℕ → Bool
  pub offers : OffersAll s offered
  pub value : result ≡ option_map match_value (answer_of offered s earliest)
  pub any : is_some result ≡ is_some (next_of offered s)
  pub slots_are : IfSome (answer_of offered s earliest)
      (λ m. (k : ℕ) → k < length slots → slice_index_or slots k None ≡ (if nat_lt k s.slots then slot_value m k else None))
