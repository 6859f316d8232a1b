-- The number of matches that an iterator counts.
use Rattle.std.proofs.Common.{◌≡◌, ℕ, zero, suc, ◌+◌, ◌≤◌, ◌<◌, length, refl, sym, ap, ◌∙◌, subst, arith}
use Rattle.std.specs.Prelude.{Bool, false, true, Option, Some, None, Result, Ok, IfOk, IfSome}
use Rattle.rx_model.proofs.lemmas.runs.FirstLemmas.{none-is-some}
use Rattle.rx_search.specs.Matches.{MatchValue}
use Rattle.rx_search.specs.Searcher.{SearcherValue, moved_past}
use Rattle.rx_search.specs.Told.{LiesIn}
use Rattle.rx_memory.specs.declared.memory.Memory.{Memory}
use Rattle.rx_meta.specs.Iterators.{MatchesValue, matches_to_come, most_left, PromisesEach, GivesNext, IsMoved, IsEndedAfter, IsOfSearch, IsReported, ComeBeforeNone}
use Rattle.rx_meta.specs.Regex.{RegexValue}

-- what a call of `next` does
pub record IsStep (old new : MatchesValue) (result : Option (Result MatchValue Memory)) : Type 0 where
  pub gives : PromisesEach old → GivesNext IsReported (matches_to_come old) (matches_to_come new) result
  pub goes_on : PromisesEach old → PromisesEach new
  pub within : IfSome result (λ item. IfOk item (LiesIn old.searcher.input))
  pub any : old.ended ≡ false → IsOfSearch old result
  pub moved : IsMoved old.searcher new.searcher result
  pub ended : IsEndedAfter result new.ended
  pub none : old.ended ≡ true → result ≡ None
  pub fewer_left : IfSome result (λ _. most_left new < most_left old)
  pub regex : new.regex ≡ old.regex

-- So far an iterator has given so many matches, one after another.
pub record HasCounted (start now : MatchesValue) (count : ℕ) : Type 0 where
  -- of those that were to come
  pub promised : PromisesEach start → PromisesEach now × (length (matches_to_come start) ≡ count + length (matches_to_come now))
  -- each as a search answered it
  pub going : start.ended ≡ false → now.ended ≡ false
  pub come : start.ended ≡ false → (n : ℕ) → ComeBeforeNone now.regex now.searcher n → ComeBeforeNone start.regex start.searcher (count + n)
  -- none at its end
  pub over : start.ended ≡ true → (now.ended ≡ true) × (count ≡ 0)
  pub room : count + most_left now ≤ most_left start

none-more : (n : ℕ) → n ≡ 0 + n
none-more n = omega arith

none-left : (n : ℕ) → n + zero ≡ n
none-left n = omega arith

one-more : (n k : ℕ) → n + suc k ≡ n + 1 + k
one-more n k = omega arith

sum-more : (all left rest n : ℕ) → all ≡ n + left → left ≡ suc rest → all ≡ n + 1 + rest
sum-more all left rest n is one = omega arith

room-more : (most left rest n : ℕ) → n + left ≤ most → rest < left → n + 1 + rest ≤ most
room-more most left rest n le lt = omega arith

pub count-begun : (it : MatchesValue) → HasCounted it it 0
count-begun it = record {
  promised = λ promised. (promised, none-more (length (matches_to_come it)));
  going = λ going. going;
  come = λ _ n come. subst (ComeBeforeNone it.regex it.searcher) (none-more n) come;
  over = λ ended. (ended, refl);
  room = omega arith;
}

-- one match more
module _ (start old new : MatchesValue) (n : ℕ) (found : MatchValue) (before : HasCounted start old n) (step : IsStep old new (Some (Ok found))) where
  come-more : old.ended ≡ false → (k : ℕ) → ComeBeforeNone new.regex new.searcher k → ComeBeforeNone old.regex old.searcher (suc k)
  come-more going k come = (
    found,
    step.within,
    step.any going,
    subst (λ (r : RegexValue). ComeBeforeNone r (moved_past found old.searcher) k) step.regex
        (subst (λ (s : SearcherValue). ComeBeforeNone new.regex s k) step.moved come),
  )

  pub count-more : HasCounted start new (n + 1)
  count-more = record {
    promised = λ promised.
        let so_far = before.promised promised in
        let given = step.gives so_far.0 in (
          step.goes_on so_far.0,
          sum-more (length (matches_to_come start)) (length (matches_to_come old)) (length (matches_to_come new)) n so_far.1 (ap length given.2),
        );
    going = λ _. step.ended;
    come = λ going k come.
        subst (ComeBeforeNone start.regex start.searcher) (one-more n k)
        (before.come going (suc k) (come-more (before.going going) k come));
    over = λ ended. none-is-some (sym (step.none (before.over ended).0));
    room = room-more (most_left start) (most_left old) (most_left new) n before.room step.fewer_left;
  }

-- no match more
pub count-over : (start now : MatchesValue) (n : ℕ) → HasCounted start now n → (now.ended ≡ false → IsOfSearch {E = Memory} now None)
    → start.ended ≡ false → ComeBeforeNone start.regex start.searcher n
count-over start now n before none going =
    subst (ComeBeforeNone start.regex start.searcher) (none-left n) (before.come going zero (none (before.going going)))

-- the iterator with these parts
abbrev pub iterator_of : RegexValue → SearcherValue → Bool → MatchesValue
iterator_of regex s ended = record { regex = regex; searcher = s; ended = ended }

pub made-again : (made now : MatchesValue) (regex' regex : RegexValue) (s : SearcherValue) (ended : Bool) → made ≡ iterator_of regex' s ended
    → regex' ≡ regex → iterator_of regex s ended ≡ now → made ≡ now
made-again made now regex' regex s ended is same view = is ∙ ap (λ (r : RegexValue). iterator_of r s ended) same ∙ view
