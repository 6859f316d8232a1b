-- What a finder over a regex answers, and what its slots hold.
use Rattle.std.proofs.Common.{◌≡◌, ℕ, ◌≤◌, ◌<◌, List, ◌++◌, length, take, drop, refl, sym, ap, ◌∙◌, subst, arith, true≢false}
use Rattle.std.proofs.Math.ListN.{drop_of_length-le}
use Rattle.std.proofs.lemmas.List.{append-nil, take_all, length-replicate}
use Rattle.std.specs.Prelude.{true, false, Option, Some, None, option_map, is_some, replicate, Result, Ok, Err, IfOk, IfErr, OnOk, OnErr, IsOk, IfSome, IfNone}
use Rattle.rx_model.specs.Search.{Patterns, Match}
use Rattle.rx_model.proofs.lemmas.runs.RunLemmas.{by_test}
use Rattle.rx_search.specs.Input.{InputValue, next_in}
use Rattle.rx_search.specs.Matches.{MatchValue, match_value}
use Rattle.rx_search.specs.Promise.{Premises, Promised}
use Rattle.rx_search.specs.Told.{tells, told_in, HasSlots, AreWithin}
use Rattle.rx_strategy.proofs.AnswerLemmas.{told-yes}
use Rattle.rx_strategies.proofs.StrategyLemmas.{finds-told}
use Rattle.rx_meta.specs.Finder.{IsExactFor, AreSlotsOf, IsAnswerWith}
use Rattle.rx_meta.specs.Regex.{RegexValue, Serves, searches, given_needles, kind_in, pattern_count}
use Rattle.rx_meta.specs.Search.{IsAnswer, AreSlotsOfAnswer}
use Rattle.rx_meta.proofs.ServeLemmas.{premises-of}

-- nothing is told where matches are not
pub untold-none : (r : Patterns) (v : InputValue) → tells r.which_captures ≡ false → told_in r v ≡ None
untold-none r v untold = rw untold refl

-- what is promised of the next match is exact
pub exact-next : (regex : RegexValue) (r : Patterns) (v : InputValue) → Promised (Serves regex r) (given_needles regex) (kind_in regex) r v
    → IsExactFor regex r v
exact-next regex r v p = record { premises = p.premises; next = λ told. (p.leftmost, p.whole) }

module _ (regex : RegexValue) (v : InputValue) (within : v.end ≤ length v.haystack) (r : Patterns) where
  -- what is searched for is the next match, where matches are told
  pub searches-told : Premises (Serves regex r) (given_needles regex) r v → searches regex v ≡ told_in r v
  unfolding searches
  searches-told premises = finds-told regex.strategy r v within (premises-of regex v r premises)

  pub searches-next : Premises (Serves regex r) (given_needles regex) r v → tells r.which_captures ≡ true → searches regex v ≡ next_in r v
  searches-next premises told = searches-told premises ∙ told-yes r v told

  pub searches-none : Premises (Serves regex r) (given_needles regex) r v → tells r.which_captures ≡ false → searches regex v ≡ None
  searches-none premises untold = searches-told premises ∙ untold-none r v untold

  module _ (exact : IsExactFor regex r v) where
    -- where matches are told, what is promised is the next match
    pub promised-next : tells r.which_captures ≡ true → Promised (Serves regex r) (given_needles regex) (kind_in regex) r v
    promised-next told =
        let next = exact.next told in
        record { premises = exact.premises; leftmost = next.0; told = told; whole = next.1 }

    -- what is found is what is searched for
    pub finds-searched : (found : Option MatchValue) → IsAnswer regex v match_value found → found ≡ option_map match_value (searches regex v)
    finds-searched found answer =
        by_test (tells r.which_captures)
        (λ told.
        answer.value r (promised-next told) ∙ ap (option_map match_value) (sym (searches-next exact.premises told)))
        (λ untold.
        no-answer found (answer.exists r exact.premises ∙ ap (λ (o : Option Match). is_some o) (untold-none r v untold))
        ∙ ap (option_map match_value) (sym (searches-none exact.premises untold)))
      where
        no-answer : (found : Option MatchValue) → is_some found ≡ false → found ≡ None
        no-answer None e = refl
        no-answer (Some m) e = absurd (true≢false e)

-- where there is no error under a premise, an error denies it
pub fails-unless : {T E K : Type 0} (r : Result T E) → (K → IsOk r) → IfErr r (λ _. K → ⊥)
fails-unless (Ok x) sure = tt
fails-unless (Err e) sure = λ k. true≢false (sym (sure k))

-- slots that are all None
pub all-none : (slots : List (Option ℕ)) (n : ℕ) → slots ≡ replicate n None → slots ≡ replicate (length slots) None
all-none slots n is = is ∙ ap (λ k. replicate k None) (sym (ap length is ∙ length-replicate n None))

-- what the slots hold of the match that was searched for, by what is said of them where it is found, and where none is
slots-told : (slots : List (Option ℕ)) (n : ℕ) (o : Option Match) (found : Option MatchValue) → found ≡ option_map match_value o
    → IfSome o (HasSlots slots) → IfNone found (slots ≡ replicate n None) → AreSlotsOf slots o
slots-told slots n None found is has none =
    all-none slots n (subst (λ (f : Option MatchValue). IfNone f (slots ≡ replicate n None)) is none)
slots-told slots n (Some m) found is has none = has

module _ (regex : RegexValue) (v : InputValue) (within : v.end ≤ length v.haystack) (r : Patterns) (exact : IsExactFor regex r v) where
  -- the slots are those of the match that was searched for
  slots-searched : (slots : List (Option ℕ)) (found : Option MatchValue) → AreSlotsOfAnswer regex v match_value slots found
      → IfSome (searches regex v) (HasSlots slots)
  slots-searched slots found are =
      by_test (tells r.which_captures)
      (λ told.
      subst (λ (o : Option Match). IfSome o (HasSlots slots)) (sym (searches-next regex v within r exact.premises told))
      (are.value r (promised-next regex v within r exact told)))
      (λ untold. subst (λ (o : Option Match). IfSome o (HasSlots slots)) (sym (searches-none regex v within r exact.premises untold)) tt)

  pub told-by : {E : Type 0} (result : Result (Option MatchValue) E) (slots : List (Option ℕ)) (n : ℕ) → IfOk result (IsAnswer regex v match_value)
      → IfOk result (AreSlotsOfAnswer regex v match_value slots) → IfOk result (λ found. IfNone found (slots ≡ replicate n None))
      → OnOk result (AreSlotsOf slots (searches regex v))
  told-by (Ok found) slots n answer are none =
      slots-told slots n (searches regex v) found (finds-searched regex v within r exact found answer) (slots-searched slots found are) none
  told-by (Err e) slots n answer are none = tt

-- what is said of an answer, in one record
pub said-by : {E : Type 0} (regex : RegexValue) (v : InputValue) (slots : List (Option ℕ)) (result : Result (Option MatchValue) E)
    → IfOk result (IsAnswer regex v match_value) → IfOk result (AreSlotsOfAnswer regex v match_value slots) → AreWithin v slots
    → IfOk result (λ found. IfSome found (λ m. m.pattern < pattern_count regex)) → IfOk result (IsAnswerWith regex v slots)
said-by regex v slots (Ok found) answer are within in_range = record { answer = answer; slots = are; within = within; in_range = in_range }
said-by regex v slots (Err e) answer are within in_range = tt

-- where nothing was found the slots are all None
pub none-by : {E : Type 0} (slots : List (Option ℕ)) (n : ℕ) (result : Result (Option MatchValue) E)
    → IfOk result (λ found. IfNone found (slots ≡ replicate n None)) → IfOk result (λ found. IfNone found (AreSlotsOf slots None))
none-by slots n (Ok None) none = all-none slots n none
none-by slots n (Ok (Some m)) none = tt
none-by slots n (Err e) none = tt

-- and so they are after an error
pub silent-by : {T E : Type 0} (slots : List (Option ℕ)) (n : ℕ) (result : Result T E) → OnErr result (slots ≡ replicate n None)
    → OnErr result (AreSlotsOf slots None)
silent-by slots n (Ok x) none = tt
silent-by slots n (Err e) none = all-none slots n none

-- what was lent whole stands in place of all that was there
pub written : {A : Type 0} (xs ys : List A) (n : ℕ) → length xs ≡ n → length ys ≡ n → take n (xs ++ drop (length xs) ys) ≡ xs
written xs ys n same size =
    ap (λ t. take n (xs ++ t)) (drop_of_length-le ys {i = length xs} (omega arith)) ∙ ap (take n) (append-nil xs) ∙ take_all n xs (omega arith)
