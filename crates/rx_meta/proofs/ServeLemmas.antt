-- From what a strategy answers to what its regex does.
use Rattle.std.proofs.Common.{List, ◌≡◌, refl, sym, ap, subst}
use Rattle.std.specs.Prelude.{ℕ, Bool, true, false, Option, None, Result, Ok, Err, IfOk, OnOk, IfSome, is_some, option_map, if◌then◌else◌}
use Rattle.rx_model.specs.Search.{Patterns, Match}
use Rattle.rx_search.specs.Answer as answer
use Rattle.rx_search.specs.Input.{InputValue, next_in}
use Rattle.rx_search.specs.Matches.{MatchValue, match_value}
use Rattle.rx_search.specs.Promise.{Premises, Promised}
use Rattle.rx_search.specs.Sets as sets
use Rattle.rx_search.specs.Told.{HasSlots}
use Rattle.rx_dfa.specs.Search.{IsAnswerFor}
use Rattle.rx_strategies.specs.Strategy as strategy
use Rattle.rx_strategy.proofs.AnswerLemmas as lower
use Rattle.rx_strategies.specs.declared.strategy.Strategy.{Strategy}
use Rattle.rx_meta.specs.Regex.{RegexValue, Serves, given_needles, kind_in}
use Rattle.rx_meta.specs.Search.{IsAnswer, AreSlotsOfAnswer, TellsWhether}
use Rattle.rx_meta.specs.Sets.{AddsMatching, IsFilled}

told-none : (b : Bool) (next : Option Match) → next ≡ None → false ≡ is_some (if b then next else None)
told-none true next none = sym (ap is_some none)
told-none false next none = refl

-- the regex with a strategy that is its own
pub with_strategy : (regex : RegexValue) {s : Strategy} → s ≡ regex.strategy → record { config = regex.config; strategy = s } ≡ regex
with_strategy regex is = ap (λ (s : Strategy). record { config = regex.config; strategy = s }) is

module _ (regex : RegexValue) (v : InputValue) where
  pub premises-of : (r : Patterns) → Premises (Serves regex r) (given_needles regex) r v
      → Premises (strategy.IsFor regex.strategy r) (strategy.prefilter_in regex.strategy) r v
  unfolding Serves
  premises-of r p = record { is_for = p.is_for.0; begins = λ loose. p.is_for.1 (p.begins loose); utf8 = p.utf8 }

  promised-of : (r : Patterns) → Promised (Serves regex r) (given_needles regex) (kind_in regex) r v
      → Promised (strategy.IsFor regex.strategy r) (strategy.prefilter_in regex.strategy) (strategy.kind_in regex.strategy) r v
  unfolding kind_in
  promised-of r p = record { premises = premises-of r p.premises; leftmost = p.leftmost; told = p.told; whole = p.whole }

  module _ {T : Type 0} (part : Match → T) where
    answer-of : (found : Option T)
        → answer.IsAnswer (λ r. strategy.IsFor regex.strategy r) (strategy.prefilter_in regex.strategy) (strategy.kind_in regex.strategy) v part found
        → IsAnswer regex v part found
    answer-of found a = record {
      value = λ r p. a.value r (promised-of r p);
      exists = λ r p. a.exists r (premises-of r p);
      is_match = λ r p. a.is_match r (premises-of r p);
    }

    -- what a search answers, if it has an answer
    pub answers-of : {E : Type 0} (result : Result (Option T) E)
        → IfOk result (answer.IsAnswer (λ r. strategy.IsFor regex.strategy r) (strategy.prefilter_in regex.strategy) (strategy.kind_in regex.strategy) v part)
        → IfOk result (IsAnswer regex v part)
    answers-of (Ok found) a = answer-of found a
    answers-of (Err e) a = tt

    slots-are : (slots : List (Option ℕ)) (found : Option T)
        → answer.AreSlotsOfAnswer (λ r. strategy.IsFor regex.strategy r) (strategy.prefilter_in regex.strategy)
        (strategy.kind_in regex.strategy) v part slots found
        → AreSlotsOfAnswer regex v part slots found
    slots-are slots found a = record {
      value = λ r p. a.value r (promised-of r p);
      is_match = λ r p. a.is_match r (premises-of r p);
    }

    pub slots-of : {E : Type 0} (slots : List (Option ℕ)) (result : Result (Option T) E)
        → IfOk result (answer.AreSlotsOfAnswer (λ r. strategy.IsFor regex.strategy r) (strategy.prefilter_in regex.strategy)
        (strategy.kind_in regex.strategy) v part slots)
        → IfOk result (AreSlotsOfAnswer regex v part slots)
    slots-of slots (Ok found) a = slots-are slots found a
    slots-of slots (Err e) a = tt

  pub whether-of : {E : Type 0} (result : Result Bool E)
      → IfOk result (answer.TellsWhether (λ r. strategy.IsFor regex.strategy r) (strategy.prefilter_in regex.strategy) v)
      → IfOk result (TellsWhether regex v)
  whether-of (Ok there) a = λ r p. a r (premises-of r p)
  whether-of (Err e) a = tt

  -- what an attempt answers, if it has an answer: no needles are looked for
  pub attempt-of : {E : Type 0} (result : Result (Option MatchValue) E)
      → ((r : Patterns) → Premises (strategy.IsFor regex.strategy r) None r v → IfOk result (IsAnswerFor (strategy.kind_in regex.strategy) r v match_value))
      → (r : Patterns) → Premises (Serves regex r) None r v → IfOk result (IsAnswerFor (kind_in regex) r v match_value)
  unfolding Serves kind_in
  attempt-of result a r p = a r (record { is_for = p.is_for.0; begins = λ off. tt; utf8 = p.utf8 })

  -- what is added to a set
  pub adds-of : (old new : List Bool)
      → sets.AddsMatching (λ r. strategy.IsFor regex.strategy r) (strategy.prefilter_in regex.strategy) v old new
      → AddsMatching regex v old new
  adds-of old new a = λ r p. a r (premises-of r p)

  pub filled-of : {T E : Type 0} (old new : List Bool) (result : Result T E)
      → OnOk result (sets.IsFilled (λ r. strategy.IsFor regex.strategy r) (strategy.prefilter_in regex.strategy) v old new
      (strategy.kind_in regex.strategy))
      → OnOk result (IsFilled regex v old new)
  unfolding kind_in
  filled-of old new (Ok x) a = λ r p. a r (premises-of r p)
  filled-of old new (Err e) a = tt

  -- what is answered where it is known that no pattern has a match
  module _ (none : (r : Patterns) → strategy.IsFor regex.strategy r → next_in r v ≡ None) where
    none-of : (r : Patterns) → Serves regex r → next_in r v ≡ None
    unfolding Serves
    none-of r serves = none r serves.0

    pub none-answers : {T : Type 0} (part : Match → T) → IsAnswer regex v part None
    none-answers part = record {
      value = λ r p. sym (ap (option_map part) (none-of r p.premises.is_for));
      exists = λ r p. told-none _ (next_in r v) (none-of r p.is_for);
      is_match = λ r p. tt;
    }

    pub none-slots : {T : Type 0} (part : Match → T) (slots : List (Option ℕ)) → AreSlotsOfAnswer regex v part slots None
    none-slots part slots = record {
      value = λ r p. subst (λ o. IfSome o (HasSlots slots)) (sym (none-of r p.premises.is_for)) tt;
      is_match = λ r p. tt;
    }

    pub none-there : TellsWhether regex v false
    none-there = λ r p. sym (ap is_some (none-of r p.is_for))

    pub none-adds : (set : List Bool) → AddsMatching regex v set set
    none-adds set = adds-of set set (lower.none-adds (λ r. strategy.IsFor regex.strategy r) (strategy.prefilter_in regex.strategy) v set none)

    pub none-fills : (set : List Bool) → IsFilled regex v set set
    unfolding kind_in
    none-fills set r p =
        lower.none-fills (λ r. strategy.IsFor regex.strategy r) (strategy.prefilter_in regex.strategy) v set none (strategy.kind_in regex.strategy) r
        (premises-of r p)
