-- What is said of each strategy, case by case.
use Rattle.std.proofs.Common.{◌≡◌, ◌≤◌, length, refl}
use Rattle.std.specs.Prelude.{Option}
use Rattle.rx_model.specs.Search.{Patterns}
use Rattle.rx_search.specs.Answer.{IsAnswer}
use Rattle.rx_search.specs.Input.{InputValue}
use Rattle.rx_search.specs.Matches.{MatchValue, match_value}
use Rattle.rx_search.specs.Told.{told_in}
use Rattle.rx_strategy.specs.Attempts.{IsToldBy}
use Rattle.rx_strategy.specs.Core.{CoreValue, IsCoreFor}
use Rattle.rx_strategy.specs.Strategy.{IsFor, finds, kind_in, prefilter_in}
use Rattle.rx_strategy.specs.declared.strategy.Strategy.{Strategy}
use Rattle.rx_strategy.specs.declared.strategy.Strategy.TheVariants.{Core}
use Rattle.rx_strategy.proofs.AnswerLemmas.{core-told}

-- what a strategy finds is what its patterns tell
pub finds-told : (s : Strategy) (v : InputValue) → v.end ≤ length v.haystack → (r : Patterns) → IsFor s r → finds s v ≡ told_in r v
finds-told (Core c) v within r of = core-told c v within r of

-- what is told by its core is told by a strategy
pub told-by-core : (s : Strategy) (v : InputValue) (found told : Option MatchValue)
    → ((c : CoreValue) → s ≡ Core c → IsAnswer (λ r. IsToldBy (IsCoreFor c r) c.kind r v found) c.pre c.kind v match_value told)
    → IsAnswer (λ r. IsToldBy (IsFor s r) (kind_in s) r v found) (prefilter_in s) (kind_in s) v match_value told
told-by-core (Core c) v found told given = given c refl
