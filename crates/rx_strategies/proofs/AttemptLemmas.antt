-- Searches by candidates: what is known of a core's patterns is known of those in which candidates are in order.
use Rattle.std.proofs.Common.{◌≡◌, ℕ, List, ◌∙◌, subst, true}
use Rattle.std.proofs.lemmas.Result.{IfOk-weaker}
use Rattle.std.specs.Prelude.{Bool, Option, is_some, option_map, Result, Ok, IfOk}
use Rattle.rx_model.specs.Search.{Patterns, Match}
use Rattle.rx_search.specs.Answer.{IsAnswer, AreSlotsOfAnswer, TellsWhether, half_of}
use Rattle.rx_search.specs.Input.{InputValue, next_in}
use Rattle.rx_search.specs.Matches.{MatchValue, HalfMatchValue, match_value, half_match_value}
use Rattle.rx_search.specs.Promise.{Premises}
use Rattle.rx_search.specs.declared.anchored.MatchKind.{MatchKind}
use Rattle.rx_dfa.specs.Search.{IsAnswerFor}
use Rattle.rx_attempts.specs.declared.patience.Stop.{Stop}
use Rattle.rx_strategy.specs.Attempts.{IsToldBy}
use Rattle.rx_strategy.specs.Strategy as core
use Rattle.rx_strategy.specs.declared.strategy.Strategy.{Strategy as CoreStrategy}
use Rattle.rx_strategy.specs.declared.strategy.Strategy.TheVariants.{Core as TheCore}
use Rattle.rx_strategy.proofs.AnswerLemmas.{for-dfa, part-answers, fewer-answers, fewer-slots, fewer-whether}
use Rattle.rx_strategies.specs.Attempts.{HasTried, HasTriedWhether}

-- a search for more patterns is one for fewer, where there was memory
module _ (For More : Patterns → Type 0) (needles : Option (List (List ℕ))) (v : InputValue)
    (more : (r : Patterns) → Premises (For r) needles r v → More r) {E : Type 0} where
  pub ok-answers : (kind : MatchKind) {T : Type 0} (part : Match → T) (result : Result (Option T) E) → IfOk result (IsAnswer More needles kind v part)
      → IfOk result (IsAnswer For needles kind v part)
  ok-answers kind part result is = IfOk-weaker result _ _ (λ found has. fewer-answers For More needles v more kind part found has) is

  pub ok-slots : (kind : MatchKind) {T : Type 0} (part : Match → T) (slots : List (Option ℕ)) (result : Result (Option T) E)
      → IfOk result (AreSlotsOfAnswer More needles kind v part slots) → IfOk result (AreSlotsOfAnswer For needles kind v part slots)
  ok-slots kind part slots result are = IfOk-weaker result _ _ (λ found has. fewer-slots For More needles v more kind part slots found has) are

  pub ok-whether : (result : Result Bool E) → IfOk result (TellsWhether More needles v) → IfOk result (TellsWhether For needles v)
  ok-whether result is = IfOk-weaker result _ _ (λ there has. fewer-whether For More needles v more there has) is

-- What an attempt answers is what a search answers, where matches are told: of some patterns of a core.
pub attempt-answer : (s : CoreStrategy) (v : InputValue) (For : Patterns → Type 0) → ((r : Patterns) → For r → core.IsFor s r)
    → {A : Type 0} (part : Match → A) (found : Option A)
    → ((r : Patterns) → Premises (For r) (core.prefilter_in s) r v → IsAnswerFor (core.kind_in s) r v part found) → core.tells_in s ≡ true
    → IsAnswer For (core.prefilter_in s) (core.kind_in s) v part found
attempt-answer (TheCore c) v For of part found is told = for-dfa c v For of c.kind part found is told

-- of an attempt that has an answer, and of any
module _ (s : CoreStrategy) (v : InputValue) (tried : Result (Option MatchValue) Stop) where
  found-of : (found : Option MatchValue) → tried ≡ Ok found → (r : Patterns) → HasTried s v tried r → IsAnswerFor (core.kind_in s) r v match_value found
  found-of found is r has = subst (λ (t : Result (Option MatchValue) Stop). IfOk t (IsAnswerFor (core.kind_in s) r v match_value)) is has.1

  -- the half of what was found
  pub tried-half : (found : Option MatchValue) → tried ≡ Ok found → core.tells_in s ≡ true → (half : Option HalfMatchValue)
      → half ≡ option_map half_of found
      → IsAnswer (λ r. HasTried s v tried r) (core.prefilter_in s) (core.kind_in s) v half_match_value half
  tried-half found is told half of =
      part-answers (λ r. HasTried s v tried r) (core.prefilter_in s) (core.kind_in s) v match_value half_of found half of
      (attempt-answer s v (λ r. HasTried s v tried r) (λ r has. has.0) match_value found (λ r p. found-of found is r p.is_for) told)

  -- what was found is told
  pub tried-told : (found : Option MatchValue) → tried ≡ Ok found → (r : Patterns) → Premises (HasTried s v tried r) (core.prefilter_in s) r v
      → IsToldBy (core.IsFor s r) (core.kind_in s) r v found
  tried-told found is r p = (p.is_for.0, found-of found is r p.is_for)

  pub tried-core : (r : Patterns) → Premises (HasTried s v tried r) (core.prefilter_in s) r v → core.IsFor s r
  tried-core r p = p.is_for.0

  pub tried-whether : (found : Option MatchValue) → tried ≡ Ok found → (there : Bool) → there ≡ is_some found
      → TellsWhether (λ r. HasTriedWhether s v tried r) (core.prefilter_in s) v there
  tried-whether found is there so r p =
      so ∙ subst (λ (t : Result (Option MatchValue) Stop). IfOk t (λ found. is_some found ≡ is_some (next_in r v))) is p.is_for.1

  pub whether-core : (r : Patterns) → Premises (HasTriedWhether s v tried r) (core.prefilter_in s) r v → core.IsFor s r
  whether-core r p = p.is_for.0
