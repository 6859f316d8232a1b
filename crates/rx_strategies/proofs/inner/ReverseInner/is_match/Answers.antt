use Rattle.std.proofs.Common.{◌≡◌, ap, ◌∙◌, subst, true}
use Rattle.std.proofs.lemmas.Result.{IfOk-weaker}
use Rattle.std.specs.Prelude.{None, IfOk}
use Rattle.rx_model.specs.Search.{Patterns}
use Rattle.rx_search.specs.Answer.{TellsWhether}
use Rattle.rx_search.specs.Input.{InputValue}
use Rattle.rx_search.specs.Matches.{match_value}
use Rattle.rx_search.specs.Promise.{Premises}
use Rattle.rx_dfa.specs.Search.{IsAnswerFor}
use Rattle.rx_strategy.specs.Strategy.{IsFor, kind_in, prefilter_in}
use Rattle.rx_strategy.specs.declared.strategy.Strategy.{Strategy}
use Rattle.rx_strategies.specs.Attempts.{InnerValue, IsInnerFor, HasTriedWhether}
use Rattle.rx_strategies.proofs.AttemptLemmas.{ok-whether}
use Rattle.rx_strategies.proofs.SameLemmas.{asked-fits, same-fits, same-alike, same-twice, same-sure}
use Rattle.rx_strategies.proofs.inner.ReverseInner.is_match.Goals as goal

pub returns-then-is_anchored-clause-value : goal.returns-then-is_anchored-clause-value
returns-then-is_anchored-clause-value c =
    let k = c.args.self.now in
    let s = k.core in
    let v = c.args.input.now in
    ok-whether (λ r. IsInnerFor k r) (λ r. IsFor s r) (prefilter_in s) v (λ r p. p.is_for.0) c.is_match.result
    (subst (λ (t : Strategy). IfOk c.is_match.result (TellsWhether (λ r. IsFor t r) (prefilter_in t) v))
    (ap (λ (x : InnerValue). x.core) c.self.view_is) c.is_match.ensures.value)

pub returns-clause-value : goal.returns-clause-value
returns-clause-value c =
    let k = c.args.self.now in
    let s = k.core in
    let v = c.args.input.now in
    let tried = c.attempt-tried.result in
    let any : InputValue = record v { earliest = true } in
    let is_any : c.set_earliest.new.self ≡ any = c.set_earliest.ensures ∙ ap (λ (x : InputValue). record x { earliest = true }) c.clone-any.ensures.value in
    let told =
    subst (λ (w : InputValue). (r : Patterns) → Premises (IsInnerFor k r) None r w → IfOk tried (IsAnswerFor (kind_in s) r w match_value))
    is_any c.attempt-tried.ensures.answer in
    ok-whether (λ r. IsInnerFor k r) (λ r. HasTriedWhether s v tried r) (prefilter_in s) v
    (λ r p.
    let asked : Premises (IsInnerFor k r) None r any = record { is_for = p.is_for; begins = λ off. tt; utf8 = p.utf8 } in
    (p.is_for.0, IfOk-weaker tried _ _ (λ found is. is.exists) (told r asked)))
    c.whether_after.result
    (subst (λ (t : Strategy). IfOk c.whether_after.result (TellsWhether (λ r. HasTriedWhether t v tried r) (prefilter_in t) v))
    (ap (λ (x : InnerValue). x.core) c.self.view_is) c.whether_after.ensures.value)

pub is_match-requires : goal.is_match-requires
is_match-requires c = asked-fits _ _ (ap (λ (x : InnerValue). x.core) c.self.view_is) _ c.requires.fits

pub returns-then-is_anchored-clause-cache : goal.returns-then-is_anchored-clause-cache
returns-then-is_anchored-clause-cache c = same-fits _ _ (ap (λ (x : InnerValue). x.core) c.self.view_is) _ c.is_match.ensures.cache

pub returns-clause-cache : goal.returns-clause-cache
returns-clause-cache c = same-fits _ _ (ap (λ (x : InnerValue). x.core) c.self.view_is) _ c.whether_after.ensures.cache

pub returns-then-is_anchored-clause-memory : goal.returns-then-is_anchored-clause-memory
returns-then-is_anchored-clause-memory c = same-alike _ _ (ap (λ (x : InnerValue). x.core) c.self.view_is) _ _ c.is_match.ensures.memory

pub returns-clause-memory : goal.returns-clause-memory
returns-clause-memory c =
    same-twice _ _ (ap (λ (x : InnerValue). x.core) c.self.view_is) _ _ _ c.attempt-tried.ensures.memory c.whether_after.ensures.memory

pub returns-then-is_anchored-clause-sure : goal.returns-then-is_anchored-clause-sure
returns-then-is_anchored-clause-sure c = same-sure _ _ (ap (λ (x : InnerValue). x.core) c.self.view_is) c.args.input.now c.is_match.ensures.sure

pub returns-clause-sure : goal.returns-clause-sure
returns-clause-sure c = same-sure _ _ (ap (λ (x : InnerValue). x.core) c.self.view_is) c.args.input.now c.whether_after.ensures.sure

pub returns-then-is_anchored-clause-states_fit : goal.returns-then-is_anchored-clause-states_fit
returns-then-is_anchored-clause-states_fit c = c.requires.states_fit

pub returns-clause-states_fit : goal.returns-clause-states_fit
returns-clause-states_fit c = c.attempt-tried.ensures.states_fit

pub returns-clause-states_same : goal.returns-clause-states_same
returns-clause-states_same c = c.attempt-tried.ensures.states_same

pub attempt-tried-requires-clause-fits : goal.attempt-tried-requires-clause-fits
attempt-tried-requires-clause-fits c = c.requires.fits

pub attempt-tried-requires-clause-states_fit : goal.attempt-tried-requires-clause-states_fit
attempt-tried-requires-clause-states_fit c = c.requires.states_fit
