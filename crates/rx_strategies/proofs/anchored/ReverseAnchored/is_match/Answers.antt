use Rattle.std.proofs.Common.{◌≡◌, true, ap, ◌∙◌, subst}
use Rattle.rx_model.specs.Search.{Patterns}
use Rattle.rx_search.specs.Answer.{TellsWhether}
use Rattle.rx_search.specs.Input.{InputValue}
use Rattle.rx_search.specs.Matches.{match_value}
use Rattle.rx_search.specs.Promise.{Premises}
use Rattle.rx_dfa.specs.Search.{IsAnswerFor}
use Rattle.rx_strategy.specs.Ending.{EndsWithSpan}
use Rattle.rx_strategy.specs.Strategy.{IsFor, kind_in, prefilter_in}
use Rattle.rx_strategy.specs.declared.strategy.Strategy.{Strategy}
use Rattle.rx_strategies.proofs.EndLemmas.{ends-with-span}
use Rattle.rx_strategies.proofs.SameLemmas.{asked-fits, alike-twice, same-fits, same-alike, same-sure, same-whether}
use Rattle.rx_strategies.proofs.anchored.ReverseAnchored.is_match.Goals as goal

pub returns-in-Ok-clause-value : goal.returns-in-Ok-clause-value
returns-in-Ok-clause-value c =
    let s = c.self.inside.core in
    let v = c.args.input.now in
    let any : InputValue = record v { earliest = true } in
    let is_any : c.set_earliest.new.self ≡ any = c.set_earliest.ensures ∙ ap (λ (x : InputValue). record x { earliest = true }) c.clone-any.ensures.value in
    let told =
    subst
    (λ (w : InputValue). (r : Patterns) → Premises (IsFor s r) (prefilter_in s) r w → EndsWithSpan r w → IsAnswerFor (kind_in s) r w match_value c.in-Ok.found)
    is_any c.in-Ok.ensures.answer in
    subst (λ (k : Strategy). TellsWhether (λ r. IsFor k r) (prefilter_in k) v c.is_some.result) c.self.view_is
    (λ r p.
    let ends = ends-with-span s c.self.invariant v (c.is_from_end.ensures.end c.if-not-is_from_end.false) r p.is_for in
    let asked : Premises (IsFor s r) (prefilter_in s) r any = record { is_for = p.is_for; begins = p.begins; utf8 = p.utf8 } in
    let same : EndsWithSpan r any = record { ends = ends.ends } in
    c.is_some.ensures ∙ (told r asked same).exists)

pub is_match-requires : goal.is_match-requires
is_match-requires c = asked-fits _ _ c.self.view_is _ c.requires

pub try_search_ending-requires-clause-fits : goal.try_search_ending-requires-clause-fits
try_search_ending-requires-clause-fits c = asked-fits _ _ c.self.view_is _ c.requires

pub is_match-requires-in-Err : goal.is_match-requires-in-Err
is_match-requires-in-Err c = c.in-Err.ensures.cache

pub returns-then-not-is_from_end-clause-value : goal.returns-then-not-is_from_end-clause-value
returns-then-not-is_from_end-clause-value c = same-whether _ _ c.self.view_is c.args.input.now c.is_match.result c.is_match.ensures.value

pub returns-then-not-is_from_end-clause-cache : goal.returns-then-not-is_from_end-clause-cache
returns-then-not-is_from_end-clause-cache c = same-fits _ _ c.self.view_is _ c.is_match.ensures.cache

pub returns-then-not-is_from_end-clause-memory : goal.returns-then-not-is_from_end-clause-memory
returns-then-not-is_from_end-clause-memory c = same-alike _ _ c.self.view_is _ _ c.is_match.ensures.memory

pub returns-then-not-is_from_end-clause-sure : goal.returns-then-not-is_from_end-clause-sure
returns-then-not-is_from_end-clause-sure c = same-sure _ _ c.self.view_is c.args.input.now c.is_match.ensures.sure

pub returns-in-Err-clause-value : goal.returns-in-Err-clause-value
returns-in-Err-clause-value c = same-whether _ _ c.self.view_is c.args.input.now c.is_match-in-Err.result c.is_match-in-Err.ensures.value

pub returns-in-Err-clause-cache : goal.returns-in-Err-clause-cache
returns-in-Err-clause-cache c = same-fits _ _ c.self.view_is _ c.is_match-in-Err.ensures.cache

pub returns-in-Err-clause-memory : goal.returns-in-Err-clause-memory
returns-in-Err-clause-memory c = same-alike _ _ c.self.view_is _ _ (alike-twice _ _ _ _ c.in-Err.ensures.memory c.is_match-in-Err.ensures.memory)

pub returns-in-Err-clause-sure : goal.returns-in-Err-clause-sure
returns-in-Err-clause-sure c = same-sure _ _ c.self.view_is c.args.input.now c.is_match-in-Err.ensures.sure

pub returns-in-Ok-clause-cache : goal.returns-in-Ok-clause-cache
returns-in-Ok-clause-cache c = same-fits _ _ c.self.view_is _ c.in-Ok.ensures.cache

pub returns-in-Ok-clause-memory : goal.returns-in-Ok-clause-memory
returns-in-Ok-clause-memory c = same-alike _ _ c.self.view_is _ _ c.in-Ok.ensures.memory
