use Rattle.std.proofs.Common.{ap, subst}
use Rattle.std.specs.Prelude.{IfOk}
use Rattle.rx_search.specs.Answer.{IsAnswer}
use Rattle.rx_search.specs.Matches.{half_match_value}
use Rattle.rx_strategy.specs.Strategy.{IsFor, kind_in, prefilter_in}
use Rattle.rx_strategy.specs.declared.strategy.Strategy.{Strategy}
use Rattle.rx_strategy.proofs.DfaLemmas.{less-asked}
use Rattle.rx_strategies.specs.Attempts.{InnerValue, IsInnerFor, HasTried}
use Rattle.rx_strategies.proofs.AttemptLemmas.{ok-answers}
use Rattle.rx_strategies.proofs.SameLemmas.{asked-fits, asked-range, same-fits, same-alike, same-twice, same-range, same-sure}
use Rattle.rx_strategies.proofs.inner.ReverseInner.search_half.Goals as goal

pub returns-then-not-tells_free-clause-answer : goal.returns-then-not-tells_free-clause-answer
returns-then-not-tells_free-clause-answer c =
    let k = c.args.self.now in
    let s = k.core in
    let v = c.args.input.now in
    ok-answers (λ r. IsInnerFor k r) (λ r. IsFor s r) (prefilter_in s) v (λ r p. p.is_for.0) (kind_in s) half_match_value c.search_half.result
    (subst (λ (t : Strategy). IfOk c.search_half.result (IsAnswer (λ r. IsFor t r) (prefilter_in t) (kind_in t) v half_match_value))
    (ap (λ (x : InnerValue). x.core) c.self.view_is) c.search_half.ensures.answer)

pub returns-clause-answer : goal.returns-clause-answer
returns-clause-answer c =
    let k = c.args.self.now in
    let s = k.core in
    let v = c.args.input.now in
    let tried = c.attempt-tried.result in
    ok-answers (λ r. IsInnerFor k r) (λ r. HasTried s v tried r) (prefilter_in s) v
    (λ r p. (p.is_for.0, c.attempt-tried.ensures.answer r (less-asked (prefilter_in s) r v p))) (kind_in s)
    half_match_value c.half_after.result
    (subst (λ (t : Strategy). IfOk c.half_after.result (IsAnswer (λ r. HasTried t v tried r) (prefilter_in t) (kind_in t) v half_match_value))
    (ap (λ (x : InnerValue). x.core) c.self.view_is) c.half_after.ensures.answer)

pub search_half-requires : goal.search_half-requires
search_half-requires c = asked-fits _ _ (ap (λ (x : InnerValue). x.core) c.self.view_is) _ c.requires.fits

pub returns-then-not-tells_free-clause-within : goal.returns-then-not-tells_free-clause-within
returns-then-not-tells_free-clause-within c = c.search_half.ensures.within

pub returns-clause-within : goal.returns-clause-within
returns-clause-within c = c.half_after.ensures.within

pub returns-then-not-tells_free-clause-in_range : goal.returns-then-not-tells_free-clause-in_range
returns-then-not-tells_free-clause-in_range c =
    same-range _ _ (ap (λ (x : InnerValue). x.core) c.self.view_is) (λ m. m.pattern) c.search_half.result c.search_half.ensures.in_range

pub returns-clause-in_range : goal.returns-clause-in_range
returns-clause-in_range c =
    same-range _ _ (ap (λ (x : InnerValue). x.core) c.self.view_is) (λ m. m.pattern) c.half_after.result c.half_after.ensures.in_range

pub returns-then-not-tells_free-clause-cache : goal.returns-then-not-tells_free-clause-cache
returns-then-not-tells_free-clause-cache c = same-fits _ _ (ap (λ (x : InnerValue). x.core) c.self.view_is) _ c.search_half.ensures.cache

pub returns-clause-cache : goal.returns-clause-cache
returns-clause-cache c = same-fits _ _ (ap (λ (x : InnerValue). x.core) c.self.view_is) _ c.half_after.ensures.cache

pub returns-then-not-tells_free-clause-memory : goal.returns-then-not-tells_free-clause-memory
returns-then-not-tells_free-clause-memory c = same-alike _ _ (ap (λ (x : InnerValue). x.core) c.self.view_is) _ _ c.search_half.ensures.memory

pub returns-clause-memory : goal.returns-clause-memory
returns-clause-memory c =
    same-twice _ _ (ap (λ (x : InnerValue). x.core) c.self.view_is) _ _ _ c.attempt-tried.ensures.memory c.half_after.ensures.memory

pub returns-then-not-tells_free-clause-sure : goal.returns-then-not-tells_free-clause-sure
returns-then-not-tells_free-clause-sure c = same-sure _ _ (ap (λ (x : InnerValue). x.core) c.self.view_is) c.args.input.now c.search_half.ensures.sure

pub returns-clause-sure : goal.returns-clause-sure
returns-clause-sure c = same-sure _ _ (ap (λ (x : InnerValue). x.core) c.self.view_is) c.args.input.now c.half_after.ensures.sure

pub returns-then-not-tells_free-clause-states_fit : goal.returns-then-not-tells_free-clause-states_fit
returns-then-not-tells_free-clause-states_fit c = c.requires.states_fit

pub returns-clause-states_fit : goal.returns-clause-states_fit
returns-clause-states_fit c = c.attempt-tried.ensures.states_fit

pub returns-clause-states_same : goal.returns-clause-states_same
returns-clause-states_same c = c.attempt-tried.ensures.states_same

pub attempt-tried-requires-clause-fits : goal.attempt-tried-requires-clause-fits
attempt-tried-requires-clause-fits c = c.requires.fits

pub attempt-tried-requires-clause-states_fit : goal.attempt-tried-requires-clause-states_fit
attempt-tried-requires-clause-states_fit c = c.requires.states_fit

pub half_after-requires-clause-fits : goal.half_after-requires-clause-fits
half_after-requires-clause-fits c = asked-fits _ _ (ap (λ (x : InnerValue). x.core) c.self.view_is) _ c.attempt-tried.ensures.cache

pub half_after-requires-clause-lies : goal.half_after-requires-clause-lies
half_after-requires-clause-lies c = c.attempt-tried.ensures.within

pub half_after-requires-clause-in_range : goal.half_after-requires-clause-in_range
half_after-requires-clause-in_range c =
    asked-range _ _ (ap (λ (x : InnerValue). x.core) c.self.view_is) (λ m. m.pattern) c.attempt-tried.result c.attempt-tried.ensures.in_range
