use Rattle.std.proofs.Common.{ap, subst}
use Rattle.std.specs.Prelude.{IfOk}
use Rattle.rx_search.specs.Answer.{IsAnswer, AreSlotsOfAnswer}
use Rattle.rx_search.specs.Matches.{match_value}
use Rattle.rx_strategy.specs.Strategy.{IsFor, kind_in, prefilter_in}
use Rattle.rx_strategy.specs.declared.strategy.Strategy.{Strategy}
use Rattle.rx_strategy.proofs.DfaLemmas.{less-asked}
use Rattle.rx_strategies.specs.Attempts.{InnerValue, IsInnerFor, HasTried}
use Rattle.rx_strategies.proofs.AttemptLemmas.{ok-answers, ok-slots}
use Rattle.rx_strategies.proofs.SameLemmas.{asked-fits, asked-range, same-fits, same-alike, same-twice, same-range, same-sure}
use Rattle.rx_strategies.proofs.inner.ReverseInner.search_slots.Goals as goal

pub returns-then-not-tells_free-clause-answer : goal.returns-then-not-tells_free-clause-answer
returns-then-not-tells_free-clause-answer c =
    let k = c.args.self.now in
    let s = k.core in
    let v = c.args.input.now in
    ok-answers (λ r. IsInnerFor k r) (λ r. IsFor s r) (prefilter_in s) v (λ r p. p.is_for.0) (kind_in s) match_value c.search_slots.result
    (subst (λ (t : Strategy). IfOk c.search_slots.result (IsAnswer (λ r. IsFor t r) (prefilter_in t) (kind_in t) v match_value))
    (ap (λ (x : InnerValue). x.core) c.self.view_is) c.search_slots.ensures.answer)

pub returns-then-not-tells_free-clause-slots : goal.returns-then-not-tells_free-clause-slots
returns-then-not-tells_free-clause-slots c =
    let k = c.args.self.now in
    let s = k.core in
    let v = c.args.input.now in
    let slots = c.search_slots.new.slots in
    ok-slots (λ r. IsInnerFor k r) (λ r. IsFor s r) (prefilter_in s) v (λ r p. p.is_for.0) (kind_in s) match_value slots c.search_slots.result
    (subst (λ (t : Strategy). IfOk c.search_slots.result (AreSlotsOfAnswer (λ r. IsFor t r) (prefilter_in t) (kind_in t) v match_value slots))
    (ap (λ (x : InnerValue). x.core) c.self.view_is) c.search_slots.ensures.slots)

pub returns-clause-answer : goal.returns-clause-answer
returns-clause-answer c =
    let k = c.args.self.now in
    let s = k.core in
    let v = c.args.input.now in
    let tried = c.attempt-tried.result in
    ok-answers (λ r. IsInnerFor k r) (λ r. HasTried s v tried r) (prefilter_in s) v
    (λ r p. (p.is_for.0, c.attempt-tried.ensures.answer r (less-asked (prefilter_in s) r v p))) (kind_in s)
    match_value c.slots_after.result
    (subst (λ (t : Strategy). IfOk c.slots_after.result (IsAnswer (λ r. HasTried t v tried r) (prefilter_in t) (kind_in t) v match_value))
    (ap (λ (x : InnerValue). x.core) c.self.view_is) c.slots_after.ensures.answer)

pub returns-clause-slots : goal.returns-clause-slots
returns-clause-slots c =
    let k = c.args.self.now in
    let s = k.core in
    let v = c.args.input.now in
    let tried = c.attempt-tried.result in
    let slots = c.slots_after.new.slots in
    ok-slots (λ r. IsInnerFor k r) (λ r. HasTried s v tried r) (prefilter_in s) v
    (λ r p. (p.is_for.0, c.attempt-tried.ensures.answer r (less-asked (prefilter_in s) r v p))) (kind_in s)
    match_value slots c.slots_after.result
    (subst (λ (t : Strategy). IfOk c.slots_after.result (AreSlotsOfAnswer (λ r. HasTried t v tried r) (prefilter_in t) (kind_in t) v match_value slots))
    (ap (λ (x : InnerValue). x.core) c.self.view_is) c.slots_after.ensures.slots)

pub search_slots-requires : goal.search_slots-requires
search_slots-requires c = asked-fits _ _ (ap (λ (x : InnerValue). x.core) c.self.view_is) _ c.requires.fits

pub returns-then-not-tells_free-clause-within : goal.returns-then-not-tells_free-clause-within
returns-then-not-tells_free-clause-within c = c.search_slots.ensures.within

pub returns-clause-within : goal.returns-clause-within
returns-clause-within c = c.slots_after.ensures.within

pub returns-then-not-tells_free-clause-none : goal.returns-then-not-tells_free-clause-none
returns-then-not-tells_free-clause-none c = c.search_slots.ensures.none

pub returns-clause-none : goal.returns-clause-none
returns-clause-none c = c.slots_after.ensures.none

pub returns-then-not-tells_free-clause-err : goal.returns-then-not-tells_free-clause-err
returns-then-not-tells_free-clause-err c = c.search_slots.ensures.err

pub returns-clause-err : goal.returns-clause-err
returns-clause-err c = c.slots_after.ensures.err

pub returns-then-not-tells_free-clause-slots_within : goal.returns-then-not-tells_free-clause-slots_within
returns-then-not-tells_free-clause-slots_within c = c.search_slots.ensures.slots_within

pub returns-clause-slots_within : goal.returns-clause-slots_within
returns-clause-slots_within c = c.slots_after.ensures.slots_within

pub returns-then-not-tells_free-clause-in_range : goal.returns-then-not-tells_free-clause-in_range
returns-then-not-tells_free-clause-in_range c =
    same-range _ _ (ap (λ (x : InnerValue). x.core) c.self.view_is) (λ m. m.pattern) c.search_slots.result c.search_slots.ensures.in_range

pub returns-clause-in_range : goal.returns-clause-in_range
returns-clause-in_range c =
    same-range _ _ (ap (λ (x : InnerValue). x.core) c.self.view_is) (λ m. m.pattern) c.slots_after.result c.slots_after.ensures.in_range

pub returns-then-not-tells_free-clause-cache : goal.returns-then-not-tells_free-clause-cache
returns-then-not-tells_free-clause-cache c = same-fits _ _ (ap (λ (x : InnerValue). x.core) c.self.view_is) _ c.search_slots.ensures.cache

pub returns-clause-cache : goal.returns-clause-cache
returns-clause-cache c = same-fits _ _ (ap (λ (x : InnerValue). x.core) c.self.view_is) _ c.slots_after.ensures.cache

pub returns-then-not-tells_free-clause-memory : goal.returns-then-not-tells_free-clause-memory
returns-then-not-tells_free-clause-memory c = same-alike _ _ (ap (λ (x : InnerValue). x.core) c.self.view_is) _ _ c.search_slots.ensures.memory

pub returns-clause-memory : goal.returns-clause-memory
returns-clause-memory c =
    same-twice _ _ (ap (λ (x : InnerValue). x.core) c.self.view_is) _ _ _ c.attempt-tried.ensures.memory c.slots_after.ensures.memory

pub returns-then-not-tells_free-clause-sure : goal.returns-then-not-tells_free-clause-sure
returns-then-not-tells_free-clause-sure c =
    same-sure _ _ (ap (λ (x : InnerValue). x.core) c.self.view_is) c.args.input.now c.search_slots.ensures.sure

pub returns-clause-sure : goal.returns-clause-sure
returns-clause-sure c = same-sure _ _ (ap (λ (x : InnerValue). x.core) c.self.view_is) c.args.input.now c.slots_after.ensures.sure

pub returns-then-not-tells_free-clause-states_fit : goal.returns-then-not-tells_free-clause-states_fit
returns-then-not-tells_free-clause-states_fit c = c.requires.states_fit

pub returns-clause-states_fit : goal.returns-clause-states_fit
returns-clause-states_fit c = c.attempt-tried.ensures.states_fit

pub returns-clause-states_same : goal.returns-clause-states_same
returns-clause-states_same c = c.attempt-tried.ensures.states_same

pub attempt-tried-requires-clause-fits : goal.attempt-tried-requires-clause-fits
attempt-tried-requires-clause-fits c = c.requires.fits

pub attempt-tried-requires-clause-states_fit : goal.attempt-tried-requires-clause-states_fit
attempt-tried-requires-clause-states_fit c = c.requires.states_fit

pub slots_after-requires-clause-fits : goal.slots_after-requires-clause-fits
slots_after-requires-clause-fits c = asked-fits _ _ (ap (λ (x : InnerValue). x.core) c.self.view_is) _ c.attempt-tried.ensures.cache

pub slots_after-requires-clause-lies : goal.slots_after-requires-clause-lies
slots_after-requires-clause-lies c = c.attempt-tried.ensures.within

pub slots_after-requires-clause-in_range : goal.slots_after-requires-clause-in_range
slots_after-requires-clause-in_range c =
    asked-range _ _ (ap (λ (x : InnerValue). x.core) c.self.view_is) (λ m. m.pattern) c.attempt-tried.result c.attempt-tried.ensures.in_range
