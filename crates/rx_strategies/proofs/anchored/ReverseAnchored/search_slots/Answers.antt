use Rattle.std.proofs.Common.{◌≡◌, true, sym, subst}
use Rattle.rx_strategy.specs.Strategy.{tells_in, IsFor, kind_in, pattern_count, prefilter_in}
use Rattle.rx_strategy.specs.declared.strategy.Strategy.{Strategy}
use Rattle.rx_strategies.proofs.EndLemmas.{ends-with-span}
use Rattle.std.specs.Prelude.{IfSome, ◌<◌}
use Rattle.rx_search.specs.Answer.{IsAnswer, AreSlotsOfAnswer}
use Rattle.rx_search.specs.Matches.{match_value}
use Rattle.rx_strategies.proofs.SameLemmas.{asked-fits, alike-twice, same-fits, same-alike, same-sure, same-answers, same-slots, same-range}
use Rattle.rx_strategies.proofs.anchored.ReverseAnchored.search_slots.Goals as goal

pub leave_found-requires-clause-right : goal.leave_found-requires-clause-right
leave_found-requires-clause-right c r p =
    c.in-Ok.ensures.answer r p
    (ends-with-span c.self.inside.core c.self.invariant c.args.input.now (c.tells_from_end.ensures.end c.if-not-tells_from_end.false) r p.is_for)

pub leave_found-requires-clause-told : goal.leave_found-requires-clause-told
leave_found-requires-clause-told c =
    subst (λ (k : Strategy). tells_in k ≡ true) (sym c.self.view_is) (c.tells_from_end.ensures.told c.if-not-tells_from_end.false)

pub search_slots-requires : goal.search_slots-requires
search_slots-requires c = asked-fits _ _ c.self.view_is _ c.requires

pub try_search_ending-requires-clause-fits : goal.try_search_ending-requires-clause-fits
try_search_ending-requires-clause-fits c = asked-fits _ _ c.self.view_is _ c.requires

pub search_slots-requires-in-Err : goal.search_slots-requires-in-Err
search_slots-requires-in-Err c = c.in-Err.ensures.cache

pub returns-then-not-tells_from_end-clause-answer : goal.returns-then-not-tells_from_end-clause-answer
returns-then-not-tells_from_end-clause-answer c =
    same-answers _ _ c.self.view_is c.args.input.now match_value c.search_slots.result c.search_slots.ensures.answer

pub returns-then-not-tells_from_end-clause-within : goal.returns-then-not-tells_from_end-clause-within
returns-then-not-tells_from_end-clause-within c = c.search_slots.ensures.within

pub returns-then-not-tells_from_end-clause-in_range : goal.returns-then-not-tells_from_end-clause-in_range
returns-then-not-tells_from_end-clause-in_range c =
    same-range _ _ c.self.view_is (λ m. m.pattern) c.search_slots.result c.search_slots.ensures.in_range

pub returns-then-not-tells_from_end-clause-slots : goal.returns-then-not-tells_from_end-clause-slots
returns-then-not-tells_from_end-clause-slots c =
    same-slots _ _ c.self.view_is c.args.input.now match_value c.search_slots.new.slots c.search_slots.result c.search_slots.ensures.slots

pub returns-then-not-tells_from_end-clause-none : goal.returns-then-not-tells_from_end-clause-none
returns-then-not-tells_from_end-clause-none c = c.search_slots.ensures.none

pub returns-then-not-tells_from_end-clause-err : goal.returns-then-not-tells_from_end-clause-err
returns-then-not-tells_from_end-clause-err c = c.search_slots.ensures.err

pub returns-then-not-tells_from_end-clause-slots_within : goal.returns-then-not-tells_from_end-clause-slots_within
returns-then-not-tells_from_end-clause-slots_within c = c.search_slots.ensures.slots_within

pub returns-then-not-tells_from_end-clause-cache : goal.returns-then-not-tells_from_end-clause-cache
returns-then-not-tells_from_end-clause-cache c = same-fits _ _ c.self.view_is _ c.search_slots.ensures.cache

pub returns-then-not-tells_from_end-clause-memory : goal.returns-then-not-tells_from_end-clause-memory
returns-then-not-tells_from_end-clause-memory c = same-alike _ _ c.self.view_is _ _ c.search_slots.ensures.memory

pub returns-then-not-tells_from_end-clause-sure : goal.returns-then-not-tells_from_end-clause-sure
returns-then-not-tells_from_end-clause-sure c = same-sure _ _ c.self.view_is c.args.input.now c.search_slots.ensures.sure

pub returns-in-Err-clause-answer : goal.returns-in-Err-clause-answer
returns-in-Err-clause-answer c =
    same-answers _ _ c.self.view_is c.args.input.now match_value c.search_slots-in-Err.result c.search_slots-in-Err.ensures.answer

pub returns-in-Err-clause-within : goal.returns-in-Err-clause-within
returns-in-Err-clause-within c = c.search_slots-in-Err.ensures.within

pub returns-in-Err-clause-in_range : goal.returns-in-Err-clause-in_range
returns-in-Err-clause-in_range c = same-range _ _ c.self.view_is (λ m. m.pattern) c.search_slots-in-Err.result c.search_slots-in-Err.ensures.in_range

pub returns-in-Err-clause-slots : goal.returns-in-Err-clause-slots
returns-in-Err-clause-slots c =
    same-slots _ _ c.self.view_is c.args.input.now match_value c.search_slots-in-Err.new.slots c.search_slots-in-Err.result c.search_slots-in-Err.ensures.slots

pub returns-in-Err-clause-none : goal.returns-in-Err-clause-none
returns-in-Err-clause-none c = c.search_slots-in-Err.ensures.none

pub returns-in-Err-clause-err : goal.returns-in-Err-clause-err
returns-in-Err-clause-err c = c.search_slots-in-Err.ensures.err

pub returns-in-Err-clause-slots_within : goal.returns-in-Err-clause-slots_within
returns-in-Err-clause-slots_within c = c.search_slots-in-Err.ensures.slots_within

pub returns-in-Err-clause-cache : goal.returns-in-Err-clause-cache
returns-in-Err-clause-cache c = same-fits _ _ c.self.view_is _ c.search_slots-in-Err.ensures.cache

pub returns-in-Err-clause-memory : goal.returns-in-Err-clause-memory
returns-in-Err-clause-memory c = same-alike _ _ c.self.view_is _ _ (alike-twice _ _ _ _ c.in-Err.ensures.memory c.search_slots-in-Err.ensures.memory)

pub returns-in-Err-clause-sure : goal.returns-in-Err-clause-sure
returns-in-Err-clause-sure c = same-sure _ _ c.self.view_is c.args.input.now c.search_slots-in-Err.ensures.sure

pub leave_found-requires-clause-fits : goal.leave_found-requires-clause-fits
leave_found-requires-clause-fits c = c.in-Ok.ensures.cache

pub leave_found-requires-clause-spanned : goal.leave_found-requires-clause-spanned
leave_found-requires-clause-spanned c = c.tells_from_end.ensures.spanned

pub leave_found-requires-clause-lies : goal.leave_found-requires-clause-lies
leave_found-requires-clause-lies c = c.in-Ok.ensures.within

pub leave_found-requires-clause-in_range : goal.leave_found-requires-clause-in_range
leave_found-requires-clause-in_range c = c.in-Ok.ensures.in_range

pub returns-in-Ok-clause-answer : goal.returns-in-Ok-clause-answer
returns-in-Ok-clause-answer c =
    subst (λ (t : Strategy). IsAnswer (λ r. IsFor t r) (prefilter_in t) (kind_in t) c.args.input.now match_value c.leave_found.result) c.self.view_is
    c.leave_found.ensures.answer

pub returns-in-Ok-clause-slots : goal.returns-in-Ok-clause-slots
returns-in-Ok-clause-slots c =
    subst (λ (t : Strategy). AreSlotsOfAnswer (λ r. IsFor t r) (prefilter_in t) (kind_in t) c.args.input.now match_value c.leave_found.new.slots c.leave_found.result)
    c.self.view_is c.leave_found.ensures.slots

pub returns-in-Ok-clause-in_range : goal.returns-in-Ok-clause-in_range
returns-in-Ok-clause-in_range c =
    subst (λ (t : Strategy). IfSome c.leave_found.result (λ m. m.pattern < pattern_count t)) c.self.view_is c.leave_found.ensures.in_range

pub returns-in-Ok-clause-within : goal.returns-in-Ok-clause-within
returns-in-Ok-clause-within c = c.leave_found.ensures.within

pub returns-in-Ok-clause-none : goal.returns-in-Ok-clause-none
returns-in-Ok-clause-none c = c.leave_found.ensures.none

pub returns-in-Ok-clause-slots_within : goal.returns-in-Ok-clause-slots_within
returns-in-Ok-clause-slots_within c = c.leave_found.ensures.slots_within

pub returns-in-Ok-clause-cache : goal.returns-in-Ok-clause-cache
returns-in-Ok-clause-cache c = same-fits _ _ c.self.view_is _ c.leave_found.ensures.cache

pub returns-in-Ok-clause-memory : goal.returns-in-Ok-clause-memory
returns-in-Ok-clause-memory c = same-alike _ _ c.self.view_is _ _ (alike-twice _ _ _ _ c.in-Ok.ensures.memory c.leave_found.ensures.memory)
