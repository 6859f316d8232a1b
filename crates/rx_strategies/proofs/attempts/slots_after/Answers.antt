use Rattle.rx_search.specs.Matches.{match_value, MatchValue}
use Rattle.rx_strategy.specs.Attempts.{IsToldBy}
use Rattle.rx_strategy.specs.Strategy.{IsFor, kind_in, prefilter_in, pattern_count}
use Rattle.rx_strategy.proofs.AnswerLemmas.{fewer-answers, fewer-slots}
use Rattle.rx_strategies.specs.Attempts.{HasTried}
use Rattle.rx_strategies.proofs.AttemptLemmas.{ok-answers, ok-slots, tried-told, tried-core}
use Rattle.std.proofs.Common.{◌<◌, subst}
use Rattle.std.specs.Prelude.{Option, Result, IfOk, IfSome}
use Rattle.rx_search.specs.Told.{LiesIn}
use Rattle.rx_attempts.specs.declared.patience.Stop.{Stop}
use Rattle.rx_strategies.proofs.attempts.slots_after.Goals as goal

pub returns-in-Ok-clause-answer : goal.returns-in-Ok-clause-answer
returns-in-Ok-clause-answer c =
    let s = c.args.core.now in
    let v = c.args.input.now in
    let found = c.in-Ok.found in
    fewer-answers (λ r. HasTried s v c.args.tried r) (λ r. IsToldBy (IsFor s r) (kind_in s) r v found) (prefilter_in s) v
    (tried-told s v c.args.tried found c.in-Ok.is) (kind_in s) match_value c.tell_found.result c.tell_found.ensures.answer

pub returns-in-Ok-clause-slots : goal.returns-in-Ok-clause-slots
returns-in-Ok-clause-slots c =
    let s = c.args.core.now in
    let v = c.args.input.now in
    let found = c.in-Ok.found in
    fewer-slots (λ r. HasTried s v c.args.tried r) (λ r. IsToldBy (IsFor s r) (kind_in s) r v found) (prefilter_in s) v
    (tried-told s v c.args.tried found c.in-Ok.is) (kind_in s) match_value c.tell_found.new.slots c.tell_found.result c.tell_found.ensures.slots

pub returns-in-Err-Dense-clause-answer : goal.returns-in-Err-Dense-clause-answer
returns-in-Err-Dense-clause-answer c =
    let s = c.args.core.now in
    let v = c.args.input.now in
    ok-answers (λ r. HasTried s v c.args.tried r) (λ r. IsFor s r) (prefilter_in s) v (tried-core s v c.args.tried) (kind_in s) match_value
    c.search_slots.result c.search_slots.ensures.answer

pub returns-in-Err-Dense-clause-slots : goal.returns-in-Err-Dense-clause-slots
returns-in-Err-Dense-clause-slots c =
    let s = c.args.core.now in
    let v = c.args.input.now in
    ok-slots (λ r. HasTried s v c.args.tried r) (λ r. IsFor s r) (prefilter_in s) v (tried-core s v c.args.tried) (kind_in s) match_value
    c.search_slots.new.slots c.search_slots.result c.search_slots.ensures.slots

pub returns-in-Err-clause-answer : goal.returns-in-Err-clause-answer
returns-in-Err-clause-answer c =
    let s = c.args.core.now in
    let v = c.args.input.now in
    fewer-answers (λ r. HasTried s v c.args.tried r) (λ r. IsFor s r) (prefilter_in s) v (tried-core s v c.args.tried) (kind_in s) match_value
    c.search_slots_nofail.result c.search_slots_nofail.ensures.answer

pub returns-in-Err-clause-slots : goal.returns-in-Err-clause-slots
returns-in-Err-clause-slots c =
    let s = c.args.core.now in
    let v = c.args.input.now in
    fewer-slots (λ r. HasTried s v c.args.tried r) (λ r. IsFor s r) (prefilter_in s) v (tried-core s v c.args.tried) (kind_in s) match_value
    c.search_slots_nofail.new.slots c.search_slots_nofail.result c.search_slots_nofail.ensures.slots

pub returns-in-Err-Dense-clause-within : goal.returns-in-Err-Dense-clause-within
returns-in-Err-Dense-clause-within c = c.search_slots.ensures.within

pub returns-in-Err-Dense-clause-in_range : goal.returns-in-Err-Dense-clause-in_range
returns-in-Err-Dense-clause-in_range c = c.search_slots.ensures.in_range

pub returns-in-Err-Dense-clause-none : goal.returns-in-Err-Dense-clause-none
returns-in-Err-Dense-clause-none c = c.search_slots.ensures.none

pub returns-in-Err-Dense-clause-slots_within : goal.returns-in-Err-Dense-clause-slots_within
returns-in-Err-Dense-clause-slots_within c = c.search_slots.ensures.slots_within

pub returns-in-Err-Dense-clause-cache : goal.returns-in-Err-Dense-clause-cache
returns-in-Err-Dense-clause-cache c = c.search_slots.ensures.cache

pub returns-in-Err-Dense-clause-memory : goal.returns-in-Err-Dense-clause-memory
returns-in-Err-Dense-clause-memory c = c.search_slots.ensures.memory

pub returns-in-Err-Dense-clause-sure : goal.returns-in-Err-Dense-clause-sure
returns-in-Err-Dense-clause-sure c = c.search_slots.ensures.sure

pub returns-in-Err-Dense-clause-err : goal.returns-in-Err-Dense-clause-err
returns-in-Err-Dense-clause-err c = c.search_slots.ensures.err

pub returns-in-Err-clause-within : goal.returns-in-Err-clause-within
returns-in-Err-clause-within c = c.search_slots_nofail.ensures.within

pub returns-in-Err-clause-in_range : goal.returns-in-Err-clause-in_range
returns-in-Err-clause-in_range c = c.search_slots_nofail.ensures.in_range

pub returns-in-Err-clause-none : goal.returns-in-Err-clause-none
returns-in-Err-clause-none c = c.search_slots_nofail.ensures.none

pub returns-in-Err-clause-slots_within : goal.returns-in-Err-clause-slots_within
returns-in-Err-clause-slots_within c = c.search_slots_nofail.ensures.slots_within

pub returns-in-Err-clause-cache : goal.returns-in-Err-clause-cache
returns-in-Err-clause-cache c = c.search_slots_nofail.ensures.cache

pub returns-in-Err-clause-memory : goal.returns-in-Err-clause-memory
returns-in-Err-clause-memory c = c.search_slots_nofail.ensures.memory

pub search_slots-requires : goal.search_slots-requires
search_slots-requires c = c.requires.fits

pub returns-in-Ok-clause-within : goal.returns-in-Ok-clause-within
returns-in-Ok-clause-within c = c.tell_found.ensures.within

pub returns-in-Ok-clause-in_range : goal.returns-in-Ok-clause-in_range
returns-in-Ok-clause-in_range c = c.tell_found.ensures.in_range

pub returns-in-Ok-clause-none : goal.returns-in-Ok-clause-none
returns-in-Ok-clause-none c = c.tell_found.ensures.none

pub returns-in-Ok-clause-slots_within : goal.returns-in-Ok-clause-slots_within
returns-in-Ok-clause-slots_within c = c.tell_found.ensures.slots_within

pub returns-in-Ok-clause-cache : goal.returns-in-Ok-clause-cache
returns-in-Ok-clause-cache c = c.tell_found.ensures.cache

pub returns-in-Ok-clause-memory : goal.returns-in-Ok-clause-memory
returns-in-Ok-clause-memory c = c.tell_found.ensures.memory

pub tell_found-requires-clause-fits : goal.tell_found-requires-clause-fits
tell_found-requires-clause-fits c = c.requires.fits

pub tell_found-requires-clause-spanned : goal.tell_found-requires-clause-spanned
tell_found-requires-clause-spanned c = c.requires.spanned

pub tell_found-requires-clause-told : goal.tell_found-requires-clause-told
tell_found-requires-clause-told c = c.requires.told

pub tell_found-requires-clause-lies : goal.tell_found-requires-clause-lies
tell_found-requires-clause-lies c =
    subst (λ (t : Result (Option MatchValue) Stop). IfOk t (λ found. IfSome found (LiesIn c.args.input.now))) c.in-Ok.is c.requires.lies

pub tell_found-requires-clause-in_range : goal.tell_found-requires-clause-in_range
tell_found-requires-clause-in_range c =
    subst (λ (t : Result (Option MatchValue) Stop). IfOk t (λ found. IfSome found (λ m. m.pattern < pattern_count c.args.core.now))) c.in-Ok.is c.requires.in_range
