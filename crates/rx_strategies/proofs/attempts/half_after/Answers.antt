use Rattle.rx_search.specs.Matches.{half_match_value}
use Rattle.rx_strategy.specs.Strategy.{IsFor, kind_in, prefilter_in}
use Rattle.rx_strategy.proofs.AnswerLemmas.{fewer-answers}
use Rattle.rx_strategies.specs.Attempts.{HasTried}
use Rattle.rx_strategies.proofs.AttemptLemmas.{ok-answers, tried-half, tried-core}
use Rattle.rx_strategies.proofs.attempts.half_after.Goals as goal

pub returns-in-Ok-clause-answer : goal.returns-in-Ok-clause-answer
returns-in-Ok-clause-answer c =
    tried-half c.args.core.now c.args.input.now c.args.tried c.in-Ok.found c.in-Ok.is c.requires.told c.half_match.result c.half_match.ensures

pub returns-in-Err-Dense-clause-answer : goal.returns-in-Err-Dense-clause-answer
returns-in-Err-Dense-clause-answer c =
    let s = c.args.core.now in
    let v = c.args.input.now in
    ok-answers (λ r. HasTried s v c.args.tried r) (λ r. IsFor s r) (prefilter_in s) v (tried-core s v c.args.tried) (kind_in s) half_match_value
    c.search_half.result c.search_half.ensures.answer

pub returns-in-Err-clause-answer : goal.returns-in-Err-clause-answer
returns-in-Err-clause-answer c =
    let s = c.args.core.now in
    let v = c.args.input.now in
    fewer-answers (λ r. HasTried s v c.args.tried r) (λ r. IsFor s r) (prefilter_in s) v (tried-core s v c.args.tried) (kind_in s) half_match_value
    c.search_half_nofail.result c.search_half_nofail.ensures.answer

pub returns-in-Err-Dense-clause-within : goal.returns-in-Err-Dense-clause-within
returns-in-Err-Dense-clause-within c = c.search_half.ensures.within

pub returns-in-Err-Dense-clause-in_range : goal.returns-in-Err-Dense-clause-in_range
returns-in-Err-Dense-clause-in_range c = c.search_half.ensures.in_range

pub returns-in-Err-Dense-clause-cache : goal.returns-in-Err-Dense-clause-cache
returns-in-Err-Dense-clause-cache c = c.search_half.ensures.cache

pub returns-in-Err-Dense-clause-memory : goal.returns-in-Err-Dense-clause-memory
returns-in-Err-Dense-clause-memory c = c.search_half.ensures.memory

pub returns-in-Err-Dense-clause-sure : goal.returns-in-Err-Dense-clause-sure
returns-in-Err-Dense-clause-sure c = c.search_half.ensures.sure

pub returns-in-Err-clause-within : goal.returns-in-Err-clause-within
returns-in-Err-clause-within c = c.search_half_nofail.ensures.within

pub returns-in-Err-clause-in_range : goal.returns-in-Err-clause-in_range
returns-in-Err-clause-in_range c = c.search_half_nofail.ensures.in_range

pub returns-in-Err-clause-cache : goal.returns-in-Err-clause-cache
returns-in-Err-clause-cache c = c.search_half_nofail.ensures.cache

pub returns-in-Err-clause-memory : goal.returns-in-Err-clause-memory
returns-in-Err-clause-memory c = c.search_half_nofail.ensures.memory

pub search_half-requires : goal.search_half-requires
search_half-requires c = c.requires.fits

pub returns-in-Ok-clause-cache : goal.returns-in-Ok-clause-cache
returns-in-Ok-clause-cache c = c.requires.fits
