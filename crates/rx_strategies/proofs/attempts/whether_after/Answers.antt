use Rattle.rx_strategy.specs.Strategy.{IsFor, prefilter_in}
use Rattle.rx_strategy.proofs.AnswerLemmas.{fewer-whether}
use Rattle.rx_strategies.specs.Attempts.{HasTriedWhether}
use Rattle.rx_strategies.proofs.AttemptLemmas.{ok-whether, tried-whether, whether-core}
use Rattle.rx_strategies.proofs.attempts.whether_after.Goals as goal

pub returns-in-Ok-clause-value : goal.returns-in-Ok-clause-value
returns-in-Ok-clause-value c =
    tried-whether c.args.core.now c.args.input.now c.args.tried c.in-Ok.found c.in-Ok.is c.is_some.result c.is_some.ensures

pub returns-in-Err-Dense-clause-value : goal.returns-in-Err-Dense-clause-value
returns-in-Err-Dense-clause-value c =
    let s = c.args.core.now in
    let v = c.args.input.now in
    ok-whether (λ r. HasTriedWhether s v c.args.tried r) (λ r. IsFor s r) (prefilter_in s) v (whether-core s v c.args.tried) c.is_match.result
    c.is_match.ensures.value

pub returns-in-Err-clause-value : goal.returns-in-Err-clause-value
returns-in-Err-clause-value c =
    let s = c.args.core.now in
    let v = c.args.input.now in
    fewer-whether (λ r. HasTriedWhether s v c.args.tried r) (λ r. IsFor s r) (prefilter_in s) v (whether-core s v c.args.tried) c.is_match_nofail.result
    c.is_match_nofail.ensures.value

pub returns-in-Err-Dense-clause-cache : goal.returns-in-Err-Dense-clause-cache
returns-in-Err-Dense-clause-cache c = c.is_match.ensures.cache

pub returns-in-Err-Dense-clause-memory : goal.returns-in-Err-Dense-clause-memory
returns-in-Err-Dense-clause-memory c = c.is_match.ensures.memory

pub returns-in-Err-Dense-clause-sure : goal.returns-in-Err-Dense-clause-sure
returns-in-Err-Dense-clause-sure c = c.is_match.ensures.sure

pub returns-in-Err-clause-cache : goal.returns-in-Err-clause-cache
returns-in-Err-clause-cache c = c.is_match_nofail.ensures.cache

pub returns-in-Err-clause-memory : goal.returns-in-Err-clause-memory
returns-in-Err-clause-memory c = c.is_match_nofail.ensures.memory

pub is_match-requires : goal.is_match-requires
is_match-requires c = c.requires.fits

pub returns-in-Ok-clause-cache : goal.returns-in-Ok-clause-cache
returns-in-Ok-clause-cache c = c.requires.fits
