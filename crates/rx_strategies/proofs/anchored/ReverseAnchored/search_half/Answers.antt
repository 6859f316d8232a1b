use Rattle.std.proofs.Common.{◌≡◌, true, sym, subst}
use Rattle.rx_search.specs.Answer.{IsAnswer, half_of}
use Rattle.rx_search.specs.Matches.{match_value, half_match_value}
use Rattle.rx_strategy.specs.Strategy.{IsFor, kind_in, prefilter_in, tells_in}
use Rattle.rx_strategy.specs.declared.strategy.Strategy.{Strategy}
use Rattle.rx_strategy.proofs.AnswerLemmas.{part-answers}
use Rattle.rx_strategies.proofs.AttemptLemmas.{attempt-answer}
use Rattle.rx_strategies.proofs.EndLemmas.{ends-with-span}
use Rattle.rx_strategies.proofs.SameLemmas.{asked-fits, alike-twice, same-fits, same-alike, same-sure, same-answers, same-range}
use Rattle.rx_strategies.proofs.anchored.ReverseAnchored.search_half.Goals as goal

pub returns-in-Ok-clause-answer : goal.returns-in-Ok-clause-answer
returns-in-Ok-clause-answer c =
    let s = c.self.inside.core in
    let v = c.args.input.now in
    let found = c.in-Ok.found in
    let told : tells_in s ≡ true =
    subst (λ (k : Strategy). tells_in k ≡ true) (sym c.self.view_is) (c.tells_from_end.ensures.told c.if-not-tells_from_end.false) in
    subst (λ (k : Strategy). IsAnswer (λ r. IsFor k r) (prefilter_in k) (kind_in k) v half_match_value c.half_match.result) c.self.view_is
    (part-answers (λ r. IsFor s r) (prefilter_in s) (kind_in s) v match_value half_of found c.half_match.result c.half_match.ensures
    (attempt-answer s v (λ r. IsFor s r) (λ r of. of) match_value found
    (λ r p. c.in-Ok.ensures.answer r p (ends-with-span s c.self.invariant v (c.tells_from_end.ensures.end c.if-not-tells_from_end.false) r p.is_for)) told))

pub search_half-requires : goal.search_half-requires
search_half-requires c = asked-fits _ _ c.self.view_is _ c.requires

pub try_search_ending-requires-clause-fits : goal.try_search_ending-requires-clause-fits
try_search_ending-requires-clause-fits c = asked-fits _ _ c.self.view_is _ c.requires

pub search_half-requires-in-Err : goal.search_half-requires-in-Err
search_half-requires-in-Err c = c.in-Err.ensures.cache

pub returns-then-not-tells_from_end-clause-answer : goal.returns-then-not-tells_from_end-clause-answer
returns-then-not-tells_from_end-clause-answer c =
    same-answers _ _ c.self.view_is c.args.input.now half_match_value c.search_half.result c.search_half.ensures.answer

pub returns-then-not-tells_from_end-clause-within : goal.returns-then-not-tells_from_end-clause-within
returns-then-not-tells_from_end-clause-within c = c.search_half.ensures.within

pub returns-then-not-tells_from_end-clause-in_range : goal.returns-then-not-tells_from_end-clause-in_range
returns-then-not-tells_from_end-clause-in_range c = same-range _ _ c.self.view_is (λ m. m.pattern) c.search_half.result c.search_half.ensures.in_range

pub returns-then-not-tells_from_end-clause-cache : goal.returns-then-not-tells_from_end-clause-cache
returns-then-not-tells_from_end-clause-cache c = same-fits _ _ c.self.view_is _ c.search_half.ensures.cache

pub returns-then-not-tells_from_end-clause-memory : goal.returns-then-not-tells_from_end-clause-memory
returns-then-not-tells_from_end-clause-memory c = same-alike _ _ c.self.view_is _ _ c.search_half.ensures.memory

pub returns-then-not-tells_from_end-clause-sure : goal.returns-then-not-tells_from_end-clause-sure
returns-then-not-tells_from_end-clause-sure c = same-sure _ _ c.self.view_is c.args.input.now c.search_half.ensures.sure

pub returns-in-Err-clause-answer : goal.returns-in-Err-clause-answer
returns-in-Err-clause-answer c =
    same-answers _ _ c.self.view_is c.args.input.now half_match_value c.search_half-in-Err.result c.search_half-in-Err.ensures.answer

pub returns-in-Err-clause-within : goal.returns-in-Err-clause-within
returns-in-Err-clause-within c = c.search_half-in-Err.ensures.within

pub returns-in-Err-clause-in_range : goal.returns-in-Err-clause-in_range
returns-in-Err-clause-in_range c = same-range _ _ c.self.view_is (λ m. m.pattern) c.search_half-in-Err.result c.search_half-in-Err.ensures.in_range

pub returns-in-Err-clause-cache : goal.returns-in-Err-clause-cache
returns-in-Err-clause-cache c = same-fits _ _ c.self.view_is _ c.search_half-in-Err.ensures.cache

pub returns-in-Err-clause-memory : goal.returns-in-Err-clause-memory
returns-in-Err-clause-memory c = same-alike _ _ c.self.view_is _ _ (alike-twice _ _ _ _ c.in-Err.ensures.memory c.search_half-in-Err.ensures.memory)

pub returns-in-Err-clause-sure : goal.returns-in-Err-clause-sure
returns-in-Err-clause-sure c = same-sure _ _ c.self.view_is c.args.input.now c.search_half-in-Err.ensures.sure

pub returns-in-Ok-clause-cache : goal.returns-in-Ok-clause-cache
returns-in-Ok-clause-cache c = same-fits _ _ c.self.view_is _ c.in-Ok.ensures.cache

pub returns-in-Ok-clause-memory : goal.returns-in-Ok-clause-memory
returns-in-Ok-clause-memory c = same-alike _ _ c.self.view_is _ _ c.in-Ok.ensures.memory
