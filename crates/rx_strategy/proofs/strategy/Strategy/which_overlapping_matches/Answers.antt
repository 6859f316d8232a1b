use Rattle.rx_engines.proofs.lemmas.answers.OverlapLemmas.{keeps-same}
use Rattle.rx_strategy.specs.Strategy.{IsFor, prefilter_in, kind_in}
use Rattle.rx_strategy.proofs.AnswerLemmas.{none-adds, none-fills}
use Rattle.rx_strategy.proofs.strategy.Strategy.which_overlapping_matches.Goals as goal

pub returns-then-is_impossible-clause-kept : goal.returns-then-is_impossible-clause-kept
returns-then-is_impossible-clause-kept c = keeps-same c.args.set.now

pub returns-then-is_impossible-clause-matching : goal.returns-then-is_impossible-clause-matching
returns-then-is_impossible-clause-matching c =
    none-adds (λ r. IsFor c.args.self.now r) (prefilter_in c.args.self.now) c.args.input.now c.args.set.now
    (c.is_impossible.ensures.none c.if-is_impossible.true)

pub returns-then-is_impossible-clause-filled : goal.returns-then-is_impossible-clause-filled
returns-then-is_impossible-clause-filled c =
    none-fills (λ r. IsFor c.args.self.now r) (prefilter_in c.args.self.now) c.args.input.now c.args.set.now
    (c.is_impossible.ensures.none c.if-is_impossible.true) (kind_in c.args.self.now)
