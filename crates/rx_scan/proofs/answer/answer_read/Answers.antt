use Rattle.std.proofs.Common.{List, length, subst}
use Rattle.rx_reader.specs.Config.{default}
use Rattle.rx_reader.specs.Syntax.{Syntax}
use Rattle.rx_reader.specs.declared.config.Config.{Config}
use Rattle.rx_syntax.specs.Patterns.{RefusesAll, all_translated}
use Rattle.rx_syntax.specs.Weight.{AreWeightsOf}
use Rattle.rx_scan.specs.Input.{lines}
use Rattle.rx_scan.proofs.answer.answer_read.Goals as goal

pub answer_weighed-requires-clause-weights : goal.answer_weighed-requires-clause-weights
answer_weighed-requires-clause-weights g c =
    λ lifetimes bounds.
    subst (λ (k : Config). AreWeightsOf (all_translated k c.args.asts.items) (length c.args.asts.items) c.in-Ok.weights) c.new.ensures
    (subst (λ (ss : List Syntax). AreWeightsOf (all_translated c.new.result ss) (length ss) c.in-Ok.weights) c.deref.ensures.value c.in-Ok.ensures.value)

pub returns-in-Err : goal.returns-in-Err
returns-in-Err g c =
    c.refusal.ensures c.args.command.now (all_translated default c.args.asts.items) (lines c.args.haystacks.now)
    (subst (λ (k : Config). RefusesAll c.in-Err.error (all_translated k c.args.asts.items)) c.new.ensures
    (subst (λ (ss : List Syntax). RefusesAll c.in-Err.error (all_translated c.new.result ss)) c.deref.ensures.value c.in-Err.ensures.value))
