use Rattle.std.proofs.lemmas.Result.{IfOk-from_err}
use Rattle.rx_literal.specs.Slots.{slot}
use Rattle.rx_literal.proofs.lemmas.prefixes.WalkedLemmas.{map-end}
use Rattle.rx_literal.proofs.lemmas.trimming.SlotLoopLemmas.{slots-none, slots-more}
use Rattle.rx_literal.proofs.slots.slots_of.Goals as goal

pub returns-in_err-slots-clause-value : goal.returns-in_err-slots-clause-value
returns-in_err-slots-clause-value c = IfOk-from_err c.from_residual.result _ c.from_residual.ensures.0

pub returns-in_err-slots-clause-bound : goal.returns-in_err-slots-clause-bound
returns-in_err-slots-clause-bound c = IfOk-from_err c.from_residual.result _ c.from_residual.ensures.0

pub loop-literal-init : goal.loop-literal-init
loop-literal-init c = slots-none c.in_ok-slots.slots.items c.in_ok-slots.ensures.items

pub loop-literal-preserved : goal.loop-literal-preserved
loop-literal-preserved c =
    slots-more c.args.count c.args.literals.now c.loop-literal.literal-index c.literal-item.result c.as_bytes.result.now c.loop-literal.slots.items
    c.push.new.self.items c.slot_of.result c.loop-literal-test.true c.literal-item.is c.as_bytes.ensures c.slot_of.ensures.value c.slot_of.ensures.bound
    c.in_ok-push.ensures.items c.loop-literal.invariant

pub returns-in_err-push-clause-value : goal.returns-in_err-push-clause-value
returns-in_err-push-clause-value c = IfOk-from_err c.from_residual-in_err-push.result _ c.from_residual-in_err-push.ensures.0

pub returns-in_err-push-clause-bound : goal.returns-in_err-push-clause-bound
returns-in_err-push-clause-bound c = IfOk-from_err c.from_residual-in_err-push.result _ c.from_residual-in_err-push.ensures.0

pub returns-clause-value : goal.returns-clause-value
returns-clause-value c =
    map-end (slot c.args.count) c.args.literals.now c.loop-literal.literal-index c.loop-literal.slots.items c.loop-literal-test.false c.loop-literal.invariant.0

pub returns-clause-bound : goal.returns-clause-bound
returns-clause-bound c = c.loop-literal.invariant.1
