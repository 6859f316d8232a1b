use Rattle.std.proofs.Common.{sym}
use Rattle.rx_util.proofs.TemplateLemmas.{no_plus, number_parsed}
use Rattle.rx_util.proofs.template.number_of.Goals as goal

pub returns-then-begins_with : goal.returns-then-begins_with
returns-then-begins_with c = no_plus c.args.name.now (sym (rw c.as_bytes.ensures.value at c.if-begins_with.ensures.value))

pub returns-in-Ok : goal.returns-in-Ok
returns-in-Ok c = rw c.in-Ok.is at (number_parsed c.args.name.now c.parse.result (sym
    (rw c.as_bytes.ensures.value at c.if-begins_with.ensures.value)) c.parse.ensures.value.0)

pub returns-in-Err : goal.returns-in-Err
returns-in-Err c = rw c.in-Err.is at (number_parsed c.args.name.now c.parse.result (sym
    (rw c.as_bytes.ensures.value at c.if-begins_with.ensures.value)) c.parse.ensures.value.0)
