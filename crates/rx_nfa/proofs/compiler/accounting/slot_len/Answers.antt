use Rattle.std.proofs.Common.{arith}
use Rattle.rx_nfa.proofs.lemmas.parts.ExpressionLemmas.{groups_before-more}
use Rattle.rx_nfa.proofs.compiler.accounting.slot_len.Goals as goal

pub loop-hir-preserved : goal.loop-hir-preserved
loop-hir-preserved c =
    let more = groups_before-more c.args.exprs.now c.loop-hir.hir-index c.hir-item.result c.hir-item.result (omega arith) c.hir-item.is in
    omega arith
