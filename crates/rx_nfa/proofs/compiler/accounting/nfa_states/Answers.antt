use Rattle.std.proofs.Common.{arith}
use Rattle.rx_nfa.proofs.lemmas.parts.ExpressionLemmas.{nfa_states-drop, nfa_states-none}
use Rattle.rx_nfa.proofs.compiler.accounting.nfa_states.Goals as goal

pub loop-hir-preserved : goal.loop-hir-preserved
loop-hir-preserved c =
    let more = nfa_states-drop c.args.exprs.now c.loop-hir.hir-index c.hir-item.result c.hir-item.result (omega arith) c.hir-item.is in
    let so_far = c.loop-hir.invariant.so_far in
    record { so_far = omega arith; fits = omega arith }

pub returns : goal.returns
returns c =
    let none = nfa_states-none c.args.exprs.now c.loop-hir.hir-index (omega arith) in
    let so_far = c.loop-hir.invariant.so_far in
    omega arith
