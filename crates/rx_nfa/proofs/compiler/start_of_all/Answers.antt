use Rattle.std.proofs.Common.{refl, arith}
use Rattle.std.proofs.lemmas.Result.{IfOk-from_err}
use Rattle.rx_nfa.proofs.lemmas.parts.CompileLemmas.{pushed-grown}
use Rattle.rx_nfa.proofs.compiler.start_of_all.Goals as goal

pub returns-in_err-from_slice-clause-starts : goal.returns-in_err-from_slice-clause-starts
returns-in_err-from_slice-clause-starts c = IfOk-from_err c.from_residual.result _ c.from_residual.ensures.0

pub returns-in_err-from_slice-clause-count : goal.returns-in_err-from_slice-clause-count
returns-in_err-from_slice-clause-count c = IfOk-from_err c.from_residual.result _ c.from_residual.ensures.0

pub returns-in_err-from_slice-clause-inside : goal.returns-in_err-from_slice-clause-inside
returns-in_err-from_slice-clause-inside c = IfOk-from_err c.from_residual.result _ c.from_residual.ensures.0

pub returns-in_err-start-clause-starts : goal.returns-in_err-start-clause-starts
returns-in_err-start-clause-starts c = IfOk-from_err c.from_residual-in_err-start.result _ c.from_residual-in_err-start.ensures.0

pub returns-in_err-start-clause-count : goal.returns-in_err-start-clause-count
returns-in_err-start-clause-count c = IfOk-from_err c.from_residual-in_err-start.result _ c.from_residual-in_err-start.ensures.0

pub returns-in_err-start-clause-inside : goal.returns-in_err-start-clause-inside
returns-in_err-start-clause-inside c = IfOk-from_err c.from_residual-in_err-start.result _ c.from_residual-in_err-start.ensures.0

pub push-requires-clause-room : goal.push-requires-clause-room
push-requires-clause-room c = c.requires.fits

pub push-requires-clause-within : goal.push-requires-clause-within
push-requires-clause-within c = tt

pub push-requires-clause-own : goal.push-requires-clause-own
push-requires-clause-own c = tt

pub push-requires-clause-sorted : goal.push-requires-clause-sorted
push-requires-clause-sorted c = tt

pub push-requires-clause-silent : goal.push-requires-clause-silent
push-requires-clause-silent c = refl

pub returns-clause-inside : goal.returns-clause-inside
returns-clause-inside c =
    let id = c.in_ok-start.ensures.id in
    let grown = pushed-grown c.args.builder.now c.push.new.self _ c.in_ok-start.ensures.states in
    omega arith

pub returns-clause-count : goal.returns-clause-count
returns-clause-count c = let grown = pushed-grown c.args.builder.now c.push.new.self _ c.in_ok-start.ensures.states in omega arith
