use Rattle.std.proofs.Common.{◌-◌, sym, subst, arith}
use Rattle.rx_workers.specs.Answers.{IsFound}
use Rattle.rx_workers.proofs.worker.answer_one.Goals as goal

pub overflow_add-last : goal.overflow_add-last
overflow_add-last g c =
    let P = IsFound (g.T.Task.size c.args.task.now) (g.T.Task.answers c.args.task.now) in
    let last = c.index_mut-last.result.now in
    let at = subst P (sym c.index_mut-last.ensures.value) (c.requires.before (c.len-len.result - 1) last (omega (arith, c.len-len.ensures, c.if-len-gt0.true))) in
    omega (arith, at.1, c.requires.room)
