use Rattle.std.proofs.Common.{rules}
use Rattle.rx_util.specs.Stack.{StackValue, Takes}
use Rattle.rx_util.proofs.StackLemmas.{take-event}
use Rattle.rx_util.proofs.stack.Stack.take.Goals as goal

pub returns-in-Some-clause-event : goal.returns-in-Some-clause-event
returns-in-Some-clause-event g c =
    let new : StackValue g.row.T.Denot = record { stored = c.pop.new.self.items; lent = c.push_reserved.new.self.items; next = c.self.inside.next } in
    let takes : Takes c.args.self.now new (c.in-Some.number, c.in-Some.value) = search rules in
    take-event c.args.self.now new (c.in-Some.number, c.in-Some.value) takes
