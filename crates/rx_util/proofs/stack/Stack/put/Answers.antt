use Rattle.std.proofs.Common.{◌≡◌, refl, rules, arith}
use Rattle.std.specs.Prelude.{Some}
use Rattle.rx_util.specs.PoolMachine.{place_of}
use Rattle.rx_util.specs.Stack.{StackValue}
use Rattle.rx_util.proofs.MachineLemmas.{place-found}
use Rattle.rx_util.proofs.StackLemmas.{Puts, put-answer, put-event, put-sound}
use Rattle.rx_util.proofs.stack.Stack.put.Goals as goal

pub remove-requires : goal.remove-requires
remove-requires g c =
    let found : place_of c.args.number c.self.inside.lent.items ≡ Some c.in-Some.place = cc in
    omega (arith, (place-found c.args.number c.self.inside.lent.items c.in-Some.place found).there, c.self.inside.lent.ok.0)

pub invariant_of-self : goal.invariant_of-self
invariant_of-self g c =
    let inside = c.self.inside in
    let old : StackValue g.row.T.Denot = record { stored = inside.stored.items; lent = inside.lent.items; next = inside.next } in
    let new : StackValue g.row.T.Denot = record { stored = c.push_reserved.new.self.items; lent = c.remove.new.self.items; next = inside.next } in
    let found : place_of c.args.number inside.lent.items ≡ Some c.in-Some.place = cc in
    let puts : Puts old new c.in-Some.place c.args.number c.args.value =
    record { found = found; stored = c.push_reserved.ensures.items; lent = c.remove.ensures.items; next = refl } in (
      put-sound old new c.in-Some.place c.args.number c.args.value puts c.self.invariant.0,
      omega (arith, c.push_reserved.ensures.capacity),
      omega (arith, c.remove.ensures.capacity),
    )

pub returns-in-Some-clause-answer : goal.returns-in-Some-clause-answer
returns-in-Some-clause-answer g c =
    let new : StackValue g.row.T.Denot = record { stored = c.push_reserved.new.self.items; lent = c.remove.new.self.items; next = c.self.inside.next } in
    let puts : Puts c.args.self.now new c.in-Some.place c.args.number c.args.value = search rules in
    put-answer c.args.self.now new c.in-Some.place c.args.number c.args.value puts

pub returns-in-Some-clause-event : goal.returns-in-Some-clause-event
returns-in-Some-clause-event g c =
    let new : StackValue g.row.T.Denot = record { stored = c.push_reserved.new.self.items; lent = c.remove.new.self.items; next = c.self.inside.next } in
    let puts : Puts c.args.self.now new c.in-Some.place c.args.number c.args.value = search rules in
    put-event c.args.self.now new c.in-Some.place c.args.number c.args.value puts
