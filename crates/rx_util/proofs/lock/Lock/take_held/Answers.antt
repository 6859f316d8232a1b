use Rattle.rx_util.specs.Held.{maker_of}
use Rattle.rx_util.proofs.LockLemmas.{lent_made, has_left, takes_made}
use Rattle.rx_util.proofs.lock.Lock.take_held.Goals as goal

pub returns-clause-held : goal.returns-clause-held
returns-clause-held g c =
    let made = g.M.Maker.stands_for (maker_of c.args.self.now) in
    let has = c.requires.stack in
    let before = lent_made made c.args.seat.now.me.1 has.0 c.slot_mut.result.now has.1 c.slot_mut.ensures.value has.2 in
    let after = takes_made made c.take.result c.slot_mut.result.now c.take.new.self c.take.ensures.answer before in
    record { same = c.requires.same; maker = c.requires.maker; stack = has_left made c.args.seat.now.me.0 c.args.seat.now.me.1 has.0 c.take.new.self has.1 after.0 }

pub returns-clause-made : goal.returns-clause-made
returns-clause-made g c =
    let made = g.M.Maker.stands_for (maker_of c.args.self.now) in
    let has = c.requires.stack in
    let before = lent_made made c.args.seat.now.me.1 has.0 c.slot_mut.result.now has.1 c.slot_mut.ensures.value has.2 in
    (takes_made made c.take.result c.slot_mut.result.now c.take.new.self c.take.ensures.answer before).1
