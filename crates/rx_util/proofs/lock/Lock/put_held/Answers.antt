use Rattle.rx_util.specs.Held.{maker_of}
use Rattle.rx_util.proofs.LockLemmas.{lent_made, has_left, puts_made}
use Rattle.rx_util.proofs.lock.Lock.put_held.Goals as goal

pub returns : goal.returns
returns g c =
    let made = g.M.Maker.stands_for (maker_of c.args.self.now) in
    let has = c.requires.held.stack in
    let before = lent_made made c.args.seat.now.me.1 has.0 c.slot_mut.result.now has.1 c.slot_mut.ensures.value has.2 in
    let after = puts_made made c.put.result c.slot_mut.result.now c.put.new.self c.args.number c.args.value c.put.ensures.answer c.put.ensures.lent before
    c.requires.made in
    record { same = c.requires.held.same; maker = c.requires.held.maker; stack = has_left made c.args.seat.now.me.0 c.args.seat.now.me.1 has.0 c.put.new.self has.1 after }
