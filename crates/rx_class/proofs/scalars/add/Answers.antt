use Rattle.rx_class.specs.Ranges.{next_scalar}
use Rattle.rx_class.proofs.MergeLemmas.{add-last}
use Rattle.rx_class.proofs.scalars.add.Goals as goal

pub returns-in-Some : goal.returns-in-Some
returns-in-Some c =
    let e =
    add-last next_scalar c.args.found.now.items c.pop.new.self.items c.in-Some.last c.args.low c.args.high c.in-Some.ensures.items c.if-high-low.false in
    rw e c.add_after.ensures
