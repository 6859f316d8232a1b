use Rattle.std.proofs.Common.{◌∙◌, sym}
use Rattle.rx_class.proofs.EarlyLemmas.{both-ends}
use Rattle.rx_syntax.specs.Named.{scalars_of}
use Rattle.rx_syntax.proofs.lemmas.sets.HeldLemmas.{sets-held}
use Rattle.rx_syntax.proofs.partial.PartialClass.with_set.Goals as goal

pub returns-then-has : goal.returns-then-has
returns-then-has c ranges is =
    let own = scalars_of c.args.key in
    let held = c.has.ensures ranges is c.if-has.true in
    record {
      ends = both-ends ranges own is.ends held.0;
      members = is.members ∙ sym held.1;
      sets = sets-held ranges own is.ends held.0 c.args.self.sets.items is.sets;
    }
