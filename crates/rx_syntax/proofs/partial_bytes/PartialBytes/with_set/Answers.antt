use Rattle.std.proofs.Common.{◌∙◌, sym}
use Rattle.rx_syntax.specs.Named.{bytes_of}
use Rattle.rx_syntax.proofs.lemmas.sets.ByteHeldLemmas.{bytes-held}
use Rattle.rx_syntax.proofs.partial_bytes.PartialBytes.with_set.Goals as goal

pub returns-then-has : goal.returns-then-has
returns-then-has c ranges is =
    let held = c.has.ensures ranges is c.if-has.true in
    record {
      members = is.members ∙ sym held;
      sets = bytes-held ranges (bytes_of c.args.key) c.args.self.sets.items is.sets;
    }
