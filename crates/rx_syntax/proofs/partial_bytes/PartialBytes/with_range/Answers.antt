use Rattle.std.proofs.Common.{[], ◌∷◌, ◌∙◌, ap}
use Rattle.rx_class.specs.Ranges.{next_byte, fewest}
use Rattle.rx_syntax.proofs.lemmas.sets.ByteHeldLemmas.{bytes-held, with-more}
use Rattle.rx_syntax.proofs.partial_bytes.PartialBytes.with_range.Goals as goal

pub returns : goal.returns
returns c ranges is =
    let own = (c.args.low, c.args.high) ∷ [] in
    record {
      members = c.in_ok-ranges.ensures ∙ ap (fewest next_byte) c.in_ok-push.ensures.items ∙ with-more c.args.self.ranges.items ranges own is.members;
      sets = bytes-held ranges own c.args.self.sets.items is.sets;
    }
