use Rattle.std.proofs.Common.{[], ap, sym, subst}
use Rattle.std.specs.Prelude.{All}
use Rattle.std.proofs.lemmas.List.Elements.{All-nil}
use Rattle.rx_class.specs.Ranges.{next_byte, fewest}
use Rattle.rx_syntax.specs.PartialBytes.{HoldsBytes}
use Rattle.rx_syntax.proofs.partial_bytes.PartialBytes.new.Goals as goal

pub returns : goal.returns
returns c = record {
  members = ap (fewest next_byte) c.new.ensures.items;
  sets = subst (All (HoldsBytes [])) (sym c.new-2.ensures.items) (All-nil (HoldsBytes []));
}
