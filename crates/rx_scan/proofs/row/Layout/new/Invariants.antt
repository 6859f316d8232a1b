use Rattle.std.proofs.Common.{◌≡◌}
use Rattle.rx_scan.specs.Layout.{all_explicit_slots, HaveImplicit}
use Rattle.rx_scan.proofs.row.Layout.new.Given as goal

abbrev pub invariant-loop-index : goal.invariant-loop-index
invariant-loop-index l = record {
  asked : l.explicit.items ≡ all_explicit_slots l.groups l.index;
  implicit : HaveImplicit l.groups l.index;
}
