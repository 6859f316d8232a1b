use Rattle.std.proofs.Common.{◌≡◌}
use Rattle.rx_onepass_build.specs.Entries.{AreMet}
use Rattle.rx_onepass_build.specs.Rows.{IsWalking, AreOf, unmarked}
use Rattle.rx_onepass_build.proofs.closure.Closure.fill.Given as goal

abbrev pub invariant-walk : goal.invariant-walk
invariant-walk l = record {
  met : AreMet l.entries;
  of : AreOf l.fn.entries l.entries;
  entry : l.self.entry ≡ l.fn.entry;
  row : l.self.row ≡ l.fn.row;
  walking : IsWalking l.job l.entries.items.items l.self;
}

abbrev pub decreases-walk : goal.decreases-walk
decreases-walk l = unmarked l.fn.row l.self.marks.items
