use Rattle.std.proofs.Common.{take}
use Rattle.rx_search.specs.GroupInfo.{groups_of}
use Rattle.rx_search.specs.GroupTables.{AreOf}
use Rattle.rx_search.proofs.group_info.named_tables.Given as goal

abbrev pub invariant-loop-pattern : goal.invariant-loop-pattern
invariant-loop-pattern l = AreOf (take l.pattern-index (groups_of l.groups)) l.names.items l.patterns.items
