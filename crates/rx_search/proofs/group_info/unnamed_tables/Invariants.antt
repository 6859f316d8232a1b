use Rattle.std.proofs.Common.{take, map}
use Rattle.rx_search.specs.GroupInfo.{unnamed_groups}
use Rattle.rx_search.specs.GroupTables.{AreOf}
use Rattle.rx_search.proofs.group_info.unnamed_tables.Given as goal

abbrev pub invariant-loop-group_len : goal.invariant-loop-group_len
invariant-loop-group_len l = AreOf (take l.group_len-index (map unnamed_groups l.group_lens)) l.names.items l.patterns.items
