use Rattle.std.proofs.Common.{◌≡◌, ◌-◌}
use Rattle.rx_literal.specs.Literals.{one_empty, cross_times}
use Rattle.rx_literal.proofs.repeated.crossed.Given as goal

abbrev pub invariant-loop-copy : goal.invariant-loop-copy
invariant-loop-copy l = cross_times l.side (l.count - l._copy) l.seq l.body ≡ cross_times l.side l.count one_empty l.body
