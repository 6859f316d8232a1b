use Rattle.std.proofs.Common.{◌≡◌, ◌-◌, ◌++◌}
use Rattle.std.specs.Prelude.{encode_utf8}
use Rattle.rx_class.specs.Ranges.{next_scalar}
use Rattle.rx_class.specs.Scalars.{or_past}
use Rattle.rx_literal.specs.Extract.{numbers}
use Rattle.rx_literal.proofs.lemmas.prefixes.MemberLemmas.{encoded}
use Rattle.rx_literal.proofs.members.push_scalars.Given as goal

abbrev pub invariant-loop-count : goal.invariant-loop-count
invariant-loop-count l =
    l.found.items ++ encoded encode_utf8 (numbers next_scalar (l.fn.most - l._count) (or_past l.next) l.fn.high)
    ≡ l.initial.found.items ++ encoded encode_utf8 (numbers next_scalar l.fn.most l.fn.low l.fn.high)
