use Rattle.std.proofs.Common.{◌≡◌, length, take, sum_by}
use Rattle.std.specs.Prelude.{map}
use Rattle.std.specs.Vec.{vec_items}
use Rattle.rx_gen.proofs.totals.bytes_in.Given as goal

abbrev pub invariant-loop-haystack : goal.invariant-loop-haystack
invariant-loop-haystack l = l.bytes ≡ sum_by length (take l.haystack-index (map vec_items l.haystacks))
