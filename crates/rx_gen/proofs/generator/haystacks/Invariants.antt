use Rattle.std.proofs.Common.{◌≡◌}
use Rattle.std.specs.Prelude.{map}
use Rattle.std.specs.Vec.{vec_items}
use Rattle.rx_gen.specs.Generated.{state_at, draws_before, generated}
use Rattle.rx_gen.proofs.generator.haystacks.Given as goal

abbrev pub invariant-loop-haystack : goal.invariant-loop-haystack
invariant-loop-haystack l = record {
  state : l.generator.state ≡ state_at l.seed (draws_before l.seed l._haystack);
  all : map vec_items l.all.items ≡ generated l.seed l._haystack;
}
