use Rattle.std.proofs.Common.{◌≡◌, vec_len}
use Rattle.std.specs.Prelude.{All}
use Rattle.rx_util.specs.Held.{maker_of}
use Rattle.rx_util.proofs.pool.Pool.with_capacity.Given as goal

-- a stack was made in each turn, for this maker
abbrev pub invariant-loop-count : goal.invariant-loop-count
invariant-loop-count g l = (vec_len l.all ≡ l._count) × All (λ lock. maker_of lock ≡ l.maker) l.all.items
