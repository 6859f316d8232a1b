-- The slots of a whole match are among those that are written.
use Rattle.std.proofs.Common.{ℕ, suc, ◌+◌, ◌<◌, ◌≤◌, arith}
use Rattle.std.specs.Prelude.{Option, Some, None, IfSome, option_map}

pub first-below : (o : Option ℕ) (m n : ℕ) → m ≤ n → IfSome o (λ slot. slot + 1 < m) → IfSome o (λ slot. slot < n)
first-below None m n le h = tt
first-below (Some slot) m n le h = omega arith

pub second-below : (o : Option ℕ) (n : ℕ) → IfSome o (λ slot. slot + 1 < n) → IfSome (option_map suc o) (λ slot. slot < n)
second-below None n h = tt
second-below (Some slot) n h = omega arith
