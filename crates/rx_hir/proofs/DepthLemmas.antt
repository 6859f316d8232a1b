-- A member of a list is less deep than the list around it.
use Rattle.std.proofs.Common.{◌≡◌, ℕ, zero, suc, ◌<◌, List, [], ◌∷◌, length, get_or, arith}
use Rattle.rx_model.specs.Expression.{Expression}
use Rattle.rx_hir.specs.Depth.{depth, greatest_depth}
use Rattle.rx_hir.specs.Normal.{expressions}

at-below : (hs : List Expression) (i : ℕ) (d : Expression) → i < length hs → depth (get_or hs i d) < greatest_depth (expressions hs)
at-below [] i d lt = absurd (omega arith)
at-below (h ∷ hs) zero d lt = omega arith
at-below (h ∷ hs) (suc i) d lt = let below = at-below hs i d (omega arith) in omega arith

pub depth-below : (hs : List Expression) (i : ℕ) (h : Expression) → i < length hs → h ≡ get_or hs i h → depth h < greatest_depth (expressions hs)
depth-below hs i h lt at = rw at (at-below hs i h lt)
