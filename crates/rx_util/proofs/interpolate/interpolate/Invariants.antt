use Rattle.std.proofs.Common.{ℕ, List, Option, IsUtf8, length}
use Rattle.rx_util.specs.Interpolation.{Appends, Finds}
use Rattle.rx_util.proofs.InterpolationLemmas.{SoFar}
use Rattle.rx_util.proofs.interpolate.interpolate.Given as goal

abbrev pub invariant-dollars : goal.invariant-dollars
invariant-dollars g l =
    goal.A-IsAlwaysCallable g l.append
    × goal.N-IsAlwaysCallable g l.name_to_index
    × (g.D.Target.is_text → IsUtf8 l.rest)
    × ((piece : ℕ → List ℕ) (index : List ℕ → Option ℕ) → Appends g.A.FnMut g.N.FnMut g.D.Target.held piece → Finds g.A.FnMut g.N.FnMut g.D.Target.held index
    → SoFar piece index l.template (g.D.Target.held l.fn.dst) l.rest (g.D.Target.held l.dst))

abbrev pub decreases-dollars : goal.decreases-dollars
decreases-dollars g l = length l.rest
