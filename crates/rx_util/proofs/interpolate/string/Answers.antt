use Rattle.std.proofs.Common.{ℕ, List, subst, string_bytes}
use Rattle.rx_util.specs.Interpolation.{Interpolates}
use Rattle.rx_util.proofs.interpolate.string.Goals as goal

pub returns : goal.returns
returns g c =
    subst (λ (template : List ℕ). Interpolates g.A.FnMut g.N.FnMut string_bytes template (string_bytes c.args.dst.now)
    (string_bytes c.interpolate.new.dst) c.interpolate.result) c.as_bytes.ensures.value c.interpolate.ensures
