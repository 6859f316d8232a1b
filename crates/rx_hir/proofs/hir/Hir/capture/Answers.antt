use Rattle.std.proofs.Common.{◌∙◌, subst}
use Rattle.std.specs.Prelude.{option_map, string_bytes}
use Rattle.std.specs.Int.NonZero.{non_zero_usize_get}
use Rattle.rx_hir.specs.PropertiesViews.{AreOf}
use Rattle.rx_hir.specs.Sound.{IsSound}
use Rattle.rx_hir.proofs.hir.Hir.capture.Goals as goal

pub invariant_of-result : goal.invariant_of-result
invariant_of-result c =
    let g = c.args.group in
    let same = c.behind-group.view_is ∙ c.deref.ensures in
    let own = subst (λ h. AreOf h c.behind-group.inside.properties) same c.behind-group.invariant.0 in
    (c.captured-properties.ensures g.sub.value (non_zero_usize_get g.index) (option_map string_bytes g.name) own, subst IsSound same c.behind-group.invariant.1)
