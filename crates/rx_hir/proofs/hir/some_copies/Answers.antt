use Rattle.std.proofs.Common.{◌∙◌, subst}
use Rattle.rx_hir.specs.PropertiesViews.{AreOf}
use Rattle.rx_hir.specs.Sound.{IsSound}
use Rattle.rx_hir.proofs.hir.some_copies.Goals as goal

pub invariant_of-result : goal.invariant_of-result
invariant_of-result c =
    let r = c.args.copies in
    let same = c.behind-copies.view_is ∙ c.deref.ensures in
    let own = subst (λ h. AreOf h c.behind-copies.inside.properties) same c.behind-copies.invariant.0 in
    (c.repeated-properties.ensures r.sub.value r.greedy own, (c.requires.ordered, subst IsSound same c.behind-copies.invariant.1))
