use Rattle.std.proofs.Common.{◌∙◌, sym}
use Rattle.rx_hir.proofs.SoundLemmas.{IsSound-ordered}
use Rattle.rx_order.specs.Strip.{strip}
use Rattle.rx_order.proofs.lemmas.LeftLemmas.{told-some, whole-is, left-means}
use Rattle.rx_order.proofs.strip.strip_literal_suffix.Goals as goal

pub returns-in-Some-clause-meaning : goal.returns-in-Some-clause-meaning
returns-in-Some-clause-meaning c =
    let h = c.args.hir.now in
    let s = c.args.suffix.now in
    let left = c.in-Some.left in
    let told = told-some s (strip h s) c.in_ok-stripped.stripped c.in_ok-stripped.ensures left c.in-Some.is in
    left-means h s (IsSound-ordered h c.kind-kind.ensures.sound) c.whole.result (c.whole.ensures ∙ whole-is h left.rest left.count s (sym told.0) told.1)
