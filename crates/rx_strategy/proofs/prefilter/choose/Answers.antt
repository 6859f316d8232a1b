use Rattle.std.proofs.Common.{◌≡◌, Some, None, sym, ap, ◌∙◌}
use Rattle.std.proofs.lemmas.Result.{IfOk-weaker}
use Rattle.std.specs.Prelude.{option_copied}
use Rattle.rx_model.specs.Expression.{alternation}
use Rattle.rx_hir.specs.Normal.{expressions}
use Rattle.rx_strategy.specs.Config.{prefilter_of}
use Rattle.rx_strategy.proofs.NeedleLemmas.{chosen-none, chosen-given, chosen-made}
use Rattle.rx_strategy.proofs.prefilter.choose.Goals as goal

pub returns-then-is_always_anchored_start : goal.returns-then-is_always_anchored_start
returns-then-is_always_anchored_start c =
    let hs = c.args.exprs.now in
    chosen-none c.args.config.now hs (sym (c.is_always_anchored_start.ensures (alternation (expressions hs)) c.requires) ∙ c.if-is_always_anchored_start.true)

pub returns-in_ok-clone-in-Some : goal.returns-in_ok-clone-in-Some
returns-in_ok-clone-in-Some c =
    let hs = c.args.exprs.now in
    let given : prefilter_of c.args.config.now ≡ Some c.in-Some.pre.now = sym c.get_prefilter.ensures ∙ ap (λ o. option_copied o) c.in-Some.is in
    ap Some c.in_ok-clone-in-Some.ensures
    ∙ chosen-given c.args.config.now hs c.in-Some.pre.now
    (sym (c.is_always_anchored_start.ensures (alternation (expressions hs)) c.requires) ∙ c.if-is_always_anchored_start.false) given

pub returns-in-None : goal.returns-in-None
returns-in-None c =
    let hs = c.args.exprs.now in
    let given : prefilter_of c.args.config.now ≡ None = sym c.get_prefilter.ensures ∙ ap (λ o. option_copied o) c.in-None.is in
    let made =
    chosen-made c.args.config.now hs
    (sym (c.is_always_anchored_start.ensures (alternation (expressions hs)) c.requires) ∙ c.if-is_always_anchored_start.false) given in
    IfOk-weaker c.automatic.result _ _ (λ pre is. is ∙ made) c.automatic.ensures
