use Rattle.std.proofs.Common.{◌∙◌, sym, ap, arith}
use Rattle.std.specs.Prelude.{◌&&◌}
use Rattle.std.proofs.lemmas.List.{take_all}
use Rattle.std.proofs.lemmas.List.Folds.{list_all_more, list_all_at}
use Rattle.rx_model.specs.Look.{start_text}
use Rattle.rx_hir.specs.Properties.{looks_first}
use Rattle.rx_nfa.specs.Compiled.{all_start_anchored}
use Rattle.rx_nfa.proofs.compiler.anchors.all_start_anchored.Goals as goal

pub loop-hir-preserved : goal.loop-hir-preserved
loop-hir-preserved c =
    list_all_more (looks_first start_text) c.args.exprs.now c.loop-hir.hir-index c.hir-item.result (omega arith)
    ∙ (λ i. c.loop-hir.invariant i && ((ap (looks_first start_text) (sym c.hir-item.is) ∙ sym c.is_start_anchored.ensures ∙ c.if-not-is_start_anchored.false)
    i))

pub returns-then-not-is_start_anchored : goal.returns-then-not-is_start_anchored
returns-then-not-is_start_anchored c =
    sym (list_all_at (looks_first start_text) c.args.exprs.now c.loop-hir.hir-index c.hir-item.result (omega arith)
    (ap (looks_first start_text) (sym c.hir-item.is) ∙ sym c.is_start_anchored.ensures ∙ c.if-not-is_start_anchored.true))

pub returns : goal.returns
returns c = sym c.loop-hir.invariant ∙ ap all_start_anchored (take_all c.loop-hir.hir-index c.args.exprs.now (omega arith))
