use Rattle.std.proofs.Common.{◌≡◌, true, sym, ap, ◌∙◌}
use Rattle.std.proofs.lemmas.Result.{IfOk-weaker}
use Rattle.rx_literal.specs.First.{all_exact}
use Rattle.rx_literal.specs.Extract.{prefixes}
use Rattle.rx_literal.specs.Trim.{trimmed_by_preference}
use Rattle.rx_pre.proofs.WholeLemmas.{made-ends}
use Rattle.rx_pre.proofs.literals.of_prefixes.Goals as goal

pub returns-clause-ends : goal.returns-clause-ends
returns-clause-ends c =
    let h = c.args.hir.now in
    let made = c.in_ok-seq.ensures ∙ ap trimmed_by_preference c.in_ok-prefixes.ensures in
    let exact : all_exact (trimmed_by_preference (prefixes h)) ≡ true = ap all_exact (sym made) ∙ sym c.is_exact.ensures ∙ c.if-not-is_exact.false in
    IfOk-weaker c.from_hir_prefix.result _ _ (made-ends h c.requires.ordered c.requires.look_free exact) c.from_hir_prefix.ensures
