use Rattle.std.proofs.Common.{◌∙◌, ap, map}
use Rattle.std.specs.Option.{option_map}
use Rattle.std.specs.Vec.{vec_items}
use Rattle.std.proofs.lemmas.Result.{IfOk-weaker}
use Rattle.rx_literal.specs.Trim.{trimmed_by_preference}
use Rattle.rx_order.proofs.lemmas.RestLemmas.{fast-some-is, fast-none-is}
use Rattle.rx_order.proofs.inner.fast_prefixes.Goals as goal

pub returns-in-Some-clause-value : goal.returns-in-Some-clause-value
returns-in-Some-clause-value c =
    let trimmed = c.in_ok-seq.ensures ∙ ap trimmed_by_preference c.in_ok-found.ensures in
    let e = fast-some-is c.args.hir.now c.in_ok-seq.seq (option_map (λ r. r.now) c.literals.result) c.literals.ensures trimmed
    c.in-Some.literals.now (map vec_items c.in_ok-needles-in-Some.needles.items) (ap (option_map (λ r. r.now)) c.in-Some.is) c.in_ok-needles-in-Some.ensures in
    IfOk-weaker c.fast_search.result _ _ (λ found p. p ∙ e) c.fast_search.ensures.value

pub returns-clause-value : goal.returns-clause-value
returns-clause-value c =
    let trimmed = c.in_ok-seq.ensures ∙ ap trimmed_by_preference c.in_ok-found.ensures in
    fast-none-is c.args.hir.now c.in_ok-seq.seq (option_map (λ r. r.now) c.literals.result) c.literals.ensures trimmed
    (ap (option_map (λ r. r.now)) c.in-None.is)
