use Rattle.std.proofs.Common.{◌<◌, length, ◌∙◌, arith}
use Rattle.std.specs.Prelude.{not}
use Rattle.rx_literal.specs.declared.order.Order.TheVariants.{Bytes as by_bytes}
use Rattle.rx_literal.specs.Order.{before, follows}
use Rattle.rx_literal.proofs.lemmas.trimming.PlaceLemmas.{any-at}
use Rattle.rx_literal.proofs.trim.stands_at.Goals as goal

pub returns-clause-value : goal.returns-clause-value
returns-clause-value c =
    let l = c.args.literal.now in
    let lt : c.args.at < length c.args.found.now = omega (arith, c.if-at-found.false) in
    (λ k. not ((c.is_before.ensures ∙ (λ j. before by_bytes (c.as_bytes.ensures j) (c.as_bytes-2.ensures j))) k))
    ∙ any-at (λ m. not (follows by_bytes m l)) c.args.found.now c.args.at c.index-found-at.result lt c.index-found-at.is
