use Rattle.std.proofs.Common.{◌<◌, length, ◌∙◌, arith}
use Rattle.std.specs.Prelude.{nat_eq}
use Rattle.std.specs.List.{starts_with}
use Rattle.rx_literal.specs.Literals.{bytes_of}
use Rattle.rx_literal.proofs.lemmas.trimming.PlaceLemmas.{any-at}
use Rattle.rx_literal.proofs.trim.has_prefix_at.Goals as goal

pub returns : goal.returns
returns c =
    let l = c.args.literal.now in
    let lt : c.args.at < length c.args.literals.now = omega (arith, c.if-at-literals.false) in
    c.starts_with.ensures.value ∙ (λ k. starts_with nat_eq (c.as_bytes.ensures k) (c.as_bytes-2.ensures k))
    ∙ any-at (λ e. starts_with nat_eq (bytes_of l) (bytes_of e)) c.args.literals.now c.args.at c.index-literals-at.result lt c.index-literals-at.is
