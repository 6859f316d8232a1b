use Rattle.std.proofs.Common.{◌∙◌, ap, sym}
use Rattle.rx_literal.specs.Literals.{inexact, literal_of}
use Rattle.rx_literal.proofs.lemmas.prefixes.LiteralLemmas.{cut-long, cut-short}
use Rattle.rx_literal.proofs.literal.Literal.cut.Goals as goal

pub returns-then-bytes-most : goal.returns-then-bytes-most
returns-then-bytes-most c =
    ap inexact (c.in_ok-bytes.ensures ∙ c.outer_bytes.ensures)
    ∙ sym (cut-long c.args.side c.args.most c.args.exact c.args.bytes.now c.if-bytes-most.true)

pub returns : goal.returns
returns c =
    ap (literal_of c.args.exact) c.in_ok-bytes-2.ensures
    ∙ sym (cut-short c.args.side c.args.most c.args.exact c.args.bytes.now c.if-bytes-most.false)
