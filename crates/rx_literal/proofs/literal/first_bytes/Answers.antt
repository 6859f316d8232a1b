use Rattle.std.proofs.Common.{◌∙◌, ap, sym}
use Rattle.rx_literal.specs.Literals.{inexact}
use Rattle.rx_literal.specs.declared.side.Side.TheVariants.{Front as front}
use Rattle.rx_literal.proofs.lemmas.prefixes.LiteralLemmas.{cut-long, cut-short}
use Rattle.rx_literal.proofs.literal.first_bytes.Goals as goal

pub returns-then-bytes-most : goal.returns-then-bytes-most
returns-then-bytes-most c =
    c.new.ensures ∙ ap inexact c.outer_bytes.ensures ∙ sym (cut-long front c.args.most c.args.exact c.args.bytes.now c.if-bytes-most.true)

pub returns : goal.returns
returns c = c.new-2.ensures ∙ sym (cut-short front c.args.most c.args.exact c.args.bytes.now c.if-bytes-most.false)
