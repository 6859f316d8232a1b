use Rattle.std.proofs.Common.{◌≤◌, length, ap, sym, arith}
use Rattle.rx_literal.proofs.lemmas.prefixes.LiteralLemmas.{cut-short}
use Rattle.rx_literal.proofs.literal.Literal.cut_own.Goals as goal

pub returns : goal.returns
returns c =
    let same = ap length c.as_slice-len.ensures in
    let short : length c.args.bytes ≤ c.args.most = omega (arith, same, c.if-len-most.false) in
    sym (cut-short c.args.side c.args.most c.args.exact c.args.bytes short)
