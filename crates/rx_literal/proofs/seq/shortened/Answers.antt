use Rattle.std.proofs.Common.{◌<◌, ◌≤◌, length, ap, sym, ◌∙◌, arith}
use Rattle.rx_literal.specs.Literals.{finite}
use Rattle.rx_literal.proofs.lemmas.prefixes.LiteralLemmas.{after-many, after-few}
use Rattle.rx_literal.proofs.seq.shortened.Goals as goal

pub returns-then-len-gt-MOST : goal.returns-then-len-gt-MOST
returns-then-len-gt-MOST c =
    let many : 250 < length c.args.literals.items = omega (arith, c.args.literals.ok.0, c.len.ensures, c.if-len-gt-MOST.true) in
    c.infinite.ensures ∙ sym (after-many c.args.side c.args.literals.items many)

pub returns : goal.returns
returns c =
    let few : length c.args.literals.items ≤ 250 = omega (arith, c.args.literals.ok.0, c.len.ensures, c.if-len-gt-MOST.false) in
    c.finite.ensures ∙ ap finite c.in_ok-all_shortened.ensures ∙ sym (after-few c.args.side c.args.literals.items few)
