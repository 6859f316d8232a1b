use Rattle.std.proofs.Common.{◌≡◌, suc, ◌+◌, ◌<◌, length, get_or, ap, ◌∙◌, subst, arith}
use lib.ListN.{set}
use Rattle.rx_literal.proofs.lemmas.prefixes.LiteralLemmas.{loose-step}
use Rattle.rx_literal.proofs.seq.loosened.Goals as goal

pub loop-i-preserved : goal.loop-i-preserved
loop-i-preserved c =
    let i = c.loop-i.i in
    let l = c.index_mut.result.now in
    let e : c.loop-i.i + 1 ≡ suc c.loop-i.i = omega arith in
    let within : c.loop-i.i < length c.args.literals.items = omega (arith, c.args.literals.ok.0, c.loop-i-test.true, c.len-i-end.ensures) in
    rw e (
    ap (λ ys. set ys i c.loosen.new.self) c.loop-i.invariant
    ∙ loose-step c.args.literals.items i l c.loosen.new.self within (subst (λ ys. l ≡ get_or ys i l) c.loop-i.invariant c.index_mut.ensures.value)
    c.loosen.ensures)
