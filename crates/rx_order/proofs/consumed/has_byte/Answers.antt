use Rattle.std.proofs.Common.{sym}
use Rattle.std.specs.Prelude.{nat_eq}
use Rattle.std.proofs.lemmas.Bool.{eq-eqb, ne_eqb}
use Rattle.rx_order.proofs.lemmas.LoopLemmas.{any-found, any-next, any-end}
use Rattle.rx_order.proofs.consumed.has_byte.Goals as goal

pub returns-then-one-byte : goal.returns-then-one-byte
returns-then-one-byte c =
    any-found (nat_eq c.args.byte) c.args.bytes.now c.loop-one.one-index 0 c.loop-one-test.true
    (eq-eqb c.args.byte _ (sym c.if-one-byte.true)) c.loop-one.invariant

pub loop-one-preserved : goal.loop-one-preserved
loop-one-preserved c =
    any-next (nat_eq c.args.byte) c.args.bytes.now c.loop-one.one-index 0 c.loop-one-test.true
    (ne_eqb c.args.byte _ (λ e. c.if-one-byte.false (sym e))) c.loop-one.invariant

pub returns : goal.returns
returns c = any-end (nat_eq c.args.byte) c.args.bytes.now c.loop-one.one-index c.loop-one-test.false c.loop-one.invariant
