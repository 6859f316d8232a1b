use Rattle.std.proofs.Common.{sym, arith}
use Rattle.rx_gen.proofs.NumberLemmas.{number-found, number-none, number-unwritten, number-above}
use Rattle.rx_gen.proofs.number.number_up_to.Goals as goal
use Rattle.rx_gen.proofs.number.number_up_to.Goals.{else-n-most-via-then-n-most+else-is_written, else-n-most-via-else-n-most}

pub returns-in_default-clause-value : goal.returns-in_default-clause-value
returns-in_default-clause-value c =
    number-none c.args.most c.args.word.now (omega (arith, c.ranges.most.fits)) c.parse.result c.parse.ensures.value.0 c.in_default.field-0 c.in_default.is

pub returns-then-is_written-clause-value : goal.returns-then-is_written-clause-value
returns-then-is_written-clause-value c =
    number-found c.args.most c.args.word.now (omega (arith, c.ranges.most.fits)) c.in-Ok.n (sym c.if-is_written.ensures) c.if-n-most.true

pub returns-else-n-most-clause-value : goal.returns-else-n-most-clause-value
returns-else-n-most-clause-value c = elim c.else-n-most.branch [
  | else-n-most-via-then-n-most+else-is_written w ↦
      number-unwritten c.args.most c.args.word.now (omega (arith, c.ranges.most.fits)) c.parse.result c.parse.ensures.value.0 c.in-Ok.n c.in-Ok.is
      (sym w.if-is_written.ensures)
  | else-n-most-via-else-n-most w ↦
      number-above c.args.most c.args.word.now (omega (arith, c.ranges.most.fits)) c.parse.result c.parse.ensures.value.0 c.in-Ok.n c.in-Ok.is
      w.if-n-most.false
]
