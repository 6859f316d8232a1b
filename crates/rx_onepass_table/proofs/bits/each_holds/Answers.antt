use Rattle.std.proofs.Common.{sym, ◌∙◌, arith}
use Rattle.rx_onepass_table.specs.Words.{few_looks}
use Rattle.rx_onepass_table.proofs.lemmas.SetLemmas.{kinds-next, kinds-stop, kinds-hold}
use Rattle.rx_onepass_table.proofs.bits.each_holds.Goals as goal

pub loop-number-init : goal.loop-number-init
loop-number-init c = λ kind lt bit. absurd (omega arith)

pub returns-then-fails : goal.returns-then-fails
returns-then-fails c =
    sym (kinds-stop c.args.nfa.now.terminator c.args.text.now c.args.looks c.args.at c.loop-number.number (omega arith)
    (sym c.fails.ensures ∙ c.if-fails.true))

pub loop-number-preserved : goal.loop-number-preserved
loop-number-preserved c =
    kinds-next c.args.nfa.now.terminator c.args.text.now c.args.looks c.args.at c.loop-number.number (omega arith)
    (sym c.fails.ensures ∙ c.if-fails.false) c.loop-number.invariant

pub returns : goal.returns
returns c =
    sym (kinds-hold c.args.nfa.now.terminator c.args.text.now c.args.looks c.args.at few_looks (omega arith)
    (λ kind lt bit. c.loop-number.invariant kind (omega arith) bit))
