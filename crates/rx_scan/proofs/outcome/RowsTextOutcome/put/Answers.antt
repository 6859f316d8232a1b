use Rattle.std.proofs.Common.{◌≡◌, length, sym, arith}
use Rattle.std.proofs.lemmas.Bool.{eqb-true}
use Rattle.std.specs.Vec.{vec_items}
use Rattle.rx_scan.proofs.TextLemmas.{pieces-more, pieces-same}
use Rattle.rx_scan.proofs.outcome.RowsTextOutcome.put.Goals as goal

pub returns-in_ok-push : goal.returns-in_ok-push
returns-in_ok-push c = λ all more told is few.
    pieces-more vec_items all more c.args.whole.now.items c.push.new.self.items c.args.text c.in_ok-push.ensures.items told is few

pub returns-else-not-is_empty : goal.returns-else-not-is_empty
returns-else-not-is_empty c = λ all more told is few.
    let none : length c.args.text.items ≡ 0 = omega (arith, eqb-true _ _ (sym c.if-not-is_empty.ensures), c.args.text.ok.0) in
    pieces-same vec_items all more c.args.whole.now.items c.args.text none told is few
