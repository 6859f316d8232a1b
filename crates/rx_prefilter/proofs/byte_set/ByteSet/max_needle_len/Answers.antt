use Rattle.std.proofs.Common.{◌≢◌, length, arith, sym, ◌∙◌}
use Rattle.std.proofs.lemmas.Bool.{eqb-false}
use Rattle.rx_prefilter.proofs.ByteLemmas.{greatest_length-single}
use Rattle.rx_prefilter.proofs.byte_set.ByteSet.max_needle_len.Goals as goal

pub returns-else-is_empty : goal.returns-else-is_empty
returns-else-is_empty c =
    let bytes = c.self.inside.bytes in
    let some = eqb-false bytes.len 0 (sym c.is_empty.ensures ∙ c.if-is_empty.false) in
    let long : length bytes.items ≢ 0 = λ e. some (omega (arith, bytes.ok.0, e)) in
    rw (← c.self.view_is) (sym (greatest_length-single bytes.items long))
