use Rattle.std.proofs.Common.{◌<◌, length, arith, sym, ◌∙◌}
use Rattle.rx_prefilter.proofs.ByteLemmas.{span_at-bytes, span_at-end}
use Rattle.rx_prefilter.proofs.bytes.prefix.Goals as goal

pub returns-then-at-text : goal.returns-then-at-text
returns-then-at-text c = sym (span_at-end c.args.text.now c.args.at c.args.bytes.now (omega arith))

pub returns : goal.returns
returns c =
    let within : c.args.at < length c.args.text.now = omega arith in
    rw c.contains.ensures.value at c.wanted_at.ensures ∙ sym (span_at-bytes c.args.text.now c.args.at c.args.bytes.now within)
