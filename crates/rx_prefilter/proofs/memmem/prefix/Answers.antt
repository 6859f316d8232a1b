use Rattle.std.proofs.Common.{◌≡◌, [], true, false, sym, ◌∙◌}
use Rattle.memchr.specs.Find.{occurs_at}
use Rattle.rx_prefilter.proofs.NeedleLemmas.{span_at-nil, span_at-here, span_at-next}
use Rattle.rx_prefilter.proofs.memmem.prefix.Goals as goal

pub returns-then-occurs_at : goal.returns-then-occurs_at
returns-then-occurs_at c =
    let text = c.args.text.now in
    let needle = c.args.finder.now in
    let occurs : occurs_at text needle c.args.at ≡ true = rw c.needle.ensures at (sym c.occurs_at.ensures ∙ c.if-occurs_at.true) in
    rw c.needle-then-occurs_at.ensures (sym (span_at-here text c.args.at needle [] occurs))

pub returns : goal.returns
returns c =
    let text = c.args.text.now in
    let needle = c.args.finder.now in
    let occurs : occurs_at text needle c.args.at ≡ false = rw c.needle.ensures at (sym c.occurs_at.ensures ∙ c.if-occurs_at.false) in
    sym (span_at-next text c.args.at needle [] occurs ∙ span_at-nil text c.args.at)
