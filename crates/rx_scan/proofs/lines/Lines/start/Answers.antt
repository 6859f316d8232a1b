use Rattle.std.proofs.Common.{◌+◌, ◌-◌, arith, sym, ap, ◌∙◌}
use Rattle.std.proofs.lemmas.List.{get_or_default}
use Rattle.rx_scan.proofs.LineLemmas.{piece-at, start-first, start-after}
use Rattle.rx_scan.proofs.lines.Lines.start.Goals as goal

pub returns-then-index-eq0 : goal.returns-then-index-eq0
returns-then-index-eq0 c = sym (start-first 0 c.args.self.now.ends.items c.args.index (omega (arith, c.if-index-eq0.true)))

pub overflow_add-result : goal.overflow_add-result
overflow_add-result c =
    let ends = c.args.self.now.ends.items in
    let i = c.args.index in
    let same = c.index.ensures ∙ get_or_default ends (i - 1) _ 0 (omega (arith, c.requires.there)) in
    let low = (piece-at c.args.self.now.text.now 0 ends i c.args.self.now.own c.requires.there).0 in
    let next = start-after 0 ends i (omega (arith, c.if-index-eq0.false)) in
    omega (arith, same, low, next, c.requires.end)

pub returns : goal.returns
returns c =
    let ends = c.args.self.now.ends.items in
    let i = c.args.index in
    ap (λ n. n + 1) (c.index.ensures ∙ get_or_default ends (i - 1) _ 0 (omega (arith, c.requires.there)))
    ∙ sym (start-after 0 ends i (omega (arith, c.if-index-eq0.false)))
