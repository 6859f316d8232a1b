use Rattle.std.proofs.Common.{rules, ◌≡◌, ◌-◌, ◌<◌, length, get_or, drop, take, arith, sym, ◌∙◌}
use Rattle.std.proofs.lemmas.List.{get_or_default}
use Rattle.rx_scan.proofs.LineLemmas.{cut-length, piece-at, piece-within}
use Rattle.rx_scan.proofs.lines.LinesHaystacks.get.Goals as goal

pub index-end-requires : goal.index-end-requires
index-end-requires c =
    let many = cut-length c.args.self.now.text.now 0 c.args.self.now.ends.items in
    omega (arith, c.requires, many)

pub start-requires-clause-there : goal.start-requires-clause-there
start-requires-clause-there c =
    let many = cut-length c.args.self.now.text.now 0 c.args.self.now.ends.items in
    omega (arith, c.requires, many)

pub start-requires-clause-end : goal.start-requires-clause-end
start-requires-clause-end c =
    let ends = c.args.self.now.ends.items in
    let many = cut-length c.args.self.now.text.now 0 ends in
    c.index-end.ensures ∙ get_or_default ends c.args.index _ 0 (omega (arith, c.requires, many))

pub slice_bounds-result-count : goal.slice_bounds-result-count
slice_bounds-result-count c =
    let line = c.args.self.now in
    let within = piece-within line.text.now line.ends.items c.args.index c.start.result _ line.own c.requires c.start.ensures c.index-end.ensures in
    within.0

pub slice_bounds-result-start : goal.slice_bounds-result-start
slice_bounds-result-start c =
    let line = c.args.self.now in
    let within = piece-within line.text.now line.ends.items c.args.index c.start.result _ line.own c.requires c.start.ensures c.index-end.ensures in
    let low = within.0 in
    let high = within.1 in
    search rules

pub slice_bounds-result-end : goal.slice_bounds-result-end
slice_bounds-result-end c =
    let line = c.args.self.now in
    let within = piece-within line.text.now line.ends.items c.args.index c.start.result _ line.own c.requires c.start.ensures c.index-end.ensures in
    let low = within.0 in
    let high = within.1 in
    search rules

pub returns : goal.returns
returns c =
    let text = c.args.self.now.text.now in
    let ends = c.args.self.now.ends.items in
    let many = cut-length text 0 ends in
    let below : c.args.index < length ends = omega (arith, c.requires, many) in
    let end : c.index-end.result.now ≡ get_or ends c.args.index 0 = c.index-end.ensures ∙ get_or_default ends c.args.index _ 0 below in
    (λ k. take (end k - c.start.ensures k) (drop (c.start.ensures k) text)) ∙ sym (piece-at text 0 ends c.args.index c.args.self.now.own below).2
