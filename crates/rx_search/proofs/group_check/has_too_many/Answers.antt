use Rattle.std.proofs.Common.{◌≡◌, ◌+◌, ◌<◌, [], length, get_or, ap, sym, ◌∙◌, arith}
use Rattle.rx_search.specs.GroupInfo.{groups_of}
use Rattle.rx_search.proofs.FaultLemmas.{group_count-more, group_count-front, group_at, length-groups_of, length-names_of, is_above}
use Rattle.rx_search.proofs.group_check.has_too_many.Goals as goal

pub returns-then-len-count : goal.returns-then-len-count
returns-then-len-count c =
    let gs = groups_of c.args.patterns.now in
    let i = c.loop-groups.groups-index in
    let below : i < length gs = omega (arith, c.loop-groups-test.true, length-groups_of c.args.patterns.now) in
    let len : length (get_or gs i []) ≡ length c.groups-item.result.items =
    ap length (group_at c.args.patterns.now i c.groups-item.result c.loop-groups-test.true c.groups-item.is) ∙ length-names_of c.groups-item.result.items in
    let more = group_count-more gs i [] below in
    let front = group_count-front (i + 1) gs in
    sym (is_above (omega (arith, len, more, front, c.loop-groups.invariant.0, c.len.ensures, c.if-len-count.true)))

pub loop-groups-preserved : goal.loop-groups-preserved
loop-groups-preserved c =
    let gs = groups_of c.args.patterns.now in
    let i = c.loop-groups.groups-index in
    let below : i < length gs = omega (arith, c.loop-groups-test.true, length-groups_of c.args.patterns.now) in
    let len : length (get_or gs i []) ≡ length c.groups-item.result.items =
    ap length (group_at c.args.patterns.now i c.groups-item.result c.loop-groups-test.true c.groups-item.is) ∙ length-names_of c.groups-item.result.items in
    let more = group_count-more gs i [] below in (
      omega (arith, len, more, c.loop-groups.invariant.0, c.len-count.ensures),
      omega (arith, c.loop-groups.invariant.1, c.len.ensures, c.len-count.ensures, c.if-len-count.false),
    )
