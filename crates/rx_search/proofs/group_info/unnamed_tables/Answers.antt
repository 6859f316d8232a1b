use Rattle.std.proofs.Common.{◌≡◌, ◌-◌, ◌<◌, [], ◌∷◌, ◌++◌, None, take, length, get_or, map, sym, ◌∙◌, arith, subst}
use Rattle.std.proofs.lemmas.List.{take_more, get_or-map, length-map}
use Rattle.rx_search.specs.GroupInfo.{unnamed_groups}
use Rattle.rx_search.specs.GroupTables.{AreOf}
use Rattle.rx_search.proofs.GroupLemmas.{AreOf-push, unnamed_groups-first}
use Rattle.rx_search.proofs.group_info.unnamed_tables.Goals as goal

pub loop-group_len-preserved : goal.loop-group_len-preserved
loop-group_len-preserved c =
    let lens = c.args.group_lens.now in
    let gs = map unnamed_groups lens in
    let i = c.loop-group_len.group_len-index in
    let n = get_or lens i 0 in
    let new = c.push_unnamed.new.names.items in
    let below : i < length gs = omega (arith, c.loop-group_len-test.true, length-map lens unnamed_groups) in
    let some : 0 < n = c.requires i 0 c.loop-group_len-test.true in
    let unnamed : get_or gs i [] ≡ None ∷ unnamed_groups (n - 1) =
    get_or-map unnamed_groups lens i 0 [] c.loop-group_len-test.true ∙ unnamed_groups-first n some in
    let pushed = AreOf-push (take i gs) c.loop-group_len.names.items new c.loop-group_len.patterns.items (get_or gs i [])
    (unnamed_groups (n - 1)) c.len-start.result c.len-end.result c.loop-group_len.invariant c.in_ok-push_unnamed.ensures unnamed
    (omega (arith, c.len-start.ensures, c.loop-group_len.names.ok.0)) (omega (arith, c.len-end.ensures, c.push_unnamed.new.names.ok.0)) in
    subst (λ info. AreOf info new c.push.new.self.items) (sym (take_more gs i [] below))
    (subst (λ rows. AreOf (take i gs ++ get_or gs i [] ∷ []) new rows) (sym c.in_ok-push.ensures.items) pushed)
