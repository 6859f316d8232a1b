use Rattle.std.proofs.Common.{◌≡◌, ◌<◌, length, List, Option, ℕ, subst, ap, ◌∙◌, arith}
use Rattle.std.proofs.lemmas.List.{length-map}
use Rattle.rx_search.specs.GroupInfo.{slot_count}
use Rattle.rx_search.specs.PatternGroups.{group_names, pattern_groups}
use Rattle.rx_scan.specs.Layout.{own_slots, HaveImplicit}
use Rattle.rx_scan.proofs.LayoutLemmas.{there, own-row}
use Rattle.rx_scan.proofs.row.Layout.row.Goals as goal

pub returns-clause-value : goal.returns-clause-value
returns-clause-value c = λ r text b a m groups found own has.
    let layout = c.args.self.now in
    let info = layout.groups.now in
    let xs = c.args.slots.now in
    let implicit : HaveImplicit (pattern_groups r.expressions) (length (pattern_groups r.expressions)) =
    subst (λ (g : List (List (Option (List ℕ)))). HaveImplicit g (length g)) groups layout.implicit in
    let wide : length xs ≡ slot_count (pattern_groups r.expressions) = c.requires ∙ ap slot_count groups in
    let below : c.args.pattern < length info =
    omega (arith, own, there r text b a m found, ap length groups, length-map r.expressions group_names) in
    let slots = c.in_ok-slots.ensures.value below ∙ (λ i. own_slots (groups i) (own i) xs) ∙ own-row r text b a m found xs has implicit wide in
    λ i. record { pattern = own i; slots = slots i }
