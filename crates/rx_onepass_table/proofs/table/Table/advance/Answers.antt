use Rattle.std.proofs.Common.{◌≡◌, ◌+◌, ◌-◌, suc, sym, ◌∙◌, ap, subst, arith}
use Rattle.rx_onepass_table.specs.Rows.{cell_at}
use Rattle.rx_onepass_table.specs.Search.{IsSearching, shown}
use Rattle.rx_onepass_table.specs.Words.{step_of}
use Rattle.rx_onepass_table.proofs.lemmas.StayLemmas.{searching-stays, if-none}
use Rattle.rx_onepass_table.proofs.table.Table.advance.Goals as goal

pub returns-then-tells_anywhere-clause-on : goal.returns-then-tells_anywhere-clause-on
returns-then-tells_anywhere-clause-on c =
    let free = c.if-tells_anywhere.true in
    let past = c.same_class.ensures.past in
    let inside = c.same_class.ensures.end in
    λ told s.
    searching-stays c.args.nfa.now c.args.self.now c.args.may_win c.args.text.now c.args.row (c.tells_anywhere.ensures.alive free)
    (c.tells_anywhere.ensures.looks free) c.args.end c.args.at.now c.same_class.result (omega arith) inside
    (λ k from to.
    ap (λ n. step_of (cell_at c.args.self.now c.args.row n)) (c.same_class.ensures.same k from to) ∙ sym c.transition-step.ensures.value
    ∙ c.stays_in.ensures c.if-stays_in.true)
    told c.args.places.now c.args.best.now (shown c.args.left.now c.args.places.now c.args.out.now) s

pub returns-clause-over : goal.returns-clause-over
returns-clause-over c =
    let before = c.requires.at in
    let step : c.args.end - c.args.at.now ≡ suc (c.args.end - (c.args.at.now + 1)) = omega arith in
    if-none c.visit-next.result c.visit-next.ensures.over
    (λ over told s.
    over told (c.args.end - (c.args.at.now + 1))
    (subst (λ n. IsSearching c.args.nfa.now c.args.self.now c.args.may_win c.args.text.now told n c.args.at.now c.args.row
    c.args.places.now c.args.best.now (shown c.args.left.now c.args.places.now c.args.out.now)) step s))
