use Rattle.std.proofs.Common.{◌+◌, ◌==◌, sym, ◌∙◌, ap, subst, if◌then◌else◌, true≢false}
use Rattle.std.specs.Prelude.{Some, None, slice_index_or}
use Rattle.std.specs.Int.{bit_at}
use Rattle.rx_onepass_table.specs.Along.{goes_on}
use Rattle.rx_onepass_table.specs.Search.{IsAnswer, IsSearching, shown, stops}
use Rattle.rx_onepass_table.specs.Words.{Step}
use Rattle.rx_onepass_table.proofs.lemmas.SearchLemmas.{searching-stops, searching-dies, searching-on}
use Rattle.rx_onepass_table.proofs.lemmas.ShownLemmas.{shown-length, searching-same, dead-stops, alive-goes}
use Rattle.rx_onepass_table.proofs.table.Table.visit.Goals as goal

pub returns-then-stops-clause-over : goal.returns-then-stops-clause-over
returns-then-stops-clause-over c =
    let wins = c.match_wins.ensures ∙ ap (λ (s : Step). s.wins) c.requires.step in
    let before = shown c.args.left.now c.args.places.now c.args.out.now in
    let after = shown c.tell-told.new.left c.args.places.now c.args.out.now in
    λ told n s.
    searching-stops c.args.nfa.now c.args.self.now c.args.may_win c.args.text.now told c.args.places.now c.args.best.now c.tell-told.new.best
    before after (shown-length c.tell-told.new.left c.args.places.now c.args.out.now c.requires.room ∙ sym c.requires.room) c.args.at c.args.row
    (c.tell-told.ensures.telling c.args.places.now c.args.out.now) n s c.args.earliest
    ((λ k. stops (sym c.tell-told.ensures.value k) c.args.earliest c.args.may_win (sym wins k)) ∙ sym c.stops.ensures ∙ c.if-stops.true)

pub returns-then-is_dead-clause-over : goal.returns-then-is_dead-clause-over
returns-then-is_dead-clause-over c =
    let before = shown c.args.left.now c.args.places.now c.args.out.now in
    let after = shown c.tell-told.new.left c.args.places.now c.args.out.now in
    λ told n s.
    searching-dies c.args.nfa.now c.args.self.now c.args.may_win c.args.text.now told c.args.places.now c.args.best.now c.tell-told.new.best
    before after (shown-length c.tell-told.new.left c.args.places.now c.args.out.now c.requires.room ∙ sym c.requires.room) c.args.at c.args.row
    (c.tell-told.ensures.telling c.args.places.now c.args.out.now) n s c.args.earliest
    (ap (λ (s : Step). goes_on c.args.nfa.now c.args.text.now s c.args.at) (sym c.requires.step)
    ∙ dead-stops c.args.nfa.now c.args.text.now c.args.step c.args.at (c.is_dead.ensures.0 c.if-is_dead.true))

pub returns-then-not-pass-clause-over : goal.returns-then-not-pass-clause-over
returns-then-not-pass-clause-over c =
    let before = shown c.args.left.now c.args.places.now c.args.out.now in
    let after = shown c.tell-told.new.left c.args.places.now c.args.out.now in
    let stays = c.pass.ensures.passed.stays c.if-not-pass.true in
    λ told n s.
    subst (λ o. IsAnswer c.args.nfa.now c.args.earliest told c.tell-told.new.best o) (sym stays.1)
    (searching-dies c.args.nfa.now c.args.self.now c.args.may_win c.args.text.now told c.args.places.now c.args.best.now c.tell-told.new.best
    before after (shown-length c.tell-told.new.left c.args.places.now c.args.out.now c.requires.room ∙ sym c.requires.room) c.args.at c.args.row
    (c.tell-told.ensures.telling c.args.places.now c.args.out.now) n s c.args.earliest
    (ap (λ (s : Step). goes_on c.args.nfa.now c.args.text.now s c.args.at) (sym c.requires.step)
    ∙ alive-goes c.args.nfa.now c.args.text.now c.args.step c.args.at c.pass.result
    (λ e. true≢false (sym (c.is_dead.ensures.1 e) ∙ c.if-is_dead.false)) c.pass.ensures.passed.looks
    ∙ c.if-not-pass.true))

pub returns-clause-on : goal.returns-clause-on
returns-clause-on c =
    let wins = c.match_wins.ensures ∙ ap (λ (s : Step). s.wins) c.requires.step in
    let target = c.target.ensures ∙ ap (λ (s : Step). s.target) c.requires.step in
    let slots = ap (λ (s : Step). s.slots) c.requires.step in
    let before = shown c.args.left.now c.args.places.now c.args.out.now in
    let after = shown c.tell-told.new.left c.args.places.now c.args.out.now in
    let later = shown c.pass.new.left c.pass.new.places c.pass.new.out in
    let goes = c.if-not-pass.false in
    let room = c.pass.ensures.places ∙ c.requires.room ∙ sym c.pass.ensures.out in
    let long = shown-length c.pass.new.left c.pass.new.places c.pass.new.out room ∙ c.pass.ensures.out
    ∙ sym (shown-length c.tell-told.new.left c.args.places.now c.args.out.now c.requires.room) in
    λ told n s.
    subst (λ r. IsSearching c.args.nfa.now c.args.self.now c.args.may_win c.args.text.now told n (c.args.at + 1) r c.pass.new.places c.tell-told.new.best later)
    (sym target)
    (searching-same c.args.nfa.now c.args.self.now c.args.may_win c.args.text.now told n (c.args.at + 1) _ c.pass.new.places c.tell-told.new.best
    later after long (c.pass.ensures.passed.same goes)
    (searching-on c.args.nfa.now c.args.self.now c.args.may_win c.args.text.now told c.args.places.now c.args.best.now c.tell-told.new.best
    before after (shown-length c.tell-told.new.left c.args.places.now c.args.out.now c.requires.room ∙ sym c.requires.room) c.args.at c.args.row
    (c.tell-told.ensures.telling c.args.places.now c.args.out.now) n s c.args.earliest
    ((λ k. stops (sym c.tell-told.ensures.value k) c.args.earliest c.args.may_win (sym wins k)) ∙ sym c.stops.ensures ∙ c.if-stops.false)
    (ap (λ (s : Step). goes_on c.args.nfa.now c.args.text.now s c.args.at) (sym c.requires.step)
    ∙ alive-goes c.args.nfa.now c.args.text.now c.args.step c.args.at c.pass.result
    (λ e. true≢false (sym (c.is_dead.ensures.1 e) ∙ c.if-is_dead.false)) c.pass.ensures.passed.looks
    ∙ goes)
    c.pass.new.places c.pass.ensures.places
    (λ k lt.
    c.pass.ensures.passed.written goes k lt
    ∙ ap (λ b. if bit_at b k == 1 then Some c.args.at else slice_index_or c.args.places.now k None) slots)))
