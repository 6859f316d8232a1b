use Rattle.std.proofs.Common.{◌≡◌, ◌+◌, ◌/◌, ◌<◌, inl, [], ◌∷◌, length, refl, sym, ◌∙◌, ap, subst, arith}
use Rattle.std.proofs.lemmas.Bool.Decides.{Decides-eqb}
use Rattle.std.proofs.lemmas.Option.{slice_get_within, slice_get_read}
use Rattle.std.proofs.lemmas.Result.{on_ok_weaker}
use Rattle.std.specs.Prelude.{Some, slice_get}
use Rattle.rx_dfa.specs.Automaton.{IsReadable}
use Rattle.rx_dfa.specs.Lazy.{dead_state, row_of, key_after}
use Rattle.rx_dfa.proofs.lemmas.ClearingLemmas.{grown-kept}
use Rattle.rx_dfa.proofs.lemmas.HeldLemmas.{dead-after, held-dead, held-row, alive-apart, asked-known, cell-of, stands-still}
use Rattle.rx_dfa.proofs.lemmas.RowsLemmas.{on-ok}
use Rattle.rx_dfa.proofs.lemmas.StepLemmas.{dead-alive, step-room}
use Rattle.rx_dfa.proofs.lazy.lazy_dfa.Lazy.step.Goals as goal

pub returns-then-is_dead_state-clause-next : goal.returns-then-is_dead_state-clause-next
returns-then-is_dead_state-clause-next c key h =
    let l = c.args.self.now in
    let e : c.args.state ≡ dead_state = (Decides-eqb c.args.state dead_state).0 (sym c.is_dead_state.ensures ∙ c.if-is_dead_state.true) in
    inl (record { dead = dead-after l.dfa key (held-dead _ _ c.args.state key h e) c.args.byte; is = e })

pub returns-then-is_dead_state-clause-stays : goal.returns-then-is_dead_state-clause-stays
returns-then-is_dead_state-clause-stays c key h = (c.args.state, h)

pub returns-then-is_dead_state-clause-grown : goal.returns-then-is_dead_state-clause-grown
returns-then-is_dead_state-clause-grown c key h =
    let r = c.args.cache.now.rows in
    grown-kept c.args.self.now (key ∷ []) (key_after c.args.self.now.dfa key c.args.byte) r.since _ r r refl refl

pub index-known-requires : goal.index-known-requires
index-known-requires c =
    let r = c.args.cache.now.rows in
    let of = c.column-column.ensures in
    let apart = alive-apart c.args.state (sym c.is_dead_state.ensures ∙ c.if-is_dead_state.false) in
    let cell =
    cell-of c.args.self.now of.sound r c.requires.fits.rows c.args.state c.requires.held.0 c.requires.held.1 apart c.args.byte c.requires.small
    c.column-column.result of.value of.within c.place_of-place.result c.place_of-place.ensures in
    let lt : c.place_of-place.result + c.column-column.result < length r.cells.items = cell.0 in
    omega (arith, r.cells.ok.0)

pub returns-then-is_known-clause-next : goal.returns-then-is_known-clause-next
returns-then-is_known-clause-next c key h =
    let r = c.args.cache.now.rows in
    let of = c.column-column.ensures in
    let apart = alive-apart c.args.state (sym c.is_dead_state.ensures ∙ c.if-is_dead_state.false) in
    let cell =
    cell-of c.args.self.now of.sound r c.requires.fits.rows c.args.state key h apart c.args.byte c.requires.small c.column-column.result of.value of.within
    c.place_of-place.result c.place_of-place.ensures in
    let index = c.place_of-place.result + c.column-column.result in
    let known = c.index-known.result.now in
    let got : slice_get r.cells.items index ≡ Some known = slice_get_read r.cells.items (length r.cells.items) index known refl cell.0 c.index-known.ensures in
    (cell.1 known got (asked-known known (sym c.is_known.ensures ∙ c.if-is_known.true))).0

pub returns-then-is_known-clause-readable : goal.returns-then-is_known-clause-readable
returns-then-is_known-clause-readable c key h alive =
    let r = c.args.cache.now.rows in
    let of = c.column-column.ensures in
    let apart = alive-apart c.args.state (sym c.is_dead_state.ensures ∙ c.if-is_dead_state.false) in
    let cell =
    cell-of c.args.self.now of.sound r c.requires.fits.rows c.args.state key h apart c.args.byte c.requires.small c.column-column.result of.value of.within
    c.place_of-place.result c.place_of-place.ensures in
    let index = c.place_of-place.result + c.column-column.result in
    let known = c.index-known.result.now in
    let got : slice_get r.cells.items index ≡ Some known = slice_get_read r.cells.items (length r.cells.items) index known refl cell.0 c.index-known.ensures in
    (cell.1 known got (asked-known known (sym c.is_known.ensures ∙ c.if-is_known.true))).1

pub returns-then-is_known-clause-stays : goal.returns-then-is_known-clause-stays
returns-then-is_known-clause-stays c key h = (c.args.state, h)

pub returns-then-is_known-clause-grown : goal.returns-then-is_known-clause-grown
returns-then-is_known-clause-grown c key h =
    let r = c.args.cache.now.rows in
    grown-kept c.args.self.now (key ∷ []) (key_after c.args.self.now.dfa key c.args.byte) r.since _ r r refl refl

pub returns-in-Some-clause-grown : goal.returns-in-Some-clause-grown
returns-in-Some-clause-grown c key h =
    let r = c.args.cache.now.rows in
    grown-kept c.args.self.now (key ∷ []) (key_after c.args.self.now.dfa key c.args.byte) r.since _ r r refl refl

pub make_step-requires-clause-row : goal.make_step-requires-clause-row
make_step-requires-clause-row c =
    let l = c.args.self.now in
    let r = c.args.cache.now.rows in
    let state = c.args.state in
    let apart = alive-apart state (sym c.is_dead_state.ensures ∙ c.if-is_dead_state.false) in
    let held = held-row l.stride r.keys state c.requires.held.0 c.requires.held.1 apart in
    let row : c.place_of-place.result / c.stride.result ≡ row_of l.stride state = λ j. c.place_of-place.ensures j / c.stride.ensures.value j in
    subst (λ n. n < length r.keys) (sym row) (slice_get_within r.keys (row_of l.stride state) c.requires.held.0 held.0)

pub returns-clause-next : goal.returns-clause-next
returns-clause-next c key h =
    let l = c.args.self.now in
    let r = c.args.cache.now.rows in
    let state = c.args.state in
    let apart = alive-apart state (sym c.is_dead_state.ensures ∙ c.if-is_dead_state.false) in
    let held = held-row l.stride r.keys state key h apart in
    let row : c.place_of-place.result / c.stride.result ≡ row_of l.stride state = λ j. c.place_of-place.ensures j / c.stride.ensures.value j in
    c.make_step.ensures.next key (ap (slice_get r.keys) row ∙ held.0)

pub returns-clause-readable : goal.returns-clause-readable
returns-clause-readable c key h alive = on-ok c.make_step.result _ c.in_default.ensures.none

pub returns-clause-stays : goal.returns-clause-stays
returns-clause-stays c key h =
    let l = c.args.self.now in
    let r = c.args.cache.now.rows in
    let state = c.args.state in
    let new = c.make_step.new.cache.rows in
    let apart = alive-apart state (sym c.is_dead_state.ensures ∙ c.if-is_dead_state.false) in
    let held = held-row l.stride r.keys state key h apart in
    let row : c.place_of-place.result / c.stride.result ≡ row_of l.stride state = λ j. c.place_of-place.ensures j / c.stride.ensures.value j in
    on_ok_weaker c.make_step.result
    (λ stays. stands-still l c.column-column.ensures.sound new c.make_step.ensures.fits.rows stays.0 key stays.1)
    (c.make_step.ensures.stays key (ap (slice_get r.keys) row ∙ held.0))

pub returns-clause-grown : goal.returns-clause-grown
returns-clause-grown c key h =
    let l = c.args.self.now in
    let r = c.args.cache.now.rows in
    let state = c.args.state in
    let apart = alive-apart state (sym c.is_dead_state.ensures ∙ c.if-is_dead_state.false) in
    let held = held-row l.stride r.keys state key h apart in
    let row : c.place_of-place.result / c.stride.result ≡ row_of l.stride state = λ j. c.place_of-place.ensures j / c.stride.ensures.value j in
    c.make_step.ensures.grown key (ap (slice_get r.keys) row ∙ held.0)

pub returns-clause-full : goal.returns-clause-full
returns-clause-full c key h =
    let l = c.args.self.now in
    let r = c.args.cache.now.rows in
    let state = c.args.state in
    let apart = alive-apart state (sym c.is_dead_state.ensures ∙ c.if-is_dead_state.false) in
    let held = held-row l.stride r.keys state key h apart in
    let row : c.place_of-place.result / c.stride.result ≡ row_of l.stride state = λ j. c.place_of-place.ensures j / c.stride.ensures.value j in
    c.make_step.ensures.full key (ap (slice_get r.keys) row ∙ held.0)

pub returns-then-is_dead_state-clause-readable : goal.returns-then-is_dead_state-clause-readable
returns-then-is_dead_state-clause-readable c key h alive =
    let e : c.args.state ≡ dead_state = (Decides-eqb c.args.state dead_state).0 (sym c.is_dead_state.ensures ∙ c.if-is_dead_state.true) in
    dead-alive c.args.self.now.stride c.args.cache.now.rows.keys c.args.state key h e alive (IsReadable c.args.self.now.dfa.nfa c.args.byte)

pub returns-then-is_dead_state-clause-err : goal.returns-then-is_dead_state-clause-err
returns-then-is_dead_state-clause-err c = tt

pub returns-then-is_dead_state-clause-full : goal.returns-then-is_dead_state-clause-full
returns-then-is_dead_state-clause-full c key h = tt

pub returns-then-is_dead_state-clause-counted : goal.returns-then-is_dead_state-clause-counted
returns-then-is_dead_state-clause-counted c = tt

pub returns-then-is_dead_state-clause-fits : goal.returns-then-is_dead_state-clause-fits
returns-then-is_dead_state-clause-fits c = c.requires.fits

pub returns-then-is_known-clause-err : goal.returns-then-is_known-clause-err
returns-then-is_known-clause-err c = tt

pub returns-then-is_known-clause-full : goal.returns-then-is_known-clause-full
returns-then-is_known-clause-full c key h = tt

pub returns-then-is_known-clause-counted : goal.returns-then-is_known-clause-counted
returns-then-is_known-clause-counted c = tt

pub returns-then-is_known-clause-fits : goal.returns-then-is_known-clause-fits
returns-then-is_known-clause-fits c = c.requires.fits

pub returns-in-Some-clause-next : goal.returns-in-Some-clause-next
returns-in-Some-clause-next c key h = tt

pub returns-in-Some-clause-readable : goal.returns-in-Some-clause-readable
returns-in-Some-clause-readable c key h alive = tt

pub returns-in-Some-clause-err : goal.returns-in-Some-clause-err
returns-in-Some-clause-err c = c.in-Some.ensures.some

pub returns-in-Some-clause-full : goal.returns-in-Some-clause-full
returns-in-Some-clause-full c key h = tt

pub returns-in-Some-clause-stays : goal.returns-in-Some-clause-stays
returns-in-Some-clause-stays c key h = tt

pub returns-in-Some-clause-counted : goal.returns-in-Some-clause-counted
returns-in-Some-clause-counted c = tt

pub returns-in-Some-clause-fits : goal.returns-in-Some-clause-fits
returns-in-Some-clause-fits c = c.requires.fits

pub make_step-requires-clause-fits : goal.make_step-requires-clause-fits
make_step-requires-clause-fits c = c.requires.fits

pub make_step-requires-clause-small : goal.make_step-requires-clause-small
make_step-requires-clause-small c = c.requires.small

pub make_step-requires-clause-readable : goal.make_step-requires-clause-readable
make_step-requires-clause-readable c = c.in_default.ensures.none

pub returns-clause-err : goal.returns-clause-err
returns-clause-err c = step-room c.args.self.now c.make_step.new.cache.rows c.args.byte c.make_step.result c.make_step.ensures.err

pub returns-clause-counted : goal.returns-clause-counted
returns-clause-counted c = c.make_step.ensures.counted

pub returns-clause-fits : goal.returns-clause-fits
returns-clause-fits c = c.make_step.ensures.fits
