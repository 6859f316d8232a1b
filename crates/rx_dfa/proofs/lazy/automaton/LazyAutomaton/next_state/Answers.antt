use Rattle.std.proofs.Common.{◌≡◌, ◌+◌, ◌<◌, [], ◌∷◌, length, refl, sym, ◌∙◌, subst, arith}
use Rattle.std.proofs.lemmas.Option.{slice_get_read}
use Rattle.std.proofs.lemmas.Result.{IfErr-weaker}
use Rattle.std.specs.Prelude.{Some, slice_get}
use Rattle.rx_dfa.specs.Automaton.{next_key}
use Rattle.rx_dfa.specs.Clearing.{IsGrown}
use Rattle.rx_dfa.proofs.lemmas.ClearingLemmas.{grown-kept, counts-steps}
use Rattle.rx_dfa.proofs.lemmas.HeldLemmas.{plain-apart, plain-known, cell-of}
use Rattle.rx_dfa.proofs.lazy.automaton.LazyAutomaton.next_state.Goals as goal

pub index-next-requires : goal.index-next-requires
index-next-requires g c =
    let r = c.args.cache.now.rows in
    let of = c.column-column.ensures in
    let plain = plain-apart c.args.state (sym c.is_plain.ensures ∙ c.if-is_plain.true) in
    let byte : c.args.byte < 256 = omega (arith, c.ranges.byte) in
    let cell =
    cell-of c.args.self.now of.sound r c.requires.fits.rows c.args.state c.requires.held.0 c.requires.held.1 plain.0 (Some c.args.byte) byte
    c.column-column.result of.value of.within c.as_usize.result (c.as_usize.ensures.value ∙ plain.1) in
    let lt : c.as_usize.result + c.column-column.result < length r.cells.items = cell.0 in
    omega (arith, r.cells.ok.0)

pub returns-then-is_plain-2-clause-next : goal.returns-then-is_plain-2-clause-next
returns-then-is_plain-2-clause-next g c key h =
    let r = c.args.cache.now.rows in
    let of = c.column-column.ensures in
    let plain = plain-apart c.args.state (sym c.is_plain.ensures ∙ c.if-is_plain.true) in
    let byte : c.args.byte < 256 = omega (arith, c.ranges.byte) in
    let cell =
    cell-of c.args.self.now of.sound r c.requires.fits.rows c.args.state key h plain.0 (Some c.args.byte) byte c.column-column.result of.value of.within
    c.as_usize.result (c.as_usize.ensures.value ∙ plain.1) in
    let index = c.as_usize.result + c.column-column.result in
    let known = c.index-next.result.now in
    let got : slice_get r.cells.items index ≡ Some known = slice_get_read r.cells.items (length r.cells.items) index known refl cell.0 c.index-next.ensures in
    (cell.1 known got (plain-known known (sym c.is_plain-then-is_plain.ensures ∙ c.if-is_plain-2.true))).0

pub returns-then-is_plain-2-clause-readable : goal.returns-then-is_plain-2-clause-readable
returns-then-is_plain-2-clause-readable g c key h alive =
    let r = c.args.cache.now.rows in
    let of = c.column-column.ensures in
    let plain = plain-apart c.args.state (sym c.is_plain.ensures ∙ c.if-is_plain.true) in
    let byte : c.args.byte < 256 = omega (arith, c.ranges.byte) in
    let cell =
    cell-of c.args.self.now of.sound r c.requires.fits.rows c.args.state key h plain.0 (Some c.args.byte) byte c.column-column.result of.value of.within
    c.as_usize.result (c.as_usize.ensures.value ∙ plain.1) in
    let index = c.as_usize.result + c.column-column.result in
    let known = c.index-next.result.now in
    let got : slice_get r.cells.items index ≡ Some known = slice_get_read r.cells.items (length r.cells.items) index known refl cell.0 c.index-next.ensures in
    (cell.1 known got (plain-known known (sym c.is_plain-then-is_plain.ensures ∙ c.if-is_plain-2.true))).1

pub returns-then-is_plain-2-clause-stays : goal.returns-then-is_plain-2-clause-stays
returns-then-is_plain-2-clause-stays g c key h = (c.args.state, h)

pub returns-then-is_plain-2-clause-grown : goal.returns-then-is_plain-2-clause-grown
returns-then-is_plain-2-clause-grown g c key h =
    let r = c.args.cache.now.rows in
    grown-kept c.args.self.now (key ∷ []) (next_key c.args.self.now.dfa key c.args.byte) r.since _ r r refl refl

pub returns-clause-grown : goal.returns-clause-grown
returns-clause-grown g c key h =
    let l = c.args.self.now in
    let old = c.args.cache.now.rows in
    let new = c.step.new.cache.rows in
    subst (λ taken. IsGrown l (key ∷ []) (next_key l.dfa key c.args.byte) old.since (Some taken) old new) c.taken.ensures (c.step.ensures.grown key h)

pub returns-clause-counted : goal.returns-clause-counted
returns-clause-counted g c =
    IfErr-weaker c.step.result _ _
    (λ e p. counts-steps c.args.cache.now.rows c.step.new.cache.rows c.tick.new.self c.taken.result e c.taken.ensures p)
    c.step.ensures.counted
