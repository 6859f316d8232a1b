use Rattle.std.proofs.Common.{◌≡◌, ◌+◌, ◌*◌, ◌<◌, map, length, slice_index, refl, arith, sym, ◌∙◌}
use Rattle.std.specs.Vec.{vec_items}
use Rattle.std.proofs.lemmas.List.{get_or_read}
use Rattle.rx_prefilter.proofs.AutomatonLemmas.{reading-root, reading-within, reading-next, reading-found, reading-missed}
use Rattle.rx_prefilter.proofs.aho_corasick.automaton.Automaton.find.Goals as goal

pub loop-at-init : goal.loop-at-init
loop-at-init c =
    let self = c.args.self.now in
    reading-root (map vec_items self.needles.items) self.next.items self.depths.items c.args.text.now c.args.from c.requires.automaton c.args.from
    c.requires.within refl

pub loop-at-preserved-then-next : goal.loop-at-preserved-then-next
loop-at-preserved-then-next c =
    let self = c.args.self.now in
    let needles = map vec_items self.needles.items in
    let next = self.next.items in
    let depths = self.depths.items in
    let text = c.args.text.now in
    let at = c.loop-at.at in
    let state = c.loop-at.state in
    let reading = c.loop-at.invariant in
    let b = slice_index text at in
    let fits = (c.type_inv.text at).fits in
    let byte : b < 256 = omega (arith, fits) in
    let low : at < length text = omega (arith, c.loop-at-test.true) in
    let within = reading-within needles next depths text c.args.from at state b reading byte in
    let there : c.index-next.result.now ≡ slice_index next (state * 256 + b) =
    get_or_read next (state * 256 + b) c.index-next.result.now within c.index-next.ensures 0 in
    reading-next needles next depths text c.args.from at state b c.index-next.result.now reading low byte refl (sym there) c.if-next.true

pub returns-in-Some : goal.returns-in-Some
returns-in-Some c =
    let self = c.args.self.now in
    let low : c.loop-at.at < length c.args.text.now = omega (arith, c.loop-at-test.true) in
    sym (reading-found (map vec_items self.needles.items) self.next.items self.depths.items c.args.text.now c.args.from c.loop-at.at c.loop-at.state
    c.in-Some.span c.loop-at.invariant
    (omega (arith, low)) (sym c.look_back.ensures ∙ c.in-Some.is))

pub loop-at-preserved : goal.loop-at-preserved
loop-at-preserved c =
    let self = c.args.self.now in
    let low : c.loop-at.at < length c.args.text.now = omega (arith, c.loop-at-test.true) in
    reading-missed (map vec_items self.needles.items) self.next.items self.depths.items c.args.text.now c.args.from c.loop-at.at c.loop-at.state
    c.loop-at.invariant
    low (sym c.look_back.ensures ∙ c.in_default.is)
