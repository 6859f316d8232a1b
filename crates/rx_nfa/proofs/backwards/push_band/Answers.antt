use Rattle.std.proofs.Common.{◌≡◌, ◌+◌, ◌∙◌, sym, ap, subst, arith, length}
use Rattle.std.specs.Prelude.{All, OnOk}
use Rattle.std.proofs.lemmas.Result.{on_ok_weaker}
use Rattle.rx_nfa.specs.Built.{AddsParts}
use Rattle.rx_nfa.specs.Directed.{build_digits}
use Rattle.rx_nfa.specs.Digits.{FitsDigits, states_of_digits}
use Rattle.rx_nfa.specs.Ranges.{clip}
use Rattle.rx_nfa.proofs.lemmas.classes.ClassLemmas.{RisesFrom-clip, StaysBelow-clip}
use Rattle.rx_nfa.proofs.lemmas.classes.RangesLemmas.{AreScalarRanges-rise}
use Rattle.rx_nfa.proofs.lemmas.parts.CountLemmas.{digits-accounted}
use Rattle.rx_nfa.proofs.lemmas.parts.LastLemmas.{ranges-fit}
use Rattle.rx_nfa.proofs.backwards.push_band.Goals as goal

pub push_digits-requires-clause-digits : goal.push_digits-requires-clause-digits
push_digits-requires-clause-digits c =
    let is = c.deref.ensures.value ∙ c.in_ok-parts.ensures in
    subst (All (FitsDigits c.args.band.lead c.args.band.depth)) (sym is)
    (ranges-fit c.args.band.lead c.args.band.depth c.args.band.high 0 (clip c.args.band.low c.args.band.high c.args.ranges.now) c.requires.small
    (RisesFrom-clip c.args.band.low c.args.band.high c.requires.ordered 0 c.args.ranges.now (AreScalarRanges-rise c.args.ranges.now c.requires.fewest))
    (StaysBelow-clip c.args.band.low c.args.band.high c.requires.ordered c.args.ranges.now))

pub push_digits-requires-clause-fits : goal.push_digits-requires-clause-fits
push_digits-requires-clause-fits c =
    let is = c.deref.ensures.value ∙ c.in_ok-parts.ensures in
    let states = ap (states_of_digits c.args.band.depth) is in
    let most = digits-accounted c.args.band.depth (clip c.args.band.low c.args.band.high c.args.ranges.now) c.requires.deep in
    let fits = c.requires.fits in
    omega arith

pub returns-clause-adds : goal.returns-clause-adds
returns-clause-adds c =
    let is = c.deref.ensures.value ∙ c.in_ok-parts.ensures in
    subst
    (λ rs. OnOk c.push_digits.result (AddsParts (build_digits c.args.band.lead c.args.band.depth rs) c.args.next c.args.builder.now c.push_digits.new.builder
    c.args.starts.now.items c.push_digits.new.starts.items)) is c.push_digits.ensures.adds

pub returns-clause-count : goal.returns-clause-count
returns-clause-count c =
    let is = c.deref.ensures.value ∙ c.in_ok-parts.ensures in
    let states = ap (states_of_digits c.args.band.depth) is in
    let most = digits-accounted c.args.band.depth (clip c.args.band.low c.args.band.high c.args.ranges.now) c.requires.deep in
    on_ok_weaker c.push_digits.result
    (λ (grown : length c.push_digits.new.builder.states
    ≡ length c.args.builder.now.states + states_of_digits c.args.band.depth c.deref.result.now). omega arith)
    c.push_digits.ensures.count
