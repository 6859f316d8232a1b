use Rattle.std.proofs.Common.{◌≡◌, length, take, arith, sym, ap, subst, length-take-le}
use Rattle.std.specs.Prelude.{is_some}
use Rattle.rx_prefilter.specs.Needles.{IsFirstSpan}
use Rattle.rx_prefilter.proofs.FirstLemmas.{first_span-is_first}
use Rattle.rx_engines.proofs.lemmas.candidates.NeedleLemmas.{span_at-within}
use Rattle.rx_engines.proofs.candidates.next_needle.Goals as goal

pub returns-in-Some : goal.returns-in-Some
returns-in-Some c =
    let needles = c.args.prefilter.now in
    let text = take c.args.end c.args.text.now in
    let first = subst (IsFirstSpan needles text c.args.place) (sym c.in-Some.ensures) (first_span-is_first needles text c.args.place) in
    let long : length text ≡ c.args.end = length-take-le c.args.end c.args.text.now c.requires.1 in
    let within = span_at-within needles text c.in-Some.span.start c.in-Some.span first.2 in
    (first.0, omega arith, λ j low high. ap is_some (first.1 j low high), ap is_some first.2)

pub returns-in-None : goal.returns-in-None
returns-in-None c =
    let needles = c.args.prefilter.now in
    let text = take c.args.end c.args.text.now in
    let first = subst (IsFirstSpan needles text c.args.place) (sym c.in-None.ensures) (first_span-is_first needles text c.args.place) in
    let long : length text ≡ c.args.end = length-take-le c.args.end c.args.text.now c.requires.1 in
    λ j low high. ap is_some (first j low (omega arith))
