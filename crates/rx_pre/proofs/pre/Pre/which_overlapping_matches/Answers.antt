use Rattle.std.proofs.Common.{List, subst, sym}
use Rattle.std.specs.Prelude.{Bool, None}
use Rattle.rx_search.specs.Sets.{AddsMatching, IsFilled}
use Rattle.rx_search.specs.declared.anchored.MatchKind.TheVariants.{LeftmostFirst}
use Rattle.rx_pre.specs.Pre.{IsPreFor}
use Rattle.rx_pre.proofs.AnswerLemmas.{one-adds, one-fills}
use Rattle.rx_pre.proofs.pre.Pre.which_overlapping_matches.Goals as goal

pub returns-then-is_match-clause-matching : goal.returns-then-is_match-clause-matching
returns-then-is_match-clause-matching c =
    let p = c.args.self.now in
    let v = c.args.input.now in
    let old = c.args.set.now in
    subst (λ (new : List Bool). AddsMatching (λ r. IsPreFor p r) None v old new) (sym c.insert.ensures.set)
    (one-adds p v c.is_match.result c.is_match.ensures.value old c.requires.room c.if-is_match.true)

pub returns-then-is_match-clause-filled : goal.returns-then-is_match-clause-filled
returns-then-is_match-clause-filled c =
    let p = c.args.self.now in
    let v = c.args.input.now in
    let old = c.args.set.now in
    subst (λ (new : List Bool). IsFilled (λ r. IsPreFor p r) None v old new LeftmostFirst) (sym c.insert.ensures.set)
    (one-fills p v c.is_match.result c.is_match.ensures.value old c.requires.room c.if-is_match.true)
