use Rattle.std.proofs.Common.{◌≤◌, ◌<◌, length, sym, ap, subst, rules}
use Rattle.std.specs.Prelude.{Option, IfSome}
use Rattle.rx_search.specs.Matches.{HalfMatchValue}
use Rattle.rx_search.specs.Told.{HalfLiesIn}
use Rattle.rx_determinize.specs.Permitted.{Progress}
use Rattle.rx_dfa.specs.Search.{IsReverseAnswer}
use Rattle.rx_dfa.proofs.lemmas.BackwardLemmas.{reverse-answer, reverse-past, behind-within}
use Rattle.rx_dfa.proofs.lemmas.PatternLemmas.{backwards-below, if-below}
use Rattle.rx_dfa.proofs.search.reverse.find_start.Goals as goal

pub returns-then-is_done-clause-answer : goal.returns-then-is_done-clause-answer
returns-then-is_done-clause-answer g c = λ r runs all.
    let v = c.args.input.now in
    let past : v.end < v.start = search rules in
    reverse-past (g.A.Automaton.dfa c.args.dfa.now).nfa r v past

pub returns-in-Ok-clause-answer : goal.returns-in-Ok-clause-answer
returns-in-Ok-clause-answer g c = λ r runs all.
    let v = c.args.input.now in
    let in_order : v.start ≤ v.end = search rules in
    subst (λ (o : Option HalfMatchValue). IsReverseAnswer (g.A.Automaton.dfa c.args.dfa.now).nfa r v o) (sym (ap (λ (x : Progress). x.best) c.met.view_is))
    (reverse-answer (g.A.Automaton.dfa c.args.dfa.now) c.in-Ok.ensures.sound all v in_order c.haystack-haystack.ensures.spanned.end c.requires.anchored
    c.in-Ok.met c.in-Ok.ensures.met r runs)

pub returns-in-Ok-clause-within : goal.returns-in-Ok-clause-within
returns-in-Ok-clause-within g c =
    let v = c.args.input.now in
    let in_order : v.start ≤ v.end = search rules in
    subst (λ (o : Option HalfMatchValue). IfSome o (HalfLiesIn v)) (sym (ap (λ (x : Progress). x.best) c.met.view_is))
    (behind-within (g.A.Automaton.dfa c.args.dfa.now) v in_order c.haystack-haystack.ensures.spanned.end c.in-Ok.met c.in-Ok.ensures.met)

pub returns-in-Ok-clause-in_range : goal.returns-in-Ok-clause-in_range
returns-in-Ok-clause-in_range g c =
    let d = g.A.Automaton.dfa c.args.dfa.now in
    let below = backwards-below d c.in-Ok.ensures.sound c.args.input.now c.in-Ok.met c.in-Ok.ensures.met in
    subst (λ (o : Option HalfMatchValue). IfSome o (λ h. h.pattern < length d.nfa.starts)) (sym (ap (λ (x : Progress). x.best) c.met.view_is))
    (if-below (length d.nfa.starts) c.in-Ok.met.best below)
