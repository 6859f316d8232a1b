use Rattle.std.proofs.Common.{◌≡◌, ◌<◌, length, sym, ap, ◌∙◌, subst}
use Rattle.std.specs.Prelude.{Option, IfSome}
use Rattle.rx_model.specs.Search.{anchored, is_anchored}
use Rattle.rx_search.specs.Input.{InputValue}
use Rattle.rx_search.specs.Matches.{MatchValue, match_value}
use Rattle.rx_search.specs.Told.{LiesIn, HalfLiesIn}
use Rattle.rx_dfa.specs.Search.{IsReverseAnswer, IsAnswerFor}
use Rattle.rx_dfa.proofs.lemmas.BothLemmas.{not-anchored}
use Rattle.rx_strategy.proofs.EndingLemmas.{from_end, ending-answer, ending-lies, ending-range}
use Rattle.rx_strategy.proofs.dfas.ending.ending.Goals as goal

pub try_search_half_rev-requires-clause-anchored : goal.try_search_half_rev-requires-clause-anchored
try_search_half_rev-requires-clause-anchored g c = ap (λ (w : InputValue). is_anchored w.anchor) c.anchored-first.ensures

pub to_end-requires : goal.to_end-requires
to_end-requires g c =
    let first : c.anchored-first.result ≡ from_end c.args.input.now =
    c.anchored-first.ensures ∙ ap (λ (x : InputValue). record x { anchor = anchored }) c.clone.ensures.value in
    subst (λ (w : InputValue). IfSome c.in-Ok.found (HalfLiesIn w)) first c.in-Ok.ensures.within

pub returns-in-Ok-clause-answer : goal.returns-in-Ok-clause-answer
returns-in-Ok-clause-answer g c = λ kind r starts ends.
    let v = c.args.input.now in
    let d = g.B.Automaton.dfa c.args.backward.now in
    let first : c.anchored-first.result ≡ from_end v =
    c.anchored-first.ensures ∙ ap (λ (x : InputValue). record x { anchor = anchored }) c.clone.ensures.value in
    subst (λ (o : Option MatchValue). IsAnswerFor kind r v match_value o) (sym c.to_end.ensures)
    (ending-answer d r v starts ends (not-anchored v.anchor c.requires.free) kind c.in-Ok.found
    (subst (λ (w : InputValue). IsReverseAnswer d.nfa r w c.in-Ok.found) first (c.in-Ok.ensures.answer r starts.runs starts.kind)))

pub returns-in-Ok-clause-within : goal.returns-in-Ok-clause-within
returns-in-Ok-clause-within g c =
    let v = c.args.input.now in
    let first : c.anchored-first.result ≡ from_end v =
    c.anchored-first.ensures ∙ ap (λ (x : InputValue). record x { anchor = anchored }) c.clone.ensures.value in
    subst (λ (o : Option MatchValue). IfSome o (LiesIn v)) (sym c.to_end.ensures)
    (ending-lies v c.in-Ok.found (subst (λ (w : InputValue). IfSome c.in-Ok.found (HalfLiesIn w)) first c.in-Ok.ensures.within))

pub returns-in-Ok-clause-in_range : goal.returns-in-Ok-clause-in_range
returns-in-Ok-clause-in_range g c =
    let v = c.args.input.now in
    let d = g.B.Automaton.dfa c.args.backward.now in
    subst (λ (o : Option MatchValue). IfSome o (λ m. m.pattern < length d.nfa.starts)) (sym c.to_end.ensures)
    (ending-range v (length d.nfa.starts) c.in-Ok.found c.in-Ok.ensures.in_range)
