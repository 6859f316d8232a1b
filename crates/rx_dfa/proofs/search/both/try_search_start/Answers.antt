use Rattle.std.proofs.Common.{◌≡◌, sym, ◌∙◌, ap, subst, arith}
use Rattle.std.specs.Prelude.{Option, Some}
use Rattle.rx_model.specs.Search.{is_anchored}
use Rattle.rx_search.specs.Answer.{half_of}
use Rattle.rx_search.specs.Input.{InputValue}
use Rattle.rx_search.specs.Matches.{MatchValue, HalfMatchValue, match_value}
use Rattle.rx_search.specs.Told.{LiesIn, HalfLiesIn}
use Rattle.rx_dfa.specs.Search.{SearchFails, IsReverseAnswer, IsAnswerFor, part_of}
use Rattle.rx_dfa.proofs.lemmas.BothLemmas.{anchored-answer, free-answer, never-none, not-anchored, part-fails}
use Rattle.rx_dfa.proofs.search.both.try_search_start.Goals as goal

pub returns-then-is_anchored-clause-answer : goal.returns-then-is_anchored-clause-answer
returns-then-is_anchored-clause-answer g c = λ kind r starts utf8 f.
    let v = c.args.input.now in
    subst (λ (m : MatchValue). IsAnswerFor kind r v match_value (Some m)) (sym c.from_start.ensures)
    (anchored-answer kind r v c.args.end f (ap is_anchored (sym c.get_anchored.ensures) ∙ sym c.is_anchored.ensures ∙ c.if-is_anchored.true))

pub returns-then-is_anchored-clause-half : goal.returns-then-is_anchored-clause-half
returns-then-is_anchored-clause-half g c = ap half_of c.from_start.ensures

pub returns-then-is_anchored-clause-within : goal.returns-then-is_anchored-clause-within
returns-then-is_anchored-clause-within g c =
    let v = c.args.input.now in
    subst (LiesIn v) (sym c.from_start.ensures) (omega arith, c.requires.lies.1)

pub try_search_half_rev-requires-clause-anchored : goal.try_search_half_rev-requires-clause-anchored
try_search_half_rev-requires-clause-anchored g c = ap (λ (w : InputValue). is_anchored w.anchor) c.up_to-part.ensures

pub returns-in-Err-clause-err : goal.returns-in-Err-clause-err
returns-in-Err-clause-err g c =
    let v = c.args.input.now in
    let rev = (g.B.Automaton.dfa c.args.rev.now).nfa in
    let gives_up = g.B.Automaton.gives_up c.args.rev.now c.try_search_half_rev.new.cache in
    let wants = g.B.Automaton.wants c.args.rev.now in
    part-fails rev v c.args.end gives_up wants c.in-Err.error c.requires.lies.1
    (subst (λ (w : InputValue). SearchFails rev w gives_up wants c.in-Err.error) c.up_to-part.ensures c.in-Err.ensures.err)

pub returns-in_default-clause-answer : goal.returns-in_default-clause-answer
returns-in_default-clause-answer g c = λ kind r starts utf8 f.
    let v = c.args.input.now in
    let d = g.B.Automaton.dfa c.args.rev.now in
    let is_free = not-anchored v.anchor (ap is_anchored (sym c.get_anchored.ensures) ∙ sym c.is_anchored.ensures ∙ c.if-is_anchored.false) in
    absurd (never-none kind r v c.args.end f d starts utf8 is_free
    (subst (λ (o : Option HalfMatchValue). IsReverseAnswer d.nfa r (part_of v c.args.end) o) c.in_default.is
    (subst (λ (w : InputValue). IsReverseAnswer d.nfa r w c.in-Ok.begins) c.up_to-part.ensures (c.in-Ok.ensures.answer r starts.runs starts.kind))))

pub from_half-requires : goal.from_half-requires
from_half-requires g c =
    let within : HalfLiesIn c.up_to-part.result c.in-Some.first = rw c.in-Some.is at c.in-Ok.ensures.within in
    let high = within.1 in
    let end : c.up_to-part.result.end ≡ c.args.end.offset = ap (λ (w : InputValue). w.end) c.up_to-part.ensures in
    omega arith

pub returns-clause-answer : goal.returns-clause-answer
returns-clause-answer g c = λ kind r starts utf8 f.
    let v = c.args.input.now in
    let d = g.B.Automaton.dfa c.args.rev.now in
    let is_free = not-anchored v.anchor (ap is_anchored (sym c.get_anchored.ensures) ∙ sym c.is_anchored.ensures ∙ c.if-is_anchored.false) in
    subst (λ (m : MatchValue). IsAnswerFor kind r v match_value (Some m)) (sym c.from_half.ensures)
    (free-answer kind r v c.args.end f d starts utf8 is_free c.requires.lies.1 c.in-Some.first
    (subst (λ (o : Option HalfMatchValue). IsReverseAnswer d.nfa r (part_of v c.args.end) o) c.in-Some.is
    (subst (λ (w : InputValue). IsReverseAnswer d.nfa r w c.in-Ok.begins) c.up_to-part.ensures (c.in-Ok.ensures.answer r starts.runs starts.kind))))

pub returns-clause-half : goal.returns-clause-half
returns-clause-half g c = ap half_of c.from_half.ensures

pub returns-clause-within : goal.returns-clause-within
returns-clause-within g c =
    let v = c.args.input.now in
    let part : HalfLiesIn c.up_to-part.result c.in-Some.first = rw c.in-Some.is at c.in-Ok.ensures.within in
    let low = part.0 in
    let start : c.up_to-part.result.start ≡ v.start = ap (λ (w : InputValue). w.start) c.up_to-part.ensures in
    subst (LiesIn v) (sym c.from_half.ensures) (omega arith, c.requires.lies.1)
