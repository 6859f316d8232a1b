use Rattle.std.proofs.Common.{◌≡◌, ◌<◌, length, sym, ◌∙◌, subst, arith, rules}
use Rattle.std.specs.Prelude.{Option, None, IfSome}
use Rattle.std.proofs.lemmas.Result.{IfErr-weaker}
use Rattle.rx_search.specs.Matches.{HalfMatchValue, half_match_value}
use Rattle.rx_search.specs.Told.{HalfLiesIn}
use Rattle.rx_dfa.specs.Search.{IsForwardAnswer, IsLastAnswer, IsAnswerFor}
use Rattle.rx_limited.specs.Stopat.{stop_forwards}
use Rattle.rx_limited.proofs.lemmas.AheadLemmas.{past-stop}
use Rattle.rx_limited.proofs.lemmas.StopLemmas.{answer-by, past-answer, past-last, stop-answer, stop-last, stop-within, stop-range}
use Rattle.rx_limited.proofs.stopat.fwd_stopat.Goals as goal

pub returns-then-is_done-clause-answer : goal.returns-then-is_done-clause-answer
returns-then-is_done-clause-answer g c =
    let d = g.A.Automaton.dfa c.args.dfa.now in
    let v = c.args.input.now in
    let past : v.end < v.start = search rules in
    λ r p leftmost. past-answer d v past r p leftmost

pub returns-then-is_done-clause-last : goal.returns-then-is_done-clause-last
returns-then-is_done-clause-last g c =
    let d = g.A.Automaton.dfa c.args.dfa.now in
    let v = c.args.input.now in
    let past : v.end < v.start = search rules in
    λ every. past-last d v past every

pub returns-then-is_done-clause-told : goal.returns-then-is_done-clause-told
returns-then-is_done-clause-told g c =
    let d = g.A.Automaton.dfa c.args.dfa.now in
    let v = c.args.input.now in
    let past : v.end < v.start = search rules in
    let spanned = c.haystack-haystack.ensures.spanned.end in
    λ r p. answer-by d v spanned None (past-answer d v past) (past-last d v past) r p

pub returns-then-is_done-clause-stopped : goal.returns-then-is_done-clause-stopped
returns-then-is_done-clause-stopped g c =
    let d = g.A.Automaton.dfa c.args.dfa.now in
    let v = c.args.input.now in
    let past : v.end < v.start = search rules in
    c.end.ensures.value ∙ (past-stop d v past).0

pub returns-then-is_done-clause-ticks : goal.returns-then-is_done-clause-ticks
returns-then-is_done-clause-ticks g c =
    let d = g.A.Automaton.dfa c.args.dfa.now in
    let v = c.args.input.now in
    let past : v.end < v.start = search rules in
    let none = (past-stop d v past).1 in λ each. omega (arith, none)

pub returns-in-Ok-clause-answer : goal.returns-in-Ok-clause-answer
returns-in-Ok-clause-answer g c =
    let d = g.A.Automaton.dfa c.args.dfa.now in
    let v = c.args.input.now in
    let spanned = c.haystack-haystack.ensures.spanned.end in
    let reached = c.in-Ok.reached in
    let stop = c.in-Ok.ensures.stopped in
    λ r p leftmost.
    subst (IsForwardAnswer d.nfa v) (sym c.end_or_place.ensures.found) (stop-answer d c.in-Ok.ensures.sound v spanned c.requires.anchored c.args.steps.now c.go_ahead.new.steps reached.0 reached.1 stop r p leftmost)

pub returns-in-Ok-clause-last : goal.returns-in-Ok-clause-last
returns-in-Ok-clause-last g c =
    let d = g.A.Automaton.dfa c.args.dfa.now in
    let v = c.args.input.now in
    let spanned = c.haystack-haystack.ensures.spanned.end in
    let reached = c.in-Ok.reached in
    let stop = c.in-Ok.ensures.stopped in
    λ every.
    subst (IsLastAnswer d.nfa v) (sym c.end_or_place.ensures.found) (stop-last d c.in-Ok.ensures.sound v spanned c.requires.anchored c.args.steps.now c.go_ahead.new.steps reached.0 reached.1 stop every)

pub returns-in-Ok-clause-told : goal.returns-in-Ok-clause-told
returns-in-Ok-clause-told g c =
    let d = g.A.Automaton.dfa c.args.dfa.now in
    let v = c.args.input.now in
    let spanned = c.haystack-haystack.ensures.spanned.end in
    let reached = c.in-Ok.reached in
    let stop = c.in-Ok.ensures.stopped in
    λ r p.
    subst (IsAnswerFor d.kind r v half_match_value) (sym c.end_or_place.ensures.found)
    (answer-by d v spanned reached.0 (stop-answer d c.in-Ok.ensures.sound v spanned c.requires.anchored c.args.steps.now c.go_ahead.new.steps reached.0 reached.1 stop) (stop-last d c.in-Ok.ensures.sound v spanned c.requires.anchored c.args.steps.now c.go_ahead.new.steps reached.0 reached.1 stop) r p)

pub returns-in-Ok-clause-stopped : goal.returns-in-Ok-clause-stopped
returns-in-Ok-clause-stopped g c =
    let d = g.A.Automaton.dfa c.args.dfa.now in
    let v = c.args.input.now in
    let spanned = c.haystack-haystack.ensures.spanned.end in
    let reached = c.in-Ok.reached in
    let stop = c.in-Ok.ensures.stopped in
    IfErr-weaker c.end_or_place.result _ (λ place. place ≡ stop_forwards d v) (λ at h. h.1 ∙ stop.stop h.0) c.end_or_place.ensures.stopped

pub returns-in-Ok-clause-within : goal.returns-in-Ok-clause-within
returns-in-Ok-clause-within g c =
    let d = g.A.Automaton.dfa c.args.dfa.now in
    let v = c.args.input.now in
    let spanned = c.haystack-haystack.ensures.spanned.end in
    let reached = c.in-Ok.reached in
    let stop = c.in-Ok.ensures.stopped in
    subst (λ (o : Option HalfMatchValue). IfSome o (HalfLiesIn v)) (sym c.end_or_place.ensures.found) (stop-within d c.in-Ok.ensures.sound v spanned c.requires.anchored c.args.steps.now c.go_ahead.new.steps reached.0 reached.1 stop)

pub returns-in-Ok-clause-in_range : goal.returns-in-Ok-clause-in_range
returns-in-Ok-clause-in_range g c =
    let d = g.A.Automaton.dfa c.args.dfa.now in
    let v = c.args.input.now in
    let spanned = c.haystack-haystack.ensures.spanned.end in
    let reached = c.in-Ok.reached in
    let stop = c.in-Ok.ensures.stopped in
    subst (λ (o : Option HalfMatchValue). IfSome o (λ h. h.pattern < length d.nfa.starts)) (sym c.end_or_place.ensures.found)
    (stop-range d c.in-Ok.ensures.sound v spanned c.requires.anchored c.args.steps.now c.go_ahead.new.steps reached.0 reached.1 stop)

pub returns-in-Ok-clause-ticks : goal.returns-in-Ok-clause-ticks
returns-in-Ok-clause-ticks g c =
    let d = g.A.Automaton.dfa c.args.dfa.now in
    let v = c.args.input.now in
    let spanned = c.haystack-haystack.ensures.spanned.end in
    let reached = c.in-Ok.reached in
    let stop = c.in-Ok.ensures.stopped in
    λ each. stop.ticks each
