use Rattle.std.proofs.Common.{◌≡◌, ◌≤◌, ◌+◌, ◌-◌, ◌∙◌, ap, subst, arith, rules}
use Rattle.std.specs.Prelude.{Option, Some, None, IfSome}
use Rattle.rx_search.specs.Input.{InputValue}
use Rattle.rx_search.specs.Matches.{HalfMatchValue}
use Rattle.rx_search.specs.Told.{HalfLiesIn}
use Rattle.rx_limited.specs.Calls.{calls_backwards}
use Rattle.rx_limited.specs.Limited.{FindsStart, IsWithin}
use Rattle.rx_attempts.specs.Inputs.{up_to}
use Rattle.rx_attempts.specs.Counts.{IsUnguarded}
use Rattle.rx_attempts.proofs.lemmas.StepLemmas.{back-most, back-few, both-few}
use Rattle.rx_search.specs.declared.span.Span.{Span}
use Rattle.rx_attempts.proofs.lemmas.CountLemmas.{result-tried, tried-nothing}
use Rattle.rx_attempts.proofs.lemmas.InnerLemmas.{inner-without, inner-tried, ended-few}
use Rattle.rx_attempts.proofs.inner.try_candidate.Goals as goal

pub returns-in-Err-clause-most : goal.returns-in-Err-clause-most
returns-in-Err-clause-most g c =
    let fwd = g.F.Automaton.dfa c.args.fwd.now in
    let rev = g.B.Automaton.dfa c.args.rev.now in
    let v = c.args.input.now in
    let now = c.args.found in
    let spanned = c.haystack-haystack.ensures.spanned.end in
    let old = c.args.steps.now in
    let mid = c.rev_limited.new.steps in
    let part = c.up_to-part.ensures in
    let most = subst (λ (w : InputValue). mid ≤ old + calls_backwards rev w) part c.rev_limited.ensures.most in
    let all = back-most rev v now.start c.requires.low c.requires.high old mid most in
    omega (arith, all)

pub returns-in-Some-clause-tried : goal.returns-in-Some-clause-tried
returns-in-Some-clause-tried g c =
    let fwd = g.F.Automaton.dfa c.args.fwd.now in
    let rev = g.B.Automaton.dfa c.args.rev.now in
    let v = c.args.input.now in
    let now = c.args.found in
    let spanned = c.haystack-haystack.ensures.spanned.end in
    let old = c.args.steps.now in
    let mid = c.rev_limited.new.steps in
    let part = c.up_to-part.ensures in
    let back = subst (λ (w : InputValue). FindsStart rev w c.in-Ok.begins) part c.in-Ok.ensures.answer in
    let found = subst (FindsStart rev (up_to v now.start)) c.in-Some.is back in
    λ needles some turn.
    inner-tried fwd rev needles some v spanned now c.args.guards.min_start c.args.guards.stopped turn c.in-Some.start found c.match_or_stop.result
    c.match_or_stop.ensures.whole c.match_or_stop.ensures.stopped

pub returns-in-Some-clause-few : goal.returns-in-Some-clause-few
returns-in-Some-clause-few g c =
    let fwd = g.F.Automaton.dfa c.args.fwd.now in
    let rev = g.B.Automaton.dfa c.args.rev.now in
    let v = c.args.input.now in
    let now = c.args.found in
    let spanned = c.haystack-haystack.ensures.spanned.end in
    let old = c.args.steps.now in
    let mid = c.rev_limited.new.steps in
    let part = c.up_to-part.ensures in
    let most = subst (λ (w : InputValue). mid ≤ old + calls_backwards rev w) part c.rev_limited.ensures.most in
    let all = back-most rev v now.start c.requires.low c.requires.high old mid most in
    let few = subst (λ (w : InputValue). mid ≤ old + (w.end - c.args.guards.min_start) + 2) part c.rev_limited.ensures.few in
    let lies = subst (λ (w : InputValue). IfSome c.in-Ok.begins (HalfLiesIn w)) part c.in-Ok.ensures.lies.0 in
    let inside : HalfLiesIn (up_to v now.start) c.in-Some.start = subst (λ (o : Option HalfMatchValue). IfSome o (HalfLiesIn (up_to v now.start))) c.in-Some.is lies in
    let near = subst (λ (w : InputValue). IfSome c.in-Ok.begins (λ h. w.end ≤ h.offset + (w.end - c.args.guards.min_start) + 1)) part c.in-Ok.ensures.near in
    let close : now.start ≤ c.in-Some.start.offset + (now.start - c.args.guards.min_start) + 1 =
    subst (λ (o : Option HalfMatchValue). IfSome o (λ h. now.start ≤ h.offset + (now.start - c.args.guards.min_start) + 1)) c.in-Some.is near in
    ended-few v now.start c.args.guards.min_start old mid c.match_or_stop.new.steps c.in-Some.start.offset
    (λ place taken. both-few rev v now.start c.requires.low c.requires.high old mid most c.args.guards.min_start few c.in-Some.start.offset inside.0 close
    c.match_or_stop.new.steps place taken)
    c.match_or_stop.result c.match_or_stop.ensures.few

pub returns-in-Some-clause-most : goal.returns-in-Some-clause-most
returns-in-Some-clause-most g c =
    let fwd = g.F.Automaton.dfa c.args.fwd.now in
    let rev = g.B.Automaton.dfa c.args.rev.now in
    let v = c.args.input.now in
    let now = c.args.found in
    let spanned = c.haystack-haystack.ensures.spanned.end in
    let old = c.args.steps.now in
    let mid = c.rev_limited.new.steps in
    let part = c.up_to-part.ensures in
    let most = subst (λ (w : InputValue). mid ≤ old + calls_backwards rev w) part c.rev_limited.ensures.most in
    let all = back-most rev v now.start c.requires.low c.requires.high old mid most in
    let then = c.match_or_stop.ensures.most in
    omega (arith, all, then)

pub returns-in-None-clause-tried : goal.returns-in-None-clause-tried
returns-in-None-clause-tried g c =
    let fwd = g.F.Automaton.dfa c.args.fwd.now in
    let rev = g.B.Automaton.dfa c.args.rev.now in
    let v = c.args.input.now in
    let now = c.args.found in
    let spanned = c.haystack-haystack.ensures.spanned.end in
    let old = c.args.steps.now in
    let mid = c.rev_limited.new.steps in
    let part = c.up_to-part.ensures in
    let back = subst (λ (w : InputValue). FindsStart rev w c.in-Ok.begins) part c.in-Ok.ensures.answer in
    let found = subst (FindsStart rev (up_to v now.start)) c.in-None.is back in
    λ needles some turn. inner-without fwd rev needles some v spanned now c.args.guards.min_start c.args.guards.stopped turn found

pub returns-in-None-clause-few : goal.returns-in-None-clause-few
returns-in-None-clause-few g c =
    let fwd = g.F.Automaton.dfa c.args.fwd.now in
    let rev = g.B.Automaton.dfa c.args.rev.now in
    let v = c.args.input.now in
    let now = c.args.found in
    let spanned = c.haystack-haystack.ensures.spanned.end in
    let old = c.args.steps.now in
    let mid = c.rev_limited.new.steps in
    let part = c.up_to-part.ensures in
    let most = subst (λ (w : InputValue). mid ≤ old + calls_backwards rev w) part c.rev_limited.ensures.most in
    let all = back-most rev v now.start c.requires.low c.requires.high old mid most in
    let few = subst (λ (w : InputValue). mid ≤ old + (w.end - c.args.guards.min_start) + 2) part c.rev_limited.ensures.few in
    back-few rev v now.start c.requires.low c.requires.high old mid most c.args.guards.min_start few c.args.guards.stopped

pub returns-in-None-clause-most : goal.returns-in-None-clause-most
returns-in-None-clause-most g c =
    let fwd = g.F.Automaton.dfa c.args.fwd.now in
    let rev = g.B.Automaton.dfa c.args.rev.now in
    let v = c.args.input.now in
    let now = c.args.found in
    let spanned = c.haystack-haystack.ensures.spanned.end in
    let old = c.args.steps.now in
    let mid = c.rev_limited.new.steps in
    let part = c.up_to-part.ensures in
    let most = subst (λ (w : InputValue). mid ≤ old + calls_backwards rev w) part c.rev_limited.ensures.most in
    let all = back-most rev v now.start c.requires.low c.requires.high old mid most in
    omega (arith, all)

pub returns-in-Some-clause-ticks : goal.returns-in-Some-clause-ticks
returns-in-Some-clause-ticks g c =
    let fwd = g.F.Automaton.dfa c.args.fwd.now in
    let rev = g.B.Automaton.dfa c.args.rev.now in
    let v = c.args.input.now in
    let now = c.args.found in
    let old = c.args.steps.now in
    let mid = c.rev_limited.new.steps in
    let part = c.up_to-part.ensures in
    let back = subst (λ (w : InputValue). FindsStart rev w c.in-Ok.begins) part c.in-Ok.ensures.answer in
    let taken : mid ≡ old + calls_backwards rev (up_to v now.start) =
    c.in-Ok.ensures.ticks ∙ ap (λ (w : InputValue). old + calls_backwards rev w) part in
    let found = subst (FindsStart rev (up_to v now.start)) c.in-Some.is back in
    let min_start = c.args.guards.min_start in
    let stopped = c.args.guards.stopped in
    let behind : stopped ≤ now.start = search rules in
    let within = subst (λ (w : InputValue). IsWithin rev w min_start c.in-Ok.begins) part c.in-Ok.ensures.within in
    λ needles every.
    let free : IsUnguarded fwd rev needles v (λ (s : Span). s.start) now min_start stopped (Some c.in-Some.start) =
    record { back = subst (IsWithin rev (up_to v now.start) min_start) c.in-Some.is within; behind = behind } in
    result-tried fwd rev needles v (λ (s : Span). s.start) now min_start stopped old mid c.match_or_stop.new.steps c.in-Some.start found free taken
    c.match_or_stop.result (c.match_or_stop.ensures.ticks every) c.match_or_stop.ensures.begins c.match_or_stop.ensures.stopped

pub returns-in-None-clause-ticks : goal.returns-in-None-clause-ticks
returns-in-None-clause-ticks g c =
    let fwd = g.F.Automaton.dfa c.args.fwd.now in
    let rev = g.B.Automaton.dfa c.args.rev.now in
    let v = c.args.input.now in
    let now = c.args.found in
    let old = c.args.steps.now in
    let mid = c.rev_limited.new.steps in
    let part = c.up_to-part.ensures in
    let back = subst (λ (w : InputValue). FindsStart rev w c.in-Ok.begins) part c.in-Ok.ensures.answer in
    let taken : mid ≡ old + calls_backwards rev (up_to v now.start) =
    c.in-Ok.ensures.ticks ∙ ap (λ (w : InputValue). old + calls_backwards rev w) part in
    let found = subst (FindsStart rev (up_to v now.start)) c.in-None.is back in
    let min_start = c.args.guards.min_start in
    let stopped = c.args.guards.stopped in
    let behind : stopped ≤ now.start = search rules in
    let within = subst (λ (w : InputValue). IsWithin rev w min_start c.in-Ok.begins) part c.in-Ok.ensures.within in
    λ needles every.
    let free : IsUnguarded fwd rev needles v (λ (s : Span). s.start) now min_start stopped None =
    record { back = subst (IsWithin rev (up_to v now.start) min_start) c.in-None.is within; behind = behind } in
    tried-nothing fwd rev needles v (λ (s : Span). s.start) now min_start stopped old mid found free taken
