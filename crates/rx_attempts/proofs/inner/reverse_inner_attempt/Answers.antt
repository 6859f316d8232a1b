use Rattle.std.proofs.Common.{◌≡◌, ◌≤◌, ◌<◌, length, sym, ap, subst, arith, rules}
use Rattle.std.specs.Prelude.{ℕ, false, Result}
use Rattle.std.specs.Result.{IfErr}
use Rattle.rx_search.specs.Matches.{MatchValue}
use Rattle.rx_dfa.proofs.lemmas.BothLemmas.{not-anchored}
use Rattle.rx_attempts.specs.Candidates.{IsNextCandidate}
use Rattle.rx_attempts.specs.Inner.{IsTried, TakesFew, GoesOn}
use Rattle.rx_attempts.specs.Counts.{HasTried, Leaves}
use Rattle.rx_attempts.proofs.lemmas.CountLemmas.{leaves-fresh, leaves-tried, counted-tried, counted-past}
use Rattle.rx_search.specs.declared.span.Span.{Span}
use Rattle.rx_attempts.proofs.lemmas.NeedleLemmas.{taken-candidate, taken-long}
use Rattle.rx_attempts.proofs.lemmas.EndLemmas.{past-nothing}
use Rattle.rx_attempts.proofs.lemmas.InnerLemmas.{inner-fresh, inner-turn, inner-on, inner-over, inner-nothing, inner-answer}
use Rattle.rx_attempts.proofs.inner.reverse_inner_attempt.Goals as goal

pub returns-then-is_done-clause-answer : goal.returns-then-is_done-clause-answer
returns-then-is_done-clause-answer g c =
    let fwd = g.F.Automaton.dfa c.args.fwd.now in
    let rev = g.B.Automaton.dfa c.args.rev.now in
    let needles = c.args.pre.now in
    let v = c.args.input.now in
    let spanned = c.haystack-haystack.ensures.spanned.end in
    let past : v.end < v.start = search rules in
    λ r nfa p. past-nothing fwd.kind r p.expression p.is p.ordered v (not-anchored v.anchor c.requires.free) past

pub candidates-init : goal.candidates-init
candidates-init g c =
    let fwd = g.F.Automaton.dfa c.args.fwd.now in
    let rev = g.B.Automaton.dfa c.args.rev.now in
    let needles = c.args.pre.now in
    let v = c.args.input.now in
    let old = c.args.steps.now in
    let at = sym c.start-from.ensures.value in
    let in_order : v.start ≤ v.end = search rules in
    record {
      on = subst (λ (k : ℕ). GoesOn fwd rev needles v k 0 0 old old) at (inner-fresh fwd rev needles v in_order old);
      counts = λ every.
          subst (λ (k : ℕ). Leaves fwd rev needles v (λ (s : Span). s.start) k 0 0 old old) at (leaves-fresh fwd rev needles v (λ (s : Span). s.start) old);
      fwd_fits = c.requires.fwd_fits;
      rev_fits = c.requires.rev_fits;
    }

pub try_candidate-requires-clause-high : goal.try_candidate-requires-clause-high
try_candidate-requires-clause-high g c =
    let fwd = g.F.Automaton.dfa c.args.fwd.now in
    let rev = g.B.Automaton.dfa c.args.rev.now in
    let needles = c.args.pre.now in
    let v = c.args.input.now in
    let spanned = c.haystack-haystack.ensures.spanned.end in
    let from = c.candidates.from in
    let min_start = c.candidates.min_start in
    let stopped = c.candidates.stopped in
    let on = c.candidates.invariant.on in
    let now = c.in-Some.found in
    let next = subst (IsNextCandidate needles v from) c.in-Some.is c.next_candidate.ensures in
    let ends = taken-long needles v spanned c.requires.needles now next.0 in
    let lt = ends.0 in
    let le = ends.1 in
    omega arith

pub returns-in-Err-clause-err : goal.returns-in-Err-clause-err
returns-in-Err-clause-err g c =
    let fwd = g.F.Automaton.dfa c.args.fwd.now in
    let rev = g.B.Automaton.dfa c.args.rev.now in
    let needles = c.args.pre.now in
    let v = c.args.input.now in
    let spanned = c.haystack-haystack.ensures.spanned.end in
    let from = c.candidates.from in
    let min_start = c.candidates.min_start in
    let stopped = c.candidates.stopped in
    let on = c.candidates.invariant.on in
    let now = c.in-Some.found in
    let next = subst (IsNextCandidate needles v from) c.in-Some.is c.next_candidate.ensures in
    let turn = inner-turn fwd rev needles c.requires.needles v spanned from min_start stopped c.args.steps.now c.candidates.steps on now next in
    c.in-Err.ensures.err needles turn

pub returns-in-Ok-tried-clause-answer : goal.returns-in-Ok-tried-clause-answer
returns-in-Ok-tried-clause-answer g c =
    let fwd = g.F.Automaton.dfa c.args.fwd.now in
    let rev = g.B.Automaton.dfa c.args.rev.now in
    let needles = c.args.pre.now in
    let v = c.args.input.now in
    let spanned = c.haystack-haystack.ensures.spanned.end in
    let from = c.candidates.from in
    let min_start = c.candidates.min_start in
    let stopped = c.candidates.stopped in
    let on = c.candidates.invariant.on in
    let now = c.in-Some.found in
    let next = subst (IsNextCandidate needles v from) c.in-Some.is c.next_candidate.ensures in
    let turn = inner-turn fwd rev needles c.requires.needles v spanned from min_start stopped c.args.steps.now c.candidates.steps on now next in
    let at = subst (IsTried fwd rev needles v now stopped) c.in-Ok-tried.is (c.in-Ok.ensures.tried needles c.requires.needles turn) in
    λ r nfa p.
    inner-answer fwd rev needles c.requires.needles v spanned (not-anchored v.anchor c.requires.free) r nfa p now min_start stopped turn
    (taken-candidate needles v spanned now next.0) c.in-Ok-tried.whole at

pub returns-in-Ok-tried-clause-ticks : goal.returns-in-Ok-tried-clause-ticks
returns-in-Ok-tried-clause-ticks g c =
    let fwd = g.F.Automaton.dfa c.args.fwd.now in
    let rev = g.B.Automaton.dfa c.args.rev.now in
    let needles = c.args.pre.now in
    let v = c.args.input.now in
    let spanned = c.haystack-haystack.ensures.spanned.end in
    let from = c.candidates.from in
    let min_start = c.candidates.min_start in
    let stopped = c.candidates.stopped in
    let on = c.candidates.invariant.on in
    let now = c.in-Some.found in
    let next = subst (IsNextCandidate needles v from) c.in-Some.is c.next_candidate.ensures in
    λ every.
    let told = subst (HasTried fwd rev needles v (λ (s : Span). s.start) now min_start stopped c.candidates.steps c.try_candidate.new.steps) c.in-Ok-tried.is
    (c.in-Ok.ensures.ticks needles every) in
    counted-tried fwd rev needles v (λ (s : Span). s.start) from min_start stopped c.args.steps.now c.candidates.steps
    (c.candidates.invariant.counts every) now next c.try_candidate.new.steps c.in-Ok-tried.whole told

pub overflow_add-from : goal.overflow_add-from
overflow_add-from g c =
    let fwd = g.F.Automaton.dfa c.args.fwd.now in
    let rev = g.B.Automaton.dfa c.args.rev.now in
    let needles = c.args.pre.now in
    let v = c.args.input.now in
    let spanned = c.haystack-haystack.ensures.spanned.end in
    let from = c.candidates.from in
    let min_start = c.candidates.min_start in
    let stopped = c.candidates.stopped in
    let on = c.candidates.invariant.on in
    let now = c.in-Some.found in
    let next = subst (IsNextCandidate needles v from) c.in-Some.is c.next_candidate.ensures in
    let ends = taken-long needles v spanned c.requires.needles now next.0 in
    let lt = ends.0 in
    let le = ends.1 in
    let whole : length c.haystack-haystack.result.now ≡ length v.haystack = ap length c.haystack-haystack.ensures.value in
    let short = c.haystack-haystack.type_inv in
    omega arith

pub candidates-preserved : goal.candidates-preserved
candidates-preserved g c =
    let fwd = g.F.Automaton.dfa c.args.fwd.now in
    let rev = g.B.Automaton.dfa c.args.rev.now in
    let needles = c.args.pre.now in
    let v = c.args.input.now in
    let spanned = c.haystack-haystack.ensures.spanned.end in
    let from = c.candidates.from in
    let min_start = c.candidates.min_start in
    let stopped = c.candidates.stopped in
    let on = c.candidates.invariant.on in
    let now = c.in-Some.found in
    let next = subst (IsNextCandidate needles v from) c.in-Some.is c.next_candidate.ensures in
    let turn = inner-turn fwd rev needles c.requires.needles v spanned from min_start stopped c.args.steps.now c.candidates.steps on now next in
    let new = c.try_candidate.new.steps in
    let place = c.in-Err-tried.place in
    let passed = subst (IsTried fwd rev needles v now stopped) c.in-Err-tried.is (c.in-Ok.ensures.tried needles c.requires.needles turn) in
    let stops = subst (λ (t : Result MatchValue ℕ). IfErr t (λ p. p ≤ v.end)) c.in-Err-tried.is c.in-Ok.ensures.stops in
    let few = subst (λ (t : Result MatchValue ℕ). IfErr t (λ p. TakesFew v now.start min_start c.candidates.steps new p)) c.in-Err-tried.is c.in-Ok.ensures.few in
    let told = λ (every : v.earliest ≡ false). subst (HasTried fwd rev needles v (λ (s : Span). s.start) now min_start stopped c.candidates.steps new) c.in-Err-tried.is (c.in-Ok.ensures.ticks needles every) in
    record {
      counts = λ every. leaves-tried fwd rev needles v (λ (s : Span). s.start) from min_start stopped c.args.steps.now c.candidates.steps
          (c.candidates.invariant.counts every) now next new place (told every);
      on = inner-on fwd rev needles c.requires.needles v spanned from min_start stopped c.args.steps.now c.candidates.steps on now next place new passed stops few
          c.in-Ok.ensures.guard;
      fwd_fits = c.try_candidate.ensures.fwd_fits;
      rev_fits = c.try_candidate.ensures.rev_fits;
    }

pub returns-clause-answer : goal.returns-clause-answer
returns-clause-answer g c =
    let fwd = g.F.Automaton.dfa c.args.fwd.now in
    let rev = g.B.Automaton.dfa c.args.rev.now in
    let needles = c.args.pre.now in
    let v = c.args.input.now in
    let spanned = c.haystack-haystack.ensures.spanned.end in
    let from = c.candidates.from in
    let over = subst (IsNextCandidate needles v from) c.in_default.is c.next_candidate.ensures in
    λ r nfa p.
    inner-nothing fwd rev needles c.requires.needles v spanned fwd.kind (not-anchored v.anchor c.requires.free) r nfa p
    (inner-over fwd rev needles c.requires.needles v spanned from c.candidates.min_start c.candidates.stopped c.args.steps.now c.candidates.steps
    c.candidates.invariant.on over)

pub returns-clause-ticks : goal.returns-clause-ticks
returns-clause-ticks g c =
    let over = subst (IsNextCandidate c.args.pre.now c.args.input.now c.candidates.from) c.in_default.is c.next_candidate.ensures in
    λ every. (c.candidates.from, (c.candidates.invariant.counts every).counts, over)

pub returns-then-is_done-clause-ticks : goal.returns-then-is_done-clause-ticks
returns-then-is_done-clause-ticks g c =
    let fwd = g.F.Automaton.dfa c.args.fwd.now in
    let rev = g.B.Automaton.dfa c.args.rev.now in
    let needles = c.args.pre.now in
    let v = c.args.input.now in
    let past : v.end < v.start = search rules in
    λ every. counted-past fwd rev needles v (λ (s : Span). s.start) c.args.steps.now past
