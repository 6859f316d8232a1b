use Rattle.std.proofs.Common.{ℕ, ◌≡◌, ◌≤◌, ◌+◌, ◌-◌, length, sym, ◌∙◌, ap, subst, arith}
use Rattle.std.specs.Prelude.{Option, Some, None, IfSome}
use Rattle.rx_search.specs.Input.{InputValue}
use Rattle.rx_search.specs.Matches.{HalfMatchValue}
use Rattle.rx_search.specs.Told.{HalfLiesIn}
use Rattle.rx_limited.specs.Calls.{calls_backwards}
use Rattle.rx_limited.specs.Limited.{FindsStart, IsWithin, LimitedFails}
use Rattle.rx_attempts.specs.Inputs.{up_to}
use Rattle.rx_attempts.specs.Candidates.{IsNextCandidate}
use Rattle.rx_attempts.proofs.lemmas.NeedleLemmas.{taken-long}
use Rattle.rx_attempts.proofs.lemmas.FailLemmas.{suffix-back}
use Rattle.rx_attempts.proofs.lemmas.SuffixLemmas.{not-empty, suffix-fresh, suffix-ended, suffix-over, suffix-before, suffix-least, suffix-few, suffix-total, suffix-on, suffix-found}
use Rattle.rx_search.specs.declared.span.Span.{Span}
use Rattle.rx_attempts.specs.Counts.{IsUnguarded, Leaves}
use Rattle.rx_attempts.specs.Suffix.{GoesOn}
use Rattle.rx_attempts.proofs.lemmas.CountLemmas.{leaves-fresh, leaves-add, counted-back}
use Rattle.rx_attempts.proofs.suffix.first_start.Goals as goal

pub candidates-init : goal.candidates-init
candidates-init g c =
    let rev = g.B.Automaton.dfa c.args.rev.now in
    let needles = c.args.pre.now in
    let v = c.args.input.now in
    let old = c.args.steps.now in
    let at = sym c.start-from.ensures.value in
    record {
      on = subst (λ (k : ℕ). GoesOn rev needles v k 0 old old) at (suffix-fresh rev needles v c.requires.in_order old);
      counts = λ fwd.
          subst (λ (k : ℕ). Leaves fwd rev needles v (λ (s : Span). s.end) k 0 0 old old) at (leaves-fresh fwd rev needles v (λ (s : Span). s.end) old);
      fits = c.requires.fits;
    }

pub up_to-part-requires-clause-low : goal.up_to-part-requires-clause-low
up_to-part-requires-clause-low g c =
    let rev = g.B.Automaton.dfa c.args.rev.now in
    let needles = c.args.pre.now in
    let v = c.args.input.now in
    let spanned = c.haystack-haystack.ensures.spanned.end in
    let s = c.requires.suffix.0 in
    let one = c.requires.suffix.1 in
    let bytes = c.requires.suffix.2 in
    let from = c.candidates.from in
    let min_start = c.candidates.min_start in
    let old = c.args.steps.now in
    let mid = c.candidates.steps in
    let on = c.candidates.invariant.on in
    let now = c.in-Some.found in
    let next = subst (IsNextCandidate needles v from) c.in-Some.is c.next_candidate.ensures in
    let ends = taken-long needles v spanned (not-empty rev needles s one bytes v spanned) now next.0 in
    let inside = next.0.inside in
    let lt = ends.0 in
    let le = ends.1 in
    omega arith

pub up_to-part-requires-clause-high : goal.up_to-part-requires-clause-high
up_to-part-requires-clause-high g c =
    let rev = g.B.Automaton.dfa c.args.rev.now in
    let needles = c.args.pre.now in
    let v = c.args.input.now in
    let spanned = c.haystack-haystack.ensures.spanned.end in
    let s = c.requires.suffix.0 in
    let one = c.requires.suffix.1 in
    let bytes = c.requires.suffix.2 in
    let from = c.candidates.from in
    let min_start = c.candidates.min_start in
    let old = c.args.steps.now in
    let mid = c.candidates.steps in
    let on = c.candidates.invariant.on in
    let now = c.in-Some.found in
    let next = subst (IsNextCandidate needles v from) c.in-Some.is c.next_candidate.ensures in
    let ends = taken-long needles v spanned (not-empty rev needles s one bytes v spanned) now next.0 in
    let inside = next.0.inside in
    let lt = ends.0 in
    let le = ends.1 in
    le

pub returns-in-Err-clause-err : goal.returns-in-Err-clause-err
returns-in-Err-clause-err g c =
    let rev = g.B.Automaton.dfa c.args.rev.now in
    let needles = c.args.pre.now in
    let v = c.args.input.now in
    let spanned = c.haystack-haystack.ensures.spanned.end in
    let s = c.requires.suffix.0 in
    let one = c.requires.suffix.1 in
    let bytes = c.requires.suffix.2 in
    let from = c.candidates.from in
    let min_start = c.candidates.min_start in
    let old = c.args.steps.now in
    let mid = c.candidates.steps in
    let on = c.candidates.invariant.on in
    let now = c.in-Some.found in
    let next = subst (IsNextCandidate needles v from) c.in-Some.is c.next_candidate.ensures in
    let ends = taken-long needles v spanned (not-empty rev needles s one bytes v spanned) now next.0 in
    let inside = next.0.inside in
    let lt = ends.0 in
    let le = ends.1 in
    let gives_up = g.B.Automaton.gives_up c.args.rev.now c.rev_limited.new.cache in
    let wants = g.B.Automaton.wants c.args.rev.now in
    let fails = subst (λ (w : InputValue). LimitedFails rev w min_start gives_up wants c.in-Err.error) c.up_to-part.ensures c.in-Err.ensures.err in
    suffix-back rev needles v now next.0 min_start (suffix-least rev needles s one bytes v spanned from min_start old mid on now next) gives_up wants le
    (suffix-before rev needles s one bytes v spanned from min_start old mid on now next) c.in-Err.error fails

pub returns-in-Err-clause-few : goal.returns-in-Err-clause-few
returns-in-Err-clause-few g c =
    let rev = g.B.Automaton.dfa c.args.rev.now in
    let needles = c.args.pre.now in
    let v = c.args.input.now in
    let spanned = c.haystack-haystack.ensures.spanned.end in
    let s = c.requires.suffix.0 in
    let one = c.requires.suffix.1 in
    let bytes = c.requires.suffix.2 in
    let from = c.candidates.from in
    let min_start = c.candidates.min_start in
    let old = c.args.steps.now in
    let mid = c.candidates.steps in
    let on = c.candidates.invariant.on in
    let now = c.in-Some.found in
    let next = subst (IsNextCandidate needles v from) c.in-Some.is c.next_candidate.ensures in
    let ends = taken-long needles v spanned (not-empty rev needles s one bytes v spanned) now next.0 in
    let inside = next.0.inside in
    let lt = ends.0 in
    let le = ends.1 in
    let new = c.rev_limited.new.steps in
    let most = subst (λ (w : InputValue). new ≤ mid + calls_backwards rev w) c.up_to-part.ensures c.rev_limited.ensures.most in
    let few = subst (λ (w : InputValue). new ≤ mid + (w.end - min_start) + 2) c.up_to-part.ensures c.rev_limited.ensures.few in
    let taken = suffix-few rev needles s one bytes v spanned from min_start old mid on now next new most few in
    suffix-total rev needles s one bytes v spanned from min_start old mid on now next new taken

pub returns-in-Some-begins-clause-first : goal.returns-in-Some-begins-clause-first
returns-in-Some-begins-clause-first g c =
    let rev = g.B.Automaton.dfa c.args.rev.now in
    let needles = c.args.pre.now in
    let v = c.args.input.now in
    let spanned = c.haystack-haystack.ensures.spanned.end in
    let s = c.requires.suffix.0 in
    let one = c.requires.suffix.1 in
    let bytes = c.requires.suffix.2 in
    let from = c.candidates.from in
    let min_start = c.candidates.min_start in
    let old = c.args.steps.now in
    let mid = c.candidates.steps in
    let on = c.candidates.invariant.on in
    let now = c.in-Some.found in
    let next = subst (IsNextCandidate needles v from) c.in-Some.is c.next_candidate.ensures in
    let ends = taken-long needles v spanned (not-empty rev needles s one bytes v spanned) now next.0 in
    let inside = next.0.inside in
    let lt = ends.0 in
    let le = ends.1 in
    let back = subst (λ (w : InputValue). FindsStart rev w c.in-Ok.begins) c.up_to-part.ensures c.in-Ok.ensures.answer in
    suffix-found rev needles s one bytes v spanned from min_start old mid on now next c.in-Some-begins.start
    (subst (FindsStart rev (up_to v now.end)) c.in-Some-begins.is back)

pub returns-in-Some-begins-clause-lies : goal.returns-in-Some-begins-clause-lies
returns-in-Some-begins-clause-lies g c =
    let rev = g.B.Automaton.dfa c.args.rev.now in
    let needles = c.args.pre.now in
    let v = c.args.input.now in
    let spanned = c.haystack-haystack.ensures.spanned.end in
    let s = c.requires.suffix.0 in
    let one = c.requires.suffix.1 in
    let bytes = c.requires.suffix.2 in
    let from = c.candidates.from in
    let min_start = c.candidates.min_start in
    let old = c.args.steps.now in
    let mid = c.candidates.steps in
    let on = c.candidates.invariant.on in
    let now = c.in-Some.found in
    let next = subst (IsNextCandidate needles v from) c.in-Some.is c.next_candidate.ensures in
    let ends = taken-long needles v spanned (not-empty rev needles s one bytes v spanned) now next.0 in
    let inside = next.0.inside in
    let lt = ends.0 in
    let le = ends.1 in
    let lies = subst (λ (w : InputValue). IfSome c.in-Ok.begins (HalfLiesIn w)) c.up_to-part.ensures c.in-Ok.ensures.lies.0 in
    let part : HalfLiesIn (up_to v now.end) c.in-Some-begins.start =
    subst (λ (o : Option HalfMatchValue). IfSome o (HalfLiesIn (up_to v now.end))) c.in-Some-begins.is lies in
    let high = part.1 in
    (part.0, omega arith)

pub returns-in-Some-begins-clause-few : goal.returns-in-Some-begins-clause-few
returns-in-Some-begins-clause-few g c =
    let rev = g.B.Automaton.dfa c.args.rev.now in
    let needles = c.args.pre.now in
    let v = c.args.input.now in
    let spanned = c.haystack-haystack.ensures.spanned.end in
    let s = c.requires.suffix.0 in
    let one = c.requires.suffix.1 in
    let bytes = c.requires.suffix.2 in
    let from = c.candidates.from in
    let min_start = c.candidates.min_start in
    let old = c.args.steps.now in
    let mid = c.candidates.steps in
    let on = c.candidates.invariant.on in
    let now = c.in-Some.found in
    let next = subst (IsNextCandidate needles v from) c.in-Some.is c.next_candidate.ensures in
    let ends = taken-long needles v spanned (not-empty rev needles s one bytes v spanned) now next.0 in
    let inside = next.0.inside in
    let lt = ends.0 in
    let le = ends.1 in
    let new = c.rev_limited.new.steps in
    let most = subst (λ (w : InputValue). new ≤ mid + calls_backwards rev w) c.up_to-part.ensures c.rev_limited.ensures.most in
    let few = subst (λ (w : InputValue). new ≤ mid + (w.end - min_start) + 2) c.up_to-part.ensures c.rev_limited.ensures.few in
    let taken = suffix-few rev needles s one bytes v spanned from min_start old mid on now next new most few in
    suffix-total rev needles s one bytes v spanned from min_start old mid on now next new taken

pub overflow_add-from : goal.overflow_add-from
overflow_add-from g c =
    let rev = g.B.Automaton.dfa c.args.rev.now in
    let needles = c.args.pre.now in
    let v = c.args.input.now in
    let spanned = c.haystack-haystack.ensures.spanned.end in
    let s = c.requires.suffix.0 in
    let one = c.requires.suffix.1 in
    let bytes = c.requires.suffix.2 in
    let from = c.candidates.from in
    let min_start = c.candidates.min_start in
    let old = c.args.steps.now in
    let mid = c.candidates.steps in
    let on = c.candidates.invariant.on in
    let now = c.in-Some.found in
    let next = subst (IsNextCandidate needles v from) c.in-Some.is c.next_candidate.ensures in
    let ends = taken-long needles v spanned (not-empty rev needles s one bytes v spanned) now next.0 in
    let inside = next.0.inside in
    let lt = ends.0 in
    let le = ends.1 in
    let whole : length c.haystack-haystack.result.now ≡ length v.haystack = ap length c.haystack-haystack.ensures.value in
    let short = c.haystack-haystack.type_inv in
    omega arith

pub candidates-preserved : goal.candidates-preserved
candidates-preserved g c =
    let rev = g.B.Automaton.dfa c.args.rev.now in
    let needles = c.args.pre.now in
    let v = c.args.input.now in
    let spanned = c.haystack-haystack.ensures.spanned.end in
    let s = c.requires.suffix.0 in
    let one = c.requires.suffix.1 in
    let bytes = c.requires.suffix.2 in
    let from = c.candidates.from in
    let min_start = c.candidates.min_start in
    let old = c.args.steps.now in
    let mid = c.candidates.steps in
    let on = c.candidates.invariant.on in
    let now = c.in-Some.found in
    let next = subst (IsNextCandidate needles v from) c.in-Some.is c.next_candidate.ensures in
    let ends = taken-long needles v spanned (not-empty rev needles s one bytes v spanned) now next.0 in
    let inside = next.0.inside in
    let lt = ends.0 in
    let le = ends.1 in
    let new = c.rev_limited.new.steps in
    let most = subst (λ (w : InputValue). new ≤ mid + calls_backwards rev w) c.up_to-part.ensures c.rev_limited.ensures.most in
    let few = subst (λ (w : InputValue). new ≤ mid + (w.end - min_start) + 2) c.up_to-part.ensures c.rev_limited.ensures.few in
    let taken = suffix-few rev needles s one bytes v spanned from min_start old mid on now next new most few in
    let back = subst (λ (w : InputValue). FindsStart rev w c.in-Ok.begins) c.up_to-part.ensures c.in-Ok.ensures.answer in
    let ticks : new ≡ mid + calls_backwards rev (up_to v now.end) =
    c.in-Ok.ensures.ticks ∙ ap (λ (w : InputValue). mid + calls_backwards rev w) c.up_to-part.ensures in
    let within = subst (λ (w : InputValue). IsWithin rev w min_start c.in-Ok.begins) c.up_to-part.ensures c.in-Ok.ensures.within in
    record {
      counts = λ fwd.
          let free : IsUnguarded fwd rev needles v (λ (s : Span). s.end) now min_start 0 None =
          record { back = subst (IsWithin rev (up_to v now.end) min_start) c.in_default-begins.is within; behind = omega arith } in
          leaves-add fwd rev needles v (λ (s : Span). s.end) from min_start 0 old mid (c.candidates.invariant.counts fwd) now next None
          (subst (FindsStart rev (up_to v now.end)) c.in_default-begins.is back) free new (omega (arith, ticks));
      on = suffix-on rev needles s one bytes v spanned from min_start old mid on now next (subst (FindsStart rev (up_to v now.end)) c.in_default-begins.is back) new taken;
      fits = c.rev_limited.ensures.fits;
    }

pub returns-in-Some-begins-clause-ticks : goal.returns-in-Some-begins-clause-ticks
returns-in-Some-begins-clause-ticks g c =
    let rev = g.B.Automaton.dfa c.args.rev.now in
    let needles = c.args.pre.now in
    let v = c.args.input.now in
    let spanned = c.haystack-haystack.ensures.spanned.end in
    let s = c.requires.suffix.0 in
    let one = c.requires.suffix.1 in
    let bytes = c.requires.suffix.2 in
    let from = c.candidates.from in
    let min_start = c.candidates.min_start in
    let old = c.args.steps.now in
    let mid = c.candidates.steps in
    let on = c.candidates.invariant.on in
    let now = c.in-Some.found in
    let next = subst (IsNextCandidate needles v from) c.in-Some.is c.next_candidate.ensures in
    let ends = taken-long needles v spanned (not-empty rev needles s one bytes v spanned) now next.0 in
    let inside = next.0.inside in
    let lt = ends.0 in
    let le = ends.1 in
    let new = c.rev_limited.new.steps in
    let most = subst (λ (w : InputValue). new ≤ mid + calls_backwards rev w) c.up_to-part.ensures c.rev_limited.ensures.most in
    let few = subst (λ (w : InputValue). new ≤ mid + (w.end - min_start) + 2) c.up_to-part.ensures c.rev_limited.ensures.few in
    let taken = suffix-few rev needles s one bytes v spanned from min_start old mid on now next new most few in
    let back = subst (λ (w : InputValue). FindsStart rev w c.in-Ok.begins) c.up_to-part.ensures c.in-Ok.ensures.answer in
    let ticks : new ≡ mid + calls_backwards rev (up_to v now.end) =
    c.in-Ok.ensures.ticks ∙ ap (λ (w : InputValue). mid + calls_backwards rev w) c.up_to-part.ensures in
    let within = subst (λ (w : InputValue). IsWithin rev w min_start c.in-Ok.begins) c.up_to-part.ensures c.in-Ok.ensures.within in
    λ fwd.
    let free : IsUnguarded fwd rev needles v (λ (s : Span). s.end) now min_start 0 (Some c.in-Some-begins.start) =
    record { back = subst (IsWithin rev (up_to v now.end) min_start) c.in-Some-begins.is within; behind = omega arith } in
    counted-back fwd rev needles v (λ (s : Span). s.end) from min_start 0 old mid (c.candidates.invariant.counts fwd) now next c.in-Some-begins.start
    (subst (FindsStart rev (up_to v now.end)) c.in-Some-begins.is back) free new ticks

pub returns-clause-first : goal.returns-clause-first
returns-clause-first g c =
    let rev = g.B.Automaton.dfa c.args.rev.now in
    let needles = c.args.pre.now in
    let v = c.args.input.now in
    let spanned = c.haystack-haystack.ensures.spanned.end in
    let s = c.requires.suffix.0 in
    let one = c.requires.suffix.1 in
    let bytes = c.requires.suffix.2 in
    let from = c.candidates.from in
    let min_start = c.candidates.min_start in
    let old = c.args.steps.now in
    let mid = c.candidates.steps in
    let on = c.candidates.invariant.on in
    suffix-over rev needles s one bytes v spanned from min_start old mid on (subst (IsNextCandidate needles v from) c.in_default.is c.next_candidate.ensures)

pub returns-clause-few : goal.returns-clause-few
returns-clause-few g c =
    let rev = g.B.Automaton.dfa c.args.rev.now in
    let needles = c.args.pre.now in
    let v = c.args.input.now in
    let spanned = c.haystack-haystack.ensures.spanned.end in
    let s = c.requires.suffix.0 in
    let one = c.requires.suffix.1 in
    let bytes = c.requires.suffix.2 in
    let from = c.candidates.from in
    let min_start = c.candidates.min_start in
    let old = c.args.steps.now in
    let mid = c.candidates.steps in
    let on = c.candidates.invariant.on in
    suffix-ended rev needles s one bytes v spanned from min_start old mid on

pub returns-clause-ticks : goal.returns-clause-ticks
returns-clause-ticks g c =
    let over = subst (IsNextCandidate c.args.pre.now c.args.input.now c.candidates.from) c.in_default.is c.next_candidate.ensures in
    λ fwd. (c.candidates.from, (c.candidates.invariant.counts fwd).counts, over)

pub returns-then-is_lost-clause-few : goal.returns-then-is_lost-clause-few
returns-then-is_lost-clause-few g c =
    let rev = g.B.Automaton.dfa c.args.rev.now in
    let needles = c.args.pre.now in
    let v = c.args.input.now in
    let spanned = c.haystack-haystack.ensures.spanned.end in
    let s = c.requires.suffix.0 in
    let one = c.requires.suffix.1 in
    let bytes = c.requires.suffix.2 in
    suffix-ended rev needles s one bytes v spanned c.candidates.from c.candidates.min_start c.args.steps.now c.candidates.steps
    c.candidates.invariant.on
