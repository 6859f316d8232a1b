use Rattle.std.proofs.Common.{◌<◌, ap, subst, inl, arith, rules}
use Rattle.std.specs.Prelude.{IfSome, slice_get}
use Rattle.rx_search.specs.Told.{HalfLiesIn}
use Rattle.rx_dfa.proofs.lemmas.BothLemmas.{not-anchored}
use Rattle.rx_attempts.specs.Suffix.{FirstSuffix}
use Rattle.rx_attempts.proofs.lemmas.FailLemmas.{suffix-by-back, suffix-by-end, stops-weaker}
use Rattle.rx_attempts.proofs.lemmas.EndLemmas.{past-nothing}
use Rattle.rx_attempts.proofs.lemmas.SuffixLemmas.{suffix-nothing, suffix-answer}
use Rattle.rx_search.specs.declared.span.Span.{Span}
use Rattle.rx_attempts.specs.Counts.{HasCountedBack}
use Rattle.rx_attempts.proofs.lemmas.CountLemmas.{counted-past, counted-found}
use Rattle.rx_attempts.proofs.suffix.reverse_suffix_attempt.Goals as goal

pub returns-then-is_done-clause-answer : goal.returns-then-is_done-clause-answer
returns-then-is_done-clause-answer g c =
    let fwd = g.F.Automaton.dfa c.args.fwd.now in
    let rev = g.B.Automaton.dfa c.args.rev.now in
    let needles = c.args.pre.now in
    let v = c.args.input.now in
    let spanned = c.haystack-haystack.ensures.spanned.end in
    let s = c.requires.suffix.0 in
    let one = c.requires.suffix.1 in
    let bytes = c.requires.suffix.2 in
    let is_free = not-anchored v.anchor c.requires.free in
    let past : v.end < v.start = search rules in
    λ r nfa p. past-nothing fwd.kind r p.expression p.is (p.starts.ordered 0 p.expression (ap (λ hs. slice_get hs 0) p.is)) v is_free past

pub returns-in-Ok-match_from-clause-answer : goal.returns-in-Ok-match_from-clause-answer
returns-in-Ok-match_from-clause-answer g c =
    let fwd = g.F.Automaton.dfa c.args.fwd.now in
    let rev = g.B.Automaton.dfa c.args.rev.now in
    let needles = c.args.pre.now in
    let v = c.args.input.now in
    let spanned = c.haystack-haystack.ensures.spanned.end in
    let s = c.requires.suffix.0 in
    let one = c.requires.suffix.1 in
    let bytes = c.requires.suffix.2 in
    let is_free = not-anchored v.anchor c.requires.free in
    let start = c.in-Some.start in
    let first = subst (FirstSuffix rev needles v) c.in-Some.is c.in-Ok.ensures.first in
    λ r nfa p.
    suffix-answer rev needles s one bytes v spanned fwd.kind is_free r p start first c.in-Ok-match_from.found
    (c.in-Ok-match_from.ensures.whole r (record { is_for = nfa; begins = λ off. tt; utf8 = p.utf8 }))

pub returns-in_default-clause-answer : goal.returns-in_default-clause-answer
returns-in_default-clause-answer g c =
    let fwd = g.F.Automaton.dfa c.args.fwd.now in
    let rev = g.B.Automaton.dfa c.args.rev.now in
    let needles = c.args.pre.now in
    let v = c.args.input.now in
    let spanned = c.haystack-haystack.ensures.spanned.end in
    let s = c.requires.suffix.0 in
    let one = c.requires.suffix.1 in
    let bytes = c.requires.suffix.2 in
    let is_free = not-anchored v.anchor c.requires.free in
    let first = subst (FirstSuffix rev needles v) c.in_default.is c.in-Ok.ensures.first in
    λ r nfa p. suffix-nothing rev needles s one bytes v spanned fwd.kind is_free r p first

pub returns-then-is_done-clause-ticks : goal.returns-then-is_done-clause-ticks
returns-then-is_done-clause-ticks g c =
    let fwd = g.F.Automaton.dfa c.args.fwd.now in
    let rev = g.B.Automaton.dfa c.args.rev.now in
    let needles = c.args.pre.now in
    let v = c.args.input.now in
    let past : v.end < v.start = search rules in
    λ every. inl (counted-past fwd rev needles v (λ (s : Span). s.end) c.args.steps.now past)

pub returns-in-Ok-match_from-clause-ticks : goal.returns-in-Ok-match_from-clause-ticks
returns-in-Ok-match_from-clause-ticks g c =
    let fwd = g.F.Automaton.dfa c.args.fwd.now in
    let rev = g.B.Automaton.dfa c.args.rev.now in
    let needles = c.args.pre.now in
    let v = c.args.input.now in
    let back = subst (HasCountedBack fwd rev needles v (λ (s : Span). s.end) c.args.steps.now c.first_start.new.steps) c.in-Some.is (c.in-Ok.ensures.ticks fwd) in
    λ every.
    counted-found fwd rev needles v (λ (s : Span). s.end) c.args.steps.now c.first_start.new.steps c.in-Some.start back c.match_from.new.steps
    (c.in-Ok-match_from.ensures.ticks every) c.in-Ok-match_from.found c.in-Ok-match_from.ensures.begins

pub returns-in_default-clause-ticks : goal.returns-in_default-clause-ticks
returns-in_default-clause-ticks g c =
    let fwd = g.F.Automaton.dfa c.args.fwd.now in
    let rev = g.B.Automaton.dfa c.args.rev.now in
    let needles = c.args.pre.now in
    let v = c.args.input.now in
    let back = subst (HasCountedBack fwd rev needles v (λ (s : Span). s.end) c.args.steps.now c.first_start.new.steps) c.in_default.is (c.in-Ok.ensures.ticks fwd) in
    λ every. inl back

pub first_start-requires-clause-fits : goal.first_start-requires-clause-fits
first_start-requires-clause-fits g c = c.requires.rev_fits

pub first_start-requires-clause-reverse : goal.first_start-requires-clause-reverse
first_start-requires-clause-reverse g c = c.requires.reverse

pub first_start-requires-clause-suffix : goal.first_start-requires-clause-suffix
first_start-requires-clause-suffix g c = c.requires.suffix

pub haystack-haystack-requires : goal.haystack-haystack-requires
haystack-haystack-requires g c = tt

pub is_done-requires : goal.is_done-requires
is_done-requires g c = tt

pub match_from-requires-clause-fits : goal.match_from-requires-clause-fits
match_from-requires-clause-fits g c = c.requires.fwd_fits

pub match_from-requires-clause-forward : goal.match_from-requires-clause-forward
match_from-requires-clause-forward g c = c.requires.forward

pub match_from-requires-clause-lies : goal.match_from-requires-clause-lies
match_from-requires-clause-lies g c = subst (λ o. IfSome o (HalfLiesIn c.args.input.now)) c.in-Some.is c.in-Ok.ensures.lies

pub returns-in-Err-clause-answer : goal.returns-in-Err-clause-answer
returns-in-Err-clause-answer g c r nfa p = tt

pub returns-in-Err-clause-ticks : goal.returns-in-Err-clause-ticks
returns-in-Err-clause-ticks g c asked = tt

pub returns-in-Err-clause-in_range : goal.returns-in-Err-clause-in_range
returns-in-Err-clause-in_range g c = tt

pub returns-in-Err-clause-within : goal.returns-in-Err-clause-within
returns-in-Err-clause-within g c = tt

pub returns-in-Err-match_from-clause-answer : goal.returns-in-Err-match_from-clause-answer
returns-in-Err-match_from-clause-answer g c r nfa p = tt

pub returns-in-Err-match_from-clause-ticks : goal.returns-in-Err-match_from-clause-ticks
returns-in-Err-match_from-clause-ticks g c asked = tt

pub returns-in-Err-match_from-clause-in_range : goal.returns-in-Err-match_from-clause-in_range
returns-in-Err-match_from-clause-in_range g c = tt

pub returns-in-Err-match_from-clause-within : goal.returns-in-Err-match_from-clause-within
returns-in-Err-match_from-clause-within g c = tt

pub returns-in_default-clause-err : goal.returns-in_default-clause-err
returns-in_default-clause-err g c = tt

pub returns-in_default-clause-in_range : goal.returns-in_default-clause-in_range
returns-in_default-clause-in_range g c = tt

pub returns-in_default-clause-within : goal.returns-in_default-clause-within
returns-in_default-clause-within g c = tt

pub returns-then-is_done-clause-err : goal.returns-then-is_done-clause-err
returns-then-is_done-clause-err g c = tt

pub returns-then-is_done-clause-in_range : goal.returns-then-is_done-clause-in_range
returns-then-is_done-clause-in_range g c = tt

pub returns-then-is_done-clause-within : goal.returns-then-is_done-clause-within
returns-then-is_done-clause-within g c = tt

pub returns-in-Ok-match_from-clause-err : goal.returns-in-Ok-match_from-clause-err
returns-in-Ok-match_from-clause-err g c = tt

pub returns-in-Ok-match_from-clause-in_range : goal.returns-in-Ok-match_from-clause-in_range
returns-in-Ok-match_from-clause-in_range g c = c.in-Ok-match_from.ensures.in_range

pub returns-in-Ok-match_from-clause-within : goal.returns-in-Ok-match_from-clause-within
returns-in-Ok-match_from-clause-within g c = c.in-Ok-match_from.ensures.within

pub returns-in-Err-clause-fwd_fits : goal.returns-in-Err-clause-fwd_fits
returns-in-Err-clause-fwd_fits g c = c.requires.fwd_fits

pub returns-in-Err-clause-rev_fits : goal.returns-in-Err-clause-rev_fits
returns-in-Err-clause-rev_fits g c = c.in-Err.ensures.fits

pub returns-in-Err-match_from-clause-fwd_fits : goal.returns-in-Err-match_from-clause-fwd_fits
returns-in-Err-match_from-clause-fwd_fits g c = c.in-Err-match_from.ensures.fits

pub returns-in-Err-match_from-clause-rev_fits : goal.returns-in-Err-match_from-clause-rev_fits
returns-in-Err-match_from-clause-rev_fits g c = c.in-Ok.ensures.fits

pub returns-in-Ok-match_from-clause-fwd_fits : goal.returns-in-Ok-match_from-clause-fwd_fits
returns-in-Ok-match_from-clause-fwd_fits g c = c.in-Ok-match_from.ensures.fits

pub returns-in-Ok-match_from-clause-rev_fits : goal.returns-in-Ok-match_from-clause-rev_fits
returns-in-Ok-match_from-clause-rev_fits g c = c.in-Ok.ensures.fits

pub returns-in_default-clause-fwd_fits : goal.returns-in_default-clause-fwd_fits
returns-in_default-clause-fwd_fits g c = c.requires.fwd_fits

pub returns-in_default-clause-rev_fits : goal.returns-in_default-clause-rev_fits
returns-in_default-clause-rev_fits g c = c.in-Ok.ensures.fits

pub returns-then-is_done-clause-fwd_fits : goal.returns-then-is_done-clause-fwd_fits
returns-then-is_done-clause-fwd_fits g c = c.requires.fwd_fits

pub returns-then-is_done-clause-rev_fits : goal.returns-then-is_done-clause-rev_fits
returns-then-is_done-clause-rev_fits g c = c.requires.rev_fits

pub returns-then-is_done-clause-few : goal.returns-then-is_done-clause-few
returns-then-is_done-clause-few g c = omega arith

pub returns-in-Err-clause-few : goal.returns-in-Err-clause-few
returns-in-Err-clause-few g c = omega (arith, c.first_start.ensures.few)

pub returns-in_default-clause-few : goal.returns-in_default-clause-few
returns-in_default-clause-few g c = omega (arith, c.first_start.ensures.few)

pub returns-in-Err-match_from-clause-few : goal.returns-in-Err-match_from-clause-few
returns-in-Err-match_from-clause-few g c = omega (arith, c.first_start.ensures.few, c.match_from.ensures.most)

pub returns-in-Ok-match_from-clause-few : goal.returns-in-Ok-match_from-clause-few
returns-in-Ok-match_from-clause-few g c = omega (arith, c.first_start.ensures.few, c.match_from.ensures.most)

pub returns-in-Err-match_from-clause-err : goal.returns-in-Err-match_from-clause-err
returns-in-Err-match_from-clause-err g c =
    suffix-by-end (g.F.Automaton.dfa c.args.fwd.now) (g.B.Automaton.dfa c.args.rev.now) c.args.pre.now c.args.input.now _ _ _ _ c.in-Err-match_from.error
    c.in-Err-match_from.ensures.err

pub returns-in-Err-clause-err : goal.returns-in-Err-clause-err
returns-in-Err-clause-err g c =
    stops-weaker c.args.patience _ _ c.in-Err.stop
    (λ e f. suffix-by-back (g.F.Automaton.dfa c.args.fwd.now) (g.B.Automaton.dfa c.args.rev.now) c.args.pre.now c.args.input.now _ _ _ _ e f)
    c.in-Err.ensures.err
