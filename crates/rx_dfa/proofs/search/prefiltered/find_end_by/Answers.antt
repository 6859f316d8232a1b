use Rattle.rx_model.specs.Search.{is_anchored}
use Rattle.std.proofs.Common.{◌≡◌, ◌+◌, ◌≤◌, ◌<◌, length, sym, ◌∙◌, ap, subst, arith, rules}
use Rattle.rx_search.specs.Input.{InputValue, from_place}
use Rattle.rx_determinize.specs.Permitted.{Progress}
use Rattle.rx_dfa.specs.Candidates.{StandsBy, IsBack, IsStopped, HasNoneBefore}
use Rattle.rx_dfa.specs.Course.{IsMetForwards}
use Rattle.rx_dfa.specs.Search.{SearchFails}
use Rattle.rx_dfa.proofs.lemmas.CandidateLemmas.{stands-start, stands-candidate, stands-back, stands-again, none-left, by-past, by-found, by-unrefused}
use Rattle.rx_dfa.proofs.lemmas.ForwardLemmas.{forwards-between, fails-later}
use Rattle.rx_dfa.proofs.lemmas.PatternLemmas.{forwards-below}
use Rattle.rx_dfa.proofs.search.prefiltered.find_end_by.Goals as goal

pub starts-init : goal.starts-init
starts-init g c =
    let d = g.A.Automaton.dfa c.args.dfa.now in
    let v = c.args.input.now in
    let e = c.clone-rest.ensures.value in
    record {
      rest = e ∙ (λ j. from_place (sym e j).start v);
      stands = subst (λ (w : InputValue). StandsBy d c.args.pre.now v w.start) (sym e)
          (stands-start d c.args.pre.now v c.clone-rest.ensures.spanned.end c.requires.free);
      fits = c.requires.fits;
    }

pub returns-in_default-clause-answer : goal.returns-in_default-clause-answer
returns-in_default-clause-answer g c = λ r p ordered.
    let d = g.A.Automaton.dfa c.args.dfa.now in
    let v = c.args.input.now in
    let needles = c.args.pre.now in
    let i = c.starts.invariant in
    let from = c.starts.rest.start in
    let spanned = c.clone-rest.ensures.spanned.end in
    let free = c.requires.free in
    let end : c.starts.rest.end ≡ v.end = ap (λ (w : InputValue). w.end) i.rest in
    let order : c.starts.rest.start ≤ c.starts.rest.end = search rules in
    let none : HasNoneBefore needles v from (v.end + 1) =
    subst (λ (w : InputValue). HasNoneBefore needles w w.start (w.end + 1)) i.rest c.in_default.ensures in
    none-left d needles v spanned free from (omega arith) none i.stands r p ordered

pub starts-preserved-in-Back : goal.starts-preserved-in-Back
starts-preserved-in-Back g c =
    let d = g.A.Automaton.dfa c.args.dfa.now in
    let v = c.args.input.now in
    let needles = c.args.pre.now in
    let i = c.starts.invariant in
    let from = c.starts.rest.start in
    let spanned = c.clone-rest.ensures.spanned.end in
    let free = c.requires.free in
    let candidate = c.in-Some.candidate in
    let here : c.set_start.new.self ≡ from_place candidate v = c.set_start.ensures ∙ ap (from_place candidate) i.rest in
    let after : from ≤ candidate = c.in-Some.ensures.0 in
    let none : HasNoneBefore needles v from candidate =
    subst (λ (w : InputValue). HasNoneBefore needles w w.start candidate) i.rest c.in-Some.ensures.2 in
    let stands = stands-candidate d needles v spanned free from candidate after none i.stands in
    let stop : IsStopped d (from_place candidate v) c.in-Ok.stop =
    subst (λ (w : InputValue). IsStopped d w c.in-Ok.stop) here c.in-Ok.ensures.stop in
    let place = c.in-Back.place in
    let back : IsBack d (from_place candidate v) place = subst (IsStopped d (from_place candidate v)) c.in-Back.is stop in
    let new_start : c.set_start-in-Back.new.self.start ≡ place = ap (λ (w : InputValue). w.start) c.set_start-in-Back.ensures in
    record {
      rest = c.set_start-in-Back.ensures ∙ ap (from_place place) here ∙ ap (λ n. from_place n v) (sym new_start);
      stands = subst (StandsBy d needles v) (sym new_start) (stands-back d needles v spanned free candidate place stands back);
      fits = c.in-Ok.ensures.fits;
    }

pub returns-in-Some-best-clause-answer : goal.returns-in-Some-best-clause-answer
returns-in-Some-best-clause-answer g c = λ r p ordered.
    let d = g.A.Automaton.dfa c.args.dfa.now in
    let v = c.args.input.now in
    let needles = c.args.pre.now in
    let i = c.starts.invariant in
    let from = c.starts.rest.start in
    let spanned = c.clone-rest.ensures.spanned.end in
    let free = c.requires.free in
    let candidate = c.in-Some.candidate in
    let here : c.set_start.new.self ≡ from_place candidate v = c.set_start.ensures ∙ ap (from_place candidate) i.rest in
    let after : from ≤ candidate = c.in-Some.ensures.0 in
    let none : HasNoneBefore needles v from candidate =
    subst (λ (w : InputValue). HasNoneBefore needles w w.start candidate) i.rest c.in-Some.ensures.2 in
    let stands = stands-candidate d needles v spanned free from candidate after none i.stands in
    let stop : IsStopped d (from_place candidate v) c.in-Ok.stop =
    subst (λ (w : InputValue). IsStopped d w c.in-Ok.stop) here c.in-Ok.ensures.stop in
    let x = c.in-Met.met in
    let m : IsMetForwards d (from_place candidate v) x = subst (IsStopped d (from_place candidate v)) c.in-Met.is stop in
    let best_is = sym (ap (λ (x : Progress). x.best) c.met.view_is) in
    let refused_is = sym (ap (λ (x : Progress). x.refused) c.met.view_is) in
    by-found d needles v spanned free c.in-Ok.ensures.sound c.requires.leftmost candidate stands x m c.in-Some-best.best
    (best_is ∙ c.in-Some-best.is) r p ordered

pub returns-in-Some-best-clause-within : goal.returns-in-Some-best-clause-within
returns-in-Some-best-clause-within g c =
    let d = g.A.Automaton.dfa c.args.dfa.now in
    let v = c.args.input.now in
    let needles = c.args.pre.now in
    let i = c.starts.invariant in
    let from = c.starts.rest.start in
    let spanned = c.clone-rest.ensures.spanned.end in
    let free = c.requires.free in
    let candidate = c.in-Some.candidate in
    let here : c.set_start.new.self ≡ from_place candidate v = c.set_start.ensures ∙ ap (from_place candidate) i.rest in
    let after : from ≤ candidate = c.in-Some.ensures.0 in
    let none : HasNoneBefore needles v from candidate =
    subst (λ (w : InputValue). HasNoneBefore needles w w.start candidate) i.rest c.in-Some.ensures.2 in
    let stands = stands-candidate d needles v spanned free from candidate after none i.stands in
    let stop : IsStopped d (from_place candidate v) c.in-Ok.stop =
    subst (λ (w : InputValue). IsStopped d w c.in-Ok.stop) here c.in-Ok.ensures.stop in
    let x = c.in-Met.met in
    let m : IsMetForwards d (from_place candidate v) x = subst (IsStopped d (from_place candidate v)) c.in-Met.is stop in
    let best_is = sym (ap (λ (x : Progress). x.best) c.met.view_is) in
    let refused_is = sym (ap (λ (x : Progress). x.refused) c.met.view_is) in
    let within = (forwards-between d (from_place candidate v) x m).best c.in-Some-best.best (best_is ∙ c.in-Some-best.is) in
    let first = stands.low in
    let low = within.0 in
    (omega arith, within.1)

pub returns-in-Some-best-clause-in_range : goal.returns-in-Some-best-clause-in_range
returns-in-Some-best-clause-in_range g c =
    let d = g.A.Automaton.dfa c.args.dfa.now in
    let v = c.args.input.now in
    let needles = c.args.pre.now in
    let i = c.starts.invariant in
    let from = c.starts.rest.start in
    let spanned = c.clone-rest.ensures.spanned.end in
    let free = c.requires.free in
    let candidate = c.in-Some.candidate in
    let here : c.set_start.new.self ≡ from_place candidate v = c.set_start.ensures ∙ ap (from_place candidate) i.rest in
    let after : from ≤ candidate = c.in-Some.ensures.0 in
    let none : HasNoneBefore needles v from candidate =
    subst (λ (w : InputValue). HasNoneBefore needles w w.start candidate) i.rest c.in-Some.ensures.2 in
    let stands = stands-candidate d needles v spanned free from candidate after none i.stands in
    let stop : IsStopped d (from_place candidate v) c.in-Ok.stop =
    subst (λ (w : InputValue). IsStopped d w c.in-Ok.stop) here c.in-Ok.ensures.stop in
    let x = c.in-Met.met in
    let m : IsMetForwards d (from_place candidate v) x = subst (IsStopped d (from_place candidate v)) c.in-Met.is stop in
    let best_is = sym (ap (λ (x : Progress). x.best) c.met.view_is) in
    let refused_is = sym (ap (λ (x : Progress). x.refused) c.met.view_is) in
    forwards-below d c.in-Ok.ensures.sound (from_place candidate v) x m c.in-Some-best.best (best_is ∙ c.in-Some-best.is)

pub returns-in_default-refused-clause-answer : goal.returns-in_default-refused-clause-answer
returns-in_default-refused-clause-answer g c = λ r p ordered.
    let d = g.A.Automaton.dfa c.args.dfa.now in
    let v = c.args.input.now in
    let needles = c.args.pre.now in
    let i = c.starts.invariant in
    let from = c.starts.rest.start in
    let spanned = c.clone-rest.ensures.spanned.end in
    let free = c.requires.free in
    let candidate = c.in-Some.candidate in
    let here : c.set_start.new.self ≡ from_place candidate v = c.set_start.ensures ∙ ap (from_place candidate) i.rest in
    let after : from ≤ candidate = c.in-Some.ensures.0 in
    let none : HasNoneBefore needles v from candidate =
    subst (λ (w : InputValue). HasNoneBefore needles w w.start candidate) i.rest c.in-Some.ensures.2 in
    let stands = stands-candidate d needles v spanned free from candidate after none i.stands in
    let stop : IsStopped d (from_place candidate v) c.in-Ok.stop =
    subst (λ (w : InputValue). IsStopped d w c.in-Ok.stop) here c.in-Ok.ensures.stop in
    let x = c.in-Met.met in
    let m : IsMetForwards d (from_place candidate v) x = subst (IsStopped d (from_place candidate v)) c.in-Met.is stop in
    let best_is = sym (ap (λ (x : Progress). x.best) c.met.view_is) in
    let refused_is = sym (ap (λ (x : Progress). x.refused) c.met.view_is) in
    by-unrefused d needles v spanned free c.in-Ok.ensures.sound c.requires.leftmost candidate stands x m (best_is ∙ c.in_default-best.is)
    (refused_is ∙ c.in_default-refused.is) r p ordered

pub overflow_add-refused : goal.overflow_add-refused
overflow_add-refused g c =
    let d = g.A.Automaton.dfa c.args.dfa.now in
    let v = c.args.input.now in
    let needles = c.args.pre.now in
    let i = c.starts.invariant in
    let from = c.starts.rest.start in
    let spanned = c.clone-rest.ensures.spanned.end in
    let free = c.requires.free in
    let candidate = c.in-Some.candidate in
    let here : c.set_start.new.self ≡ from_place candidate v = c.set_start.ensures ∙ ap (from_place candidate) i.rest in
    let after : from ≤ candidate = c.in-Some.ensures.0 in
    let none : HasNoneBefore needles v from candidate =
    subst (λ (w : InputValue). HasNoneBefore needles w w.start candidate) i.rest c.in-Some.ensures.2 in
    let stands = stands-candidate d needles v spanned free from candidate after none i.stands in
    let stop : IsStopped d (from_place candidate v) c.in-Ok.stop =
    subst (λ (w : InputValue). IsStopped d w c.in-Ok.stop) here c.in-Ok.ensures.stop in
    let x = c.in-Met.met in
    let m : IsMetForwards d (from_place candidate v) x = subst (IsStopped d (from_place candidate v)) c.in-Met.is stop in
    let best_is = sym (ap (λ (x : Progress). x.best) c.met.view_is) in
    let refused_is = sym (ap (λ (x : Progress). x.refused) c.met.view_is) in
    let refused = c.in-Some-refused.refused in
    let within = (forwards-between d (from_place candidate v) x m).refused refused (refused_is ∙ c.in-Some-refused.is) in
    let low = within.0 in
    let high = within.1 in
    let whole : length c.haystack-haystack.result.now ≡ length v.haystack = ap length c.haystack-haystack.ensures.value in
    let short = c.haystack-haystack.type_inv in
    omega arith

pub set_start-requires-in-starts : goal.set_start-requires-in-starts
set_start-requires-in-starts g c =
    let d = g.A.Automaton.dfa c.args.dfa.now in
    let v = c.args.input.now in
    let needles = c.args.pre.now in
    let i = c.starts.invariant in
    let from = c.starts.rest.start in
    let spanned = c.clone-rest.ensures.spanned.end in
    let free = c.requires.free in
    let candidate = c.in-Some.candidate in
    let here : c.set_start.new.self ≡ from_place candidate v = c.set_start.ensures ∙ ap (from_place candidate) i.rest in
    let after : from ≤ candidate = c.in-Some.ensures.0 in
    let none : HasNoneBefore needles v from candidate =
    subst (λ (w : InputValue). HasNoneBefore needles w w.start candidate) i.rest c.in-Some.ensures.2 in
    let stands = stands-candidate d needles v spanned free from candidate after none i.stands in
    let stop : IsStopped d (from_place candidate v) c.in-Ok.stop =
    subst (λ (w : InputValue). IsStopped d w c.in-Ok.stop) here c.in-Ok.ensures.stop in
    let x = c.in-Met.met in
    let m : IsMetForwards d (from_place candidate v) x = subst (IsStopped d (from_place candidate v)) c.in-Met.is stop in
    let best_is = sym (ap (λ (x : Progress). x.best) c.met.view_is) in
    let refused_is = sym (ap (λ (x : Progress). x.refused) c.met.view_is) in
    let refused = c.in-Some-refused.refused in
    let within = (forwards-between d (from_place candidate v) x m).refused refused (refused_is ∙ c.in-Some-refused.is) in
    let low = within.0 in
    let high = within.1 in
    let end : c.set_start.new.self.end ≡ v.end = ap (λ (w : InputValue). w.end) here in
    omega arith

pub starts-smaller : goal.starts-smaller
starts-smaller g c =
    let d = g.A.Automaton.dfa c.args.dfa.now in
    let v = c.args.input.now in
    let needles = c.args.pre.now in
    let i = c.starts.invariant in
    let from = c.starts.rest.start in
    let spanned = c.clone-rest.ensures.spanned.end in
    let free = c.requires.free in
    let candidate = c.in-Some.candidate in
    let here : c.set_start.new.self ≡ from_place candidate v = c.set_start.ensures ∙ ap (from_place candidate) i.rest in
    let after : from ≤ candidate = c.in-Some.ensures.0 in
    let none : HasNoneBefore needles v from candidate =
    subst (λ (w : InputValue). HasNoneBefore needles w w.start candidate) i.rest c.in-Some.ensures.2 in
    let stands = stands-candidate d needles v spanned free from candidate after none i.stands in
    let stop : IsStopped d (from_place candidate v) c.in-Ok.stop =
    subst (λ (w : InputValue). IsStopped d w c.in-Ok.stop) here c.in-Ok.ensures.stop in
    let x = c.in-Met.met in
    let m : IsMetForwards d (from_place candidate v) x = subst (IsStopped d (from_place candidate v)) c.in-Met.is stop in
    let best_is = sym (ap (λ (x : Progress). x.best) c.met.view_is) in
    let refused_is = sym (ap (λ (x : Progress). x.refused) c.met.view_is) in
    let refused = c.in-Some-refused.refused in
    let within = (forwards-between d (from_place candidate v) x m).refused refused (refused_is ∙ c.in-Some-refused.is) in
    let low = within.0 in
    let high = within.1 in
    let end : c.starts.rest.end ≡ v.end = ap (λ (w : InputValue). w.end) i.rest in
    let mid_end : c.set_start.new.self.end ≡ v.end = ap (λ (w : InputValue). w.end) here in
    let new_end : c.set_start-in-starts.new.self.end ≡ c.set_start.new.self.end = ap (λ (w : InputValue). w.end) c.set_start-in-starts.ensures in
    let new_start : c.set_start-in-starts.new.self.start ≡ refused + 1 = ap (λ (w : InputValue). w.start) c.set_start-in-starts.ensures in
    omega arith

pub starts-preserved : goal.starts-preserved
starts-preserved g c =
    let d = g.A.Automaton.dfa c.args.dfa.now in
    let v = c.args.input.now in
    let needles = c.args.pre.now in
    let i = c.starts.invariant in
    let from = c.starts.rest.start in
    let spanned = c.clone-rest.ensures.spanned.end in
    let free = c.requires.free in
    let candidate = c.in-Some.candidate in
    let here : c.set_start.new.self ≡ from_place candidate v = c.set_start.ensures ∙ ap (from_place candidate) i.rest in
    let after : from ≤ candidate = c.in-Some.ensures.0 in
    let none : HasNoneBefore needles v from candidate =
    subst (λ (w : InputValue). HasNoneBefore needles w w.start candidate) i.rest c.in-Some.ensures.2 in
    let stands = stands-candidate d needles v spanned free from candidate after none i.stands in
    let stop : IsStopped d (from_place candidate v) c.in-Ok.stop =
    subst (λ (w : InputValue). IsStopped d w c.in-Ok.stop) here c.in-Ok.ensures.stop in
    let x = c.in-Met.met in
    let m : IsMetForwards d (from_place candidate v) x = subst (IsStopped d (from_place candidate v)) c.in-Met.is stop in
    let best_is = sym (ap (λ (x : Progress). x.best) c.met.view_is) in
    let refused_is = sym (ap (λ (x : Progress). x.refused) c.met.view_is) in
    let refused = c.in-Some-refused.refused in
    let within = (forwards-between d (from_place candidate v) x m).refused refused (refused_is ∙ c.in-Some-refused.is) in
    let low = within.0 in
    let high = within.1 in
    let new_start : c.set_start-in-starts.new.self.start ≡ refused + 1 = ap (λ (w : InputValue). w.start) c.set_start-in-starts.ensures in
    record {
      rest = c.set_start-in-starts.ensures ∙ ap (from_place (refused + 1)) here ∙ ap (λ n. from_place n v) (sym new_start);
      stands = subst (StandsBy d needles v) (sym new_start)
          (stands-again d needles v spanned free c.in-Ok.ensures.sound c.requires.leftmost candidate stands x m (best_is ∙ c.in_default-best.is) refused
          (refused_is ∙ c.in-Some-refused.is));
      fits = c.in-Ok.ensures.fits;
    }

pub returns-clause-answer : goal.returns-clause-answer
returns-clause-answer g c = λ r p ordered.
    let d = g.A.Automaton.dfa c.args.dfa.now in
    let v = c.args.input.now in
    let needles = c.args.pre.now in
    let i = c.starts.invariant in
    let from = c.starts.rest.start in
    let spanned = c.clone-rest.ensures.spanned.end in
    let free = c.requires.free in
    let end : c.starts.rest.end ≡ v.end = ap (λ (w : InputValue). w.end) i.rest in
    let past : c.starts.rest.end < c.starts.rest.start = search rules in
    by-past d needles v spanned free from (omega arith) i.stands r p ordered

pub returns-clause-err : goal.returns-clause-err
returns-clause-err g c = tt

pub returns-in_default-clause-err : goal.returns-in_default-clause-err
returns-in_default-clause-err g c = tt

pub returns-in_default-refused-clause-err : goal.returns-in_default-refused-clause-err
returns-in_default-refused-clause-err g c = tt

pub returns-clause-in_range : goal.returns-clause-in_range
returns-clause-in_range g c = tt

pub returns-in_default-clause-in_range : goal.returns-in_default-clause-in_range
returns-in_default-clause-in_range g c = tt

pub returns-in_default-refused-clause-in_range : goal.returns-in_default-refused-clause-in_range
returns-in_default-refused-clause-in_range g c = tt

pub returns-clause-within : goal.returns-clause-within
returns-clause-within g c = tt

pub returns-in_default-clause-within : goal.returns-in_default-clause-within
returns-in_default-clause-within g c = tt

pub returns-in_default-refused-clause-within : goal.returns-in_default-refused-clause-within
returns-in_default-refused-clause-within g c = tt

pub returns-in-Some-best-clause-err : goal.returns-in-Some-best-clause-err
returns-in-Some-best-clause-err g c = tt

pub returns-in-Err-clause-in_range : goal.returns-in-Err-clause-in_range
returns-in-Err-clause-in_range g c = tt

pub returns-in-Err-clause-within : goal.returns-in-Err-clause-within
returns-in-Err-clause-within g c = tt

pub returns-in-Err-clause-answer : goal.returns-in-Err-clause-answer
returns-in-Err-clause-answer g c = λ r p ordered. tt

pub returns-clause-fits : goal.returns-clause-fits
returns-clause-fits g c = c.starts.invariant.fits

pub returns-in_default-clause-fits : goal.returns-in_default-clause-fits
returns-in_default-clause-fits g c = c.starts.invariant.fits

pub returns-in-Some-best-clause-fits : goal.returns-in-Some-best-clause-fits
returns-in-Some-best-clause-fits g c = c.in-Ok.ensures.fits

pub returns-in_default-refused-clause-fits : goal.returns-in_default-refused-clause-fits
returns-in_default-refused-clause-fits g c = c.in-Ok.ensures.fits

pub returns-in-Err-clause-fits : goal.returns-in-Err-clause-fits
returns-in-Err-clause-fits g c = c.in-Err.ensures.fits

pub run_course-requires-clause-fits : goal.run_course-requires-clause-fits
run_course-requires-clause-fits g c = c.starts.invariant.fits

pub run_course-requires-clause-forward : goal.run_course-requires-clause-forward
run_course-requires-clause-forward g c = c.requires.forward

pub run_course-requires-clause-leftmost : goal.run_course-requires-clause-leftmost
run_course-requires-clause-leftmost g c = c.requires.leftmost

pub run_course-requires-clause-in_order : goal.run_course-requires-clause-in_order
run_course-requires-clause-in_order g c =
    subst (λ (w : InputValue). w.start ≤ w.end) (sym c.set_start.ensures) c.in-Some.ensures.1

pub run_course-requires-clause-free : goal.run_course-requires-clause-free
run_course-requires-clause-free g c =
    ap (λ (w : InputValue). is_anchored w.anchor) (c.set_start.ensures ∙ ap (from_place c.in-Some.candidate) c.starts.invariant.rest) ∙ c.requires.free

pub returns-in-Err-clause-err : goal.returns-in-Err-clause-err
returns-in-Err-clause-err g c =
    let d = g.A.Automaton.dfa c.args.dfa.now in
    let v = c.args.input.now in
    let i = c.starts.invariant in
    let candidate = c.in-Some.candidate in
    let here : c.set_start.new.self ≡ from_place candidate v = c.set_start.ensures ∙ ap (from_place candidate) i.rest in
    let gives_up = g.A.Automaton.gives_up c.args.dfa.now c.run_course.new.cache in
    let wants = g.A.Automaton.wants c.args.dfa.now in
    fails-later d.nfa v candidate gives_up wants c.in-Err.error (omega (arith, i.stands.low, c.in-Some.ensures.0))
    (subst (λ (w : InputValue). SearchFails d.nfa w gives_up wants c.in-Err.error) here c.in-Err.ensures.err)

pub set_start-requires : goal.set_start-requires
set_start-requires g c = omega (arith, c.in-Some.ensures.1)
