use Rattle.std.proofs.Common.{◌≡◌, ◌+◌, ◌<◌, length, sym, ◌∙◌, ap, subst, arith, rules}
use Rattle.rx_model.specs.Search.{is_anchored}
use Rattle.rx_search.specs.Input.{InputValue, from_place}
use Rattle.rx_determinize.specs.Permitted.{Progress}
use Rattle.rx_dfa.specs.Course.{IsMetForwards}
use Rattle.rx_dfa.specs.Search.{SearchFails}
use Rattle.rx_dfa.proofs.lemmas.ForwardLemmas.{Stands, stands-first, stands-next, forwards-between, answer-found, answer-anchored, answer-unrefused, nothing-past, fails-later}
use Rattle.rx_dfa.proofs.lemmas.LastLemmas.{last-of-found, none-of-missing, answer-none, last-past}
use Rattle.rx_dfa.proofs.lemmas.KindLemmas.{kinds-apart}
use Rattle.rx_dfa.proofs.lemmas.PatternLemmas.{forwards-below}
use Rattle.rx_dfa.proofs.search.forward.find_end.Goals as goal

pub starts-init : goal.starts-init
starts-init g c =
    let d = g.A.Automaton.dfa c.args.dfa.now in
    let v = c.args.input.now in
    let e = c.clone-rest.ensures.value in
    record {
      rest = e ∙ (λ j. from_place (sym e j).start v);
      stands = subst (λ (w : InputValue). Stands d v w.start) (sym e) (stands-first d v);
      fits = c.requires.fits;
    }

pub returns-in-Err-clause-err : goal.returns-in-Err-clause-err
returns-in-Err-clause-err g c =
    let d = g.A.Automaton.dfa c.args.dfa.now in
    let v = c.args.input.now in
    let i = c.starts.invariant in
    let gives_up = g.A.Automaton.gives_up c.args.dfa.now c.run_forward.new.cache in
    let wants = g.A.Automaton.wants c.args.dfa.now in
    fails-later d.nfa v c.starts.rest.start gives_up wants c.in-Err.error i.stands.low
    (subst (λ (w : InputValue). SearchFails d.nfa w gives_up wants c.in-Err.error) i.rest c.in-Err.ensures.err)

pub returns-in-Some-clause-answer : goal.returns-in-Some-clause-answer
returns-in-Some-clause-answer g c = λ r p leftmost.
    let best_is = sym (ap (λ (x : Progress). x.best) c.met.view_is) in
    let d = g.A.Automaton.dfa c.args.dfa.now in
    let v = c.args.input.now in
    let i = c.starts.invariant in
    let from = c.starts.rest.start in
    let spanned = c.clone-rest.ensures.spanned.end in
    let m : IsMetForwards d (from_place from v) c.in-Ok.met = subst (λ (w : InputValue). IsMetForwards d w c.in-Ok.met) i.rest c.in-Ok.ensures.met in
    answer-found d c.in-Ok.ensures.sound v spanned from i.stands c.in-Ok.met m c.in-Some.best (best_is ∙ c.in-Some.is) r p leftmost

pub returns-in-Some-clause-within : goal.returns-in-Some-clause-within
returns-in-Some-clause-within g c =
    let best_is = sym (ap (λ (x : Progress). x.best) c.met.view_is) in
    let d = g.A.Automaton.dfa c.args.dfa.now in
    let v = c.args.input.now in
    let i = c.starts.invariant in
    let from = c.starts.rest.start in
    let spanned = c.clone-rest.ensures.spanned.end in
    let m : IsMetForwards d (from_place from v) c.in-Ok.met = subst (λ (w : InputValue). IsMetForwards d w c.in-Ok.met) i.rest c.in-Ok.ensures.met in
    let within = (forwards-between d (from_place from v) c.in-Ok.met m).best c.in-Some.best (best_is ∙ c.in-Some.is) in
    let first = i.stands.low in
    let low = within.0 in
    (omega arith, within.1)

pub returns-then-is_anchored-clause-answer : goal.returns-then-is_anchored-clause-answer
returns-then-is_anchored-clause-answer g c = λ r p leftmost.
    let best_is = sym (ap (λ (x : Progress). x.best) c.met.view_is) in
    let d = g.A.Automaton.dfa c.args.dfa.now in
    let v = c.args.input.now in
    let i = c.starts.invariant in
    let from = c.starts.rest.start in
    let spanned = c.clone-rest.ensures.spanned.end in
    let m : IsMetForwards d (from_place from v) c.in-Ok.met = subst (λ (w : InputValue). IsMetForwards d w c.in-Ok.met) i.rest c.in-Ok.ensures.met in
    let on : is_anchored v.anchor ≡ c.is_anchored.result =
    ap is_anchored (sym (c.get_anchored.ensures ∙ ap (λ (w : InputValue). w.anchor) i.rest)) ∙ sym c.is_anchored.ensures in
    answer-anchored d c.in-Ok.ensures.sound v spanned from i.stands c.in-Ok.met m (best_is ∙ c.in_default.is) (on ∙ c.if-is_anchored.true) r p leftmost

pub returns-then-tells_every-clause-answer : goal.returns-then-tells_every-clause-answer
returns-then-tells_every-clause-answer g c = λ r p leftmost.
    kinds-apart (g.A.Automaton.dfa c.args.dfa.now).kind leftmost (sym c.match_kind.ensures ∙ c.tells_every.ensures.0 c.if-tells_every.true)

pub returns-then-tells_every-clause-last : goal.returns-then-tells_every-clause-last
returns-then-tells_every-clause-last g c = λ every.
    let best_is = sym (ap (λ (x : Progress). x.best) c.met.view_is) in
    let d = g.A.Automaton.dfa c.args.dfa.now in
    let v = c.args.input.now in
    let i = c.starts.invariant in
    let from = c.starts.rest.start in
    let spanned = c.clone-rest.ensures.spanned.end in
    let m : IsMetForwards d (from_place from v) c.in-Ok.met = subst (λ (w : InputValue). IsMetForwards d w c.in-Ok.met) i.rest c.in-Ok.ensures.met in
    answer-none d v
    (none-of-missing d c.in-Ok.ensures.sound every v spanned from i.stands.low i.stands.begins (i.stands.over every) c.in-Ok.met m
    (best_is ∙ c.in_default.is))

pub returns-in_default-refused-clause-answer : goal.returns-in_default-refused-clause-answer
returns-in_default-refused-clause-answer g c = λ r p leftmost.
    let best_is = sym (ap (λ (x : Progress). x.best) c.met.view_is) in
    let refused_is = sym (ap (λ (x : Progress). x.refused) c.met.view_is) in
    let d = g.A.Automaton.dfa c.args.dfa.now in
    let v = c.args.input.now in
    let i = c.starts.invariant in
    let from = c.starts.rest.start in
    let spanned = c.clone-rest.ensures.spanned.end in
    let m : IsMetForwards d (from_place from v) c.in-Ok.met = subst (λ (w : InputValue). IsMetForwards d w c.in-Ok.met) i.rest c.in-Ok.ensures.met in
    answer-unrefused d c.in-Ok.ensures.sound v spanned from i.stands c.in-Ok.met m (best_is ∙ c.in_default.is)
    (refused_is ∙ c.in_default-refused.is) r p leftmost

pub overflow_add-refused : goal.overflow_add-refused
overflow_add-refused g c =
    let refused_is = sym (ap (λ (x : Progress). x.refused) c.met.view_is) in
    let d = g.A.Automaton.dfa c.args.dfa.now in
    let v = c.args.input.now in
    let i = c.starts.invariant in
    let from = c.starts.rest.start in
    let spanned = c.clone-rest.ensures.spanned.end in
    let m : IsMetForwards d (from_place from v) c.in-Ok.met = subst (λ (w : InputValue). IsMetForwards d w c.in-Ok.met) i.rest c.in-Ok.ensures.met in
    let within = (forwards-between d (from_place from v) c.in-Ok.met m).refused c.in-Some-refused.refused (refused_is ∙ c.in-Some-refused.is) in
    let high = within.1 in
    let whole : length c.haystack-haystack.result.now ≡ length v.haystack = ap length c.haystack-haystack.ensures.value in
    let short = c.haystack-haystack.type_inv in
    omega arith

pub set_start-requires : goal.set_start-requires
set_start-requires g c =
    let refused_is = sym (ap (λ (x : Progress). x.refused) c.met.view_is) in
    let d = g.A.Automaton.dfa c.args.dfa.now in
    let v = c.args.input.now in
    let i = c.starts.invariant in
    let from = c.starts.rest.start in
    let spanned = c.clone-rest.ensures.spanned.end in
    let m : IsMetForwards d (from_place from v) c.in-Ok.met = subst (λ (w : InputValue). IsMetForwards d w c.in-Ok.met) i.rest c.in-Ok.ensures.met in
    let within = (forwards-between d (from_place from v) c.in-Ok.met m).refused c.in-Some-refused.refused (refused_is ∙ c.in-Some-refused.is) in
    let high = within.1 in
    let end : c.starts.rest.end ≡ v.end = ap (λ (w : InputValue). w.end) i.rest in
    omega arith

pub starts-smaller : goal.starts-smaller
starts-smaller g c =
    let refused_is = sym (ap (λ (x : Progress). x.refused) c.met.view_is) in
    let d = g.A.Automaton.dfa c.args.dfa.now in
    let v = c.args.input.now in
    let i = c.starts.invariant in
    let from = c.starts.rest.start in
    let spanned = c.clone-rest.ensures.spanned.end in
    let m : IsMetForwards d (from_place from v) c.in-Ok.met = subst (λ (w : InputValue). IsMetForwards d w c.in-Ok.met) i.rest c.in-Ok.ensures.met in
    let within = (forwards-between d (from_place from v) c.in-Ok.met m).refused c.in-Some-refused.refused (refused_is ∙ c.in-Some-refused.is) in
    let low = within.0 in
    let high = within.1 in
    let end : c.starts.rest.end ≡ v.end = ap (λ (w : InputValue). w.end) i.rest in
    let new_end : c.set_start.new.self.end ≡ c.starts.rest.end = ap (λ (w : InputValue). w.end) c.set_start.ensures in
    let new_start : c.set_start.new.self.start ≡ c.in-Some-refused.refused + 1 = ap (λ (w : InputValue). w.start) c.set_start.ensures in
    omega arith

pub starts-preserved : goal.starts-preserved
starts-preserved g c =
    let best_is = sym (ap (λ (x : Progress). x.best) c.met.view_is) in
    let refused_is = sym (ap (λ (x : Progress). x.refused) c.met.view_is) in
    let d = g.A.Automaton.dfa c.args.dfa.now in
    let v = c.args.input.now in
    let i = c.starts.invariant in
    let from = c.starts.rest.start in
    let spanned = c.clone-rest.ensures.spanned.end in
    let m : IsMetForwards d (from_place from v) c.in-Ok.met = subst (λ (w : InputValue). IsMetForwards d w c.in-Ok.met) i.rest c.in-Ok.ensures.met in
    let on : is_anchored v.anchor ≡ c.is_anchored.result =
    ap is_anchored (sym (c.get_anchored.ensures ∙ ap (λ (w : InputValue). w.anchor) i.rest)) ∙ sym c.is_anchored.ensures in
    let new_start : c.set_start.new.self.start ≡ c.in-Some-refused.refused + 1 = ap (λ (w : InputValue). w.start) c.set_start.ensures in
    record {
      rest = c.set_start.ensures ∙ ap (from_place (c.in-Some-refused.refused + 1)) i.rest ∙ ap (λ n. from_place n v) (sym new_start);
      stands = subst (Stands d v) (sym new_start)
          (stands-next d c.in-Ok.ensures.sound v spanned from i.stands c.in-Ok.met m (best_is ∙ c.in_default.is) (on ∙ c.if-is_anchored.false)
          c.in-Some-refused.refused (refused_is ∙ c.in-Some-refused.is));
      fits = c.in-Ok.ensures.fits;
    }

pub returns-clause-answer : goal.returns-clause-answer
returns-clause-answer g c = λ r p leftmost.
    let d = g.A.Automaton.dfa c.args.dfa.now in
    let v = c.args.input.now in
    let i = c.starts.invariant in
    let end : c.starts.rest.end ≡ v.end = ap (λ (w : InputValue). w.end) i.rest in
    let past : c.starts.rest.end < c.starts.rest.start = search rules in
    nothing-past d v c.starts.rest.start i.stands (omega arith) r p leftmost

pub returns-in-Some-clause-last : goal.returns-in-Some-clause-last
returns-in-Some-clause-last g c = λ every.
    let best_is = sym (ap (λ (x : Progress). x.best) c.met.view_is) in
    let d = g.A.Automaton.dfa c.args.dfa.now in
    let v = c.args.input.now in
    let i = c.starts.invariant in
    let from = c.starts.rest.start in
    let spanned = c.clone-rest.ensures.spanned.end in
    let m : IsMetForwards d (from_place from v) c.in-Ok.met = subst (λ (w : InputValue). IsMetForwards d w c.in-Ok.met) i.rest c.in-Ok.ensures.met in
    last-of-found d c.in-Ok.ensures.sound every v spanned from i.stands.low i.stands.begins (i.stands.over every) c.in-Ok.met m c.in-Some.best
    (best_is ∙ c.in-Some.is)

pub returns-then-is_anchored-clause-last : goal.returns-then-is_anchored-clause-last
returns-then-is_anchored-clause-last g c = λ every.
    let best_is = sym (ap (λ (x : Progress). x.best) c.met.view_is) in
    let d = g.A.Automaton.dfa c.args.dfa.now in
    let v = c.args.input.now in
    let i = c.starts.invariant in
    let from = c.starts.rest.start in
    let spanned = c.clone-rest.ensures.spanned.end in
    let m : IsMetForwards d (from_place from v) c.in-Ok.met = subst (λ (w : InputValue). IsMetForwards d w c.in-Ok.met) i.rest c.in-Ok.ensures.met in
    answer-none d v
    (none-of-missing d c.in-Ok.ensures.sound every v spanned from i.stands.low i.stands.begins (i.stands.over every) c.in-Ok.met m
    (best_is ∙ c.in_default.is))

pub returns-in_default-refused-clause-last : goal.returns-in_default-refused-clause-last
returns-in_default-refused-clause-last g c = λ every.
    let best_is = sym (ap (λ (x : Progress). x.best) c.met.view_is) in
    let d = g.A.Automaton.dfa c.args.dfa.now in
    let v = c.args.input.now in
    let i = c.starts.invariant in
    let from = c.starts.rest.start in
    let spanned = c.clone-rest.ensures.spanned.end in
    let m : IsMetForwards d (from_place from v) c.in-Ok.met = subst (λ (w : InputValue). IsMetForwards d w c.in-Ok.met) i.rest c.in-Ok.ensures.met in
    answer-none d v
    (none-of-missing d c.in-Ok.ensures.sound every v spanned from i.stands.low i.stands.begins (i.stands.over every) c.in-Ok.met m
    (best_is ∙ c.in_default.is))

pub returns-clause-last : goal.returns-clause-last
returns-clause-last g c = λ every.
    let d = g.A.Automaton.dfa c.args.dfa.now in
    let v = c.args.input.now in
    let i = c.starts.invariant in
    let end : c.starts.rest.end ≡ v.end = ap (λ (w : InputValue). w.end) i.rest in
    let past : c.starts.rest.end < c.starts.rest.start = search rules in
    last-past d v c.starts.rest.start (omega arith) (i.stands.over every)

pub returns-in-Some-clause-in_range : goal.returns-in-Some-clause-in_range
returns-in-Some-clause-in_range g c =
    let best_is = sym (ap (λ (x : Progress). x.best) c.met.view_is) in
    let d = g.A.Automaton.dfa c.args.dfa.now in
    let v = c.args.input.now in
    let i = c.starts.invariant in
    let from = c.starts.rest.start in
    let m : IsMetForwards d (from_place from v) c.in-Ok.met = subst (λ (w : InputValue). IsMetForwards d w c.in-Ok.met) i.rest c.in-Ok.ensures.met in
    forwards-below d c.in-Ok.ensures.sound (from_place from v) c.in-Ok.met m c.in-Some.best (best_is ∙ c.in-Some.is)

pub returns-in-Err-clause-answer : goal.returns-in-Err-clause-answer
returns-in-Err-clause-answer g c = λ r p leftmost. tt

pub returns-in-Err-clause-last : goal.returns-in-Err-clause-last
returns-in-Err-clause-last g c = λ every. tt

pub returns-in-Err-clause-within : goal.returns-in-Err-clause-within
returns-in-Err-clause-within g c = tt

pub returns-in-Err-clause-in_range : goal.returns-in-Err-clause-in_range
returns-in-Err-clause-in_range g c = tt

pub returns-in-Err-clause-fits : goal.returns-in-Err-clause-fits
returns-in-Err-clause-fits g c = c.in-Err.ensures.fits

pub returns-in-Some-clause-err : goal.returns-in-Some-clause-err
returns-in-Some-clause-err g c = tt

pub returns-in-Some-clause-fits : goal.returns-in-Some-clause-fits
returns-in-Some-clause-fits g c = c.in-Ok.ensures.fits

pub returns-then-is_anchored-clause-within : goal.returns-then-is_anchored-clause-within
returns-then-is_anchored-clause-within g c = tt

pub returns-then-is_anchored-clause-in_range : goal.returns-then-is_anchored-clause-in_range
returns-then-is_anchored-clause-in_range g c = tt

pub returns-then-is_anchored-clause-err : goal.returns-then-is_anchored-clause-err
returns-then-is_anchored-clause-err g c = tt

pub returns-then-is_anchored-clause-fits : goal.returns-then-is_anchored-clause-fits
returns-then-is_anchored-clause-fits g c = c.in-Ok.ensures.fits

pub returns-then-tells_every-clause-within : goal.returns-then-tells_every-clause-within
returns-then-tells_every-clause-within g c = tt

pub returns-then-tells_every-clause-in_range : goal.returns-then-tells_every-clause-in_range
returns-then-tells_every-clause-in_range g c = tt

pub returns-then-tells_every-clause-err : goal.returns-then-tells_every-clause-err
returns-then-tells_every-clause-err g c = tt

pub returns-then-tells_every-clause-fits : goal.returns-then-tells_every-clause-fits
returns-then-tells_every-clause-fits g c = c.in-Ok.ensures.fits

pub returns-in_default-refused-clause-within : goal.returns-in_default-refused-clause-within
returns-in_default-refused-clause-within g c = tt

pub returns-in_default-refused-clause-in_range : goal.returns-in_default-refused-clause-in_range
returns-in_default-refused-clause-in_range g c = tt

pub returns-in_default-refused-clause-err : goal.returns-in_default-refused-clause-err
returns-in_default-refused-clause-err g c = tt

pub returns-in_default-refused-clause-fits : goal.returns-in_default-refused-clause-fits
returns-in_default-refused-clause-fits g c = c.in-Ok.ensures.fits

pub returns-clause-within : goal.returns-clause-within
returns-clause-within g c = tt

pub returns-clause-in_range : goal.returns-clause-in_range
returns-clause-in_range g c = tt

pub returns-clause-err : goal.returns-clause-err
returns-clause-err g c = tt

pub returns-clause-fits : goal.returns-clause-fits
returns-clause-fits g c = c.starts.invariant.fits

pub run_forward-requires-clause-fits : goal.run_forward-requires-clause-fits
run_forward-requires-clause-fits g c = c.starts.invariant.fits

pub run_forward-requires-clause-forward : goal.run_forward-requires-clause-forward
run_forward-requires-clause-forward g c = c.requires.forward
