use Rattle.std.proofs.Common.{◌≡◌, ℕ, ◌-◌, ◌≤◌, sym, ◌∙◌, ap, subst, arith}
use Rattle.std.specs.Prelude.{IfSome, slice_get}
use Rattle.std.proofs.lemmas.Result.{IfOk-weaker, IfErr-weaker}
use Rattle.rx_search.specs.Matches.{HalfMatchValue}
use Rattle.rx_model.specs.Look.{byte_before}
use Rattle.rx_model.specs.Search.{is_permitted}
use Rattle.rx_dfa.specs.Automaton.{IsReadable}
use Rattle.rx_dfa.specs.Course.{placed, end_of}
use Rattle.rx_dfa.proofs.lemmas.ForwardLemmas.{start-fails, before-there}
use Rattle.rx_dfa.proofs.lemmas.BackwardLemmas.{key_behind}
use Rattle.rx_limited.specs.Parts.{best_within}
use Rattle.rx_limited.specs.Back.{IsOver, IsEnded, EndFails}
use Rattle.rx_limited.proofs.lemmas.RetryLemmas.{just-fails, step-starts, end-fails, end-guarded}
use Rattle.rx_limited.proofs.lemmas.BackLemmas.{goes-end}
use Rattle.rx_limited.proofs.limited.end_at_start.Goals as goal

pub last_state-requires-clause-held : goal.last_state-requires-clause-held
last_state-requires-clause-held g c = (key_behind (g.A.Automaton.dfa c.args.dfa.now) c.args.input.now c.args.input.now.start, c.requires.going.held)

pub returns-in-Err-clause-err : goal.returns-in-Err-clause-err
returns-in-Err-clause-err g c =
    let d = g.A.Automaton.dfa c.args.dfa.now in
    let v = c.args.input.now in
    let hay = c.haystack-haystack.ensures.value in
    let start = c.start-start.result in
    let order = c.requires.in_order in
    let first : start ≡ v.start = c.start-start.ensures.value in
    let beside : c.place_before.result ≡ start - 1 = c.place_before.ensures in
    let got : c.byte_before-byte.result ≡ byte_before v.haystack start = c.byte_before-byte.ensures ∙ ap (λ t. byte_before t start) hay in
    let gives_up = g.A.Automaton.gives_up c.args.dfa.now c.last_state.new.cache in
    let wants = g.A.Automaton.wants c.args.dfa.now in
    subst (EndFails d v gives_up wants) (sym c.retry_of_step.ensures)
    (end-fails d v gives_up wants _
    (just-fails d.nfa v gives_up wants (placed c.place_before.result start c.in-Err.error)
    (start-fails d.nfa v c.byte_before-byte.result c.place_before.result start gives_up wants (placed c.place_before.result start c.in-Err.error)
    (omega arith) (omega arith) (omega arith) (omega arith)
    (λ b is. ap (slice_get v.haystack) beside ∙ before-there v.haystack start b (sym got ∙ is))
    (step-starts d.nfa c.byte_before-byte.result c.place_before.result start gives_up wants c.in-Err.error c.in-Err.ensures.err))))

pub record-found-requires : goal.record-found-requires
record-found-requires g c =
    let last = c.in-Ok.ensures.last (key_behind (g.A.Automaton.dfa c.args.dfa.now) c.args.input.now c.args.input.now.start) c.requires.going.held in
    (last.0, last.1)

pub returns-clause-ended : goal.returns-clause-ended
returns-clause-ended g c =
    let d = g.A.Automaton.dfa c.args.dfa.now in
    let v = c.args.input.now in
    let hay = c.haystack-haystack.ensures.value in
    let spanned = c.haystack-haystack.ensures.spanned.end in
    let bytes = c.requires.going.bytes in
    let start_is : c.start-start.result ≡ v.start = c.start-start.ensures.value in
    let key = key_behind d v v.start in
    let going = c.requires.going in
    let last = c.in-Ok.ensures.last key going.held in
    let got : c.byte_before-byte.result ≡ byte_before v.haystack v.start = c.byte_before-byte.ensures ∙ (λ j. byte_before (hay j) (start_is j)) in
    let may : is_permitted d.nfa.utf8 v.haystack c.start-start.result ≡ c.is_permitted_at-may.result =
    sym (c.is_permitted_at-may.ensures ∙ (λ j. is_permitted (c.is_utf8-utf8.ensures.value j) (hay j) c.start-start.result)) in
    let met = c.record-found.ensures last.0 last.1 (is_permitted d.nfa.utf8 v.haystack) may in
    let over : IsOver d v c.record-found.result =
    goes-end d c.is_utf8-utf8.ensures.sound c.requires.reverse v bytes c.requires.in_order spanned (g.A.Automaton.holds c.args.dfa.now c.args.cache.now)
    (g.A.Automaton.holds c.args.dfa.now c.args.cache.now) c.args.state c.args.best c.record-found.result last.0 going
    (subst (IsReadable d.nfa) got (c.in-Ok.ensures.readable key going.held going.going.going.alive))
    (last.2 ∙ ap (λ o. (end_of d key o).matches) got)
    (met ∙ ap (λ p. best_within (is_permitted d.nfa.utf8 v.haystack) last.0.matches p c.args.best) start_is) in
    IfOk-weaker c.at_start.result _ (IsEnded d v)
    (λ told h. subst (IsEnded d v) (sym h.0) (over, subst (λ (i : ℕ). IfSome c.record-found.result (λ (x : HalfMatchValue). x.offset ≤ i)) start_is h.1))
    c.at_start.ensures.ok

pub returns-clause-err : goal.returns-clause-err
returns-clause-err g c =
    let d = g.A.Automaton.dfa c.args.dfa.now in
    let v = c.args.input.now in
    let hay = c.haystack-haystack.ensures.value in
    let spanned = c.haystack-haystack.ensures.spanned.end in
    let bytes = c.requires.going.bytes in
    let start_is : c.start-start.result ≡ v.start = c.start-start.ensures.value in
    let key = key_behind d v v.start in
    let going = c.requires.going in
    let last = c.in-Ok.ensures.last key going.held in
    let got : c.byte_before-byte.result ≡ byte_before v.haystack v.start = c.byte_before-byte.ensures ∙ (λ j. byte_before (hay j) (start_is j)) in
    let may : is_permitted d.nfa.utf8 v.haystack c.start-start.result ≡ c.is_permitted_at-may.result =
    sym (c.is_permitted_at-may.ensures ∙ (λ j. is_permitted (c.is_utf8-utf8.ensures.value j) (hay j) c.start-start.result)) in
    let met = c.record-found.ensures last.0 last.1 (is_permitted d.nfa.utf8 v.haystack) may in
    let over : IsOver d v c.record-found.result =
    goes-end d c.is_utf8-utf8.ensures.sound c.requires.reverse v bytes c.requires.in_order spanned (g.A.Automaton.holds c.args.dfa.now c.args.cache.now)
    (g.A.Automaton.holds c.args.dfa.now c.args.cache.now) c.args.state c.args.best c.record-found.result last.0 going
    (subst (IsReadable d.nfa) got (c.in-Ok.ensures.readable key going.held going.going.going.alive))
    (last.2 ∙ ap (λ o. (end_of d key o).matches) got)
    (met ∙ ap (λ p. best_within (is_permitted d.nfa.utf8 v.haystack) last.0.matches p c.args.best) start_is) in
    let gives_up = g.A.Automaton.gives_up c.args.dfa.now c.last_state.new.cache in
    let wants = g.A.Automaton.wants c.args.dfa.now in
    IfErr-weaker c.at_start.result _ (EndFails d v gives_up wants)
    (λ e h. end-guarded d v gives_up wants c.record-found.result c.start-start.result start_is over e h) c.at_start.ensures.err
