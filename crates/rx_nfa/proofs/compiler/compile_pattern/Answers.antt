use Rattle.std.proofs.Common.{◌<◌, ◌∙◌, sym, ap, subst, arith, length}
use Rattle.std.proofs.lemmas.Result.{IfOk-from_err}
use Rattle.std.proofs.lemmas.List.{length_push}
use Rattle.std.specs.Prelude.{IfSome}
use Rattle.rx_model.specs.Graph.{build_state}
use Rattle.rx_model.specs.Search.{greatest_group}
use Rattle.rx_nfa.specs.Built.{Built, bound, build_bounds}
use Rattle.rx_nfa.specs.Directed.{part_for}
use Rattle.rx_search.specs.GroupInfo.{groups_at}
use Rattle.rx_nfa.specs.Draft.{Draft, Continues}
use Rattle.rx_nfa.specs.Slots.{IsSlotOf}
use Rattle.rx_nfa.specs.declared.state.State.TheVariants.{Match}
use Rattle.rx_nfa.proofs.lemmas.parts.BuiltLemmas.{Extends-continues, Extends-trans, Continues-trans, Continues-accepting}
use Rattle.rx_nfa.proofs.lemmas.parts.CompileLemmas.{HasRoom-kept}
use Rattle.rx_nfa.proofs.lemmas.runs.GroupLemmas.{whole-own, whole-own-last}
use Rattle.rx_nfa.proofs.lemmas.runs.PatternLemmas.{HasPart-pattern}
use Rattle.rx_nfa.proofs.lemmas.parts.SlotLemmas.{Built-bounds}
use Rattle.rx_nfa.proofs.lemmas.parts.BoundLemmas.{first-below, second-below}
use Rattle.rx_search.specs.Limits.{slot_limit}
use Rattle.rx_nfa.proofs.compiler.compile_pattern.Goals as goal

pub returns-clause-has : goal.returns-clause-has
returns-clause-has c =
    let groups = c.args.groups.now in
    let body = part_for c.args.groups.now c.args.hir.now in
    let whole = c.args.groups.now.whole_slot in
    let last = subst (λ o. Built (build_state (bound o)) c.in_ok-accept.accept c.push_match.new.self c.push_bound.new.builder c.in_ok-close.close)
    c.second_slot-last_slot.ensures c.in_ok-close.ensures.built in
    let part = Built-bounds body whole c.in_ok-accept.accept c.in_ok-close.close c.in_ok-body.body c.in_ok-open.open
    c.push_match.new.self c.push_bound.new.builder c.compile.new.builder c.push_bound-2.new.builder last c.in_ok-body.ensures.built c.in_ok-open.ensures.built in
    HasPart-pattern whole body c.args.groups.now.pattern c.args.builder.now c.push_match.new.self c.push_bound-2.new.builder c.in_ok-open.open
    c.in_ok-accept.ensures.states
    (subst (λ q. Built (build_bounds whole body) q c.push_match.new.self c.push_bound-2.new.builder c.in_ok-open.open) c.in_ok-accept.ensures.id part)

pub push_bound-requires-clause-own : goal.push_bound-requires-clause-own
push_bound-requires-clause-own c =
    let p = c.args.groups.now.pattern in
    let old = c.args.builder.now in
    let more = c.requires.room.enough in
    let some : 0 < length (groups_at old.groups p) = omega arith in
    let same = ap (λ (d : Draft). d.groups) c.in_ok-accept.ensures.states in
    subst (λ gs. IfSome c.second_slot-last_slot.result (λ number. IsSlotOf gs p number)) (sym same)
    (subst (λ o. IfSome o (λ number. IsSlotOf old.groups p number)) (sym c.second_slot-last_slot.ensures)
    (whole-own-last old.groups p c.args.groups.now.whole_slot some c.requires.own))

pub push_bound-requires-2-clause-own : goal.push_bound-requires-2-clause-own
push_bound-requires-2-clause-own c =
    let p = c.args.groups.now.pattern in
    let old = c.args.builder.now in
    let more = c.requires.room.enough in
    let some : 0 < length (groups_at old.groups p) = omega arith in
    let same =
    c.in_ok-body.ensures.built.extends.groups ∙ c.in_ok-close.ensures.built.extends.groups ∙ ap (λ (d : Draft). d.groups) c.in_ok-accept.ensures.states in
    subst (λ gs. IfSome c.args.groups.now.whole_slot (λ number. IsSlotOf gs p number)) (sym same)
    (whole-own old.groups p c.args.groups.now.whole_slot some c.requires.own)

pub returns-clause-extends : goal.returns-clause-extends
returns-clause-extends c =
    let old = c.args.builder.now in
    let mid = c.push_match.new.self in
    let close = c.push_bound.new.builder in
    let body = c.compile.new.builder in
    let new = c.push_bound-2.new.builder in
    let later = Extends-trans mid close new c.in_ok-close.ensures.built.extends
    (Extends-trans close body new c.in_ok-body.ensures.built.extends c.in_ok-open.ensures.built.extends) in
    Continues-trans old mid new (subst (Continues old) (sym c.in_ok-accept.ensures.states) (Continues-accepting old c.args.groups.now.pattern))
    (Extends-continues mid new later)

pub returns-clause-accepted : goal.returns-clause-accepted
returns-clause-accepted c =
    let first = ap (λ (d : Draft). d.accepted) c.in_ok-accept.ensures.states in
    let last_bound = c.in_ok-close.ensures.built.extends.accepted in
    let body = c.in_ok-body.ensures.built.extends.accepted in
    let first_bound = c.in_ok-open.ensures.built.extends.accepted in
    omega arith

pub returns-in_err-accept-clause-extends : goal.returns-in_err-accept-clause-extends
returns-in_err-accept-clause-extends c = IfOk-from_err c.from_residual.result _ c.from_residual.ensures.0

pub returns-in_err-accept-clause-accepted : goal.returns-in_err-accept-clause-accepted
returns-in_err-accept-clause-accepted c = IfOk-from_err c.from_residual.result _ c.from_residual.ensures.0

pub returns-in_err-accept-clause-has : goal.returns-in_err-accept-clause-has
returns-in_err-accept-clause-has c = IfOk-from_err c.from_residual.result _ c.from_residual.ensures.0

pub returns-in_err-accept-clause-inside : goal.returns-in_err-accept-clause-inside
returns-in_err-accept-clause-inside c = IfOk-from_err c.from_residual.result _ c.from_residual.ensures.0

pub returns-in_err-accept-clause-count : goal.returns-in_err-accept-clause-count
returns-in_err-accept-clause-count c = IfOk-from_err c.from_residual.result _ c.from_residual.ensures.0

pub returns-in_err-accept-clause-sound : goal.returns-in_err-accept-clause-sound
returns-in_err-accept-clause-sound c = IfOk-from_err c.from_residual.result _ c.from_residual.ensures.0

pub returns-in_err-close-clause-extends : goal.returns-in_err-close-clause-extends
returns-in_err-close-clause-extends c = IfOk-from_err c.from_residual-in_err-close.result _ c.from_residual-in_err-close.ensures.0

pub returns-in_err-close-clause-accepted : goal.returns-in_err-close-clause-accepted
returns-in_err-close-clause-accepted c = IfOk-from_err c.from_residual-in_err-close.result _ c.from_residual-in_err-close.ensures.0

pub returns-in_err-close-clause-has : goal.returns-in_err-close-clause-has
returns-in_err-close-clause-has c = IfOk-from_err c.from_residual-in_err-close.result _ c.from_residual-in_err-close.ensures.0

pub returns-in_err-close-clause-inside : goal.returns-in_err-close-clause-inside
returns-in_err-close-clause-inside c = IfOk-from_err c.from_residual-in_err-close.result _ c.from_residual-in_err-close.ensures.0

pub returns-in_err-close-clause-count : goal.returns-in_err-close-clause-count
returns-in_err-close-clause-count c = IfOk-from_err c.from_residual-in_err-close.result _ c.from_residual-in_err-close.ensures.0

pub returns-in_err-close-clause-sound : goal.returns-in_err-close-clause-sound
returns-in_err-close-clause-sound c = IfOk-from_err c.from_residual-in_err-close.result _ c.from_residual-in_err-close.ensures.0

pub returns-in_err-body-clause-extends : goal.returns-in_err-body-clause-extends
returns-in_err-body-clause-extends c = IfOk-from_err c.from_residual-in_err-body.result _ c.from_residual-in_err-body.ensures.0

pub returns-in_err-body-clause-accepted : goal.returns-in_err-body-clause-accepted
returns-in_err-body-clause-accepted c = IfOk-from_err c.from_residual-in_err-body.result _ c.from_residual-in_err-body.ensures.0

pub returns-in_err-body-clause-has : goal.returns-in_err-body-clause-has
returns-in_err-body-clause-has c = IfOk-from_err c.from_residual-in_err-body.result _ c.from_residual-in_err-body.ensures.0

pub returns-in_err-body-clause-inside : goal.returns-in_err-body-clause-inside
returns-in_err-body-clause-inside c = IfOk-from_err c.from_residual-in_err-body.result _ c.from_residual-in_err-body.ensures.0

pub returns-in_err-body-clause-count : goal.returns-in_err-body-clause-count
returns-in_err-body-clause-count c = IfOk-from_err c.from_residual-in_err-body.result _ c.from_residual-in_err-body.ensures.0

pub returns-in_err-body-clause-sound : goal.returns-in_err-body-clause-sound
returns-in_err-body-clause-sound c = IfOk-from_err c.from_residual-in_err-body.result _ c.from_residual-in_err-body.ensures.0

pub returns-in_err-open-clause-extends : goal.returns-in_err-open-clause-extends
returns-in_err-open-clause-extends c = IfOk-from_err c.from_residual-in_err-open.result _ c.from_residual-in_err-open.ensures.0

pub returns-in_err-open-clause-accepted : goal.returns-in_err-open-clause-accepted
returns-in_err-open-clause-accepted c = IfOk-from_err c.from_residual-in_err-open.result _ c.from_residual-in_err-open.ensures.0

pub returns-in_err-open-clause-has : goal.returns-in_err-open-clause-has
returns-in_err-open-clause-has c = IfOk-from_err c.from_residual-in_err-open.result _ c.from_residual-in_err-open.ensures.0

pub returns-in_err-open-clause-inside : goal.returns-in_err-open-clause-inside
returns-in_err-open-clause-inside c = IfOk-from_err c.from_residual-in_err-open.result _ c.from_residual-in_err-open.ensures.0

pub returns-in_err-open-clause-count : goal.returns-in_err-open-clause-count
returns-in_err-open-clause-count c = IfOk-from_err c.from_residual-in_err-open.result _ c.from_residual-in_err-open.ensures.0

pub returns-in_err-open-clause-sound : goal.returns-in_err-open-clause-sound
returns-in_err-open-clause-sound c = IfOk-from_err c.from_residual-in_err-open.result _ c.from_residual-in_err-open.ensures.0

pub returns-clause-inside : goal.returns-clause-inside
returns-clause-inside c = c.in_ok-open.ensures.inside

pub returns-clause-sound : goal.returns-clause-sound
returns-clause-sound c = c.in_ok-body.ensures.sound

pub push_match-requires-clause-room : goal.push_match-requires-clause-room
push_match-requires-clause-room c = let fits = c.requires.fits in omega arith

pub push_match-requires-clause-there : goal.push_match-requires-clause-there
push_match-requires-clause-there c = c.requires.room.pattern

pub push_match-requires-clause-new : goal.push_match-requires-clause-new
push_match-requires-clause-new c = c.requires.new

pub push_bound-requires-clause-next : goal.push_bound-requires-clause-next
push_bound-requires-clause-next c =
    let first = ap (λ (d : Draft). length d.states) c.in_ok-accept.ensures.states in
    let one = length_push c.args.builder.now.states (Match c.args.groups.now.pattern) in
    let id = c.in_ok-accept.ensures.id in
    omega arith

pub push_bound-requires-clause-pattern : goal.push_bound-requires-clause-pattern
push_bound-requires-clause-pattern c =
    let same = ap (λ (d : Draft). d.groups) c.in_ok-accept.ensures.states in
    subst (λ gs. c.args.groups.now.pattern < length gs) (sym same) c.requires.room.pattern

pub push_bound-requires-clause-fits : goal.push_bound-requires-clause-fits
push_bound-requires-clause-fits c =
    let first = ap (λ (d : Draft). length d.states) c.in_ok-accept.ensures.states in
    let one = length_push c.args.builder.now.states (Match c.args.groups.now.pattern) in
    let fits = c.requires.fits in
    omega arith

pub compile-requires-clause-next : goal.compile-requires-clause-next
compile-requires-clause-next c = c.in_ok-close.ensures.inside

pub compile-requires-clause-room : goal.compile-requires-clause-room
compile-requires-clause-room c =
    let closed = c.in_ok-close.ensures.built.extends in
    HasRoom-kept c.args.builder.now c.push_bound.new.builder c.args.groups.now (greatest_group c.args.hir.now) (greatest_group c.args.hir.now)
    (closed.groups ∙ ap (λ (d : Draft). d.groups) c.in_ok-accept.ensures.states)
    (closed.slots ∙ ap (λ (d : Draft). d.slots) c.in_ok-accept.ensures.states) (omega arith) c.requires.room

pub compile-requires-clause-fits : goal.compile-requires-clause-fits
compile-requires-clause-fits c =
    let first = ap (λ (d : Draft). length d.states) c.in_ok-accept.ensures.states in
    let one = length_push c.args.builder.now.states (Match c.args.groups.now.pattern) in
    let two = c.in_ok-close.ensures.count in
    let fits = c.requires.fits in
    omega arith

pub push_bound-requires-2-clause-next : goal.push_bound-requires-2-clause-next
push_bound-requires-2-clause-next c = c.in_ok-body.ensures.inside

pub push_bound-requires-2-clause-pattern : goal.push_bound-requires-2-clause-pattern
push_bound-requires-2-clause-pattern c =
    let same =
    c.in_ok-body.ensures.built.extends.groups ∙ c.in_ok-close.ensures.built.extends.groups ∙ ap (λ (d : Draft). d.groups) c.in_ok-accept.ensures.states in
    subst (λ gs. c.args.groups.now.pattern < length gs) (sym same) c.requires.room.pattern

pub push_bound-requires-2-clause-fits : goal.push_bound-requires-2-clause-fits
push_bound-requires-2-clause-fits c =
    let first = ap (λ (d : Draft). length d.states) c.in_ok-accept.ensures.states in
    let one = length_push c.args.builder.now.states (Match c.args.groups.now.pattern) in
    let two = c.in_ok-close.ensures.count in
    let body = c.in_ok-body.ensures.count in
    let fits = c.requires.fits in
    omega arith

pub returns-clause-count : goal.returns-clause-count
returns-clause-count c =
    let first = ap (λ (d : Draft). length d.states) c.in_ok-accept.ensures.states in
    let one = length_push c.args.builder.now.states (Match c.args.groups.now.pattern) in
    let two = c.in_ok-close.ensures.count in
    let body = c.in_ok-body.ensures.count in
    let last = c.in_ok-open.ensures.count in
    omega arith

pub second_slot-last_slot-requires : goal.second_slot-last_slot-requires
second_slot-last_slot-requires c = first-below c.args.groups.now.whole_slot c.args.builder.now.slots slot_limit c.requires.room.few c.requires.whole

pub push_bound-requires-clause-slot : goal.push_bound-requires-clause-slot
push_bound-requires-clause-slot c =
    let same = ap (λ (d : Draft). d.slots) c.in_ok-accept.ensures.states in
    subst (λ n. IfSome c.second_slot-last_slot.result (λ number. number < n)) (sym same)
    (subst (λ o. IfSome o (λ number. number < c.args.builder.now.slots)) (sym c.second_slot-last_slot.ensures)
    (second-below c.args.groups.now.whole_slot c.args.builder.now.slots c.requires.whole))

pub push_bound-requires-2-clause-slot : goal.push_bound-requires-2-clause-slot
push_bound-requires-2-clause-slot c =
    let old = c.args.builder.now in
    let same =
    c.in_ok-body.ensures.built.extends.slots ∙ c.in_ok-close.ensures.built.extends.slots ∙ ap (λ (d : Draft). d.slots) c.in_ok-accept.ensures.states in
    subst (λ n. IfSome c.args.groups.now.whole_slot (λ number. number < n)) (sym same)
    (first-below c.args.groups.now.whole_slot old.slots old.slots (omega arith) c.requires.whole)
