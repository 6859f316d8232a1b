use Rattle.std.proofs.Common.{◌≡◌, ◌+◌, ◌*◌, ◌<◌, ◌≤◌, ◌∙◌, suc, sym, ap, subst, arith, length, [], ◌∷◌}
use Rattle.std.proofs.lemmas.Result.{IfOk-from_err}
use Rattle.std.proofs.lemmas.List.{length-append, length-map}
use Rattle.std.proofs.lemmas.Option.{slice_get_within}
use Rattle.std.specs.Prelude.{true, All, IfSome, option_map}
use Rattle.std.proofs.lemmas.List.Elements.{All-nil}
use Rattle.rx_model.specs.Search.{greatest_group}
use Rattle.rx_search.specs.Limits.{slot_limit}
use Rattle.rx_nfa.specs.Built.{HasPart, HasParts}
use Rattle.rx_nfa.specs.Directed.{directed_part}
use Rattle.rx_search.specs.GroupInfo.{groups_at, slot_of_group}
use Rattle.rx_hir.specs.Names.{group_names}
use Rattle.rx_nfa.specs.Compiled.{patterns_of, groups_of, slots_of, slots_written}
use Rattle.rx_nfa.specs.Config.{captures_kind}
use Rattle.rx_nfa.proofs.lemmas.parts.ExpressionLemmas.{nfa_states-drop, nfa_states-none}
use Rattle.rx_nfa.proofs.lemmas.parts.BuiltLemmas.{Continues-same, Continues-trans}
use Rattle.rx_nfa.proofs.lemmas.parts.CompileLemmas.{below-more}
use Rattle.rx_nfa.proofs.lemmas.runs.GroupLemmas.{groups_at-names, first_slot-group}
use Rattle.rx_nfa.proofs.lemmas.runs.PatternLemmas.{HasParts-more, sound-more}
use Rattle.rx_nfa.proofs.lemmas.parts.SlotLemmas.{groups-inside, groups-there, whole-inside, whole-is, written-within, first_slot-more, part-is, room-more}
use Rattle.rx_nfa.proofs.compiler.compile_patterns.Goals as goal

pub compile_pattern-requires-clause-room : goal.compile_pattern-requires-clause-room
compile_pattern-requires-clause-room c =
    let which = captures_kind c.args.which in
    let exprs = c.args.exprs.now in
    let item = c.hir-item.result in
    let p = c.unwrap-pattern.result in
    let is = rw c.unwrap-pattern.ensures at c.new.ensures in
    let index : p ≡ c.loop-hir.hir-index = is.0 ∙ c.len.ensures ∙ c.loop-hir.invariant.len in
    let slots : c.loop-hir.builder.slots ≡ slots_written which exprs = c.loop-hir.invariant.extends.slots ∙ c.requires.slots in
    let groups : c.loop-hir.builder.groups ≡ groups_of exprs = c.loop-hir.invariant.extends.groups ∙ c.requires.groups in
    let names : length (groups_at (groups_of exprs) p) ≡ suc (greatest_group item) =
    ap (λ n. length (groups_at (groups_of exprs) n)) index ∙ groups_at-names exprs c.loop-hir.hir-index item (omega arith) c.hir-item.is in
    let first = subst (λ o. IfSome o (λ first. first ≡ slot_of_group (groups_of exprs) c.loop-hir.hir-index 1)) (sym c.loop-hir.invariant.first_slot)
    (first_slot-group which exprs c.loop-hir.hir-index) in
    let inside = groups-inside which exprs c.loop-hir.hir-index item (omega arith) c.hir-item.is in
    let few = c.requires.few.slots in
    let written = written-within which exprs in
    let long = ap length groups ∙ length-map exprs group_names in
    record {
      pattern = omega arith;
      enough = (let same = ap (λ gs. length (groups_at gs p)) groups in omega arith);
      first = subst (λ gs. IfSome c.loop-hir.first_slot (λ first. first ≡ slot_of_group gs c.unwrap-pattern.result 1)) (sym groups)
          (subst (λ n. IfSome c.loop-hir.first_slot (λ first. first ≡ slot_of_group (groups_of c.args.exprs.now) n 1)) (sym index) first);
      slots = subst (λ n. IfSome c.loop-hir.first_slot (λ first. first + 2 * greatest_group c.hir-item.result ≤ n)) (sym slots)
          (subst (λ o. IfSome o (λ first. first + 2 * greatest_group c.hir-item.result ≤ slots_written (captures_kind c.args.which) c.args.exprs.now))
          (sym c.loop-hir.invariant.first_slot) inside);
      few = omega arith;
    }

pub compile_pattern-requires-clause-own : goal.compile_pattern-requires-clause-own
compile_pattern-requires-clause-own c =
    subst (λ o. IfSome o (λ slot. slot ≡ 2 * c.unwrap-pattern.result)) (sym c.whole_slot.ensures)
    (whole-is (captures_kind c.args.which) c.unwrap-pattern.result)

pub compile_pattern-requires-clause-whole : goal.compile_pattern-requires-clause-whole
compile_pattern-requires-clause-whole c =
    let slots : c.loop-hir.builder.slots ≡ slots_written (captures_kind c.args.which) c.args.exprs.now =
    c.loop-hir.invariant.extends.slots ∙ c.requires.slots in
    let is = rw c.unwrap-pattern.ensures at c.new.ensures in
    let index : c.unwrap-pattern.result ≡ c.loop-hir.hir-index = is.0 ∙ c.len.ensures ∙ c.loop-hir.invariant.len in
    let inside = whole-inside (captures_kind c.args.which) c.args.exprs.now c.unwrap-pattern.result (omega arith) in
    subst (λ n. IfSome c.whole_slot.result (λ slot. slot + 1 < n)) (sym slots)
    (subst (λ o. IfSome o (λ slot. slot + 1 < slots_written (captures_kind c.args.which) c.args.exprs.now)) (sym c.whole_slot.ensures) inside)

pub slot_after-first_slot-requires : goal.slot_after-first_slot-requires
slot_after-first_slot-requires c =
    let which = captures_kind c.args.which in
    let there = groups-there which c.args.exprs.now c.loop-hir.hir-index c.hir-item.result (omega arith) c.hir-item.is in
    room-more c.loop-hir.first_slot (2 * greatest_group c.hir-item.result) (slots_of c.args.exprs.now) slot_limit c.requires.few.slots
    (subst (λ o. IfSome o (λ first. first + 2 * greatest_group c.hir-item.result ≤ slots_of c.args.exprs.now)) (sym c.loop-hir.invariant.first_slot) there)

pub loop-hir-preserved : goal.loop-hir-preserved
loop-hir-preserved c =
    let before = c.loop-hir.invariant in
    let which = captures_kind c.args.which in
    let exprs = c.args.exprs.now in
    let k = c.loop-hir.hir-index in
    let item = c.hir-item.result in
    let r = patterns_of exprs true 0 which in
    let old = c.loop-hir.builder in
    let new = c.compile_pattern.new.builder in
    let start = c.in_ok-start.start in
    let grown = c.in_ok-push.ensures.items in
    let is = rw c.unwrap-pattern.ensures at c.new.ensures in
    let index : c.unwrap-pattern.result ≡ c.loop-hir.hir-index = is.0 ∙ c.len.ensures ∙ c.loop-hir.invariant.len in
    let e = c.in_ok-start.ensures.extends in
    let part = part-is r c.unwrap-pattern.result k item c.whole_slot.result c.loop-hir.first_slot c.whole_slot.ensures c.loop-hir.invariant.first_slot index
    c.args.reverse in
    let has : HasPart new.states (directed_part c.args.reverse r k item) start =
    subst (λ p. HasPart c.compile_pattern.new.builder.states p c.in_ok-start.start) part c.in_ok-start.ensures.has in
    let long = ap length grown in
    let sum = length-append c.loop-hir.starts.items (start ∷ []) in
    record {
      extends = Continues-trans c.args.builder.now old new before.extends e;
      accepted = c.in_ok-start.ensures.accepted ∙ ap (λ n. n + 1) index;
      len = c.in_ok-push.ensures.len ∙ ap (λ n. n + 1) before.len;
      count =
          (let states = nfa_states-drop exprs k item item (omega arith) c.hir-item.is in
          let one = c.in_ok-start.ensures.count in
          let count = before.count in
          omega arith);
      items = omega arith;
      first_slot = c.slot_after-first_slot.ensures ∙ ap (option_map (λ first. first + 2 * greatest_group c.hir-item.result)) before.first_slot
          ∙ first_slot-more which exprs k item (omega arith) c.hir-item.is;
      has = HasParts-more (directed_part c.args.reverse r) exprs k old new c.loop-hir.starts.items c.push.new.self.items start item e before.items grown
          (omega arith) c.hir-item.is before.has has;
      inside = below-more (length old.states) (length new.states) c.loop-hir.starts.items c.push.new.self.items start e.longer c.in_ok-start.ensures.inside
          grown before.inside;
      sound = sound-more exprs k item (omega arith) c.hir-item.is c.in_ok-start.ensures.sound before.sound;
    }

pub compile_pattern-requires-clause-fits : goal.compile_pattern-requires-clause-fits
compile_pattern-requires-clause-fits c =
    let states = nfa_states-drop c.args.exprs.now c.loop-hir.hir-index c.hir-item.result c.hir-item.result (omega arith) c.hir-item.is in
    let count = c.loop-hir.invariant.count in
    let fits = c.requires.fits in
    omega arith

pub returns-clause-count : goal.returns-clause-count
returns-clause-count c =
    let none = nfa_states-none c.args.exprs.now c.loop-hir.hir-index (omega arith) in
    let count = c.loop-hir.invariant.count in
    omega arith

pub returns-clause-sound : goal.returns-clause-sound
returns-clause-sound c p h at =
    let inside = slice_get_within c.args.exprs.now p h at in
    c.loop-hir.invariant.sound p h (omega arith) at

pub compile_pattern-requires-clause-new : goal.compile_pattern-requires-clause-new
compile_pattern-requires-clause-new c =
    let is = rw c.unwrap-pattern.ensures at c.new.ensures in
    let index : c.unwrap-pattern.result ≡ c.loop-hir.hir-index = is.0 ∙ c.len.ensures ∙ c.loop-hir.invariant.len in
    let accepted = c.loop-hir.invariant.accepted in
    omega arith

pub returns-in_err-start-clause-extends : goal.returns-in_err-start-clause-extends
returns-in_err-start-clause-extends c = IfOk-from_err c.from_residual.result _ c.from_residual.ensures.0

pub returns-in_err-start-clause-len : goal.returns-in_err-start-clause-len
returns-in_err-start-clause-len c = IfOk-from_err c.from_residual.result _ c.from_residual.ensures.0

pub returns-in_err-start-clause-has : goal.returns-in_err-start-clause-has
returns-in_err-start-clause-has c = IfOk-from_err c.from_residual.result _ c.from_residual.ensures.0

pub returns-in_err-start-clause-inside : goal.returns-in_err-start-clause-inside
returns-in_err-start-clause-inside c = IfOk-from_err c.from_residual.result _ c.from_residual.ensures.0

pub returns-in_err-start-clause-count : goal.returns-in_err-start-clause-count
returns-in_err-start-clause-count c = IfOk-from_err c.from_residual.result _ c.from_residual.ensures.0

pub returns-in_err-start-clause-sound : goal.returns-in_err-start-clause-sound
returns-in_err-start-clause-sound c = IfOk-from_err c.from_residual.result _ c.from_residual.ensures.0

pub returns-in_err-push-clause-extends : goal.returns-in_err-push-clause-extends
returns-in_err-push-clause-extends c = IfOk-from_err c.from_residual-in_err-push.result _ c.from_residual-in_err-push.ensures.0

pub returns-in_err-push-clause-len : goal.returns-in_err-push-clause-len
returns-in_err-push-clause-len c = IfOk-from_err c.from_residual-in_err-push.result _ c.from_residual-in_err-push.ensures.0

pub returns-in_err-push-clause-has : goal.returns-in_err-push-clause-has
returns-in_err-push-clause-has c = IfOk-from_err c.from_residual-in_err-push.result _ c.from_residual-in_err-push.ensures.0

pub returns-in_err-push-clause-inside : goal.returns-in_err-push-clause-inside
returns-in_err-push-clause-inside c = IfOk-from_err c.from_residual-in_err-push.result _ c.from_residual-in_err-push.ensures.0

pub returns-in_err-push-clause-count : goal.returns-in_err-push-clause-count
returns-in_err-push-clause-count c = IfOk-from_err c.from_residual-in_err-push.result _ c.from_residual-in_err-push.ensures.0

pub returns-in_err-push-clause-sound : goal.returns-in_err-push-clause-sound
returns-in_err-push-clause-sound c = IfOk-from_err c.from_residual-in_err-push.result _ c.from_residual-in_err-push.ensures.0

pub returns-clause-extends : goal.returns-clause-extends
returns-clause-extends c = c.loop-hir.invariant.extends

pub returns-clause-inside : goal.returns-clause-inside
returns-clause-inside c = c.loop-hir.invariant.inside

pub returns-clause-len : goal.returns-clause-len
returns-clause-len c = let items = c.loop-hir.invariant.items in omega arith

pub returns-clause-has : goal.returns-clause-has
returns-clause-has c =
    let exprs = c.args.exprs.now in
    let all : c.loop-hir.hir-index ≡ length c.args.exprs.now = omega arith in
    subst (λ n. HasParts c.loop-hir.builder.states (directed_part c.args.reverse (patterns_of exprs true 0 (captures_kind c.args.which))) exprs n
    c.loop-hir.starts.items) all c.loop-hir.invariant.has

pub loop-hir-init : goal.loop-hir-init
loop-hir-init c = record {
  extends = Continues-same c.args.builder.now;
  accepted = c.requires.new;
  len = c.new-starts.ensures.len;
  count = omega arith;
  items = ap length c.new-starts.ensures.items;
  first_slot = c.first_slot-first_slot.ensures;
  has = λ p h lt at. absurd (omega arith);
  inside = subst (All (λ q. q < length c.args.builder.now.states)) (sym c.new-starts.ensures.items) (All-nil (λ q. q < length c.args.builder.now.states));
  sound = λ p h lt at. absurd (omega arith);
}
