use Rattle.std.proofs.Common.{◌≡◌, ◌<◌, ◌≤◌, ◌+◌, ◌-◌, ◌*◌, ◌∙◌, refl, sym, ap, subst, inl, inr, arith, length, drop, take}
use Rattle.std.specs.Prelude.{max, false, IfOk, IfSome, map, option_map, string_bytes}
use Rattle.std.specs.Int.NonZero.{non_zero_usize_get}
use Rattle.std.proofs.lemmas.List.{take_all}
use Rattle.rx_model.specs.Length.{minimum_len, is_positive}
use Rattle.rx_model.specs.Expression.{empty, literal, class, look, repetition, capture, concat, alternation}
use Rattle.rx_model.specs.Graph.{text, build_state, build_group, build_choice, loop_once}
use Rattle.rx_model.specs.Search.{greatest_group, greatest_in}
use Rattle.rx_search.specs.GroupInfo.{groups_at, slot_of_group}
use Rattle.rx_search.specs.Limits.{id_limit}
use Rattle.rx_search.specs.Look.{kind_of}
use Rattle.rx_hir.specs.Cost.{accounted_states, accounted_in}
use Rattle.rx_hir.specs.Sound.{IsSound}
use Rattle.rx_hir.proofs.CostLemmas.{accounted_in-drop}
use Rattle.rx_hir.specs.Normal.{expressions}
use Rattle.rx_hir.specs.Depth.{depth}
use Rattle.rx_class.specs.ClassViews.{class_view}
use Rattle.rx_hir.specs.HirViews.{kind_view}
use Rattle.rx_nfa.specs.Built.{Built, slot_from}
use Rattle.rx_nfa.proofs.lemmas.parts.AccountedLemmas.{accounted_in-more, accounted_in-least, copies-accounted, tail-least, tail-none, times-more}
use Rattle.rx_nfa.specs.Room.{HasRoom}
use Rattle.rx_nfa.proofs.lemmas.parts.ExpressionLemmas.{depth_at}
use Rattle.rx_nfa.proofs.lemmas.parts.BuiltLemmas.{Built-nothing}
use Rattle.rx_nfa.proofs.lemmas.parts.CompileLemmas.{Built-same, count-same, HasRoom-kept, HasRoom-less, HasRoom-pushed, pushed-grown, pushed-inside, pushed-count, greatest-at, BuiltEach-next, below-more}
use Rattle.rx_nfa.specs.Directed.{in_order, build_row, build_sides, build_directed, part_for}
use Rattle.rx_nfa.specs.Draft.{Draft, pushed}
use Rattle.rx_nfa.proofs.lemmas.parts.OrderLemmas.{in_order-length, in_order-is, accounted-in_order, row-more, row-none, concat-directed, alternation-directed}
use Rattle.rx_nfa.specs.Repeated.{tail, leading}
use Rattle.rx_nfa.specs.Slots.{IsSlotOf}
use Rattle.rx_nfa.specs.declared.state.State.TheVariants.{Union, Capture as Slot, Fail}
use Rattle.rx_nfa.proofs.lemmas.parts.ResultLemmas.{IfOk-both}
use Rattle.rx_nfa.proofs.lemmas.parts.BuiltLemmas.{Built-then, pushed-length}
use Rattle.rx_nfa.proofs.lemmas.runs.GroupLemmas.{named-own}
use Rattle.rx_nfa.proofs.lemmas.parts.SlotLemmas.{Built-group}
use Rattle.rx_nfa.proofs.lemmas.parts.ChoiceLemmas.{BuiltEach, Built-choice}
use Rattle.rx_nfa.proofs.lemmas.parts.CompileLemmas.{choice-names, choice-within, choice-own, choice-sorted, choice-silent}
use Rattle.rx_nfa.proofs.lemmas.parts.CompileLemmas.{patched-length, loop-closed, optional-closed, option-closed, copy-more, tail-star}
use Rattle.rx_nfa.proofs.compiler.expression.+compile.Goals as goal

pub compile-compile_repetition-requires : goal.compile-compile_repetition-requires
unfolding greatest_group
compile-compile_repetition-requires t c =
    let r = c.in-Repetition.repetition in
    let is : repetition r.min r.max r.greedy r.sub.value ≡ c.args.hir.now = sym (ap kind_view c.in-Repetition.is) ∙ c.kind.ensures.value in
    let deep = ap depth is in
    let groups : greatest_group r.sub.value ≡ greatest_group c.args.hir.now = ap greatest_group is in
    let states = ap accounted_states is in
    let fits = c.requires.fits in
    let sound : IsSound (repetition r.min r.max r.greedy r.sub.value) = subst IsSound (sym is) c.kind.ensures.sound in (
      omega arith,
      (
        c.requires.next,
        (
          HasRoom-less c.args.builder.now c.args.groups.now (greatest_group c.args.hir.now) (greatest_group r.sub.value) (omega arith) c.requires.room,
          (sound.0, omega arith),
        ),
      ),
    )

pub compile-compile_capture-requires : goal.compile-compile_capture-requires
unfolding greatest_group
compile-compile_capture-requires t c =
    let g = c.in-Capture.capture in
    let is : capture (non_zero_usize_get g.index) (option_map string_bytes g.name) g.sub.value ≡ c.args.hir.now =
    sym (ap kind_view c.in-Capture.is) ∙ c.kind.ensures.value in
    let deep = ap depth is in
    let groups : max (non_zero_usize_get g.index) (greatest_group g.sub.value) ≡ greatest_group c.args.hir.now = ap greatest_group is in
    let states = ap accounted_states is in
    let fits = c.requires.fits in (
      omega arith,
      (
        c.requires.next,
        (
          HasRoom-less c.args.builder.now c.args.groups.now (greatest_group c.args.hir.now) (non_zero_usize_get g.index) (omega arith) c.requires.room,
          (
            HasRoom-less c.args.builder.now c.args.groups.now (greatest_group c.args.hir.now) (greatest_group g.sub.value) (omega arith) c.requires.room,
            omega arith,
          ),
        ),
      ),
    )

pub compile-compile_concat-requires : goal.compile-compile_concat-requires
unfolding greatest_group
compile-compile_concat-requires t c =
    let is : concat (expressions c.deref-in-Concat.result.now) ≡ c.args.hir.now =
    ap (λ hs. concat (expressions hs)) c.deref-in-Concat.ensures.value ∙ sym (ap kind_view c.in-Concat.is) ∙ c.kind.ensures.value in
    let deep = ap depth is in
    let groups : greatest_in (expressions c.deref-in-Concat.result.now) ≡ greatest_group c.args.hir.now = ap greatest_group is in
    let states = ap accounted_states is in
    let fits = c.requires.fits in
    (omega arith, (c.requires.next, (subst (HasRoom c.args.builder.now c.args.groups.now) (sym groups) c.requires.room, omega arith)))

pub compile-compile_alternation-requires : goal.compile-compile_alternation-requires
unfolding greatest_group
compile-compile_alternation-requires t c =
    let is : alternation (expressions c.deref-in-Alternation.result.now) ≡ c.args.hir.now =
    ap (λ hs. alternation (expressions hs)) c.deref-in-Alternation.ensures.value ∙ sym (ap kind_view c.in-Alternation.is) ∙ c.kind.ensures.value in
    let deep = ap depth is in
    let groups : greatest_in (expressions c.deref-in-Alternation.result.now) ≡ greatest_group c.args.hir.now = ap greatest_group is in
    let states = ap accounted_states is in
    let fits = c.requires.fits in
    (omega arith, (c.requires.next, (subst (HasRoom c.args.builder.now c.args.groups.now) (sym groups) c.requires.room, omega arith)))

pub compile-returns-in-Empty-clause-built : goal.compile-returns-in-Empty-clause-built
unfolding build_directed
compile-returns-in-Empty-clause-built t c =
    let is : empty ≡ c.args.hir.now = sym (ap kind_view c.in-Empty.is) ∙ c.kind.ensures.value in
    subst (λ h. Built (part_for c.args.groups.now h) c.args.next c.args.builder.now c.args.builder.now c.args.next) is
    (Built-nothing c.args.next c.args.builder.now)

pub compile-returns-in-Literal-clause-built : goal.compile-returns-in-Literal-clause-built
unfolding build_directed
compile-returns-in-Literal-clause-built t c =
    let is : literal c.in-Literal.bytes.items ≡ c.args.hir.now = sym (ap kind_view c.in-Literal.is) ∙ c.kind.ensures.value in
    Built-same _ _ c.args.next c.args.builder.now c.compile_literal.new.builder c.compile_literal.result
    (ap (λ bytes. build_state (text (in_order c.args.groups.now.reverse bytes))) c.deref.ensures.value ∙ ap (part_for c.args.groups.now) is)
    c.compile_literal.ensures.built

pub compile-returns-in-Look-clause-built : goal.compile-returns-in-Look-clause-built
unfolding build_directed
compile-returns-in-Look-clause-built t c =
    let is : look (kind_of c.in-Look.look) ≡ c.args.hir.now = sym (ap kind_view c.in-Look.is) ∙ c.kind.ensures.value in
    Built-same _ _ c.args.next c.args.builder.now c.compile_look.new.builder c.compile_look.result
    (ap (part_for c.args.groups.now) is) c.compile_look.ensures.built

pub compile-returns-in-Repetition-clause-built : goal.compile-returns-in-Repetition-clause-built
unfolding build_directed
compile-returns-in-Repetition-clause-built t c =
    let r = c.in-Repetition.repetition in
    let is : repetition r.min r.max r.greedy r.sub.value ≡ c.args.hir.now = sym (ap kind_view c.in-Repetition.is) ∙ c.kind.ensures.value in
    Built-same _ _ c.args.next c.args.builder.now c.compile_repetition.new.builder c.compile_repetition.result
    (ap (part_for c.args.groups.now) is) c.compile_repetition.ensures.built

pub compile-returns-in-Capture-clause-built : goal.compile-returns-in-Capture-clause-built
unfolding build_directed
compile-returns-in-Capture-clause-built t c =
    let g = c.in-Capture.capture in
    let is : capture (non_zero_usize_get g.index) (option_map string_bytes g.name) g.sub.value ≡ c.args.hir.now =
    sym (ap kind_view c.in-Capture.is) ∙ c.kind.ensures.value in
    Built-same _ _ c.args.next c.args.builder.now c.compile_capture.new.builder c.compile_capture.result
    (ap (part_for c.args.groups.now) is) c.compile_capture.ensures.built

pub compile-returns-in-Concat-clause-built : goal.compile-returns-in-Concat-clause-built
unfolding build_directed
compile-returns-in-Concat-clause-built t c =
    let is : concat (expressions c.in-Concat.subs.items) ≡ c.args.hir.now = sym (ap kind_view c.in-Concat.is) ∙ c.kind.ensures.value in
    Built-same _ _ c.args.next c.args.builder.now c.compile_concat.new.builder c.compile_concat.result
    (ap (λ hs. build_row (map (part_for c.args.groups.now) (in_order c.args.groups.now.reverse hs))) c.deref-in-Concat.ensures.value
    ∙ concat-directed c.args.groups.now.reverse (slot_from c.args.groups.now.first_slot) c.in-Concat.subs.items
    ∙ ap (part_for c.args.groups.now) is) c.compile_concat.ensures.built

pub compile-returns-in-Alternation-clause-built : goal.compile-returns-in-Alternation-clause-built
unfolding build_directed
compile-returns-in-Alternation-clause-built t c =
    let is : alternation (expressions c.in-Alternation.subs.items) ≡ c.args.hir.now = sym (ap kind_view c.in-Alternation.is) ∙ c.kind.ensures.value in
    Built-same _ _ c.args.next c.args.builder.now c.compile_alternation.new.builder c.compile_alternation.result
    (ap (λ hs. build_choice (build_sides (map (part_for c.args.groups.now) hs))) c.deref-in-Alternation.ensures.value
    ∙ alternation-directed c.args.groups.now.reverse (slot_from c.args.groups.now.first_slot) c.in-Alternation.subs.items
    ∙ ap (part_for c.args.groups.now) is) c.compile_alternation.ensures.built

pub compile_alternation-compile-requires : goal.compile_alternation-compile-requires
compile_alternation-compile-requires t c =
    let item = c.sub-item.result in
    let k = c.loop-sub.sub-index in
    let lt : k < length c.args.subs.now = omega arith in
    let deep = depth_at c.args.subs.now k item item lt c.sub-item.is in
    let states = accounted_in-drop c.args.subs.now k item lt c.sub-item.is in
    let count = c.loop-sub.invariant.count in
    let fits = c.requires.fits in (
      omega arith,
      (
        omega arith,
        (
          HasRoom-kept c.args.builder.now c.loop-sub.builder c.args.groups.now (greatest_in (expressions c.args.subs.now)) (greatest_group item)
              c.loop-sub.invariant.groups c.loop-sub.invariant.slots
              (greatest-at c.args.subs.now k item item lt c.sub-item.is) c.requires.room,
          omega arith,
        ),
      ),
    )

pub compile_alternation-loop-sub-preserved : goal.compile_alternation-loop-sub-preserved
compile_alternation-loop-sub-preserved t c =
    let b = c.in_ok-start.ensures.built in
    let longer = b.extends.longer in
    let before = c.loop-sub.invariant in
    record {
      built = BuiltEach-next (part_for c.args.groups.now) c.args.subs.now c.loop-sub.sub-index c.sub-item.result c.args.next c.args.builder.now
          c.loop-sub.builder c.compile.new.builder
          c.loop-sub.starts.items c.push.new.self.items c.in_ok-start.start (omega arith) c.sub-item.is c.in_ok-push.ensures.items before.built b;
      inside = below-more (length c.loop-sub.builder.states) (length c.compile.new.builder.states) c.loop-sub.starts.items c.push.new.self.items
          c.in_ok-start.start longer c.in_ok-start.ensures.inside c.in_ok-push.ensures.items before.inside;
      longer = omega arith;
      count =
          (let states = accounted_in-drop c.args.subs.now c.loop-sub.sub-index c.sub-item.result (omega arith) c.sub-item.is in
          let more = c.in_ok-start.ensures.count in
          let count = before.count in
          omega arith);
      groups = b.extends.groups ∙ before.groups;
      slots = b.extends.slots ∙ before.slots;
    }

pub compile_alternation-returns-clause-built : goal.compile_alternation-returns-clause-built
compile_alternation-returns-clause-built t c =
    let subs = c.args.subs.now in
    let all : take c.loop-sub.sub-index subs ≡ subs = take_all c.loop-sub.sub-index subs (omega arith) in
    let b = subst (λ hs. BuiltEach (map (part_for c.args.groups.now) hs) c.args.next c.args.builder.now c.loop-sub.builder c.loop-sub.starts.items) all
    c.loop-sub.invariant.built in
    IfOk-both (λ id. id ≡ length c.loop-sub.builder.states) (λ id. c.push-2.new.self ≡ pushed c.loop-sub.builder (Union c.new.result))
    (λ start. Built (build_choice (build_sides (map (part_for c.args.groups.now) c.args.subs.now))) c.args.next c.args.builder.now c.push-2.new.self start)
    c.push-2.result c.push-2.ensures.id c.push-2.ensures.states
    (λ start id is. Built-choice (map (part_for c.args.groups.now) c.args.subs.now) c.args.next c.args.builder.now c.loop-sub.builder c.push-2.new.self
    c.loop-sub.starts.items start b id (is ∙ ap (λ qs. pushed c.loop-sub.builder (Union qs)) c.new.ensures))

pub compile_capture-push-requires-clause-own : goal.compile_capture-push-requires-clause-own
compile_capture-push-requires-clause-own t c =
    let groups = c.args.builder.now.groups in
    let p = c.args.groups.now.pattern in
    let first : c.in-Some.first ≡ slot_of_group groups p 1 =
    subst (λ o. IfSome o (λ first. first ≡ slot_of_group c.args.builder.now.groups c.args.groups.now.pattern 1)) c.in-Some.is c.requires.group.first in
    let some : 0 < c.get.result = omega (arith, c.get.ensures.nonzero) in
    let there : c.get.result < length (groups_at groups p) = omega (arith, c.requires.group.enough, c.get.ensures.value) in
    named-own groups p c.get.result c.in-Some.first (c.in-Some.first + 2 * (c.get.result - 1) + 1) some there first (inr refl)

pub compile_capture-push-requires-2-clause-own : goal.compile_capture-push-requires-2-clause-own
compile_capture-push-requires-2-clause-own t c =
    let groups = c.args.builder.now.groups in
    let p = c.args.groups.now.pattern in
    let first : c.in-Some.first ≡ slot_of_group groups p 1 =
    subst (λ o. IfSome o (λ first. first ≡ slot_of_group c.args.builder.now.groups c.args.groups.now.pattern 1)) c.in-Some.is c.requires.group.first in
    let some : 0 < c.get.result = omega (arith, c.get.ensures.nonzero) in
    let there : c.get.result < length (groups_at groups p) = omega (arith, c.requires.group.enough, c.get.ensures.value) in
    let same = c.in_ok-body.ensures.built.extends.groups ∙ ap (λ (d : Draft). d.groups) c.in_ok-close.ensures.states in
    subst (λ gs. IsSlotOf gs c.args.groups.now.pattern (c.in-Some.first + 2 * (c.get.result - 1))) (sym same)
    (named-own groups p c.get.result c.in-Some.first (c.in-Some.first + 2 * (c.get.result - 1)) some there first (inl refl))

pub compile_capture-returns-clause-built : goal.compile_capture-returns-clause-built
compile_capture-returns-clause-built t c =
    let first = c.in-Some.first in
    let sub = c.args.capture.now.sub.value in
    let body = subst (λ h. Built (part_for c.args.groups.now h) c.in_ok-close.close c.push.new.self c.compile-2.new.builder c.in_ok-body.body) c.deref-2.ensures
    c.in_ok-body.ensures.built in
    subst
    (λ number. IfOk c.push-2.result
    (λ start. Built (build_group (slot_from c.args.groups.now.first_slot number) (part_for c.args.groups.now c.args.capture.now.sub.value)) c.args.next
    c.args.builder.now c.push-2.new.self start))
    c.get.ensures.value
    (subst
    (λ o. IfOk c.push-2.result (λ start. Built (build_group (slot_from o c.get.result) (part_for c.args.groups.now c.args.capture.now.sub.value))
    c.args.next c.args.builder.now c.push-2.new.self start))
    (sym c.in-Some.is)
    (IfOk-both (λ id. id ≡ length c.compile-2.new.builder.states)
    (λ id. c.push-2.new.self ≡ pushed c.compile-2.new.builder (Slot c.in_ok-body.body c.args.groups.now.pattern (c.in-Some.first + 2 * (c.get.result - 1))))
    _
    c.push-2.result c.push-2.ensures.id c.push-2.ensures.states
    (λ start id is. Built-group (part_for c.args.groups.now sub) (first + 2 * (c.get.result - 1)) c.args.groups.now.pattern c.args.next c.in_ok-close.close
    c.in_ok-body.body start
    c.args.builder.now c.push.new.self c.compile-2.new.builder c.push-2.new.self c.in_ok-close.ensures.id c.in_ok-close.ensures.states body id is)))

pub compile_concat-loop-left-init : goal.compile_concat-loop-left-init
compile_concat-loop-left-init t c =
    let hs = in_order c.args.groups.now.reverse c.args.subs.now in
    let long = in_order-length c.args.groups.now.reverse c.args.subs.now in
    record {
      built =
          subst (λ bs. Built (build_row bs) c.args.next c.args.builder.now c.args.builder.now c.args.next)
          (sym (row-none (part_for c.args.groups.now) (in_order c.args.groups.now.reverse c.args.subs.now) (length c.args.subs.now) (omega arith)))
          (Built-nothing c.args.next c.args.builder.now);
      count = omega arith;
      within = omega arith;
      inside = c.requires.next;
    }

pub compile_concat-compile-requires : goal.compile_concat-compile-requires
compile_concat-compile-requires t c =
    let item = c.index-subs-place.result in
    let hs = in_order c.args.groups.now.reverse c.args.subs.now in
    let long = in_order-length c.args.groups.now.reverse c.args.subs.now in
    let there = c.place_of-place.ensures.inside in
    let lt : c.place_of-place.result < length c.args.subs.now = omega arith in
    let deep = depth_at c.args.subs.now c.place_of-place.result item item lt c.index-subs-place.is in
    let b = c.loop-left.invariant.built.extends in
    let within = c.loop-left.invariant.within in
    let at = in_order-is c.args.groups.now.reverse c.args.subs.now (length c.args.subs.now) (c.loop-left.left - 1) c.place_of-place.result item item refl
    (omega arith) c.place_of-place.ensures.value c.index-subs-place.is in
    let states = accounted_in-more hs c.loop-left.left item item (omega arith) (omega arith) at in
    let least = accounted_in-least hs (c.loop-left.left - 1) in
    let all = accounted-in_order c.args.groups.now.reverse c.args.subs.now in
    let count = c.loop-left.invariant.count in
    let fits = c.requires.fits in (
      omega arith,
      (
        c.loop-left.invariant.inside,
        (
          HasRoom-kept c.args.builder.now c.loop-left.builder c.args.groups.now (greatest_in (expressions c.args.subs.now)) (greatest_group item) b.groups
              b.slots
              (greatest-at c.args.subs.now c.place_of-place.result item item lt c.index-subs-place.is) c.requires.room,
          omega arith,
        ),
      ),
    )

pub compile_concat-loop-left-preserved : goal.compile_concat-loop-left-preserved
compile_concat-loop-left-preserved t c =
    let item = c.index-subs-place.result in
    let hs = in_order c.args.groups.now.reverse c.args.subs.now in
    let long = in_order-length c.args.groups.now.reverse c.args.subs.now in
    let within = c.loop-left.invariant.within in
    let at = in_order-is c.args.groups.now.reverse c.args.subs.now (length c.args.subs.now) (c.loop-left.left - 1) c.place_of-place.result item item refl
    (omega arith) c.place_of-place.ensures.value c.index-subs-place.is in
    let more = row-more (part_for c.args.groups.now) hs c.loop-left.left item item (omega arith) (omega arith) at in
    record {
      built =
          subst (λ bs. Built (build_row bs) c.args.next c.args.builder.now c.compile.new.builder c.in_ok-start.start) (sym more)
          (Built-then (part_for c.args.groups.now item) (build_row (map (part_for c.args.groups.now) (drop c.loop-left.left hs))) c.args.next c.loop-left.start
          c.in_ok-start.start c.args.builder.now c.loop-left.builder c.compile.new.builder
          c.loop-left.invariant.built c.in_ok-start.ensures.built);
      count =
          (let states = accounted_in-more hs c.loop-left.left item item (omega arith) (omega arith) at in
          let one = c.in_ok-start.ensures.count in
          let count = c.loop-left.invariant.count in
          omega arith);
      within = omega arith;
      inside = c.in_ok-start.ensures.inside;
    }

pub compile_concat-returns-clause-count : goal.compile_concat-returns-clause-count
compile_concat-returns-clause-count t c =
    let none : c.loop-left.left ≡ 0 = omega arith in
    let same = ap (λ n. accounted_in (expressions (drop n (in_order c.args.groups.now.reverse c.args.subs.now)))) none in
    let all = accounted-in_order c.args.groups.now.reverse c.args.subs.now in
    let count = c.loop-left.invariant.count in
    omega arith

pub compile_loop-returns-clause-from_choice : goal.compile_loop-returns-clause-from_choice
compile_loop-returns-clause-from_choice t c =
    let r = c.args.repetition.now in
    let body = subst (λ h. Built (part_for c.args.groups.now h) c.in_ok-choice.choice c.push.new.self c.compile.new.builder c.in_ok-body.body) c.deref.ensures
    c.in_ok-body.ensures.built in
    (loop-closed r.greedy (part_for c.args.groups.now r.sub.value) c.args.next c.in_ok-choice.choice c.in_ok-body.body c.args.builder.now c.push.new.self
    c.compile.new.builder c.patch.new.self Fail c.in_ok-state.state
    c.in_ok-choice.ensures.id c.in_ok-choice.ensures.states c.in_ok-state.ensures c.patch.ensures body).0

pub compile_loop-returns-clause-from_body : goal.compile_loop-returns-clause-from_body
compile_loop-returns-clause-from_body t c =
    let r = c.args.repetition.now in
    let body = subst (λ h. Built (part_for c.args.groups.now h) c.in_ok-choice.choice c.push.new.self c.compile.new.builder c.in_ok-body.body) c.deref.ensures
    c.in_ok-body.ensures.built in
    (loop-closed r.greedy (part_for c.args.groups.now r.sub.value) c.args.next c.in_ok-choice.choice c.in_ok-body.body c.args.builder.now c.push.new.self
    c.compile.new.builder c.patch.new.self Fail c.in_ok-state.state
    c.in_ok-choice.ensures.id c.in_ok-choice.ensures.states c.in_ok-state.ensures c.patch.ensures body).1

pub compile_options-loop-option-preserved : goal.compile_options-loop-option-preserved
compile_options-loop-option-preserved t c =
    let r = c.args.repetition.now in
    let body = subst (λ h. Built (part_for c.args.groups.now h) c.loop-option.start c.push.new.self c.compile.new.builder c.in_ok-body.body) c.deref.ensures
    c.in_ok-body.ensures.built in
    let grown = ap (λ (d : Draft). length d.states) c.in_ok-choice.ensures.states in
    let one = pushed-length c.loop-option.builder Fail in
    let longer = c.in_ok-body.ensures.built.extends.longer in
    let written = ap (λ (d : Draft). length d.states) c.patch.ensures in
    let same = patched-length c.compile.new.builder c.in_ok-choice.choice c.in_ok-option.option in
    let id = c.in_ok-choice.ensures.id in
    record {
      built = option-closed r.greedy c.loop-option._option (part_for c.args.groups.now r.sub.value) c.args.next c.loop-option.start c.in_ok-choice.choice
          c.in_ok-body.body c.args.builder.now c.loop-option.builder c.push.new.self
          c.compile.new.builder c.patch.new.self Fail c.in_ok-option.option c.in_ok-choice.ensures.id c.in_ok-choice.ensures.states c.in_ok-option.ensures
          c.patch.ensures c.loop-option.invariant.built body;
      count =
          (let states = ap accounted_states c.deref.ensures in
          let more = c.in_ok-body.ensures.count in
          let count = c.loop-option.invariant.count in
          omega arith);
      inside = omega arith;
    }

pub compile_repetition-compile-requires : goal.compile_repetition-compile-requires
compile_repetition-compile-requires t c =
    let r = c.args.repetition.now in
    let deep = ap depth c.deref.ensures in
    let states = ap accounted_states c.deref.ensures in
    let groups : greatest_group c.deref.result.now ≡ greatest_group r.sub.value = ap greatest_group c.deref.ensures in
    let b = c.loop-copy.invariant.built.extends in
    let all = copies-accounted r.min r.max (accounted_states r.sub.value) c.requires.ordered in
    let leads = ap (λ n. n * accounted_states r.sub.value) c.leading-copies.ensures in
    let more = times-more c.loop-copy._copy c.leading-copies.result (accounted_states r.sub.value) (omega arith) in
    let count = c.loop-copy.invariant.count in
    let fits = c.requires.fits in (
      omega arith,
      (
        c.loop-copy.invariant.inside,
        (
          HasRoom-kept c.args.builder.now c.loop-copy.builder c.args.groups.now (greatest_group r.sub.value) (greatest_group c.deref.result.now) b.groups
              b.slots
              (omega arith) c.requires.room,
          omega arith,
        ),
      ),
    )

pub compile_repetition-returns-clause-count : goal.compile_repetition-returns-clause-count
compile_repetition-returns-clause-count t c =
    let r = c.args.repetition.now in
    let all = copies-accounted r.min r.max (accounted_states r.sub.value) c.requires.ordered in
    let copies : c.loop-copy._copy ≡ leading r.min r.max = omega (arith, c.leading-copies.ensures) in
    let leads = ap (λ n. n * accounted_states r.sub.value) copies in
    let count = c.loop-copy.invariant.count in
    omega arith

pub compile_repetition-loop-copy-preserved : goal.compile_repetition-loop-copy-preserved
compile_repetition-loop-copy-preserved t c =
    let r = c.args.repetition.now in
    let body = subst (λ h. Built (part_for c.args.groups.now h) c.loop-copy.start c.loop-copy.builder c.compile.new.builder c.in_ok-start-2.start)
    c.deref.ensures c.in_ok-start-2.ensures.built in
    record {
      built = copy-more c.loop-copy._copy (part_for c.args.groups.now r.sub.value)
          (tail (is_positive (minimum_len r.sub.value)) r.min r.max r.greedy (part_for c.args.groups.now r.sub.value)) c.args.next c.loop-copy.start
          c.in_ok-start-2.start
          c.args.builder.now c.loop-copy.builder c.compile.new.builder c.loop-copy.invariant.built body;
      count =
          (let states = ap accounted_states c.deref.ensures in
          let more = c.in_ok-start-2.ensures.count in
          let count = c.loop-copy.invariant.count in
          omega arith);
      inside = c.in_ok-start-2.ensures.inside;
    }

pub compile_unbounded-returns-clause-built : goal.compile_unbounded-returns-clause-built
compile_unbounded-returns-clause-built t c =
    let r = c.args.repetition.now in
    let body = part_for c.args.groups.now c.args.repetition.now.sub.value in
    let none : c.args.repetition.now.min ≡ 0 = omega arith in
    let empty : is_positive (minimum_len c.args.repetition.now.sub.value) ≡ false =
    ap (λ h. is_positive (minimum_len h)) (sym c.deref.ensures) ∙ sym c.takes_bytes.ensures ∙ c.if-takes_bytes.false in
    subst (λ part. Built part c.args.next c.args.builder.now c.patch.new.self c.in_ok-choice.choice)
    (tail-star (is_positive (minimum_len c.args.repetition.now.sub.value)) c.args.repetition.now.min r.greedy body none empty)
    (optional-closed r.greedy (loop_once r.greedy body) c.args.next c.in_ok-choice.choice c.in_ok-inner.inner.body c.args.builder.now c.push.new.self
    c.compile_loop-2.new.builder c.patch.new.self Fail c.in_ok-state.state
    c.in_ok-choice.ensures.id c.in_ok-choice.ensures.states c.in_ok-state.ensures c.patch.ensures c.in_ok-inner.ensures.from_body)

pub compile-returns-in-Class-clause-built : goal.compile-returns-in-Class-clause-built
unfolding build_directed
compile-returns-in-Class-clause-built t c =
    let is : class (class_view c.in-Class.class) ≡ c.args.hir.now = sym (ap kind_view c.in-Class.is) ∙ c.kind.ensures.value in
    Built-same _ _ c.args.next c.args.builder.now c.push_class.new.self c.push_class.result
    (ap (part_for c.args.groups.now) is) c.push_class.ensures.built

pub compile-returns-in-Empty-clause-inside : goal.compile-returns-in-Empty-clause-inside
compile-returns-in-Empty-clause-inside t c = c.requires.next

pub compile-returns-in-Empty-clause-count : goal.compile-returns-in-Empty-clause-count
compile-returns-in-Empty-clause-count t c = omega arith

pub compile-returns-in-Empty-clause-sound : goal.compile-returns-in-Empty-clause-sound
compile-returns-in-Empty-clause-sound t c = c.kind.ensures.sound

pub compile-returns-in-Class-clause-inside : goal.compile-returns-in-Class-clause-inside
compile-returns-in-Class-clause-inside t c = c.push_class.ensures.inside

pub compile-returns-in-Class-clause-count : goal.compile-returns-in-Class-clause-count
compile-returns-in-Class-clause-count t c =
    let is : class (class_view c.in-Class.class) ≡ c.args.hir.now = sym (ap kind_view c.in-Class.is) ∙ c.kind.ensures.value in
    count-same _ _ (length c.args.builder.now.states) (length c.push_class.new.self.states) c.push_class.result is c.push_class.ensures.count

pub compile-returns-in-Class-clause-sound : goal.compile-returns-in-Class-clause-sound
compile-returns-in-Class-clause-sound t c = c.kind.ensures.sound

pub compile-returns-in-Literal-clause-inside : goal.compile-returns-in-Literal-clause-inside
compile-returns-in-Literal-clause-inside t c = c.compile_literal.ensures.inside

pub compile-returns-in-Literal-clause-count : goal.compile-returns-in-Literal-clause-count
compile-returns-in-Literal-clause-count t c =
    let is : literal c.deref.result.now ≡ c.args.hir.now = ap literal c.deref.ensures.value ∙ sym (ap kind_view c.in-Literal.is) ∙ c.kind.ensures.value in
    count-same _ _ (length c.args.builder.now.states) (length c.compile_literal.new.builder.states) c.compile_literal.result is c.compile_literal.ensures.count

pub compile-returns-in-Literal-clause-sound : goal.compile-returns-in-Literal-clause-sound
compile-returns-in-Literal-clause-sound t c = c.kind.ensures.sound

pub compile-returns-in-Look-clause-inside : goal.compile-returns-in-Look-clause-inside
compile-returns-in-Look-clause-inside t c = c.compile_look.ensures.inside

pub compile-returns-in-Look-clause-count : goal.compile-returns-in-Look-clause-count
compile-returns-in-Look-clause-count t c =
    let is : look (kind_of c.in-Look.look) ≡ c.args.hir.now = sym (ap kind_view c.in-Look.is) ∙ c.kind.ensures.value in
    count-same _ _ (length c.args.builder.now.states) (length c.compile_look.new.builder.states) c.compile_look.result is c.compile_look.ensures.count

pub compile-returns-in-Look-clause-sound : goal.compile-returns-in-Look-clause-sound
compile-returns-in-Look-clause-sound t c = c.kind.ensures.sound

pub compile-returns-in-Repetition-clause-inside : goal.compile-returns-in-Repetition-clause-inside
compile-returns-in-Repetition-clause-inside t c = c.compile_repetition.ensures.inside

pub compile-returns-in-Repetition-clause-count : goal.compile-returns-in-Repetition-clause-count
compile-returns-in-Repetition-clause-count t c =
    let r = c.in-Repetition.repetition in
    let is : repetition r.min r.max r.greedy r.sub.value ≡ c.args.hir.now = sym (ap kind_view c.in-Repetition.is) ∙ c.kind.ensures.value in
    count-same _ _ (length c.args.builder.now.states) (length c.compile_repetition.new.builder.states) c.compile_repetition.result is c.compile_repetition.ensures.count

pub compile-returns-in-Repetition-clause-sound : goal.compile-returns-in-Repetition-clause-sound
compile-returns-in-Repetition-clause-sound t c = c.kind.ensures.sound

pub compile-returns-in-Capture-clause-inside : goal.compile-returns-in-Capture-clause-inside
compile-returns-in-Capture-clause-inside t c = c.compile_capture.ensures.inside

pub compile-returns-in-Capture-clause-count : goal.compile-returns-in-Capture-clause-count
compile-returns-in-Capture-clause-count t c =
    let g = c.in-Capture.capture in
    let is : capture (non_zero_usize_get g.index) (option_map string_bytes g.name) g.sub.value ≡ c.args.hir.now =
    sym (ap kind_view c.in-Capture.is) ∙ c.kind.ensures.value in
    count-same _ _ (length c.args.builder.now.states) (length c.compile_capture.new.builder.states) c.compile_capture.result is c.compile_capture.ensures.count

pub compile-returns-in-Capture-clause-sound : goal.compile-returns-in-Capture-clause-sound
compile-returns-in-Capture-clause-sound t c = c.kind.ensures.sound

pub compile-returns-in-Concat-clause-inside : goal.compile-returns-in-Concat-clause-inside
compile-returns-in-Concat-clause-inside t c = c.compile_concat.ensures.inside

pub compile-returns-in-Concat-clause-count : goal.compile-returns-in-Concat-clause-count
compile-returns-in-Concat-clause-count t c =
    let is : concat (expressions c.deref-in-Concat.result.now) ≡ c.args.hir.now =
    ap (λ hs. concat (expressions hs)) c.deref-in-Concat.ensures.value ∙ sym (ap kind_view c.in-Concat.is) ∙ c.kind.ensures.value in
    count-same _ _ (length c.args.builder.now.states) (length c.compile_concat.new.builder.states) c.compile_concat.result is c.compile_concat.ensures.count

pub compile-returns-in-Concat-clause-sound : goal.compile-returns-in-Concat-clause-sound
compile-returns-in-Concat-clause-sound t c = c.kind.ensures.sound

pub compile-returns-in-Alternation-clause-inside : goal.compile-returns-in-Alternation-clause-inside
compile-returns-in-Alternation-clause-inside t c = c.compile_alternation.ensures.inside

pub compile-returns-in-Alternation-clause-count : goal.compile-returns-in-Alternation-clause-count
compile-returns-in-Alternation-clause-count t c =
    let is : alternation (expressions c.deref-in-Alternation.result.now) ≡ c.args.hir.now =
    ap (λ hs. alternation (expressions hs)) c.deref-in-Alternation.ensures.value ∙ sym (ap kind_view c.in-Alternation.is) ∙ c.kind.ensures.value in
    count-same _ _ (length c.args.builder.now.states) (length c.compile_alternation.new.builder.states) c.compile_alternation.result is
    c.compile_alternation.ensures.count

pub compile-returns-in-Alternation-clause-sound : goal.compile-returns-in-Alternation-clause-sound
compile-returns-in-Alternation-clause-sound t c = c.kind.ensures.sound

pub compile-compile_literal-requires : goal.compile-compile_literal-requires
compile-compile_literal-requires t c =
    let is : literal c.deref.result.now ≡ c.args.hir.now =
    ap literal c.deref.ensures.value ∙ sym (ap kind_view c.in-Literal.is) ∙ c.kind.ensures.value in
    record {
      next = c.requires.next;
      some = subst IsSound (sym is) c.kind.ensures.sound;
      fits = subst (λ h. length c.args.builder.now.states + accounted_states h ≤ id_limit) (sym is) c.requires.fits;
    }

pub compile-compile_look-requires : goal.compile-compile_look-requires
compile-compile_look-requires t c =
    let is : look (kind_of c.in-Look.look) ≡ c.args.hir.now = sym (ap kind_view c.in-Look.is) ∙ c.kind.ensures.value in
    record {
      next = c.requires.next;
      fits =
          (let fits = subst (λ h. length c.args.builder.now.states + accounted_states h ≤ id_limit) (sym is) c.requires.fits in
          omega arith);
    }

pub compile-push_class-requires : goal.compile-push_class-requires
compile-push_class-requires t c =
    let is : class (class_view c.in-Class.class) ≡ c.args.hir.now = sym (ap kind_view c.in-Class.is) ∙ c.kind.ensures.value in
    record {
      next = c.requires.next;
      room = subst (λ h. length c.args.builder.now.states + accounted_states h ≤ id_limit) (sym is) c.requires.fits;
    }

pub compile_capture-compile-requires : goal.compile_capture-compile-requires
compile_capture-compile-requires t c =
    let deep = ap depth c.deref.ensures in
    let groups : greatest_group c.deref.result.now ≡ greatest_group c.args.capture.now.sub.value = ap greatest_group c.deref.ensures in
    let states = ap accounted_states c.deref.ensures in
    let fits = c.requires.fits in
    (omega arith, (c.requires.next, (subst (HasRoom c.args.builder.now c.args.groups.now) (sym groups) c.requires.room, omega arith)))

pub compile_capture-compile-requires-2 : goal.compile_capture-compile-requires-2
compile_capture-compile-requires-2 t c =
    let sub = c.args.capture.now.sub.value in
    let slot = Slot c.args.next c.args.groups.now.pattern (c.in-Some.first + 2 * (c.get.result - 1) + 1) in
    let deep = ap depth c.deref-2.ensures in
    let groups : greatest_group c.deref-2.result.now ≡ greatest_group sub = ap greatest_group c.deref-2.ensures in
    let states = ap accounted_states c.deref-2.ensures in
    let grown = pushed-grown c.args.builder.now c.push.new.self slot c.in_ok-close.ensures.states in
    let id = c.in_ok-close.ensures.id in
    let fits = c.requires.fits in (
      omega arith,
      (
        omega arith,
        (
          HasRoom-pushed c.args.builder.now c.push.new.self slot c.args.groups.now (greatest_group sub) (greatest_group c.deref-2.result.now)
              c.in_ok-close.ensures.states (omega arith) c.requires.room,
          omega arith,
        ),
      ),
    )

pub compile_capture-returns-clause-inside : goal.compile_capture-returns-clause-inside
compile_capture-returns-clause-inside t c =
    pushed-inside c.compile-2.new.builder c.push-2.new.self
    (Slot c.in_ok-body.body c.args.groups.now.pattern (c.in-Some.first + 2 * (c.get.result - 1))) c.push-2.result c.push-2.ensures.id c.push-2.ensures.states

pub compile_capture-returns-clause-count : goal.compile_capture-returns-clause-count
compile_capture-returns-clause-count t c =
    let slot = Slot c.args.next c.args.groups.now.pattern (c.in-Some.first + 2 * (c.get.result - 1) + 1) in
    let states = ap accounted_states c.deref-2.ensures in
    let grown = pushed-grown c.args.builder.now c.push.new.self slot c.in_ok-close.ensures.states in
    let more = c.in_ok-body.ensures.count in
    pushed-count c.compile-2.new.builder c.push-2.new.self
    (Slot c.in_ok-body.body c.args.groups.now.pattern (c.in-Some.first + 2 * (c.get.result - 1))) c.push-2.result _ (omega arith) c.push-2.ensures.states

pub compile_alternation-returns-clause-inside : goal.compile_alternation-returns-clause-inside
compile_alternation-returns-clause-inside t c =
    pushed-inside c.loop-sub.builder c.push-2.new.self (Union c.new.result) c.push-2.result c.push-2.ensures.id c.push-2.ensures.states

pub compile_alternation-returns-clause-count : goal.compile_alternation-returns-clause-count
compile_alternation-returns-clause-count t c =
    let count = c.loop-sub.invariant.count in
    pushed-count c.loop-sub.builder c.push-2.new.self (Union c.new.result) c.push-2.result _ (omega arith) c.push-2.ensures.states

pub compile_loop-compile-requires : goal.compile_loop-compile-requires
compile_loop-compile-requires t c =
    let sub = c.args.repetition.now.sub.value in
    let deep = ap depth c.deref.ensures in
    let groups : greatest_group c.deref.result.now ≡ greatest_group sub = ap greatest_group c.deref.ensures in
    let states = ap accounted_states c.deref.ensures in
    let grown = pushed-grown c.args.builder.now c.push.new.self Fail c.in_ok-choice.ensures.states in
    let id = c.in_ok-choice.ensures.id in
    let fits = c.requires.fits in (
      omega arith,
      (
        omega arith,
        (
          HasRoom-pushed c.args.builder.now c.push.new.self Fail c.args.groups.now (greatest_group sub) (greatest_group c.deref.result.now)
              c.in_ok-choice.ensures.states (omega arith) c.requires.room,
          omega arith,
        ),
      ),
    )

pub compile_loop-returns-clause-inside : goal.compile_loop-returns-clause-inside
compile_loop-returns-clause-inside t c =
    let grown = pushed-grown c.args.builder.now c.push.new.self Fail c.in_ok-choice.ensures.states in
    let longer = c.in_ok-body.ensures.built.extends.longer in
    let written = ap (λ (d : Draft). length d.states) c.patch.ensures in
    let same = patched-length c.compile.new.builder c.in_ok-choice.choice c.in_ok-state.state in
    let id = c.in_ok-choice.ensures.id in
    let inside = c.in_ok-body.ensures.inside in
    (omega arith, omega arith)

pub compile_loop-returns-clause-count : goal.compile_loop-returns-clause-count
compile_loop-returns-clause-count t c =
    let states = ap accounted_states c.deref.ensures in
    let grown = pushed-grown c.args.builder.now c.push.new.self Fail c.in_ok-choice.ensures.states in
    let more = c.in_ok-body.ensures.count in
    let written = ap (λ (d : Draft). length d.states) c.patch.ensures in
    let same = patched-length c.compile.new.builder c.in_ok-choice.choice c.in_ok-state.state in
    omega arith

pub compile_options-compile-requires : goal.compile_options-compile-requires
compile_options-compile-requires t c =
    let sub = c.args.repetition.now.sub.value in
    let n = accounted_states c.args.repetition.now.sub.value in
    let deep = ap depth c.deref.ensures in
    let groups : greatest_group c.deref.result.now ≡ greatest_group c.args.repetition.now.sub.value = ap greatest_group c.deref.ensures in
    let states = ap accounted_states c.deref.ensures in
    let grown = pushed-grown c.loop-option.builder c.push.new.self Fail c.in_ok-choice.ensures.states in
    let b = c.loop-option.invariant.built.extends in
    let inside = c.loop-option.invariant.inside in
    let count = c.loop-option.invariant.count in
    let more = times-more c.loop-option._option c.args.count (accounted_states c.args.repetition.now.sub.value + 1) (omega arith) in
    let fits = c.requires.fits in (
      omega arith,
      (
        omega arith,
        (
          HasRoom-pushed c.loop-option.builder c.push.new.self Fail c.args.groups.now (greatest_group sub) (greatest_group c.deref.result.now)
              c.in_ok-choice.ensures.states (omega arith)
              (HasRoom-kept c.args.builder.now c.loop-option.builder c.args.groups.now (greatest_group sub) (greatest_group sub) b.groups b.slots (omega arith)
              c.requires.room),
          omega arith,
        ),
      ),
    )

pub compile_loop-patch-requires : goal.compile_loop-patch-requires
compile_loop-patch-requires t c =
    let greedy = c.args.repetition.now.greedy in
    let is = c.in_ok-state.ensures in
    let draft = c.compile.new.builder in
    let grown = pushed-grown c.args.builder.now c.push.new.self Fail c.in_ok-choice.ensures.states in
    let longer = c.in_ok-body.ensures.built.extends.longer in
    let id = c.in_ok-choice.ensures.id in
    let next = c.requires.next in
    record {
      inside = omega arith;
      names = choice-names greedy c.in_ok-body.body c.args.next c.in_ok-state.state is (length draft.states) c.in_ok-body.ensures.inside (omega arith);
      within = choice-within greedy c.in_ok-body.body c.args.next c.in_ok-state.state is (length draft.groups) draft.slots;
      own = choice-own greedy c.in_ok-body.body c.args.next c.in_ok-state.state is draft.groups;
      sorted = choice-sorted greedy c.in_ok-body.body c.args.next c.in_ok-state.state is;
      silent = choice-silent greedy c.in_ok-body.body c.args.next c.in_ok-state.state is;
    }

pub compile_options-patch-requires : goal.compile_options-patch-requires
compile_options-patch-requires t c =
    let greedy = c.args.repetition.now.greedy in
    let is = c.in_ok-option.ensures in
    let draft = c.compile.new.builder in
    let grown = pushed-grown c.loop-option.builder c.push.new.self Fail c.in_ok-choice.ensures.states in
    let longer = c.in_ok-body.ensures.built.extends.longer in
    let id = c.in_ok-choice.ensures.id in
    let next = c.requires.next in
    let before = c.loop-option.invariant.built.extends.longer in
    record {
      inside = omega arith;
      names = choice-names greedy c.in_ok-body.body c.args.next c.in_ok-option.option is (length draft.states) c.in_ok-body.ensures.inside (omega arith);
      within = choice-within greedy c.in_ok-body.body c.args.next c.in_ok-option.option is (length draft.groups) draft.slots;
      own = choice-own greedy c.in_ok-body.body c.args.next c.in_ok-option.option is draft.groups;
      sorted = choice-sorted greedy c.in_ok-body.body c.args.next c.in_ok-option.option is;
      silent = choice-silent greedy c.in_ok-body.body c.args.next c.in_ok-option.option is;
    }

pub compile_unbounded-patch-requires : goal.compile_unbounded-patch-requires
compile_unbounded-patch-requires t c =
    let greedy = c.args.repetition.now.greedy in
    let is = c.in_ok-state.ensures in
    let draft = c.compile_loop-2.new.builder in
    let grown = pushed-grown c.args.builder.now c.push.new.self Fail c.in_ok-choice.ensures.states in
    let longer = c.in_ok-inner.ensures.from_body.extends.longer in
    let id = c.in_ok-choice.ensures.id in
    let next = c.requires.next in
    record {
      inside = omega arith;
      names = choice-names greedy c.in_ok-inner.inner.body c.args.next c.in_ok-state.state is (length draft.states) c.in_ok-inner.ensures.inside.1 (omega arith);
      within = choice-within greedy c.in_ok-inner.inner.body c.args.next c.in_ok-state.state is (length draft.groups) draft.slots;
      own = choice-own greedy c.in_ok-inner.inner.body c.args.next c.in_ok-state.state is draft.groups;
      sorted = choice-sorted greedy c.in_ok-inner.inner.body c.args.next c.in_ok-state.state is;
      silent = choice-silent greedy c.in_ok-inner.inner.body c.args.next c.in_ok-state.state is;
    }

pub compile_unbounded-compile_loop-requires : goal.compile_unbounded-compile_loop-requires
compile_unbounded-compile_loop-requires t c =
    let least = tail-least c.args.repetition.now.min (accounted_states c.args.repetition.now.sub.value) in
    let fits = c.requires.fits in
    (omega arith, (c.requires.next, (c.requires.room, omega arith)))

pub compile_unbounded-compile_loop-requires-then-takes_bytes : goal.compile_unbounded-compile_loop-requires-then-takes_bytes
compile_unbounded-compile_loop-requires-then-takes_bytes t c =
    let least = tail-least c.args.repetition.now.min (accounted_states c.args.repetition.now.sub.value) in
    let fits = c.requires.fits in
    (omega arith, (c.requires.next, (c.requires.room, omega arith)))

pub compile_unbounded-compile_loop-requires-2 : goal.compile_unbounded-compile_loop-requires-2
compile_unbounded-compile_loop-requires-2 t c =
    let sub = c.args.repetition.now.sub.value in
    let none : c.args.repetition.now.min ≡ 0 = omega arith in
    let most = tail-none c.args.repetition.now.min (accounted_states c.args.repetition.now.sub.value) none in
    let grown = pushed-grown c.args.builder.now c.push.new.self Fail c.in_ok-choice.ensures.states in
    let next = c.requires.next in
    let fits = c.requires.fits in (
      omega arith,
      (
        omega arith,
        (
          HasRoom-pushed c.args.builder.now c.push.new.self Fail c.args.groups.now (greatest_group sub) (greatest_group sub) c.in_ok-choice.ensures.states
              (omega arith) c.requires.room,
          omega arith,
        ),
      ),
    )

pub compile_unbounded-returns-clause-count : goal.compile_unbounded-returns-clause-count
compile_unbounded-returns-clause-count t c =
    let none : c.args.repetition.now.min ≡ 0 = omega arith in
    let most = tail-none c.args.repetition.now.min (accounted_states c.args.repetition.now.sub.value) none in
    let grown = pushed-grown c.args.builder.now c.push.new.self Fail c.in_ok-choice.ensures.states in
    let more = c.in_ok-inner.ensures.count in
    let written = ap (λ (d : Draft). length d.states) c.patch.ensures in
    let same = patched-length c.compile_loop-2.new.builder c.in_ok-choice.choice c.in_ok-state.state in
    omega arith

pub compile_unbounded-returns-clause-inside : goal.compile_unbounded-returns-clause-inside
compile_unbounded-returns-clause-inside t c =
    let grown = pushed-grown c.args.builder.now c.push.new.self Fail c.in_ok-choice.ensures.states in
    let longer = c.in_ok-inner.ensures.from_body.extends.longer in
    let id = c.in_ok-choice.ensures.id in
    let written = ap (λ (d : Draft). length d.states) c.patch.ensures in
    let same = patched-length c.compile_loop-2.new.builder c.in_ok-choice.choice c.in_ok-state.state in
    omega arith
