use Rattle.std.proofs.Common.{◌∙◌, ap, sym, subst, length, map, arith}
use Rattle.std.proofs.lemmas.List.{take_all}
use Rattle.rx_nfa.specs.Ranges.{StaysBelow}
use Rattle.rx_nfa.specs.Row.{transition_to, Ascends, RoutesBelow, IsReader}
use Rattle.rx_nfa.proofs.lemmas.classes.RangesLemmas.{AreByteRanges-rise}
use Rattle.rx_nfa.proofs.lemmas.classes.ByteLemmas.{transitions-ascend, transitions-below, transitions-push, IsByteClass-from, StaysBelow-next}
use Rattle.rx_nfa.proofs.class.compile_bytes.Goals as goal

pub loop-start-preserved : goal.loop-start-preserved
loop-start-preserved c =
    let made = c.byte_transition.ensures in
    record {
      pushed = transitions-push c.args.next c.loop-start.start-index c.args.ranges.now c.loop-start.transitions.items c.push.new.self.items
          c.byte_transition.result c.loop-start-test.true
          c.in_ok-push.ensures.items c.loop-start.invariant.pushed made.value;
      below = StaysBelow-next 255 c.loop-start.start-index c.args.ranges.now c.loop-start-test.true c.loop-start.invariant.below made.byte;
    }

pub push_reader-requires-clause-ascends : goal.push_reader-requires-clause-ascends
push_reader-requires-clause-ascends c =
    let all = take_all c.loop-start.start-index c.args.ranges.now c.loop-start-test.false in
    subst (Ascends 0 256) (sym (c.loop-start.invariant.pushed ∙ ap (map (transition_to c.args.next)) all))
    (transitions-ascend c.args.next 0 c.args.ranges.now (omega arith) (AreByteRanges-rise c.args.ranges.now c.requires.fewest)
    (subst (StaysBelow 255) all c.loop-start.invariant.below))

pub returns-clause-built : goal.returns-clause-built
returns-clause-built c =
    let all = take_all c.loop-start.start-index c.args.ranges.now c.loop-start-test.false in
    let row = c.loop-start.invariant.pushed ∙ ap (map (transition_to c.args.next)) all in
    IsByteClass-from c.args.next (IsReader (length c.args.states.now.items) c.push_reader.new.states.items) c.args.ranges.now c.in_ok-id.id
    (AreByteRanges-rise c.args.ranges.now c.requires.fewest) (subst (StaysBelow 255) all c.loop-start.invariant.below)
    (subst (IsReader (length c.args.states.now.items) c.push_reader.new.states.items c.in_ok-id.id) row c.in_ok-id.ensures.reads)

pub returns-clause-bytes : goal.returns-clause-bytes
returns-clause-bytes c = subst (StaysBelow 255) (take_all c.loop-start.start-index c.args.ranges.now c.loop-start-test.false) c.loop-start.invariant.below

pub returns-clause-closed : goal.returns-clause-closed
returns-clause-closed c =
    let all = take_all c.loop-start.start-index c.args.ranges.now c.loop-start-test.false in
    let row = c.loop-start.invariant.pushed ∙ ap (map (transition_to c.args.next)) all in
    λ lt closed. c.in_ok-id.ensures.closed (subst (RoutesBelow (length c.args.states.now.items)) (sym row)
    (transitions-below c.args.next (length c.args.states.now.items) c.args.ranges.now lt)) closed
