use Rattle.std.proofs.Common.{◌≡◌, ◌<◌, ◌≤◌, ◌+◌, ◌*◌, length, drop, take}
use Rattle.std.specs.Prelude.{All, map}
use Rattle.rx_model.specs.Graph.{copies, options}
use Rattle.rx_model.specs.Length.{minimum_len, is_positive}
use Rattle.rx_hir.specs.Cost.{accounted_states, accounted_in}
use Rattle.rx_hir.specs.Normal.{expressions}
use Rattle.rx_hir.specs.Depth.{depth, greatest_depth}
use Rattle.rx_nfa.specs.Built.{Built}
use Rattle.rx_nfa.specs.Directed.{in_order, build_row, part_for}
use Rattle.rx_nfa.specs.Repeated.{tail, states_of_tail}
use Rattle.rx_nfa.proofs.lemmas.parts.ChoiceLemmas.{BuiltEach}
use Rattle.rx_nfa.proofs.compiler.expression.+compile.Given as goal

abbrev pub invariant-compile_concat-loop-left : goal.invariant-compile_concat-loop-left
invariant-compile_concat-loop-left l = record {
  built : Built (build_row (map (part_for l.groups) (drop l.left (in_order l.groups.reverse l.subs)))) l.fn.next l.initial.builder l.builder l.start;
  count : length l.builder.states ≤ length l.initial.builder.states + accounted_in (expressions (drop l.left (in_order l.groups.reverse l.subs)));
  within : l.left ≤ length l.subs;
  inside : l.start < length l.builder.states;
}

abbrev pub decreases-compile_concat-loop-left : goal.decreases-compile_concat-loop-left
decreases-compile_concat-loop-left l = l.left

abbrev pub invariant-compile_alternation-loop-sub : goal.invariant-compile_alternation-loop-sub
invariant-compile_alternation-loop-sub l = record {
  built : BuiltEach (map (part_for l.groups) (take l.sub-index l.subs)) l.fn.next l.initial.builder l.builder l.starts.items;
  inside : All (λ q. q < length l.builder.states) l.starts.items;
  longer : length l.initial.builder.states ≤ length l.builder.states;
  count : length l.builder.states + accounted_in (expressions (drop l.sub-index l.subs)) ≤ length l.initial.builder.states + accounted_in (expressions l.subs);
  groups : l.builder.groups ≡ l.initial.builder.groups;
  slots : l.builder.slots ≡ l.initial.builder.slots;
}

abbrev pub invariant-compile_repetition-loop-copy : goal.invariant-compile_repetition-loop-copy
invariant-compile_repetition-loop-copy l = record {
  built : Built (copies l._copy (part_for l.groups l.repetition.sub.value)
      (tail (is_positive (minimum_len l.repetition.sub.value)) l.repetition.min l.repetition.max l.repetition.greedy
      (part_for l.groups l.repetition.sub.value)))
      l.fn.next l.fn.builder l.builder l.start;
  count : length l.builder.states ≤ length l.fn.builder.states + (states_of_tail l.repetition.min l.repetition.max
      (accounted_states l.repetition.sub.value) + l._copy * accounted_states l.repetition.sub.value);
  inside : l.start < length l.builder.states;
}

abbrev pub invariant-compile_options-loop-option : goal.invariant-compile_options-loop-option
invariant-compile_options-loop-option l = record {
  built : Built (options l.repetition.greedy l._option (part_for l.groups l.repetition.sub.value)) l.fn.next l.initial.builder l.builder l.start;
  count : length l.builder.states ≤ length l.initial.builder.states + l._option * (accounted_states l.repetition.sub.value + 1);
  inside : l.start < length l.builder.states;
}

abbrev pub decreases-compile : goal.decreases-compile
decreases-compile l = 8 * depth l.hir.now + 7

abbrev pub decreases-compile_concat : goal.decreases-compile_concat
decreases-compile_concat l = 8 * greatest_depth (expressions l.subs.now) + 6

abbrev pub decreases-compile_alternation : goal.decreases-compile_alternation
decreases-compile_alternation l = 8 * greatest_depth (expressions l.subs.now) + 6

abbrev pub decreases-compile_capture : goal.decreases-compile_capture
decreases-compile_capture l = 8 * depth l.capture.now.sub.value + 14

abbrev pub decreases-compile_repetition : goal.decreases-compile_repetition
decreases-compile_repetition l = 8 * depth l.repetition.now.sub.value + 14

abbrev pub decreases-compile_tail : goal.decreases-compile_tail
decreases-compile_tail l = 8 * depth l.repetition.now.sub.value + 13

abbrev pub decreases-compile_unbounded : goal.decreases-compile_unbounded
decreases-compile_unbounded l = 8 * depth l.repetition.now.sub.value + 12

abbrev pub decreases-compile_options : goal.decreases-compile_options
decreases-compile_options l = 8 * depth l.repetition.now.sub.value + 11

abbrev pub decreases-compile_loop : goal.decreases-compile_loop
decreases-compile_loop l = 8 * depth l.repetition.now.sub.value + 11
