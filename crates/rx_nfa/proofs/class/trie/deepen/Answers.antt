use Rattle.std.proofs.Common.{◌≡◌, ◌≤◌, ◌+◌, ◌++◌, ◌∷◌, [], ap, subst, arith, length, get_or, take}
use Rattle.std.proofs.lemmas.List.{take_all}
use Rattle.std.proofs.lemmas.Result.{IfOk-from_err}
use Rattle.rx_nfa.specs.Ranges.{CoversUpTo, whole_depths}
use Rattle.rx_nfa.proofs.lemmas.classes.RowLemmas.{AddsReaders-same, AddsReaders-trans}
use Rattle.rx_nfa.proofs.lemmas.classes.RangesLemmas.{CoversUpTo-nil, CoversUpTo-more, CoversUpTo-push, whole_depths-push, whole_depths-take, whole_depth-le, take-next, RisesFrom-at, StaysBelow-at}
use Rattle.rx_nfa.proofs.class.trie.deepen.Goals as goal

pub loop-range-init : goal.loop-range-init
loop-range-init c = record {
  some = c.requires.some;
  grows = AddsReaders-same c.args.states.now.items;
  closed = λ base next ready lt closed. closed;
  ready = λ base next ready. ready;
  enough = CoversUpTo-nil c.args.deepest (length c.args.whole.now.items);
  count = omega arith;
}

pub whole_depth-depth-requires-clause-small : goal.whole_depth-depth-requires-clause-small
whole_depth-depth-requires-clause-small c = (
  RisesFrom-at 0 c.loop-range.range-index c.args.ranges.now c.requires.rises c.loop-range-test.true,
  StaysBelow-at 0x10_FFFF c.loop-range.range-index c.args.ranges.now c.requires.small c.loop-range-test.true,
)

pub reach-requires-clause-deep : goal.reach-requires-clause-deep
reach-requires-clause-deep c =
    let le = whole_depth-le c.args.deepest (get_or c.args.ranges.now c.loop-range.range-index (0, 0)) in
    let deep = c.requires.deep in
    let is = c.whole_depth-depth.ensures in
    omega arith

pub reach-requires-clause-room : goal.reach-requires-clause-room
reach-requires-clause-room c =
    let r = get_or c.args.ranges.now c.loop-range.range-index (0, 0) in
    let is = c.whole_depth-depth.ensures in
    let more = whole_depths-push c.args.deepest (take c.loop-range.range-index c.args.ranges.now) r in
    let next = ap (whole_depths c.args.deepest) (take-next c.loop-range.range-index c.args.ranges.now c.loop-range-test.true) in
    let all = whole_depths-take c.args.deepest (c.loop-range.range-index + 1) c.args.ranges.now in
    let count = c.loop-range.invariant.count in
    let room = c.requires.room in
    omega arith

pub loop-range-preserved : goal.loop-range-preserved
loop-range-preserved c =
    let before = c.loop-range.invariant in
    let reached = c.in_ok-reach.ensures in
    let some = before.some in
    let longer = reached.longer.0 in
    let depth = reached.longer.1 in
    let is = c.whole_depth-depth.ensures in
    let r = get_or c.args.ranges.now c.loop-range.range-index (0, 0) in
    let next : take (c.loop-range.range-index + 1) c.args.ranges.now ≡ take c.loop-range.range-index c.args.ranges.now ++ r ∷ [] =
    take-next c.loop-range.range-index c.args.ranges.now c.loop-range-test.true in
    let deep = c.requires.deep in
    let more = whole_depths-push c.args.deepest (take c.loop-range.range-index c.args.ranges.now) r in
    let count = before.count in
    let added = reached.count in
    record {
      some = omega arith;
      grows = AddsReaders-trans c.args.states.now.items c.loop-range.states.items c.reach.new.states.items before.grows reached.grows;
      closed = λ base next ready lt closed. (let states = before.grows.longer in
          reached.closed base next (before.ready base next ready) (omega arith) (before.closed base next ready lt closed));
      ready = λ base next ready. reached.ready base next (before.ready base next ready);
      enough = rw next (CoversUpTo-push c.args.deepest (length c.reach.new.whole.items) (take c.loop-range.range-index c.args.ranges.now) r deep
          (CoversUpTo-more c.args.deepest (length c.loop-range.whole.items) (length c.reach.new.whole.items) (take c.loop-range.range-index c.args.ranges.now)
          longer before.enough) (omega arith));
      count = rw next (omega arith);
    }

pub returns-in_err-reach-clause-some : goal.returns-in_err-reach-clause-some
returns-in_err-reach-clause-some c = IfOk-from_err c.from_residual.result _ c.from_residual.ensures.0

pub returns-in_err-reach-clause-grows : goal.returns-in_err-reach-clause-grows
returns-in_err-reach-clause-grows c = IfOk-from_err c.from_residual.result _ c.from_residual.ensures.0

pub returns-in_err-reach-clause-closed : goal.returns-in_err-reach-clause-closed
returns-in_err-reach-clause-closed c = IfOk-from_err c.from_residual.result _ c.from_residual.ensures.0

pub returns-in_err-reach-clause-ready : goal.returns-in_err-reach-clause-ready
returns-in_err-reach-clause-ready c = IfOk-from_err c.from_residual.result _ c.from_residual.ensures.0

pub returns-in_err-reach-clause-enough : goal.returns-in_err-reach-clause-enough
returns-in_err-reach-clause-enough c = IfOk-from_err c.from_residual.result _ c.from_residual.ensures.0

pub returns-in_err-reach-clause-count : goal.returns-in_err-reach-clause-count
returns-in_err-reach-clause-count c = IfOk-from_err c.from_residual.result _ c.from_residual.ensures.0

pub reach-requires-clause-some : goal.reach-requires-clause-some
reach-requires-clause-some c = c.loop-range.invariant.some

pub returns-clause-some : goal.returns-clause-some
returns-clause-some c = c.loop-range.invariant.some

pub returns-clause-grows : goal.returns-clause-grows
returns-clause-grows c = c.loop-range.invariant.grows

pub returns-clause-closed : goal.returns-clause-closed
returns-clause-closed c = c.loop-range.invariant.closed

pub returns-clause-ready : goal.returns-clause-ready
returns-clause-ready c = c.loop-range.invariant.ready

pub returns-clause-enough : goal.returns-clause-enough
returns-clause-enough c =
    let all : take c.loop-range.range-index c.args.ranges.now ≡ c.args.ranges.now = take_all c.loop-range.range-index c.args.ranges.now (omega arith) in
    subst (CoversUpTo c.args.deepest (length c.loop-range.whole.items)) all c.loop-range.invariant.enough

pub returns-clause-count : goal.returns-clause-count
returns-clause-count c =
    let all : take c.loop-range.range-index c.args.ranges.now ≡ c.args.ranges.now = take_all c.loop-range.range-index c.args.ranges.now (omega arith) in
    subst (λ rs. length c.loop-range.states.items ≤ length c.args.states.now.items + whole_depths c.args.deepest rs) all c.loop-range.invariant.count
