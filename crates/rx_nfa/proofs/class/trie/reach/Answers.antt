use Rattle.std.proofs.Common.{◌≡◌, ◌≤◌, ◌+◌, ◌-◌, ◌∷◌, [], ◌∙◌, ap, arith, length, slice_index, refl, sym, subst}
use Rattle.std.proofs.lemmas.Result.{IfOk-from_err}
use Rattle.std.proofs.lemmas.Grind.{common_steps}
use Rattle.std.proofs.lemmas.List.{length_push}
use Rattle.rx_nfa.proofs.lemmas.classes.RowLemmas.{AddsReaders-trans, RoutesBelow-one, AddsReaders-same}
use Rattle.rx_nfa.proofs.lemmas.classes.BlockLemmas.{IsReady-push, whole-inside}
use Rattle.rx_nfa.specs.Row.{Ascends}
use Rattle.rx_nfa.proofs.class.trie.reach.Goals as goal

pub loop-alloc-preserved : goal.loop-alloc-preserved
loop-alloc-preserved c =
    let before = c.loop-alloc.invariant in
    let id = c.in_ok-id.ensures in
    let some = c.requires.some in
    let longer = before.longer in
    let states = before.grows.longer in
    let is = id.is in
    let pushed = c.in_ok-push-2.ensures.items in
    let size : length c.push-in-loop-alloc.new.self.items ≡ length c.loop-alloc.whole.items + 1 =
    ap length pushed ∙ length_push c.loop-alloc.whole.items c.in_ok-id.id in
    let one = id.count in
    let count = before.count in
    let test : length c.loop-alloc.whole.items ≤ c.args.depth = grind (arith, common_steps) in
    let last : c.index.result.now ≡ slice_index c.loop-alloc.whole.items (length c.loop-alloc.whole.items - 1) = grind (arith, common_steps) in
    let row : c.push.new.self.items ≡ record { start = 0x80; end = 0xBF; next = slice_index c.loop-alloc.whole.items (length c.loop-alloc.whole.items - 1) }
    ∷ [] = rw (c.in_ok-push.ensures.items, c.new-transitions.ensures.items) (ap (λ n. record { start = 0x80; end = 0xBF; next = n } ∷ []) last) in
    record {
      grows = AddsReaders-trans c.args.states.now.items c.loop-alloc.states.items c.push_reader.new.states.items before.grows id.grows;
      closed = λ base next ready lt closed. id.closed
          (rw row (RoutesBelow-one (length c.loop-alloc.states.items) 0x80 0xBF (slice_index c.loop-alloc.whole.items (length c.loop-alloc.whole.items - 1))
          (whole-inside c.loop-alloc.states.items base next (length c.loop-alloc.whole.items - 1) c.loop-alloc.whole.items (omega arith)
          (before.ready base next ready).whole (omega arith)))) (before.closed base next ready lt closed);
      ready = λ base next ready. rw pushed (IsReady-push c.loop-alloc.states.items c.push_reader.new.states.items base next c.in_ok-id.id
          c.loop-alloc.whole.items c.push.new.self.items (omega arith) id.grows id.is id.reads row (before.ready base next ready));
      longer = omega arith;
      most = omega arith;
      count = omega arith;
    }

pub returns-in_err-push-clause-longer : goal.returns-in_err-push-clause-longer
returns-in_err-push-clause-longer c = IfOk-from_err c.from_residual.result _ c.from_residual.ensures.0

pub returns-in_err-push-clause-grows : goal.returns-in_err-push-clause-grows
returns-in_err-push-clause-grows c = IfOk-from_err c.from_residual.result _ c.from_residual.ensures.0

pub returns-in_err-push-clause-closed : goal.returns-in_err-push-clause-closed
returns-in_err-push-clause-closed c = IfOk-from_err c.from_residual.result _ c.from_residual.ensures.0

pub returns-in_err-push-clause-ready : goal.returns-in_err-push-clause-ready
returns-in_err-push-clause-ready c = IfOk-from_err c.from_residual.result _ c.from_residual.ensures.0

pub returns-in_err-push-clause-count : goal.returns-in_err-push-clause-count
returns-in_err-push-clause-count c = IfOk-from_err c.from_residual.result _ c.from_residual.ensures.0

pub returns-in_err-id-clause-longer : goal.returns-in_err-id-clause-longer
returns-in_err-id-clause-longer c = IfOk-from_err c.from_residual-in_err-id.result _ c.from_residual-in_err-id.ensures.0

pub returns-in_err-id-clause-grows : goal.returns-in_err-id-clause-grows
returns-in_err-id-clause-grows c = IfOk-from_err c.from_residual-in_err-id.result _ c.from_residual-in_err-id.ensures.0

pub returns-in_err-id-clause-closed : goal.returns-in_err-id-clause-closed
returns-in_err-id-clause-closed c = IfOk-from_err c.from_residual-in_err-id.result _ c.from_residual-in_err-id.ensures.0

pub returns-in_err-id-clause-ready : goal.returns-in_err-id-clause-ready
returns-in_err-id-clause-ready c = IfOk-from_err c.from_residual-in_err-id.result _ c.from_residual-in_err-id.ensures.0

pub returns-in_err-id-clause-count : goal.returns-in_err-id-clause-count
returns-in_err-id-clause-count c = IfOk-from_err c.from_residual-in_err-id.result _ c.from_residual-in_err-id.ensures.0

pub returns-in_err-push-2-clause-longer : goal.returns-in_err-push-2-clause-longer
returns-in_err-push-2-clause-longer c = IfOk-from_err c.from_residual-in_err-push-2.result _ c.from_residual-in_err-push-2.ensures.0

pub returns-in_err-push-2-clause-grows : goal.returns-in_err-push-2-clause-grows
returns-in_err-push-2-clause-grows c = IfOk-from_err c.from_residual-in_err-push-2.result _ c.from_residual-in_err-push-2.ensures.0

pub returns-in_err-push-2-clause-closed : goal.returns-in_err-push-2-clause-closed
returns-in_err-push-2-clause-closed c = IfOk-from_err c.from_residual-in_err-push-2.result _ c.from_residual-in_err-push-2.ensures.0

pub returns-in_err-push-2-clause-ready : goal.returns-in_err-push-2-clause-ready
returns-in_err-push-2-clause-ready c = IfOk-from_err c.from_residual-in_err-push-2.result _ c.from_residual-in_err-push-2.ensures.0

pub returns-in_err-push-2-clause-count : goal.returns-in_err-push-2-clause-count
returns-in_err-push-2-clause-count c = IfOk-from_err c.from_residual-in_err-push-2.result _ c.from_residual-in_err-push-2.ensures.0

pub loop-alloc-init : goal.loop-alloc-init
loop-alloc-init c = record {
  grows = AddsReaders-same c.args.states.now.items;
  closed = λ base next ready lt closed. closed;
  ready = λ base next ready. ready;
  longer = omega arith;
  most = omega arith;
  count = omega arith;
}

pub push_reader-requires-clause-ascends : goal.push_reader-requires-clause-ascends
push_reader-requires-clause-ascends c =
    let row : c.push.new.self.items ≡ record { start = 0x80; end = 0xBF; next = c.index.result.now } ∷ [] =
    rw (c.in_ok-push.ensures.items, c.new-transitions.ensures.items) refl in
    subst (Ascends 0 256) (sym row) (omega arith, omega arith, omega arith)

pub returns-clause-closed : goal.returns-clause-closed
returns-clause-closed c = c.loop-alloc.invariant.closed
