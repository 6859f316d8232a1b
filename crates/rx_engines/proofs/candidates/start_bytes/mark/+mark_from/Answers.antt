use Rattle.std.proofs.Common.{length, arith, subst, ap}
use Rattle.std.specs.Prelude.{All}
use Rattle.rx_nfa.specs.declared.state.Transition.{Transition}
use Rattle.rx_nfa.specs.declared.state.State.TheVariants.{ByteRange, Sparse, Look, Union, Capture, Fail}
use Rattle.rx_engines.specs.StartBytes.{HasRange, BeginMarked}
use Rattle.rx_engines.proofs.lemmas.candidates.StartBytesLemmas.{settled-begins, state-read, marked-on, marks-more, marked-next}
use Rattle.rx_engines.proofs.candidates.start_bytes.mark.+mark_from.Goals as goal

pub returns-in-ByteRange-clause-marked : goal.returns-in-ByteRange-clause-marked
returns-in-ByteRange-clause-marked t c =
    let is = state-read c.args.states.now c.args.state c.as_usize.result c.index-states-as_usize.result _ c.requires.state c.as_usize.ensures.value
    c.index-states-as_usize.is c.in-ByteRange.is in (
      omega arith,
      settled-begins c.args.states.now c.mark_range.new.has c.args.state (ByteRange c.in-ByteRange.start c.in-ByteRange.end c.in-ByteRange.next) is
          c.mark_range.ensures.marked,
    )

pub returns-in-Sparse-clause-marked : goal.returns-in-Sparse-clause-marked
returns-in-Sparse-clause-marked t c =
    let is = state-read c.args.states.now c.args.state c.as_usize.result c.index-states-as_usize.result _ c.requires.state c.as_usize.ensures.value
    c.index-states-as_usize.is c.in-Sparse.is in (
      omega arith,
      settled-begins c.args.states.now c.mark_all.new.has c.args.state (Sparse c.in-Sparse.transitions) is
          (subst (All (λ (t : Transition). HasRange c.mark_all.new.has t.start t.end)) c.as_slice.ensures c.mark_all.ensures.marked),
    )

pub returns-after-loop-k-clause-marked : goal.returns-after-loop-k-clause-marked
returns-after-loop-k-clause-marked t c =
    let is = state-read c.args.states.now c.args.state c.as_usize.result c.index-states-as_usize.result _ c.requires.state c.as_usize.ensures.value
    c.index-states-as_usize.is c.in-Union.is in
    let size = ap length c.as_slice-alternates.ensures in
    let less = c.loop-k.invariant.less in (
      omega arith,
      settled-begins c.args.states.now c.loop-k.has c.args.state (Union c.in-Union.alternates) is
          (subst (All (BeginMarked c.args.states.now c.loop-k.has)) c.as_slice-alternates.ensures (λ k q lt. c.loop-k.invariant.marked k q (omega arith))),
    )

pub returns-in-Look-clause-marked : goal.returns-in-Look-clause-marked
returns-in-Look-clause-marked t c =
    let is = state-read c.args.states.now c.args.state c.as_usize.result c.index-states-as_usize.result _ c.requires.state c.as_usize.ensures.value
    c.index-states-as_usize.is c.in-Look.is in
    marked-on c.args.states.now c.mark_from-in-Look.new.has c.args.state c.in-Look.next c.args.left
    (λ begin. settled-begins c.args.states.now c.mark_from-in-Look.new.has c.args.state (Look c.in-Look.look c.in-Look.next) is begin)
    c.mark_from-in-Look.result c.mark_from-in-Look.ensures.marked

pub returns-in-Capture-clause-marked : goal.returns-in-Capture-clause-marked
returns-in-Capture-clause-marked t c =
    let is = state-read c.args.states.now c.args.state c.as_usize.result c.index-states-as_usize.result _ c.requires.state c.as_usize.ensures.value
    c.index-states-as_usize.is c.in-Capture.is in
    marked-on c.args.states.now c.mark_from-in-Capture.new.has c.args.state c.in-Capture.next c.args.left
    (λ begin. settled-begins c.args.states.now c.mark_from-in-Capture.new.has c.args.state (Capture c.in-Capture.next c.in-Capture.pattern c.in-Capture.slot) is
    begin)
    c.mark_from-in-Capture.result c.mark_from-in-Capture.ensures.marked

pub returns-in-Fail-clause-marked : goal.returns-in-Fail-clause-marked
returns-in-Fail-clause-marked t c =
    let is = state-read c.args.states.now c.args.state c.as_usize.result c.index-states-as_usize.result _ c.requires.state c.as_usize.ensures.value
    c.index-states-as_usize.is c.in-Fail.is in
    (omega arith, settled-begins c.args.states.now c.args.has.now c.args.state Fail is tt)

-- the loop over alternates

pub loop-k-preserved : goal.loop-k-preserved
loop-k-preserved t c =
    let v = c.loop-k.invariant in
    let less = v.less in
    let now = c.in-Some.ensures.marked in
    let fewer = now.0 in
    record {
      less = omega arith;
      kept = marks-more _ _ _ v.kept c.mark_from.ensures.kept;
      marked = marked-next c.args.states.now c.loop-k.has c.mark_from.new.has _ c.loop-k.k _ c.mark_from.ensures.kept c.index-alternates-k.is (omega arith)
          v.marked now.1;
    }
