use Rattle.std.proofs.Common.{◌≡◌, ◌++◌, length, take, ap, ◌∙◌, length-take, length-append, arith}
use Rattle.rx_scan.proofs.EndLemmas.{HasRisen-since, Consumes-none, Consumes-more, Consumes-same, take-front, CountsAtMost-none, CountsAtMost-more}
use Rattle.std.proofs.KnownBytes.{Consumes-trans}
use Rattle.rx_scan.proofs.input.read_input.Goals as goal

pub loop-source-init : goal.loop-source-init
loop-source-init g c = record {
  given = Consumes-none _ _ c.new-input.ensures.items;
  limit = omega (arith, c.new-input.ensures.len);
  room = c.in_ok-piece.ensures;
  counts = omega arith;
  reads = CountsAtMost-none _ _;
}

pub returns-in_err-n-clause-failed : goal.returns-in_err-n-clause-failed
returns-in_err-n-clause-failed g c = λ e. HasRisen-since _ _ _ c.loop-source.invariant.counts c.in_err-n.ensures.failed

pub returns-then-n-eq0-clause-given : goal.returns-then-n-eq0-clause-given
returns-then-n-eq0-clause-given g c =
    Consumes-same _ _ _ _ _ c.loop-source.invariant.given c.in_ok-n.ensures.bytes (ap (λ n. take n c.read_at_most.new.buf) c.if-n-eq0.true)

pub loop-source-preserved : goal.loop-source-preserved
loop-source-preserved g c =
    let added = c.in_ok-extend_from_slice.ensures in
    let lent : length c.read_at_most.new.buf ≡ c.loop-source.piece.len = omega (arith, c.read_at_most.auto.buf, c.deref_mut.ensures.len) in
    let piece = c.deref.ensures.value ∙ take-front _ _ _ lent in
    record {
      given = Consumes-more _ _ _ _ _ _ c.loop-source.invariant.given c.in_ok-n.ensures.bytes
          (added.items ∙ ap (λ l. c.loop-source.input.items ++ take c.in_ok-n.n l) piece);
      limit = omega (arith, added.len, length-take c.in_ok-n.n c.deref.result.now, c.in_ok-n.ensures.len.0, c.len-in-loop-source.ensures, c.len.ensures);
      room = c.loop-source.invariant.room;
      counts = omega (arith, c.read_at_most.ensures.counts, c.loop-source.invariant.counts);
      reads = CountsAtMost-more _ _ _ _ _ c.loop-source.invariant.reads c.read_at_most.ensures.call
          (omega (arith, added.len, length-take c.in_ok-n.n c.deref.result.now, ap length piece, c.in_ok-n.ensures.len.1, c.if-n-eq0.false));
    }

pub returns-in_err-extend_from_slice-clause-takes : goal.returns-in_err-extend_from_slice-clause-takes
returns-in_err-extend_from_slice-clause-takes g c =
    let had = c.loop-source.input.items in
    let gave = take c.in_ok-n.n c.read_at_most.new.buf in (
      had ++ gave,
      Consumes-trans _ _ _ _ _ c.loop-source.invariant.given c.in_ok-n.ensures.bytes,
      omega (
        arith,
        length-append had gave,
        length-take c.in_ok-n.n c.read_at_most.new.buf,
        c.in_ok-n.ensures.len.0,
        c.len-in-loop-source.ensures,
        c.loop-source.input.ok.0,
      ),
    )
