use Rattle.std.proofs.Common.{◌≡◌, ◌++◌, ℕ, List, drop, sym, ap, subst, ◌∙◌, append_assoc, arith}
use Rattle.std.specs.List.{flat_map}
use Rattle.std.specs.Vec.{vec_items}
use Rattle.rx_scan.specs.Ends.{Gains, GainsPrefix}
use Rattle.rx_scan.proofs.EndLemmas.{Gains-trans, GainsPrefix-after, pieces-step, pieces-front, pieces-over}
use Rattle.rx_scan.proofs.OutcomeLemmas.{on-ok, on-err, err-of}
use Rattle.rx_scan.proofs.output.write_pieces.Goals as goal

pub loop-piece-preserved : goal.loop-piece-preserved
loop-piece-preserved g c =
    let before = c.loop-piece.invariant.told in
    let old = c.loop-piece.gathered.items in
    let new = c.write_piece.new.gathered.items in
    let more = c.in_ok-write_piece.ensures.ok in
    let same : more.0 ++ new ≡ old ++ vec_items c.piece-item.result = more.2 ∙ ap (λ l. old ++ l) c.deref.ensures.value in
    record {
      told = (
        before.0 ++ more.0,
        Gains-trans _ _ _ before.0 more.0 before.1 more.1,
        pieces-step vec_items c.args.pieces.now c.loop-piece.piece-index c.piece-item.result c.loop-piece-test.true c.piece-item.is
            before.0 old before.2 more.0 new same,
      );
      counts = omega (arith, c.write_piece.ensures.counts, c.loop-piece.invariant.counts);
    }

pub returns-in_err-write_piece-clause-err : goal.returns-in_err-write_piece-clause-err
returns-in_err-write_piece-clause-err g c =
    let before = c.loop-piece.invariant.told in
    let old = c.loop-piece.gathered.items in
    let P : List ℕ → Type 0 = λ l. GainsPrefix (g.K.Sink.held c.loop-piece.sink) (g.K.Sink.held c.write_piece.new.sink) (old ++ l) in
    err-of _ (GainsPrefix-after _ _ _ before.0 (old ++ vec_items c.piece-item.result) _ _ before.1 (subst P c.deref.ensures.value c.in_err-write_piece.ensures.err)
    (pieces-front vec_items c.args.pieces.now c.loop-piece.piece-index c.piece-item.result c.loop-piece-test.true c.piece-item.is before.0 old before.2))

pub returns-clause-ok : goal.returns-clause-ok
returns-clause-ok g c =
    let before = c.loop-piece.invariant.told in
    let P : List ℕ → Type 0 = Gains (g.K.Sink.held c.loop-piece.sink) (g.K.Sink.held c.write_text.new.sink) in
    let old = c.loop-piece.gathered.items in
    let whole = pieces-over vec_items c.args.pieces.now c.loop-piece.piece-index before.0 old (omega (arith, c.loop-piece-test.false)) before.2 in
    on-ok c.write_text.result
    (λ gains. subst (Gains (g.K.Sink.held c.args.sink.now) (g.K.Sink.held c.write_text.new.sink)) whole
    (Gains-trans _ _ _ before.0 old before.1 (subst P c.deref-2.ensures.value gains)))
    c.write_text.ensures.ok

pub returns-clause-err : goal.returns-clause-err
returns-clause-err g c =
    let before = c.loop-piece.invariant.told in
    let old = c.loop-piece.gathered.items in
    let rest = flat_map vec_items (drop c.loop-piece.piece-index c.args.pieces.now) in
    let P : List ℕ → Type 0 = GainsPrefix (g.K.Sink.held c.loop-piece.sink) (g.K.Sink.held c.write_text.new.sink) in
    on-err c.write_text.result
    (λ breaks. GainsPrefix-after _ _ _ before.0 old rest _ before.1 (subst P c.deref-2.ensures.value breaks) (sym (append_assoc before.0 old rest) ∙ before.2))
    c.write_text.ensures.err
