use Rattle.std.proofs.Common.{◌++◌, ◌≡◌, [], ℕ, List, refl, ap, subst, ◌∙◌, append-nil}
use Rattle.rx_scan.specs.Ends.{Gains, GainsPrefix}
use Rattle.rx_scan.proofs.EndLemmas.{Gains-nil, Gains-trans, GainsPrefix-after}
use Rattle.rx_scan.proofs.OutcomeLemmas.{on-ok, on-err, err-of}
use Rattle.rx_scan.proofs.output.write_piece.Goals as goal

pub returns-clause-ok : goal.returns-clause-ok
returns-clause-ok g c =
    let old = c.args.gathered.now.items in
    let piece = c.args.piece.now in
    let same : c.deref.result.now ≡ old = c.deref.ensures.value ∙ c.gather.ensures.none c.if-gather.false in
    let first = subst (Gains (g.K.Sink.held c.args.sink.now) (g.K.Sink.held c.write_text.new.sink)) same c.in_ok-write_text.ensures.ok in
    let none = c.gather-2.ensures.none c.if-gather-2.false ∙ c.clear.ensures.items in
    on-ok c.write_text-2.result
    (λ gains. (old ++ piece, Gains-trans _ _ _ old piece first gains, ap (λ l. old ++ piece ++ l) none ∙ append-nil (old ++ piece)))
    c.write_text-2.ensures.ok

pub returns-in_err-write_text-clause-err : goal.returns-in_err-write_text-clause-err
returns-in_err-write_text-clause-err g c =
    let same : c.deref.result.now ≡ c.args.gathered.now.items = c.deref.ensures.value ∙ c.gather.ensures.none c.if-gather.false in
    let P : List ℕ → Type 0 = GainsPrefix (g.K.Sink.held c.args.sink.now) (g.K.Sink.held c.write_text.new.sink) in
    err-of _ (GainsPrefix-after _ _ _ [] c.args.gathered.now.items c.args.piece.now _ (Gains-nil _) (subst P same c.in_err-write_text.ensures.err) refl)

pub returns-clause-err : goal.returns-clause-err
returns-clause-err g c =
    let old = c.args.gathered.now.items in
    let piece = c.args.piece.now in
    let same : c.deref.result.now ≡ old = c.deref.ensures.value ∙ c.gather.ensures.none c.if-gather.false in
    let first = subst (Gains (g.K.Sink.held c.args.sink.now) (g.K.Sink.held c.write_text.new.sink)) same c.in_ok-write_text.ensures.ok in
    on-err c.write_text-2.result (λ breaks. GainsPrefix-after _ _ _ old piece [] _ first breaks (ap (λ l. old ++ l) (append-nil piece))) c.write_text-2.ensures.err

pub returns-then-gather-2-clause-ok : goal.returns-then-gather-2-clause-ok
returns-then-gather-2-clause-ok g c =
    let old = c.args.gathered.now.items in
    let piece = c.args.piece.now in
    let same : c.deref.result.now ≡ old = c.deref.ensures.value ∙ c.gather.ensures.none c.if-gather.false in
    let first = subst (Gains (g.K.Sink.held c.args.sink.now) (g.K.Sink.held c.write_text.new.sink)) same c.in_ok-write_text.ensures.ok in
    (old, first, ap (λ l. old ++ l) (c.gather-2.ensures.some c.if-gather-2.true ∙ ap (λ l. l ++ piece) c.clear.ensures.items))
