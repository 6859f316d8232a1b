use Rattle.std.proofs.Common.{◌∷◌, reverse, refl, ◌∙◌, ap, arith}
use Rattle.std.proofs.lemmas.Result.{IfOk-weaker, err_from_is_err_and}
use Rattle.rx_onepass_build.proofs.lemmas.WalkingLemmas.{walking-start}
use Rattle.rx_onepass_build.specs.Told.{frame_at}
use Rattle.rx_onepass_build.proofs.closure.Closure.begin.Goals as goal

pub returns-clause-walking : goal.returns-clause-walking
returns-clause-walking c =
    let width = c.requires.job.bytes.each in
    IfOk-weaker c.push_frame.result _ _
    (λ u pushed entries is are.
    walking-start c.args.job.now entries _ (frame_at c.empty.result c.args.entry) is are
    (pushed ∙ ap (λ fs. frame_at c.empty.result c.args.entry ∷ reverse fs) c.clear.ensures.items) refl c.empty.ensures c.empty-self.ensures
    (c.in_ok-clear_cells.ensures.len ∙ width) (λ k lt. c.in_ok-clear_cells.ensures.value k (omega arith)) c.requires.marks c.requires.row)
    c.push_frame.ensures

pub clear_cells-requires : goal.clear_cells-requires
clear_cells-requires c = omega arith

pub empty-requires : goal.empty-requires
empty-requires c = tt

pub empty-self-requires : goal.empty-self-requires
empty-self-requires c = tt

pub push_frame-requires : goal.push_frame-requires
push_frame-requires c = tt

pub returns-clause-entry : goal.returns-clause-entry
returns-clause-entry c = IfOk-weaker c.push_frame.result _ _ (λ _ _. refl) c.push_frame.ensures

pub returns-clause-row : goal.returns-clause-row
returns-clause-row c = IfOk-weaker c.push_frame.result _ _ (λ _ _. refl) c.push_frame.ensures

pub returns-in_err-clear_cells-clause-entry : goal.returns-in_err-clear_cells-clause-entry
returns-in_err-clear_cells-clause-entry c =
    let p = err_from_is_err_and c.from_residual.result c.from_residual.ensures.1 in
    rw p.1 tt

pub returns-in_err-clear_cells-clause-row : goal.returns-in_err-clear_cells-clause-row
returns-in_err-clear_cells-clause-row c =
    let p = err_from_is_err_and c.from_residual.result c.from_residual.ensures.1 in
    rw p.1 tt

pub returns-in_err-clear_cells-clause-walking : goal.returns-in_err-clear_cells-clause-walking
returns-in_err-clear_cells-clause-walking c =
    let p = err_from_is_err_and c.from_residual.result c.from_residual.ensures.1 in
    rw p.1 tt
