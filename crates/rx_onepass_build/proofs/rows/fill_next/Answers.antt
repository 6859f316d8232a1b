use Rattle.std.proofs.Common.{◌≡◌, ◌++◌, length, ◌∙◌, sym, ap, subst, arith, true≢false}
use Rattle.std.specs.Prelude.{Some, slice_get}
use Rattle.std.proofs.lemmas.Result.{err_from_is_err_and}
use Rattle.rx_onepass_build.specs.Rows.{AreFilled}
use Rattle.rx_onepass_build.proofs.lemmas.EntryLemmas.{same-of, met-inside, place-read}
use Rattle.rx_onepass_build.proofs.lemmas.RowsLemmas.{rows-more, length-last}
use Rattle.rx_onepass_build.proofs.rows.fill_next.Goals as goal

pub fill-requires-clause-inside : goal.fill-requires-clause-inside
fill-requires-clause-inside c =
    met-inside c.args.entries.now (length c.args.job.now.nfa.now.states) c.requires.met c.requires.numbers c.len-done.result c.index-entry.result.now
    (place-read c.args.entries.now.items.items c.len-done.result c.index-entry.result.now (omega arith) c.index-entry.ensures)

pub returns-clause-filled : goal.returns-clause-filled
returns-clause-filled c =
    let old = c.args.entries.now.items.items in
    let new = c.fill.new.entries.items.items in
    let steps = c.args.rows.now.steps.items in
    let finals = c.args.rows.now.finals.items in
    let entry = c.index-entry.result.now in
    let at : c.len-done.result ≡ length finals = omega arith in
    let there = subst (λ k. slice_get old k ≡ Some entry) at (place-read old c.len-done.result entry (omega arith) c.index-entry.ensures) in
    let all = rows-more c.args.job.now c.requires.job.classes old new steps c.fill.new.self.cells.items finals c.fill.new.self.told entry
    c.in_ok-fill.ensures.of.stays c.requires.filled (c.in_ok-fill.ensures.of.stays (length finals) entry there) c.in_ok-fill.ensures.filled in
    subst (λ xs. AreFilled c.args.job.now new xs c.push.new.self.finals.items)
    (sym (c.in_ok-push.ensures.steps ∙ ap (λ xs. steps ++ xs) c.as_slice.ensures.value))
    (subst (λ xs. AreFilled c.args.job.now new (steps ++ c.fill.new.self.cells.items) xs) (sym c.in_ok-push.ensures.finals) all)

pub returns-clause-row : goal.returns-clause-row
returns-clause-row c q mark e =
    let at : c.len-done.result ≡ length c.args.rows.now.finals.items = omega arith in
    let le = c.in_ok-fill.ensures.row q mark e in
    let long = ap length c.in_ok-push.ensures.finals ∙ length-last c.args.rows.now.finals.items c.fill.new.self.told in
    omega arith

pub fill-requires-clause-are : goal.fill-requires-clause-are
fill-requires-clause-are c = c.requires.are

pub fill-requires-clause-job : goal.fill-requires-clause-job
fill-requires-clause-job c = c.requires.job

pub fill-requires-clause-marks : goal.fill-requires-clause-marks
fill-requires-clause-marks c = c.requires.marks

pub fill-requires-clause-met : goal.fill-requires-clause-met
fill-requires-clause-met c = c.requires.met

pub fill-requires-clause-numbers : goal.fill-requires-clause-numbers
fill-requires-clause-numbers c = c.requires.numbers

pub fill-requires-clause-entry : goal.fill-requires-clause-entry
fill-requires-clause-entry c =
    c.requires.are c.len-done.result c.index-entry.result.now
    (place-read c.args.entries.now.items.items c.len-done.result c.index-entry.result.now (omega arith) c.index-entry.ensures)

pub fill-requires-clause-row : goal.fill-requires-clause-row
fill-requires-clause-row c q mark e = let le = c.requires.row q mark e in omega arith

pub returns-clause-all : goal.returns-clause-all
returns-clause-all c asked = absurd (true≢false asked)

pub returns-clause-are : goal.returns-clause-are
returns-clause-are c = c.in_ok-fill.ensures.are

pub returns-clause-err : goal.returns-clause-err
returns-clause-err c = tt

pub returns-clause-marks : goal.returns-clause-marks
returns-clause-marks c = c.in_ok-fill.ensures.marks

pub returns-clause-met : goal.returns-clause-met
returns-clause-met c = c.in_ok-fill.ensures.met

pub returns-clause-of : goal.returns-clause-of
returns-clause-of c = c.in_ok-fill.ensures.of

pub returns-clause-more : goal.returns-clause-more
returns-clause-more c asked =
    let long = ap length c.in_ok-push.ensures.finals ∙ length-last c.args.rows.now.finals.items c.fill.new.self.told in
    omega arith

pub returns-in_err-fill-clause-all : goal.returns-in_err-fill-clause-all
returns-in_err-fill-clause-all c =
    let p = err_from_is_err_and c.from_residual.result c.from_residual.ensures.1 in
    rw p.1 tt

pub returns-in_err-push-clause-all : goal.returns-in_err-push-clause-all
returns-in_err-push-clause-all c =
    let p = err_from_is_err_and c.from_residual-in_err-push.result c.from_residual-in_err-push.ensures.1 in
    rw p.1 tt

pub returns-in_err-fill-clause-are : goal.returns-in_err-fill-clause-are
returns-in_err-fill-clause-are c =
    let p = err_from_is_err_and c.from_residual.result c.from_residual.ensures.1 in
    rw p.1 tt

pub returns-in_err-push-clause-are : goal.returns-in_err-push-clause-are
returns-in_err-push-clause-are c =
    let p = err_from_is_err_and c.from_residual-in_err-push.result c.from_residual-in_err-push.ensures.1 in
    rw p.1 tt

pub returns-in_err-fill-clause-filled : goal.returns-in_err-fill-clause-filled
returns-in_err-fill-clause-filled c =
    let p = err_from_is_err_and c.from_residual.result c.from_residual.ensures.1 in
    rw p.1 tt

pub returns-in_err-push-clause-filled : goal.returns-in_err-push-clause-filled
returns-in_err-push-clause-filled c =
    let p = err_from_is_err_and c.from_residual-in_err-push.result c.from_residual-in_err-push.ensures.1 in
    rw p.1 tt

pub returns-in_err-fill-clause-marks : goal.returns-in_err-fill-clause-marks
returns-in_err-fill-clause-marks c =
    let p = err_from_is_err_and c.from_residual.result c.from_residual.ensures.1 in
    rw p.1 tt

pub returns-in_err-push-clause-marks : goal.returns-in_err-push-clause-marks
returns-in_err-push-clause-marks c =
    let p = err_from_is_err_and c.from_residual-in_err-push.result c.from_residual-in_err-push.ensures.1 in
    rw p.1 tt

pub returns-in_err-fill-clause-met : goal.returns-in_err-fill-clause-met
returns-in_err-fill-clause-met c =
    let p = err_from_is_err_and c.from_residual.result c.from_residual.ensures.1 in
    rw p.1 tt

pub returns-in_err-push-clause-met : goal.returns-in_err-push-clause-met
returns-in_err-push-clause-met c =
    let p = err_from_is_err_and c.from_residual-in_err-push.result c.from_residual-in_err-push.ensures.1 in
    rw p.1 tt

pub returns-in_err-fill-clause-more : goal.returns-in_err-fill-clause-more
returns-in_err-fill-clause-more c =
    let p = err_from_is_err_and c.from_residual.result c.from_residual.ensures.1 in
    rw p.1 tt

pub returns-in_err-push-clause-more : goal.returns-in_err-push-clause-more
returns-in_err-push-clause-more c =
    let p = err_from_is_err_and c.from_residual-in_err-push.result c.from_residual-in_err-push.ensures.1 in
    rw p.1 tt

pub returns-in_err-fill-clause-of : goal.returns-in_err-fill-clause-of
returns-in_err-fill-clause-of c =
    let p = err_from_is_err_and c.from_residual.result c.from_residual.ensures.1 in
    rw p.1 tt

pub returns-in_err-push-clause-of : goal.returns-in_err-push-clause-of
returns-in_err-push-clause-of c =
    let p = err_from_is_err_and c.from_residual-in_err-push.result c.from_residual-in_err-push.ensures.1 in
    rw p.1 tt

pub returns-in_err-fill-clause-row : goal.returns-in_err-fill-clause-row
returns-in_err-fill-clause-row c =
    let p = err_from_is_err_and c.from_residual.result c.from_residual.ensures.1 in
    rw p.1 tt

pub returns-in_err-push-clause-row : goal.returns-in_err-push-clause-row
returns-in_err-push-clause-row c =
    let p = err_from_is_err_and c.from_residual-in_err-push.result c.from_residual-in_err-push.ensures.1 in
    rw p.1 tt

pub returns-in_err-fill-clause-err : goal.returns-in_err-fill-clause-err
returns-in_err-fill-clause-err c =
    let p = err_from_is_err_and c.from_residual.result c.from_residual.ensures.1 in
    rw (p.1, p.2) c.in_err-fill.ensures.err

pub returns-in_err-push-clause-err : goal.returns-in_err-push-clause-err
returns-in_err-push-clause-err c =
    let p = err_from_is_err_and c.from_residual-in_err-push.result c.from_residual-in_err-push.ensures.1 in
    rw (p.1, p.2) tt

pub returns-then-done-len-clause-are : goal.returns-then-done-len-clause-are
returns-then-done-len-clause-are c = c.requires.are

pub returns-then-done-len-clause-filled : goal.returns-then-done-len-clause-filled
returns-then-done-len-clause-filled c = c.requires.filled

pub returns-then-done-len-clause-marks : goal.returns-then-done-len-clause-marks
returns-then-done-len-clause-marks c = c.requires.marks

pub returns-then-done-len-clause-met : goal.returns-then-done-len-clause-met
returns-then-done-len-clause-met c = c.requires.met

pub returns-then-done-len-clause-row : goal.returns-then-done-len-clause-row
returns-then-done-len-clause-row c = c.requires.row

pub returns-then-done-len-clause-all : goal.returns-then-done-len-clause-all
returns-then-done-len-clause-all c asked = let count = c.requires.filled.count in omega arith

pub returns-then-done-len-clause-err : goal.returns-then-done-len-clause-err
returns-then-done-len-clause-err c = tt

pub returns-then-done-len-clause-more : goal.returns-then-done-len-clause-more
returns-then-done-len-clause-more c asked = absurd (true≢false (sym asked))

pub returns-then-done-len-clause-of : goal.returns-then-done-len-clause-of
returns-then-done-len-clause-of c = same-of c.args.entries.now
