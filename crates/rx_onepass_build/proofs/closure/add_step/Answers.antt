use Rattle.std.proofs.Common.{◌<◌, sym, ◌∙◌, ap, subst, slice_index, refl, arith}
use Rattle.std.proofs.lemmas.Result.{err_from_is_err_and}
use Rattle.rx_nfa.specs.Ordered.{target}
use Rattle.rx_onepass_build.specs.Filling.{step_at}
use Rattle.rx_onepass_build.specs.Rows.{IsPut}
use Rattle.rx_onepass_build.proofs.lemmas.EntryLemmas.{same-of, grows-of, no-room, entries-grow}
use Rattle.rx_onepass_build.proofs.lemmas.StepLemmas.{step-none, next-entry, step-put, step-conflict}
use Rattle.rx_onepass_build.proofs.lemmas.WalkingLemmas.{target-inside}
use Rattle.rx_onepass_build.proofs.closure.add_step.Goals as goal

pub returns-in_default-clause-cells : goal.returns-in_default-clause-cells
returns-in_default-clause-cells c done way on h =
    step-none c.args.job.now c.requires.job c.args.reader.now c.args.class c.requires.class c.args.entries.now.items.items done way c.args.cells.now.items
    (ap (λ s. target s (slice_index c.args.job.now.bytes.now c.args.class)) (sym c.state.ensures.value) ∙ sym c.target_of.ensures ∙ c.in_default.is) on h

pub row_of-requires-clause-state : goal.row_of-requires-clause-state
row_of-requires-clause-state c =
    subst (λ n. c.in-Some.next < n) (sym c.requires.numbers)
    (target-inside c.args.job.now.nfa.now.states c.requires.job.in_range.names c.args.reader.now.frame.state
    (slice_index c.args.job.now.bytes.now c.args.class) c.in-Some.next c.requires.inside
    (ap (λ s. target s (slice_index c.args.job.now.bytes.now c.args.class)) (sym c.state.ensures.value) ∙ sym c.target_of.ensures ∙ c.in-Some.is))

pub returns-in_err-row-clause-err : goal.returns-in_err-row-clause-err
returns-in_err-row-clause-err c done way on h =
    let e = err_from_is_err_and c.from_residual.result c.from_residual.ensures.1 in
    let goes = ap (λ s. target s (slice_index c.args.job.now.bytes.now c.args.class)) (sym c.state.ensures.value) ∙ sym c.target_of.ensures ∙ c.in-Some.is in
    rw (e.1, e.2)
    (no-room c.args.job.now.nfa.now c.args.job.now.each c.args.entries.now c.in-Some.next _ c.requires.met h.are
    (next-entry c.args.job.now c.requires.job c.args.reader.now c.args.class c.requires.class c.args.entries.now.items.items done way c.args.cells.now.items
    c.in-Some.next goes on h) c.in_err-row.ensures.err)

pub returns-then-add-clause-cells : goal.returns-then-add-clause-cells
returns-then-add-clause-cells c done way on h =
    let goes = ap (λ s. target s (slice_index c.args.job.now.bytes.now c.args.class)) (sym c.state.ensures.value) ∙ sym c.target_of.ensures ∙ c.in-Some.is in
    let is = next-entry c.args.job.now c.requires.job c.args.reader.now c.args.class c.requires.class c.args.entries.now.items.items done way
    c.args.cells.now.items c.in-Some.next goes on h in
    step-put c.args.job.now c.requires.job c.args.reader.now c.args.class c.requires.class c.args.entries.now.items.items done way c.args.cells.now.items
    c.in-Some.next goes on h c.row_of.new.self.items.items c.in_ok-row.ensures.grows.stays c.in_ok-row.row c.in_ok-row.ensures.row c.new-step.result
    c.new-step.ensures
    (entries-grow c.args.job.now.nfa.now c.args.job.now.each c.args.entries.now.items.items c.row_of.new.self.items.items c.in-Some.next
    c.in_ok-row.ensures.grows.added is h.are) c.add.new.cells.items c.add.ensures.width c.add.ensures.other
    (subst (IsPut (step_at c.args.cells.now.items c.args.class) c.new-step.result (step_at c.add.new.cells.items c.args.class)) c.if-add.true
    c.add.ensures.value)

pub returns-clause-err : goal.returns-clause-err
returns-clause-err c done way on h =
    let goes = ap (λ s. target s (slice_index c.args.job.now.bytes.now c.args.class)) (sym c.state.ensures.value) ∙ sym c.target_of.ensures ∙ c.in-Some.is in (
      h.is_entry,
      step-conflict c.args.job.now c.requires.job c.args.reader.now c.args.class c.requires.class c.args.entries.now.items.items done way
          c.args.cells.now.items c.in-Some.next goes on h c.row_of.new.self.items.items c.in_ok-row.ensures.grows.stays c.in_ok-row.row c.in_ok-row.ensures.row
          c.new-step.result c.new-step.ensures c.row_of.new.self.numbers.items c.in_ok-row.ensures.met.numbered (step_at c.add.new.cells.items c.args.class)
          (subst (IsPut (step_at c.args.cells.now.items c.args.class) c.new-step.result (step_at c.add.new.cells.items c.args.class)) c.if-add.false
          c.add.ensures.value),
    )

pub add-requires : goal.add-requires
add-requires c = let width = c.requires.width in let class = c.requires.class in omega arith

pub bounds-job-class : goal.bounds-job-class
bounds-job-class c = let each = c.requires.job.bytes.each in let class = c.requires.class in omega arith

pub new-step-requires-clause-looks : goal.new-step-requires-clause-looks
new-step-requires-clause-looks c = c.requires.small.looks

pub new-step-requires-clause-target : goal.new-step-requires-clause-target
new-step-requires-clause-target c = c.in_ok-row.ensures.small

pub returns-clause-cells : goal.returns-clause-cells
returns-clause-cells c = tt

pub returns-clause-met : goal.returns-clause-met
returns-clause-met c = tt

pub returns-clause-of : goal.returns-clause-of
returns-clause-of c = tt

pub returns-clause-width : goal.returns-clause-width
returns-clause-width c = tt

pub returns-in_default-clause-err : goal.returns-in_default-clause-err
returns-in_default-clause-err c done way on h = tt

pub returns-in_default-clause-met : goal.returns-in_default-clause-met
returns-in_default-clause-met c = c.requires.met

pub returns-in_default-clause-of : goal.returns-in_default-clause-of
returns-in_default-clause-of c = same-of c.args.entries.now

pub returns-in_default-clause-width : goal.returns-in_default-clause-width
returns-in_default-clause-width c = refl

pub returns-in_err-row-clause-cells : goal.returns-in_err-row-clause-cells
returns-in_err-row-clause-cells c =
    let p = err_from_is_err_and c.from_residual.result c.from_residual.ensures.1 in
    rw p.1 tt

pub returns-in_err-row-clause-met : goal.returns-in_err-row-clause-met
returns-in_err-row-clause-met c =
    let p = err_from_is_err_and c.from_residual.result c.from_residual.ensures.1 in
    rw p.1 tt

pub returns-in_err-row-clause-of : goal.returns-in_err-row-clause-of
returns-in_err-row-clause-of c =
    let p = err_from_is_err_and c.from_residual.result c.from_residual.ensures.1 in
    rw p.1 tt

pub returns-in_err-row-clause-width : goal.returns-in_err-row-clause-width
returns-in_err-row-clause-width c =
    let p = err_from_is_err_and c.from_residual.result c.from_residual.ensures.1 in
    rw p.1 tt

pub returns-then-add-clause-err : goal.returns-then-add-clause-err
returns-then-add-clause-err c done way on h = tt

pub returns-then-add-clause-met : goal.returns-then-add-clause-met
returns-then-add-clause-met c = c.in_ok-row.ensures.met

pub returns-then-add-clause-of : goal.returns-then-add-clause-of
returns-then-add-clause-of c = grows-of c.args.entries.now c.row_of.new.self c.in-Some.next c.in_ok-row.ensures.grows

pub returns-then-add-clause-width : goal.returns-then-add-clause-width
returns-then-add-clause-width c = c.add.ensures.width

pub row_of-requires-clause-met : goal.row_of-requires-clause-met
row_of-requires-clause-met c = c.requires.met

pub state-requires : goal.state-requires
state-requires c = c.requires.inside

pub target_of-requires : goal.target_of-requires
target_of-requires c = tt
