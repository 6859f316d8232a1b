use Rattle.std.proofs.Common.{◌<◌, suc, length, sym, ◌∙◌, subst, arith}
use Rattle.rx_onepass_build.specs.Entries.{IsWithin}
use Rattle.std.specs.Prelude.{All}
use Rattle.std.proofs.lemmas.Result.{err_from_is_err_and}
use Rattle.rx_onepass_build.specs.Build.{AreStarts, IsMadeInVain}
use Rattle.rx_onepass_build.specs.Stop.{error_of}
use Rattle.rx_onepass_build.proofs.lemmas.BuildLemmas.{table-for, starts-stay, starts-inside}
use Rattle.rx_onepass_build.proofs.lemmas.EntryLemmas.{met-inside, no-table, numbered-distinct}
use Rattle.rx_onepass_build.proofs.lemmas.RowsLemmas.{rows-lead, rows-none}
use Rattle.rx_onepass_build.proofs.builder.make_table.Goals as goal

pub returns-in_err-entries-clause-refused : goal.returns-in_err-entries-clause-refused
returns-in_err-entries-clause-refused c =
    let e = err_from_is_err_and c.from_residual.result c.from_residual.ensures.1 in
    rw (e.1, e.2)
    (no-table c.args.job.now.nfa.now c.args.job.now.each c.args.layout (error_of c.in_err-entries.field-0.0) c.in_err-entries.ensures.err)

pub finish-requires-clause-inside : goal.finish-requires-clause-inside
finish-requires-clause-inside c =
    subst (All (λ row. row < suc (length c.fill.new.rows.finals.items))) (sym c.as_slice.ensures.value)
    (starts-inside c.args.job.now.nfa.now c.args.job.now.each c.fill.new.entries.items.items c.push_starts.new.starts.items
    (length c.fill.new.rows.finals.items) (sym c.in_ok-fill.ensures.all)
    (starts-stay c.args.job.now.nfa.now c.args.job.now.each c.push_starts.new.entries.items.items c.fill.new.entries.items.items
    c.push_starts.new.starts.items c.in_ok-fill.ensures.of.stays c.in_ok-push_starts.ensures.starts))

pub finish-requires-clause-lead : goal.finish-requires-clause-lead
finish-requires-clause-lead c =
    rows-lead c.args.job.now c.args.job.now.bytes.now c.requires.job.bytes c.fill.new.entries.items.items c.fill.new.rows.steps.items
    c.fill.new.rows.finals.items c.in_ok-fill.ensures.filled c.in_ok-fill.ensures.all

pub returns-clause-built : goal.returns-clause-built
returns-clause-built c =
    let first = starts-stay c.args.job.now.nfa.now c.args.job.now.each c.push_starts.new.entries.items.items c.fill.new.entries.items.items
    c.push_starts.new.starts.items c.in_ok-fill.ensures.of.stays c.in_ok-push_starts.ensures.starts in
    table-for c.args.job.now c.requires.job.in_range.sorted c.fill.new.entries.items.items c.push_starts.new.starts.items c.fill.new.rows.steps.items
    c.fill.new.rows.finals.items c.in_ok-fill.ensures.filled c.in_ok-fill.ensures.all first c.args.layout _ c.in_ok-fill.ensures.are
    (numbered-distinct c.fill.new.entries.items.items c.fill.new.entries.numbers.items c.in_ok-fill.ensures.met.numbered)
    (c.in_ok-finish.ensures c.fill.new.entries.items.items (sym c.in_ok-fill.ensures.all)
    (met-inside c.fill.new.entries (length c.args.job.now.nfa.now.states) c.in_ok-fill.ensures.met
    (c.in_ok-fill.ensures.of.states ∙ c.in_ok-push_starts.ensures.of.states ∙ c.in_ok-entries.ensures.states ∙ c.states_len-states.ensures.value))
    c.in_ok-fill.ensures.filled
    (subst (AreStarts c.args.job.now.nfa.now c.args.job.now.each c.fill.new.entries.items.items) (sym c.as_slice.ensures.value) first))
    (subst (λ l. IsWithin l (suc (length c.fill.new.entries.items.items)))
    (c.in_ok-fill.ensures.of.layout ∙ c.in_ok-push_starts.ensures.of.layout ∙ c.in_ok-entries.ensures.layout) c.in_ok-fill.ensures.met.within)

pub states_len-states-requires : goal.states_len-states-requires
states_len-states-requires c = tt

pub new-requires-clause-narrow : goal.new-requires-clause-narrow
new-requires-clause-narrow c = c.requires.narrow

pub new-requires-clause-few_starts : goal.new-requires-clause-few_starts
new-requires-clause-few_starts c = c.requires.starts

pub returns-in_err-entries-clause-built : goal.returns-in_err-entries-clause-built
returns-in_err-entries-clause-built c =
    let p = err_from_is_err_and c.from_residual.result c.from_residual.ensures.1 in
    rw p.1 tt

pub push_starts-requires-clause-job : goal.push_starts-requires-clause-job
push_starts-requires-clause-job c = c.requires.job

pub push_starts-requires-clause-none : goal.push_starts-requires-clause-none
push_starts-requires-clause-none c = c.in_ok-entries.ensures.none

pub push_starts-requires-clause-empty : goal.push_starts-requires-clause-empty
push_starts-requires-clause-empty c = c.new-starts.ensures.items

pub push_starts-requires-clause-met : goal.push_starts-requires-clause-met
push_starts-requires-clause-met c = c.in_ok-entries.ensures.met

pub push_starts-requires-clause-numbers : goal.push_starts-requires-clause-numbers
push_starts-requires-clause-numbers c = c.in_ok-entries.ensures.states ∙ c.states_len-states.ensures.value

pub returns-in_err-push_starts-clause-built : goal.returns-in_err-push_starts-clause-built
returns-in_err-push_starts-clause-built c =
    let p = err_from_is_err_and c.from_residual-in_err-push_starts.result c.from_residual-in_err-push_starts.ensures.1 in
    rw p.1 tt

pub returns-in_err-push_starts-clause-refused : goal.returns-in_err-push_starts-clause-refused
returns-in_err-push_starts-clause-refused c =
    let p = err_from_is_err_and c.from_residual-in_err-push_starts.result c.from_residual-in_err-push_starts.ensures.1 in
    rw (p.1, p.2)
    (subst (λ l. IsMadeInVain c.args.job.now.nfa.now c.args.job.now.each l (error_of c.in_err-push_starts.field-0.0)) c.in_ok-entries.ensures.layout
    c.in_err-push_starts.ensures.err)

pub new-requires-2 : goal.new-requires-2
new-requires-2 c = tt

pub new-rows-requires : goal.new-rows-requires
new-rows-requires c = tt

pub returns-in_err-closure-clause-built : goal.returns-in_err-closure-clause-built
returns-in_err-closure-clause-built c =
    let p = err_from_is_err_and c.from_residual-in_err-closure.result c.from_residual-in_err-closure.ensures.1 in
    rw p.1 tt

pub returns-in_err-closure-clause-refused : goal.returns-in_err-closure-clause-refused
returns-in_err-closure-clause-refused c =
    let p = err_from_is_err_and c.from_residual-in_err-closure.result c.from_residual-in_err-closure.ensures.1 in
    rw (p.1, p.2) tt

pub fill-requires-clause-job : goal.fill-requires-clause-job
fill-requires-clause-job c = c.requires.job

pub fill-requires-clause-met : goal.fill-requires-clause-met
fill-requires-clause-met c = c.in_ok-push_starts.ensures.met

pub fill-requires-clause-numbers : goal.fill-requires-clause-numbers
fill-requires-clause-numbers c = c.in_ok-push_starts.ensures.of.states ∙ c.in_ok-entries.ensures.states ∙ c.states_len-states.ensures.value

pub fill-requires-clause-are : goal.fill-requires-clause-are
fill-requires-clause-are c = c.in_ok-push_starts.ensures.are

pub fill-requires-clause-marks : goal.fill-requires-clause-marks
fill-requires-clause-marks c = c.in_ok-closure.ensures.len ∙ c.states_len-states.ensures.value

pub fill-requires-clause-row : goal.fill-requires-clause-row
fill-requires-clause-row c q mark there = let zero = c.in_ok-closure.ensures.marks q mark there in omega arith

pub fill-requires-clause-filled : goal.fill-requires-clause-filled
fill-requires-clause-filled c = rows-none c.args.job.now c.push_starts.new.entries.items.items _ _ c.new-rows.ensures.steps c.new-rows.ensures.finals

pub returns-in_err-fill-clause-built : goal.returns-in_err-fill-clause-built
returns-in_err-fill-clause-built c =
    let p = err_from_is_err_and c.from_residual-in_err-fill.result c.from_residual-in_err-fill.ensures.1 in
    rw p.1 tt

pub returns-in_err-fill-clause-refused : goal.returns-in_err-fill-clause-refused
returns-in_err-fill-clause-refused c =
    let p = err_from_is_err_and c.from_residual-in_err-fill.result c.from_residual-in_err-fill.ensures.1 in
    rw (p.1, p.2)
    (subst (λ l. IsMadeInVain c.args.job.now.nfa.now c.args.job.now.each l (error_of c.in_err-fill.field-0.0))
    (c.in_ok-push_starts.ensures.of.layout ∙ c.in_ok-entries.ensures.layout) c.in_err-fill.ensures.err)

pub finish-requires-clause-job : goal.finish-requires-clause-job
finish-requires-clause-job c = c.requires.job

pub finish-requires-clause-few : goal.finish-requires-clause-few
finish-requires-clause-few c =
    let all = c.in_ok-fill.ensures.all in
    let few = c.in_ok-fill.ensures.met.few in
    omega arith

pub finish-requires-clause-narrow : goal.finish-requires-clause-narrow
finish-requires-clause-narrow c = c.requires.narrow

pub finish-requires-clause-wide : goal.finish-requires-clause-wide
finish-requires-clause-wide c = c.requires.wide

pub finish-requires-clause-len : goal.finish-requires-clause-len
finish-requires-clause-len c = c.in_ok-fill.ensures.filled.len

pub returns-in_err-finish-clause-built : goal.returns-in_err-finish-clause-built
returns-in_err-finish-clause-built c =
    let p = err_from_is_err_and c.from_residual-in_err-finish.result c.from_residual-in_err-finish.ensures.1 in
    rw p.1 tt

pub returns-in_err-finish-clause-refused : goal.returns-in_err-finish-clause-refused
returns-in_err-finish-clause-refused c =
    let p = err_from_is_err_and c.from_residual-in_err-finish.result c.from_residual-in_err-finish.ensures.1 in
    rw (p.1, p.2) tt

pub returns-clause-refused : goal.returns-clause-refused
returns-clause-refused c = tt
