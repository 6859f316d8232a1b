use Rattle.std.proofs.Common.{sym, subst, arith}
use Rattle.std.proofs.lemmas.Result.{err_from_is_err_and}
use Rattle.rx_onepass_table.specs.Entry.{IsEntry}
use Rattle.rx_onepass_build.specs.Build.{IsStartAt, AreStarts}
use Rattle.rx_onepass_build.specs.Stop.{error_of}
use Rattle.rx_onepass_build.proofs.lemmas.EntryLemmas.{none-entries, entries-grow, no-room}
use Rattle.rx_onepass_build.proofs.lemmas.StartLemmas.{first-start, starts-one}
use Rattle.rx_onepass_build.proofs.builder.push_starts.Goals as goal

pub returns-in_err-common-clause-err : goal.returns-in_err-common-clause-err
returns-in_err-common-clause-err c =
    let e = err_from_is_err_and c.from_residual.result c.from_residual.ensures.1 in
    let is = subst (IsEntry c.args.job.now.nfa.now c.args.job.now.each) (sym c.start_anchored.ensures.value) IsEntry.common in
    rw (e.1, e.2)
    (no-room c.args.job.now.nfa.now c.args.job.now.each c.args.entries.now c.start_anchored.result (error_of c.in_err-common.field-0.0) c.requires.met
    (none-entries c.args.job.now.nfa.now c.args.job.now.each c.args.entries.now.items.items c.requires.none) is c.in_err-common.ensures.err)

pub returns-then-not-job-clause-are : goal.returns-then-not-job-clause-are
returns-then-not-job-clause-are c =
    entries-grow c.args.job.now.nfa.now c.args.job.now.each c.args.entries.now.items.items c.row_of.new.self.items.items c.start_anchored.result
    c.in_ok-common.ensures.grows.added
    (subst (IsEntry c.args.job.now.nfa.now c.args.job.now.each) (sym c.start_anchored.ensures.value) IsEntry.common)
    (none-entries c.args.job.now.nfa.now c.args.job.now.each c.args.entries.now.items.items c.requires.none)

pub returns-then-not-job-clause-starts : goal.returns-then-not-job-clause-starts
returns-then-not-job-clause-starts c =
    let first = first-start c.row_of.new.self.items.items c.args.starts.now.items c.push.new.self.items c.in_ok-common.common c.start_anchored.result
    c.in_ok-push.ensures.items c.requires.empty c.in_ok-common.ensures.row in
    let at = subst (λ q. IsStartAt c.row_of.new.self.items.items c.push.new.self.items 0 q) c.start_anchored.ensures.value first.1 in
    subst (λ b. AreStarts c.args.job.now.nfa.now b c.row_of.new.self.items.items c.push.new.self.items) (sym c.if-not-job.true)
    (starts-one c.args.job.now.nfa.now c.row_of.new.self.items.items c.push.new.self.items first.0 at)

pub push_each-requires-clause-are : goal.push_each-requires-clause-are
push_each-requires-clause-are c =
    entries-grow c.args.job.now.nfa.now c.args.job.now.each c.args.entries.now.items.items c.row_of.new.self.items.items c.start_anchored.result
    c.in_ok-common.ensures.grows.added
    (subst (IsEntry c.args.job.now.nfa.now c.args.job.now.each) (sym c.start_anchored.ensures.value) IsEntry.common)
    (none-entries c.args.job.now.nfa.now c.args.job.now.each c.args.entries.now.items.items c.requires.none)

pub push_each-requires-clause-each : goal.push_each-requires-clause-each
push_each-requires-clause-each c = c.if-not-job.false

pub push_each-requires-clause-job : goal.push_each-requires-clause-job
push_each-requires-clause-job c = c.requires.job

pub push_each-requires-clause-met : goal.push_each-requires-clause-met
push_each-requires-clause-met c = c.in_ok-common.ensures.met

pub returns-clause-are : goal.returns-clause-are
returns-clause-are c = c.push_each.ensures.are

pub returns-clause-met : goal.returns-clause-met
returns-clause-met c = c.push_each.ensures.met

pub returns-clause-starts : goal.returns-clause-starts
returns-clause-starts c = c.push_each.ensures.starts

pub returns-in_err-common-clause-are : goal.returns-in_err-common-clause-are
returns-in_err-common-clause-are c =
    let p = err_from_is_err_and c.from_residual.result c.from_residual.ensures.1 in
    rw p.1 tt

pub returns-in_err-common-clause-met : goal.returns-in_err-common-clause-met
returns-in_err-common-clause-met c =
    let p = err_from_is_err_and c.from_residual.result c.from_residual.ensures.1 in
    rw p.1 tt

pub returns-in_err-common-clause-of : goal.returns-in_err-common-clause-of
returns-in_err-common-clause-of c =
    let p = err_from_is_err_and c.from_residual.result c.from_residual.ensures.1 in
    rw p.1 tt

pub returns-in_err-common-clause-starts : goal.returns-in_err-common-clause-starts
returns-in_err-common-clause-starts c =
    let p = err_from_is_err_and c.from_residual.result c.from_residual.ensures.1 in
    rw p.1 tt

pub returns-in_err-push-clause-are : goal.returns-in_err-push-clause-are
returns-in_err-push-clause-are c =
    let p = err_from_is_err_and c.from_residual-in_err-push.result c.from_residual-in_err-push.ensures.1 in
    rw p.1 tt

pub returns-in_err-push-clause-met : goal.returns-in_err-push-clause-met
returns-in_err-push-clause-met c =
    let p = err_from_is_err_and c.from_residual-in_err-push.result c.from_residual-in_err-push.ensures.1 in
    rw p.1 tt

pub returns-in_err-push-clause-of : goal.returns-in_err-push-clause-of
returns-in_err-push-clause-of c =
    let p = err_from_is_err_and c.from_residual-in_err-push.result c.from_residual-in_err-push.ensures.1 in
    rw p.1 tt

pub returns-in_err-push-clause-starts : goal.returns-in_err-push-clause-starts
returns-in_err-push-clause-starts c =
    let p = err_from_is_err_and c.from_residual-in_err-push.result c.from_residual-in_err-push.ensures.1 in
    rw p.1 tt

pub returns-then-not-job-clause-err : goal.returns-then-not-job-clause-err
returns-then-not-job-clause-err c = c.in_ok-common.ensures.err

pub returns-then-not-job-clause-met : goal.returns-then-not-job-clause-met
returns-then-not-job-clause-met c = c.in_ok-common.ensures.met

pub row_of-requires-clause-met : goal.row_of-requires-clause-met
row_of-requires-clause-met c = c.requires.met

pub row_of-requires-clause-state : goal.row_of-requires-clause-state
row_of-requires-clause-state c = omega arith

pub start_anchored-requires : goal.start_anchored-requires
start_anchored-requires c = tt
