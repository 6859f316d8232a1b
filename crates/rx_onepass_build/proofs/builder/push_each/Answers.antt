use Rattle.std.proofs.Common.{◌<◌, ◌≤◌, length, get_or, sym, ◌∙◌, ap, subst, arith}
use Rattle.std.proofs.lemmas.Result.{err_from_is_err_and}
use Rattle.rx_onepass_table.specs.Entry.{IsEntry}
use Rattle.rx_onepass_build.specs.Build.{IsMadeInVain, AreStarts}
use Rattle.rx_onepass_build.specs.Stop.{error_of}
use Rattle.rx_onepass_build.proofs.lemmas.EntryLemmas.{same-of, of-of, grows-of, entries-grow, no-room}
use Rattle.rx_onepass_build.proofs.lemmas.ListLemmas.{read-as}
use Rattle.rx_onepass_build.proofs.lemmas.StartLemmas.{kept-by, pushed-by, starts-all, count-by}
use Rattle.rx_onepass_build.proofs.builder.push_each.Goals as goal

pub loop-pattern-init : goal.loop-pattern-init
loop-pattern-init c = record {
  within = omega arith;
  met = c.requires.met;
  of = same-of c.args.entries.now;
  are = c.requires.are;
  count = c.requires.one;
  common = c.requires.common;
  each = λ p q lt there. absurd (omega arith);
}

pub returns-in_err-row-clause-err : goal.returns-in_err-row-clause-err
returns-in_err-row-clause-err c =
    let e = err_from_is_err_and c.from_residual.result c.from_residual.ensures.1 in
    let lt = subst (λ xs. c.loop-pattern.pattern < length xs) c.starts-of_each.ensures.value c.loop-pattern-test.true in
    let there = read-as c.args.job.now.nfa.now.starts c.starts-of_each.result.now c.loop-pattern.pattern c.index-of_each-pattern.result
    c.starts-of_each.ensures.value lt c.index-of_each-pattern.is in
    rw (e.1, e.2)
    (subst (λ l. IsMadeInVain c.args.job.now.nfa.now c.args.job.now.each l (error_of c.in_err-row.field-0.0)) c.loop-pattern.invariant.of.layout
    (no-room c.args.job.now.nfa.now c.args.job.now.each c.loop-pattern.entries c.index-of_each-pattern.result (error_of c.in_err-row.field-0.0)
    c.loop-pattern.invariant.met c.loop-pattern.invariant.are (IsEntry.start c.loop-pattern.pattern c.index-of_each-pattern.result c.requires.each there)
    c.in_err-row.ensures.err))

pub loop-pattern-preserved : goal.loop-pattern-preserved
loop-pattern-preserved c =
    let g = c.in_ok-row.ensures.grows in
    let lt = subst (λ xs. c.loop-pattern.pattern < length xs) c.starts-of_each.ensures.value c.loop-pattern-test.true in
    let there = read-as c.args.job.now.nfa.now.starts c.starts-of_each.result.now c.loop-pattern.pattern c.index-of_each-pattern.result
    c.starts-of_each.ensures.value lt c.index-of_each-pattern.is in
    record {
      within = omega arith;
      met = c.in_ok-row.ensures.met;
      of =
          of-of c.args.entries.now c.loop-pattern.entries c.row_of.new.self c.loop-pattern.invariant.of
          (grows-of c.loop-pattern.entries c.row_of.new.self c.index-of_each-pattern.result g);
      are =
          entries-grow c.args.job.now.nfa.now c.args.job.now.each c.loop-pattern.entries.items.items c.row_of.new.self.items.items
          c.index-of_each-pattern.result
          g.added (IsEntry.start c.loop-pattern.pattern c.index-of_each-pattern.result c.requires.each there) c.loop-pattern.invariant.are;
      count = count-by c.loop-pattern.starts.items _ c.in_ok-row.row c.loop-pattern.pattern c.in_ok-push.ensures.items c.loop-pattern.invariant.count;
      common =
          kept-by c.loop-pattern.entries.items.items c.row_of.new.self.items.items c.loop-pattern.starts.items _ c.in_ok-row.row 0
          c.args.job.now.nfa.now.start_anchored c.in_ok-push.ensures.items g.stays c.loop-pattern.invariant.common;
      each =
          pushed-by c.args.job.now.nfa.now c.loop-pattern.entries.items.items c.row_of.new.self.items.items c.loop-pattern.starts.items _ c.in_ok-row.row
          c.loop-pattern.pattern c.index-of_each-pattern.result c.in_ok-push.ensures.items g.stays c.loop-pattern.invariant.count there c.in_ok-row.ensures.row
          c.loop-pattern.invariant.each;
    }

pub returns-in_err-push-clause-err : goal.returns-in_err-push-clause-err
returns-in_err-push-clause-err c =
    let e = err_from_is_err_and c.from_residual-in_err-push.result c.from_residual-in_err-push.ensures.1 in rw (e.1, e.2) tt

pub returns-clause-starts : goal.returns-clause-starts
returns-clause-starts c =
    let le = subst (λ xs. length xs ≤ c.loop-pattern.pattern) c.starts-of_each.ensures.value c.loop-pattern-test.false in
    subst (λ b. AreStarts c.args.job.now.nfa.now b c.loop-pattern.entries.items.items c.loop-pattern.starts.items) (sym c.requires.each)
    (starts-all c.args.job.now.nfa.now c.loop-pattern.entries.items.items c.loop-pattern.starts.items c.loop-pattern.pattern le
    c.loop-pattern.invariant.within c.loop-pattern.invariant.count c.loop-pattern.invariant.common c.loop-pattern.invariant.each)

pub bounds-of_each-pattern : goal.bounds-of_each-pattern
bounds-of_each-pattern c = c.loop-pattern-test.true

pub returns-clause-are : goal.returns-clause-are
returns-clause-are c = c.loop-pattern.invariant.are

pub returns-clause-err : goal.returns-clause-err
returns-clause-err c = tt

pub returns-clause-met : goal.returns-clause-met
returns-clause-met c = c.loop-pattern.invariant.met

pub returns-clause-of : goal.returns-clause-of
returns-clause-of c = c.loop-pattern.invariant.of

pub returns-in_err-push-clause-are : goal.returns-in_err-push-clause-are
returns-in_err-push-clause-are c =
    let p = err_from_is_err_and c.from_residual-in_err-push.result c.from_residual-in_err-push.ensures.1 in
    rw p.1 tt

pub returns-in_err-push-clause-met : goal.returns-in_err-push-clause-met
returns-in_err-push-clause-met c =
    let p = err_from_is_err_and c.from_residual-in_err-push.result c.from_residual-in_err-push.ensures.1 in
    rw p.1 tt

pub returns-in_err-push-clause-of : goal.returns-in_err-push-clause-of
returns-in_err-push-clause-of c =
    let p = err_from_is_err_and c.from_residual-in_err-push.result c.from_residual-in_err-push.ensures.1 in
    rw p.1 tt

pub returns-in_err-push-clause-starts : goal.returns-in_err-push-clause-starts
returns-in_err-push-clause-starts c =
    let p = err_from_is_err_and c.from_residual-in_err-push.result c.from_residual-in_err-push.ensures.1 in
    rw p.1 tt

pub returns-in_err-row-clause-are : goal.returns-in_err-row-clause-are
returns-in_err-row-clause-are c =
    let p = err_from_is_err_and c.from_residual.result c.from_residual.ensures.1 in
    rw p.1 tt

pub returns-in_err-row-clause-met : goal.returns-in_err-row-clause-met
returns-in_err-row-clause-met c =
    let p = err_from_is_err_and c.from_residual.result c.from_residual.ensures.1 in
    rw p.1 tt

pub returns-in_err-row-clause-of : goal.returns-in_err-row-clause-of
returns-in_err-row-clause-of c =
    let p = err_from_is_err_and c.from_residual.result c.from_residual.ensures.1 in
    rw p.1 tt

pub returns-in_err-row-clause-starts : goal.returns-in_err-row-clause-starts
returns-in_err-row-clause-starts c =
    let p = err_from_is_err_and c.from_residual.result c.from_residual.ensures.1 in
    rw p.1 tt

pub row_of-requires-clause-met : goal.row_of-requires-clause-met
row_of-requires-clause-met c = c.loop-pattern.invariant.met

pub starts-of_each-requires : goal.starts-of_each-requires
starts-of_each-requires c = tt

pub row_of-requires-clause-state : goal.row_of-requires-clause-state
row_of-requires-clause-state c =
    let row = c.index-of_each-pattern.result in
    let lt = subst (λ xs. c.loop-pattern.pattern < length xs) c.starts-of_each.ensures.value c.loop-pattern-test.true in
    let read = c.index-of_each-pattern.is ∙ ap (λ xs. get_or xs c.loop-pattern.pattern row) c.starts-of_each.ensures.value in
    subst (λ n. row < n) (sym (c.loop-pattern.invariant.of.states ∙ c.requires.numbers))
    (subst (λ q. q < length c.args.job.now.nfa.now.states) (sym read) (c.requires.job.in_range.starts c.loop-pattern.pattern row lt))
