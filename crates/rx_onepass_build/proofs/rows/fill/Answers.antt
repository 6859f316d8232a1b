use Rattle.std.proofs.Common.{◌∙◌, subst, arith}
use Rattle.std.proofs.lemmas.Result.{err_from_is_err_and}
use Rattle.rx_onepass_build.specs.Build.{IsMadeInVain}
use Rattle.rx_onepass_build.specs.Stop.{error_of}
use Rattle.rx_onepass_build.proofs.lemmas.EntryLemmas.{same-of, of-of}
use Rattle.rx_onepass_build.proofs.rows.fill.Goals as goal

pub rows-init : goal.rows-init
rows-init c = record {
  met = c.requires.met;
  of = same-of c.args.entries.now;
  are = c.requires.are;
  marks = c.requires.marks;
  row = c.requires.row;
  filled = c.requires.filled;
}

pub rows-preserved : goal.rows-preserved
rows-preserved c = record {
  met = c.in_ok-fill_next.ensures.met;
  of = of-of c.args.entries.now c.rows.entries c.fill_next.new.entries c.rows.invariant.of c.in_ok-fill_next.ensures.of;
  are = c.in_ok-fill_next.ensures.are;
  marks = c.in_ok-fill_next.ensures.marks;
  row = c.in_ok-fill_next.ensures.row;
  filled = c.in_ok-fill_next.ensures.filled;
}

pub rows-smaller : goal.rows-smaller
rows-smaller c =
    let more = c.in_ok-fill_next.ensures.more c.if-branch.true in
    let count = c.in_ok-fill_next.ensures.filled.count in
    let few = c.in_ok-fill_next.ensures.met.few in
    omega arith

pub fill_next-requires-clause-numbers : goal.fill_next-requires-clause-numbers
fill_next-requires-clause-numbers c = c.rows.invariant.of.states ∙ c.requires.numbers

pub returns-in_err-fill_next-clause-err : goal.returns-in_err-fill_next-clause-err
returns-in_err-fill_next-clause-err c =
    let e = err_from_is_err_and c.from_residual.result c.from_residual.ensures.1 in
    rw (e.1, e.2)
    (subst (λ l. IsMadeInVain c.args.job.now.nfa.now c.args.job.now.each l
    (error_of c.in_err-fill_next.field-0.0)) c.rows.invariant.of.layout c.in_err-fill_next.ensures.err)

pub returns-clause-of : goal.returns-clause-of
returns-clause-of c = of-of c.args.entries.now c.rows.entries c.fill_next.new.entries c.rows.invariant.of c.in_ok-fill_next.ensures.of
