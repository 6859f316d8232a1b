use Rattle.std.proofs.Common.{◌<◌, ◌≤◌, length, ◌∙◌, sym, subst}
use Rattle.std.proofs.lemmas.Result.{err_from_is_err_and}
use Rattle.rx_onepass_build.specs.Build.{IsMadeInVain}
use Rattle.rx_onepass_build.specs.Rows.{IsFilled}
use Rattle.rx_onepass_build.specs.Stop.{error_of}
use Rattle.rx_onepass_build.proofs.lemmas.EntryLemmas.{same-of, of-of}
use Rattle.rx_onepass_build.proofs.lemmas.FilledLemmas.{walking-filled}
use Rattle.rx_onepass_build.proofs.closure.Closure.fill.Goals as goal

pub walk-init : goal.walk-init
walk-init c = record {
  met = c.requires.met;
  of = same-of c.args.entries.now;
  entry = c.in_ok-begin.ensures.entry;
  row = c.in_ok-begin.ensures.row;
  walking = c.in_ok-begin.ensures.walking c.args.entries.now.items.items c.requires.entry c.requires.are;
}

pub walk-preserved : goal.walk-preserved
walk-preserved c = record {
  met = c.in_ok-advance.ensures.met;
  of = of-of c.args.entries.now c.walk.entries c.advance.new.entries c.walk.invariant.of c.in_ok-advance.ensures.of;
  entry = c.in_ok-advance.ensures.entry ∙ c.walk.invariant.entry;
  row = c.in_ok-advance.ensures.row ∙ c.walk.invariant.row;
  walking = c.in_ok-advance.ensures.walking;
}

pub advance-requires-clause-inside : goal.advance-requires-clause-inside
advance-requires-clause-inside c =
    subst (λ q. q < length c.args.job.now.nfa.now.states) (sym c.walk.invariant.entry) c.requires.inside

pub advance-requires-clause-numbers : goal.advance-requires-clause-numbers
advance-requires-clause-numbers c = c.walk.invariant.of.states ∙ c.requires.numbers

pub returns-in_err-begin-clause-err : goal.returns-in_err-begin-clause-err
returns-in_err-begin-clause-err c =
    let e = err_from_is_err_and c.from_residual.result c.from_residual.ensures.1 in rw (e.1, e.2) tt

pub returns-in_err-advance-clause-err : goal.returns-in_err-advance-clause-err
returns-in_err-advance-clause-err c =
    let e = err_from_is_err_and c.from_residual-in_err-advance.result c.from_residual-in_err-advance.ensures.1 in
    rw (e.1, e.2)
    (subst (λ l. IsMadeInVain c.args.job.now.nfa.now c.args.job.now.each l
    (error_of c.in_err-advance.field-0.0)) c.walk.invariant.of.layout c.in_err-advance.ensures.err)

pub returns-clause-of : goal.returns-clause-of
returns-clause-of c = of-of c.args.entries.now c.walk.entries c.advance.new.entries c.walk.invariant.of c.in_ok-advance.ensures.of

pub returns-clause-are : goal.returns-clause-are
returns-clause-are c = c.in_ok-advance.ensures.walking.cells.are

pub returns-clause-marks : goal.returns-clause-marks
returns-clause-marks c = c.in_ok-advance.ensures.walking.marked.len

pub returns-clause-row : goal.returns-clause-row
returns-clause-row c q mark e =
    subst (λ r. mark ≤ r) (c.in_ok-advance.ensures.row ∙ c.walk.invariant.row) (c.in_ok-advance.ensures.walking.marked.last q mark e)

pub returns-clause-filled : goal.returns-clause-filled
returns-clause-filled c =
    subst (λ e. IsFilled c.args.job.now c.advance.new.entries.items.items e c.advance.new.self.cells.items c.advance.new.self.told)
    (c.in_ok-advance.ensures.entry ∙ c.walk.invariant.entry)
    (walking-filled c.args.job.now c.requires.job.classes c.requires.job.in_range.sorted c.advance.new.entries.items.items c.advance.new.self
    (c.in_ok-advance.ensures.over c.if-branch.false) c.in_ok-advance.ensures.walking)
