use Rattle.std.proofs.Common.{◌≡◌, ◌∷◌, ◌∙◌, subst, arith}
use Rattle.std.proofs.lemmas.Result.{err_from_is_err_and}
use Rattle.rx_search.specs.ByteClasses.{class_count}
use Rattle.rx_onepass_build.specs.Build.{IsMadeInVain}
use Rattle.rx_onepass_build.specs.Filling.{IsFilling}
use Rattle.rx_onepass_build.specs.Stop.{error_of}
use Rattle.rx_onepass_build.proofs.lemmas.EntryLemmas.{same-of, of-of}
use Rattle.rx_onepass_build.proofs.lemmas.FillingLemmas.{filling-start}
use Rattle.rx_onepass_build.proofs.closure.add_steps.Goals as goal

pub loop-class-init : goal.loop-class-init
loop-class-init c = record {
  within = omega arith;
  met = c.requires.met;
  of = same-of c.args.entries.now;
  width = c.requires.width;
  cells = λ done way on h.
      filling-start c.args.job.now c.args.entries.now.items.items c.args.reader.now.entry done (way ∷ done) c.args.cells.now.items h;
}

pub loop-class-preserved : goal.loop-class-preserved
loop-class-preserved c =
    let each = c.requires.job.bytes.each in
    record {
      within = omega arith;
      met = c.in_ok-add_step.ensures.met;
      of = of-of c.args.entries.now c.loop-class.entries c.add_step.new.entries c.loop-class.invariant.of c.in_ok-add_step.ensures.of;
      width = c.in_ok-add_step.ensures.width ∙ c.loop-class.invariant.width;
      cells = λ done way on h. c.in_ok-add_step.ensures.cells done way on (c.loop-class.invariant.cells done way on h);
    }

pub returns-in_err-add_step-clause-err : goal.returns-in_err-add_step-clause-err
returns-in_err-add_step-clause-err c done way on h =
    let e = err_from_is_err_and c.from_residual.result c.from_residual.ensures.1 in
    rw (e.1, e.2)
    (subst (λ l. IsMadeInVain c.args.job.now.nfa.now c.args.job.now.each l (error_of c.in_err-add_step.field-0.0)) c.loop-class.invariant.of.layout
    (c.in_err-add_step.ensures.err done way on (c.loop-class.invariant.cells done way on h)))

pub returns-clause-cells : goal.returns-clause-cells
returns-clause-cells c done way on h =
    let each = c.requires.job.bytes.each in
    let within = c.loop-class.invariant.within in
    let all = c.loop-class-test.false in
    let end : c.loop-class.class ≡ class_count c.args.job.now.classes.now = omega arith in
    subst (λ n. IsFilling c.args.job.now c.loop-class.entries.items.items c.args.reader.now.entry done (way ∷ done) n c.loop-class.cells.items) end
    (c.loop-class.invariant.cells done way on h)
