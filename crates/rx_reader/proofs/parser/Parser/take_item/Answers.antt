use Rattle.std.proofs.Common.{◌∙◌, sym, ap}
use Rattle.std.proofs.lemmas.Result.{err_from_is_err_and, IfOk-from_err}
use Rattle.rx_reader.specs.Input.{place}
use Rattle.rx_reader.specs.Grammar.{all_repetitions}
use Rattle.rx_reader.specs.Stack.{Gathered, gathered, innermost, resume, reads_on}
use Rattle.rx_reader.proofs.lemmas.places.ReadsLemmas.{refuses_from, refuses}
use Rattle.rx_reader.proofs.lemmas.branches.StackLemmas.{resume-item, resume-item_err}
use Rattle.rx_reader.proofs.parser.Parser.take_item.Goals as goal

pub returns-in_err-item-clause-value : goal.returns-in_err-item-clause-value
returns-in_err-item-clause-value c =
    let s = c.args.self.now in
    let p = place s.cursor in
    let e = err_from_is_err_and c.from_residual.result c.from_residual.ensures.1 in
    rw (e.1, e.2) (refuses_from _ _ (λ x is.
    resume-item_err s.config (innermost s.frames.items) (gathered s.level) (reads_on s s.flags) s.flags c.args.item p x
    (refuses _ (all_repetitions s.config s.flags c.args.item p) c.in_err-item.ensures.value x is)))

pub returns-clause-value : goal.returns-clause-value
returns-clause-value c =
    let s = c.args.self.now in
    let p = place s.cursor in
    let fs = innermost s.frames.items in
    let r = place c.repetitions.new.cursor in
    ap (λ (g : Gathered). resume s.config fs g (reads_on s s.flags r)) c.in_ok-push.ensures
    ∙ sym (resume-item s.config fs (gathered s.level) (reads_on s s.flags) s.flags c.args.item p c.in_ok-item.item r c.in_ok-item.ensures.value)

pub returns-in_err-item-clause-progress : goal.returns-in_err-item-clause-progress
returns-in_err-item-clause-progress c = IfOk-from_err c.from_residual.result _ c.from_residual.ensures.0
