use Rattle.std.proofs.Common.{arith, ◌∙◌, ap, Ok}
use Rattle.std.specs.Prelude.{Option}
use Rattle.std.proofs.lemmas.Result.{err_from_is_err_and, IfOk-from_err}
use Rattle.rx_reader.specs.declared.class_item.ClassItem.{ClassItem}
use Rattle.rx_reader.specs.Input.{place}
use Rattle.rx_reader.specs.Reading.{Place, Read}
use Rattle.rx_reader.specs.Classes.{class_item}
use Rattle.rx_reader.proofs.lemmas.places.ReadsLemmas.{refuses_from, refuses}
use Rattle.rx_reader.proofs.lemmas.tokens.ClassItemLemmas.{after_item, after_close, after_refused}
use Rattle.rx_reader.proofs.class.class_items.Goals as goal

abbrev found : Option ClassItem → Place → Read (Option ClassItem)
found o q = Ok (o, q)

pub returns-in_err-item-clause-value : goal.returns-in_err-item-clause-value
returns-in_err-item-clause-value c from piece =
    let s = c.loop-items in
    let e = err_from_is_err_and c.from_residual.result c.from_residual.ensures.1 in
    rw (e.1, e.2) (refuses_from _ _ (λ x is.
    let stops =
    refuses _ (class_item c.args.syntax.octal c.args.syntax.skips from s.comes_first (place s.cursor)) (c.in_err-item.ensures.value from piece) x is in
    s.invariant.read from piece ∙ after_refused c.args.syntax.octal c.args.syntax.skips from s.comes_first (place s.cursor) s.items.items x stops))

pub returns-in-None-clause-value : goal.returns-in-None-clause-value
returns-in-None-clause-value c from piece =
    let s = c.loop-items in
    s.invariant.read from piece ∙ after_close c.args.syntax.octal c.args.syntax.skips from s.comes_first (place s.cursor) (place c.class_item.new.cursor)
    s.items.items (c.in_ok-item.ensures.value from piece ∙ ap (λ (o : Option ClassItem). found o (place c.class_item.new.cursor)) c.in-None.is)

pub loop-items-preserved : goal.loop-items-preserved
loop-items-preserved c =
    let s = c.loop-items in
    record {
      read = λ from piece. rw c.in_ok-push-in-Some.ensures.items (
          s.invariant.read from piece ∙ after_item c.args.syntax.octal c.args.syntax.skips from s.comes_first (place s.cursor) (place c.class_item.new.cursor)
          s.items.items c.in-Some.item (c.in_ok-item.ensures.value from piece
          ∙ ap (λ (o : Option ClassItem). found o (place c.class_item.new.cursor)) c.in-Some.is));
      moves = omega (arith, s.invariant.moves, c.in_ok-item.ensures.progress);
    }

pub returns-in_err-item-clause-progress : goal.returns-in_err-item-clause-progress
returns-in_err-item-clause-progress c = IfOk-from_err c.from_residual.result _ c.from_residual.ensures.0
