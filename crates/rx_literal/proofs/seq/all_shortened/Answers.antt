use Rattle.std.proofs.Common.{map, ap, sym, ◌∙◌}
use Rattle.std.proofs.lemmas.Iterator.Adapters.{YieldsList-from_vec}
use Rattle.std.proofs.lemmas.Iterator.Consumers.{YieldsList-end}
use Rattle.std.proofs.lemmas.List.{map-id}
use Rattle.std.proofs.lemmas.Result.{IfOk-from_err}
use Rattle.rx_literal.specs.Literals.{cut}
use Rattle.rx_literal.proofs.lemmas.prefixes.WalkedLemmas.{map-pushed}
use Rattle.rx_literal.proofs.seq.all_shortened.Goals as goal

pub returns-in_err-all : goal.returns-in_err-all
returns-in_err-all c = IfOk-from_err c.from_residual.result _ c.from_residual.ensures.0

pub returns-in_err-shortened : goal.returns-in_err-shortened
returns-in_err-shortened c = IfOk-from_err c.from_residual-in_err-shortened.result _ c.from_residual-in_err-shortened.ensures.0

pub returns-in_err-push : goal.returns-in_err-push
returns-in_err-push c = IfOk-from_err c.from_residual-in_err-push.result _ c.from_residual-in_err-push.ensures.0

pub loop-literal-preserved : goal.loop-literal-preserved
loop-literal-preserved c =
    map-pushed (cut c.args.side 100) c.loop-literal.yielded c.in-Some.literal c.loop-literal.all.items c.push.new.self.items c.in_ok-shortened.field-0
    c.in_ok-push.ensures.items c.in_ok-shortened.ensures c.loop-literal.invariant

pub returns : goal.returns
returns c =
    let gives = c.into_iter-literal-iterator.ensures.into_iter_gives in
    let end = YieldsList-end
    (YieldsList-from_vec {s = c.into_iter-literal-iterator.result} c.args.literals.items gives.0 (gives.1 ∙ c.args.literals.ok.0))
    c.loop-literal.yielded c.loop-literal.literal-iterator c.loop-literal.yielded_by c.next.result c.next.new.self c.in-None.is c.next.ensures.steps in
    let all = sym (map-id c.loop-literal.yielded) ∙ end.0 in
    c.loop-literal.invariant ∙ ap (map (cut c.args.side 100)) all
