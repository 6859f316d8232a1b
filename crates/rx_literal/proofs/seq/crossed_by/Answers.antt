use Rattle.std.proofs.Common.{length, ap, sym, ◌∙◌}
use Rattle.std.specs.Prelude.{nat_lt}
use Rattle.std.specs.List.{flat_map}
use Rattle.std.proofs.lemmas.Iterator.Adapters.{YieldsList-from_vec}
use Rattle.std.proofs.lemmas.Iterator.Consumers.{YieldsList-end}
use Rattle.std.proofs.lemmas.List.{map-id}
use Rattle.std.proofs.lemmas.Result.{IfOk-from_err}
use Rattle.rx_literal.specs.Literals.{finite, extended_by_each}
use Rattle.rx_literal.proofs.lemmas.prefixes.LiteralLemmas.{cross-many, cross-few}
use Rattle.rx_literal.proofs.lemmas.prefixes.WalkedLemmas.{flat-pushed}
use Rattle.rx_literal.proofs.seq.crossed_by.Goals as goal

pub returns-then-are_too_many : goal.returns-then-are_too_many
returns-then-are_too_many c =
    let each = extended_by_each c.args.side c.args.others.now in
    let test = ap (λ ys. nat_lt 250 (length (flat_map each ys))) c.deref.ensures.value in
    c.stopped.ensures
    ∙ cross-many c.args.side c.args.literals.items c.args.others.now (sym (c.are_too_many.ensures ∙ test) ∙ c.if-are_too_many.true)

pub returns-in_err-push_extended : goal.returns-in_err-push_extended
returns-in_err-push_extended c = IfOk-from_err c.from_residual.result _ c.from_residual.ensures.0

pub loop-literal-preserved : goal.loop-literal-preserved
loop-literal-preserved c =
    flat-pushed (extended_by_each c.args.side c.args.others.now) c.loop-literal.yielded c.in-Some.literal c.loop-literal.all.items
    c.push_extended.new.all.items c.in_ok-push_extended.ensures c.loop-literal.invariant

pub returns : goal.returns
returns c =
    let each = extended_by_each c.args.side c.args.others.now in
    let gives = c.into_iter-literal-iterator.ensures.into_iter_gives in
    let end = YieldsList-end
    (YieldsList-from_vec {s = c.into_iter-literal-iterator.result} c.args.literals.items gives.0 (gives.1 ∙ c.args.literals.ok.0))
    c.loop-literal.yielded c.loop-literal.literal-iterator c.loop-literal.yielded_by c.next.result c.next.new.self c.in-None.is c.next.ensures.steps in
    let all = sym (map-id c.loop-literal.yielded) ∙ end.0 in
    let test = ap (λ ys. nat_lt 250 (length (flat_map each ys))) c.deref.ensures.value in
    c.finite.ensures ∙ ap finite (c.loop-literal.invariant ∙ ap (flat_map each) all)
    ∙ cross-few c.args.side c.args.literals.items c.args.others.now (sym (c.are_too_many.ensures ∙ test) ∙ c.if-are_too_many.false)
