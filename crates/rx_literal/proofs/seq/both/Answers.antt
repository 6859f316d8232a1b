use Rattle.std.proofs.Common.{◌<◌, ◌≤◌, ◌++◌, length, ap, sym, ◌∙◌, arith}
use Rattle.std.proofs.lemmas.Iterator.Adapters.{YieldsList-from_vec}
use Rattle.std.proofs.lemmas.Iterator.Consumers.{YieldsList-end}
use Rattle.std.proofs.lemmas.List.{map-id}
use Rattle.std.proofs.lemmas.Result.{IfOk-from_err}
use Rattle.rx_literal.specs.Literals.{limited}
use Rattle.rx_literal.proofs.lemmas.prefixes.UnionLemmas.{limited-is, limited-past}
use Rattle.rx_literal.proofs.lemmas.prefixes.WalkedLemmas.{append-pushed}
use Rattle.rx_literal.proofs.seq.both.Goals as goal

pub returns-in_err-push : goal.returns-in_err-push
returns-in_err-push c = IfOk-from_err c.from_residual.result _ c.from_residual.ensures.0

pub loop-literal-preserved : goal.loop-literal-preserved
loop-literal-preserved c =
    append-pushed c.args.literals.items c.loop-literal.yielded c.in-Some.literal c.loop-literal.literals.items c.push.new.self.items
    c.in_ok-push.ensures.items c.loop-literal.invariant

pub returns-then-len-gt-MOST : goal.returns-then-len-gt-MOST
returns-then-len-gt-MOST c =
    let gives = c.into_iter-literal-iterator.ensures.into_iter_gives in
    let end = YieldsList-end
    (YieldsList-from_vec {s = c.into_iter-literal-iterator.result} c.args.more.items gives.0 (gives.1 ∙ c.args.more.ok.0))
    c.loop-literal.yielded c.loop-literal.literal-iterator c.loop-literal.yielded_by c.next.result c.next.new.self c.in-None.is c.next.ensures.steps in
    let all = sym (map-id c.loop-literal.yielded) ∙ end.0 in
    let whole = c.loop-literal.invariant ∙ ap (λ ys. c.args.literals.items ++ ys) all in
    let many : 250 < length c.loop-literal.literals.items = omega (arith, c.loop-literal.literals.ok.0, c.len.ensures, c.if-len-gt-MOST.true) in
    c.infinite.ensures ∙ sym (limited-past c.loop-literal.literals.items many) ∙ ap limited whole

pub returns : goal.returns
returns c =
    let gives = c.into_iter-literal-iterator.ensures.into_iter_gives in
    let end = YieldsList-end
    (YieldsList-from_vec {s = c.into_iter-literal-iterator.result} c.args.more.items gives.0 (gives.1 ∙ c.args.more.ok.0))
    c.loop-literal.yielded c.loop-literal.literal-iterator c.loop-literal.yielded_by c.next.result c.next.new.self c.in-None.is c.next.ensures.steps in
    let all = sym (map-id c.loop-literal.yielded) ∙ end.0 in
    let whole = c.loop-literal.invariant ∙ ap (λ ys. c.args.literals.items ++ ys) all in
    let few : length c.loop-literal.literals.items ≤ 250 = omega (arith, c.loop-literal.literals.ok.0, c.len.ensures, c.if-len-gt-MOST.false) in
    c.finite.ensures ∙ sym (limited-is c.loop-literal.literals.items few) ∙ ap limited whole
