use Rattle.std.proofs.Common.{◌≡◌, ℕ, map, ap, subst, ◌∙◌}
use Rattle.std.specs.List.Sorted.{IsPermutation}
use Rattle.std.proofs.lemmas.List.{take_all}
use Rattle.std.proofs.lemmas.List.Sorted.{IsPermutation-map}
use Rattle.std.proofs.lemmas.Result.{IfOk-from_err}
use Rattle.rx_literal.specs.Literals.{Literal}
use Rattle.rx_literal.proofs.lemmas.prefixes.WalkedLemmas.{shown-more}
use Rattle.rx_literal.proofs.trim.by_heads.Goals as goal

abbrev second : ℕ × Literal → Literal
second p = p.1

pub returns : goal.returns
returns c =
    let old = c.loop-literal.headed.items in
    let new = c.sort_unstable_by_key.new.self.items in
    let all : map second old ≡ c.args.literals.now =
    c.loop-literal.invariant ∙ take_all c.loop-literal.literal-index c.args.literals.now c.loop-literal-test.false in
    subst (λ ys. IsPermutation ys (map second new)) all (IsPermutation-map second old new c.sort_unstable_by_key.ensures.permutation)

pub returns-in_err-headed : goal.returns-in_err-headed
returns-in_err-headed c = IfOk-from_err c.from_residual.result _ c.from_residual.ensures.0

pub returns-in_err-push : goal.returns-in_err-push
returns-in_err-push c = IfOk-from_err c.from_residual-in_err-push.result _ c.from_residual-in_err-push.ensures.0

pub loop-literal-init : goal.loop-literal-init
loop-literal-init c = ap (map second) c.in_ok-headed.ensures.items

pub loop-literal-preserved : goal.loop-literal-preserved
loop-literal-preserved c =
    shown-more second c.loop-literal.headed.items c.push.new.self.items c.args.literals.now c.loop-literal.literal-index (c.head.result, c.lent.result)
    c.literal-item.result c.loop-literal-test.true c.literal-item.is c.lent.ensures c.in_ok-push.ensures.items c.loop-literal.invariant
