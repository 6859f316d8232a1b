use Rattle.std.proofs.Common.{ℕ, List, ◌++◌, ◌+◌, take, map, flat_map, sym, ap, ◌∙◌, subst, append-nil, arith}
use Rattle.std.proofs.lemmas.List.{take_all}
use Rattle.rx_model.specs.Expression.{Expression}
use Rattle.rx_hir.specs.Normal.{parts_of}
use Rattle.rx_syntax.specs.Literals.{in_either_case}
use Rattle.rx_syntax.specs.Row.{IsRow}
use Rattle.rx_syntax.specs.Weight.{weight_of, IsAtom}
use Rattle.rx_syntax.specs.declared.weight.Weight.{Weight}
use Rattle.rx_syntax.proofs.lemmas.weights.WeighLemmas.{folded-atom, atom-normal, run-more}
use Rattle.rx_syntax.proofs.weight.syntax.with_each.Goals as goal

pub loop-c-init : goal.loop-c-init
loop-c-init c = λ ps row. subst (λ (hs : List Expression). IsRow hs c.args.before) (sym (append-nil ps)) row

pub of_made-requires : goal.of_made-requires
of_made-requires c = subst IsAtom (sym c.in_ok-hir.ensures) (folded-atom c.args.flags c.c-item.result)

pub loop-c-preserved : goal.loop-c-preserved
loop-c-preserved c = λ ps row.
    let f = in_either_case c.args.flags in
    let k = c.loop-c.c-index in
    let x = c.c-item.result in
    let more = run-more f c.args.run.now k ps c.loop-c.row c.of_made.result x _ c.loop-c-test.true c.c-item.is (atom-normal (f x) (folded-atom c.args.flags x))
    (c.of_made.ensures ∙ ap weight_of c.in_ok-hir.ensures) (c.loop-c.invariant ps row) in
    subst (λ (w : Weight). IsRow (ps ++ flat_map parts_of (map f (take (k + 1) c.args.run.now))) w) (sym c.followed-row.ensures) more

pub returns : goal.returns
returns c = λ ps row. subst (λ (xs : List ℕ). IsRow (ps ++ flat_map parts_of (map (in_either_case c.args.flags) xs)) c.loop-c.row)
    (take_all c.loop-c.c-index c.args.run.now (omega (arith, c.loop-c-test.false))) (c.loop-c.invariant ps row)
