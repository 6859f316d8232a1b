use Rattle.std.proofs.Common.{arith, ◌≡◌, ◌∙◌, ap, sym, ℕ, ◌+◌, ◌<◌, suc, max, List, ◌∷◌, length, drop, get_or, drop-cons, add-one}
use Rattle.std.proofs.lemmas.Grind.{common_steps}
use Rattle.std.proofs.lemmas.List.{drop_all}
use Rattle.rx_reader.specs.Syntax.{Syntax, syntaxes, depth, deepest}
use Rattle.rx_reader.proofs.ast.deepest.Goals as goal

-- the depths of the expressions from n on, one further
step : (asts : List Syntax) (n : ℕ) (ast : Syntax) (most d total : ℕ) → n < length asts → ast ≡ get_or asts n ast → d ≡ depth ast
    → max most (deepest (syntaxes (drop n asts))) ≡ total → max (max most d) (deepest (syntaxes (drop (n + 1) asts))) ≡ total
step asts n ast most d total lt is deep before =
    let rest = drop (n + 1) asts in
    let here : drop n asts ≡ ast ∷ rest =
    drop-cons asts n ast lt ∙ ap (λ (a : Syntax). a ∷ drop (suc n) asts) (sym is) ∙ ap (λ (k : ℕ). ast ∷ drop k asts) (sym (add-one n)) in
    let split : deepest (syntaxes (drop n asts)) ≡ max (depth ast) (deepest (syntaxes rest)) = ap (λ (ss : List Syntax). deepest (syntaxes ss)) here in
    omega arith

pub loop-ast-init : goal.loop-ast-init
loop-ast-init c = omega arith

pub loop-ast-preserved : goal.loop-ast-preserved
loop-ast-preserved c =
    let l = c.loop-ast in
    let greater : c.max-most.result ≡ max l.most c.depth.result = grind (arith, common_steps) in
    rw greater (step c.args.asts.now l.ast-index c.ast-item.result l.most c.depth.result _ c.loop-ast-test.true c.ast-item.is c.depth.ensures
    l.invariant)

pub returns : goal.returns
returns c =
    let l = c.loop-ast in
    let none = ap (λ (ss : List Syntax). deepest (syntaxes ss)) (drop_all l.ast-index c.args.asts.now c.loop-ast-test.false) in
    omega (arith, none, l.invariant)
