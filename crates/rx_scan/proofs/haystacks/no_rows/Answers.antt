use Rattle.std.proofs.Common.{◌≡◌, [], List, length, subst, arith}
use Rattle.std.specs.Prelude.{replicate}
use Rattle.std.proofs.lemmas.List.{replicate_more}
use Rattle.rx_scan.specs.Row.{RowValue}
use Rattle.rx_scan.proofs.haystacks.no_rows.Goals as goal

pub loop-index-preserved : goal.loop-index-preserved
loop-index-preserved g c =
    let n = c.loop-index.index in
    let none : List RowValue = [] in
    subst (λ all. g.O.Outcome.holds c.args.outcome.now 0 all none c.end.new.value) (replicate_more n none)
    (c.in_ok-end.ensures 0 (replicate n none) none c.loop-index.invariant)

pub returns : goal.returns
returns g c =
    let all : c.loop-index.index ≡ length (g.H.Haystacks.texts c.args.haystacks.now) = omega (arith, c.loop-index-test.false, c.loop-index.auto.index-end) in
    let holds = subst (λ n. g.O.Outcome.holds c.args.outcome.now 0 (replicate n []) [] c.loop-index.value) all c.loop-index.invariant in
    c.in_ok-put.ensures [] (replicate (length (g.H.Haystacks.texts c.args.haystacks.now)) []) c.nothing-whole.ensures holds
