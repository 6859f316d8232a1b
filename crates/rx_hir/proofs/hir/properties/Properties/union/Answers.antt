use Rattle.std.proofs.Common.{◌≡◌, ◌<◌, ◌≤◌, ◌+◌, ◌-◌, length, arith}
use Rattle.std.proofs.lemmas.Bool.Decides.{nat_tests}
use Rattle.rx_hir.proofs.UnionLemmas.{union-none, union-last, union-more}
use Rattle.rx_hir.proofs.hir.properties.Properties.union.Goals as goal

pub returns-then-i-eq0 : goal.returns-then-i-eq0
returns-then-i-eq0 c = λ hs each.
    let le : length c.args.patterns.now ≤ 0 = grind (arith, nat_tests) in
    union-none hs c.args.patterns.now c.of_no_choice.result le c.of_no_choice.ensures each

pub loop-i-init : goal.loop-i-init
loop-i-init c =
    let ps = c.args.patterns.now in
    let some : 0 < length c.args.patterns.now = grind (arith, nat_tests) in
    let long : length c.args.patterns.now ≡ length c.args.patterns.now - 1 + 1 = omega arith in
    record {
      later = λ hs each. union-last hs ps (length ps - 1) c.index-patterns-i.result c.alone-union.result long c.index-patterns-i.is c.alone-union.ensures each;
      within = omega arith;
    }

pub loop-i-preserved : goal.loop-i-preserved
loop-i-preserved c =
    let ps = c.args.patterns.now in
    let i = c.loop-i.i - 1 in
    let before = c.loop-i.invariant.within in
    let lt : c.loop-i.i - 1 + 1 < length c.args.patterns.now = omega arith in
    let e : c.loop-i.i ≡ c.loop-i.i - 1 + 1 = omega arith in
    record {
      later = λ hs each. union-more hs ps i c.index-patterns-i-in-loop-i.result c.or-union.result c.loop-i.union lt c.index-patterns-i-in-loop-i.is
          (rw (← e) c.loop-i.invariant.later) c.or-union.ensures each;
      within = omega arith;
    }
