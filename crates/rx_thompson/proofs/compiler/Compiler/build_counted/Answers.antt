use Rattle.std.proofs.Common.{◌≤◌, arith}
use Rattle.std.proofs.lemmas.Result.{IfErr-weaker}
use Rattle.rx_search.specs.Limits.{id_limit}
use Rattle.rx_thompson.proofs.BuildLemmas.{refused-counted}
use Rattle.rx_thompson.proofs.compiler.Compiler.build_counted.Goals as goal

pub returns-clause-refused : goal.returns-clause-refused
returns-clause-refused c =
    let few : c.args.count ≤ id_limit = omega arith in
    IfErr-weaker c.build_many_from_hir.result _ _ (refused-counted c.args.self.now.nfa.config c.args.count c.args.exprs.now few (c.requires few))
    c.build_many_from_hir.ensures.refused
