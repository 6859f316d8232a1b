use Rattle.std.proofs.Common.{◌≤◌, ◌<◌, sym, subst, arith}
use Rattle.std.proofs.lemmas.Nat.{one_shl, pow_pos}
use Rattle.rx_dfa.proofs.lemmas.RowsLemmas.{pow-narrow}
use Rattle.rx_dfa.proofs.dense.build.stride_of.Goals as goal

pub returns-clause-power : goal.returns-clause-power
returns-clause-power c = one_shl c.args.stride2 64 (omega (arith, c.requires))

pub returns-clause-some : goal.returns-clause-some
returns-clause-some c = subst (λ n. 0 < n) (sym (one_shl c.args.stride2 64 (omega (arith, c.requires)))) (pow_pos c.args.stride2)

pub returns-clause-narrow : goal.returns-clause-narrow
returns-clause-narrow c = subst (λ n. n ≤ 512) (sym (one_shl c.args.stride2 64 (omega (arith, c.requires)))) (pow-narrow c.args.stride2 c.requires)
