use Rattle.std.proofs.Common.{◌≤◌, sym, subst, arith}
use Rattle.std.proofs.lemmas.Nat.{one_shl}
use Rattle.rx_onepass_build.proofs.lemmas.LayoutLemmas.{pow-narrow}
use Rattle.rx_onepass_build.proofs.builder.stride_of.Goals as goal

pub returns-clause-power : goal.returns-clause-power
returns-clause-power c = one_shl c.args.stride2 64 (omega (arith, c.requires))

pub returns-clause-narrow : goal.returns-clause-narrow
returns-clause-narrow c = subst (λ n. n ≤ 512) (sym (one_shl c.args.stride2 64 (omega (arith, c.requires)))) (pow-narrow c.args.stride2 c.requires)
