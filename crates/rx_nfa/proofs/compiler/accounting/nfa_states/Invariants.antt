use Rattle.std.proofs.Common.{◌≡◌, ◌+◌, ◌≤◌, ◌-◌, ◌^◌, drop}
use Rattle.rx_hir.specs.Cost.{capped}
use Rattle.rx_nfa.specs.Compiled.{nfa_states}
use Rattle.rx_nfa.proofs.compiler.accounting.nfa_states.Given as goal

abbrev pub invariant-loop-hir : goal.invariant-loop-hir
invariant-loop-hir l = record {
  so_far : capped (l.states + nfa_states (drop l.hir-index l.exprs)) ≡ capped (nfa_states l.exprs);
  fits : l.states ≤ 2 ^ 64 - 1;
}
