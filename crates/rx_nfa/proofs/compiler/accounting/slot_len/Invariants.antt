use Rattle.std.proofs.Common.{◌≡◌, ◌+◌, ◌-◌, ◌^◌, length, min}
use Rattle.rx_model.specs.Search.{groups_before}
use Rattle.rx_nfa.proofs.compiler.accounting.slot_len.Given as goal

abbrev pub invariant-loop-hir : goal.invariant-loop-hir
invariant-loop-hir l = l.groups ≡ min (length l.exprs + groups_before l.hir-index l.exprs) (2 ^ 64 - 1)
