use Rattle.std.proofs.Common.{◌≡◌, ◌+◌, ◌<◌, ◌≤◌}
use Rattle.std.specs.Prelude.{false}
use Rattle.rx_model.specs.Look.{Look, look_number}
use Rattle.rx_search.specs.LookSet.{has}
use Rattle.rx_onepass_build.proofs.admit.first_unsupported.Given as goal

-- the kinds before this number are not in the set
abbrev pub invariant-loop-number : goal.invariant-loop-number
invariant-loop-number l = (kind : Look) → 10 ≤ look_number kind → look_number kind < 10 + l.number → has l.set kind ≡ false
