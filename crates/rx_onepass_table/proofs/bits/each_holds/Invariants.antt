use Rattle.std.proofs.Common.{◌≡◌, ◌<◌}
use Rattle.std.specs.Prelude.{true}
use Rattle.std.specs.Int.{bit_at}
use Rattle.rx_model.specs.Look.{Look, holds, look_number}
use Rattle.rx_onepass_table.proofs.bits.each_holds.Given as goal

-- the kinds before this number hold
abbrev pub invariant-loop-number : goal.invariant-loop-number
invariant-loop-number l =
    (kind : Look) → look_number kind < l.number → bit_at l.looks (look_number kind) ≡ 1 → holds l.nfa.terminator l.text kind l.at ≡ true
