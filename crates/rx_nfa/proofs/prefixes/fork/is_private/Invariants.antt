use Rattle.std.proofs.Common.{ℕ, ◌<◌, ◌≤◌}
use Rattle.rx_nfa.specs.Named.{first_in, last_in}
use Rattle.rx_nfa.proofs.prefixes.fork.is_private.Given as goal

abbrev pub invariant-loop-place : goal.invariant-loop-place
invariant-loop-place l =
    (q : ℕ) → l.fork.low ≤ q → q < l.place → (l.fork.low ≤ first_in l.named q) × (last_in l.named q ≤ l.root)
