use Rattle.std.proofs.Common.{◌+◌, ◌-◌}
use Rattle.rx_search.specs.declared.span.Span.{Span}
use Rattle.rx_dfa.specs.Automaton.{Dfa}
use Rattle.rx_attempts.specs.Suffix.{GoesOn}
use Rattle.rx_attempts.specs.Counts.{Leaves}
use Rattle.rx_attempts.proofs.suffix.first_start.Given as goal

abbrev pub invariant-candidates : goal.invariant-candidates
invariant-candidates g l = record {
  on : GoesOn (g.B.Automaton.dfa l.rev) l.pre l.input l.from l.min_start l.fn.steps l.steps;
  counts : (fwd : Dfa) → Leaves fwd (g.B.Automaton.dfa l.rev) l.pre l.input (λ (s : Span). s.end) l.from l.min_start 0 l.fn.steps l.steps;
  fits : g.B.Automaton.fits l.rev l.rev_cache;
}

abbrev pub decreases-candidates : goal.decreases-candidates
decreases-candidates g l = l.input.end + 1 - l.from
