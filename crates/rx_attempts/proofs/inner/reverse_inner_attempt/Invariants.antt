use Rattle.std.proofs.Common.{◌≡◌, ◌+◌, ◌-◌}
use Rattle.std.specs.Prelude.{false}
use Rattle.rx_search.specs.declared.span.Span.{Span}
use Rattle.rx_attempts.specs.Inner.{GoesOn}
use Rattle.rx_attempts.specs.Counts.{Leaves}
use Rattle.rx_attempts.proofs.inner.reverse_inner_attempt.Given as goal

abbrev pub invariant-candidates : goal.invariant-candidates
invariant-candidates g l = record {
  on : GoesOn (g.F.Automaton.dfa l.fwd) (g.B.Automaton.dfa l.rev) l.pre l.input l.from l.min_start l.stopped l.fn.steps l.steps;
  counts : l.input.earliest ≡ false → Leaves (g.F.Automaton.dfa l.fwd) (g.B.Automaton.dfa l.rev) l.pre l.input (λ (s : Span). s.start) l.from l.min_start l.stopped l.fn.steps
      l.steps;
  fwd_fits : g.F.Automaton.fits l.fwd l.fwd_cache;
  rev_fits : g.B.Automaton.fits l.rev l.rev_cache;
}

abbrev pub decreases-candidates : goal.decreases-candidates
decreases-candidates g l = l.input.end + 1 - l.from
