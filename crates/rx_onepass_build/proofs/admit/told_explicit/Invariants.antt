use Rattle.std.proofs.Common.{◌≡◌, drop}
use Rattle.std.specs.List.{list_any}
use Rattle.rx_onepass_build.specs.Build.{writes_from}
use Rattle.rx_onepass_build.proofs.admit.told_explicit.Given as goal

-- none of the states before writes one
abbrev pub invariant-loop-state : goal.invariant-loop-state
invariant-loop-state l = list_any (writes_from l.first) l.nfa.states ≡ list_any (writes_from l.first) (drop l.state-index l.nfa.states)
