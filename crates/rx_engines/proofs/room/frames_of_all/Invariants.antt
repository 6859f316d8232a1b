use Rattle.std.proofs.Common.{◌≡◌, ◌-◌}
use Rattle.std.specs.Prelude.{min, ◌^◌}
use Rattle.rx_engines.specs.Simulation.{frames_of_states}
use Rattle.rx_engines.proofs.room.frames_of_all.Given as goal

abbrev pub invariant-loop-q : goal.invariant-loop-q
invariant-loop-q l = l.frames ≡ min (2 ^ 64 - 1) (frames_of_states l.states l.q)
