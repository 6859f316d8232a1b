use Rattle.std.proofs.Common.{◌≡◌, ◌≤◌, ◌++◌, length, map, drop, reverse}
use Rattle.rx_onepass_build.specs.Told.{frame_at}
use Rattle.rx_onepass_build.proofs.closure.push_frames.Given as goal

abbrev pub invariant-loop-left : goal.invariant-loop-left
invariant-loop-left l = record {
  pushed : reverse l.frames.items ≡ map (frame_at l.epsilons) (drop l.left l.states) ++ reverse l.fn.frames.items;
  within : l.left ≤ length l.states;
}

abbrev pub decreases-loop-left : goal.decreases-loop-left
decreases-loop-left l = l.left
