use Rattle.std.proofs.Common.{◌≡◌, ℕ, ◌<◌, ◌≤◌, ◌-◌}
use Rattle.std.specs.Prelude.{◌^◌}
use Rattle.rx_search.proofs.byte_classes.ByteClasses.stride2.Given as goal

abbrev pub invariant-loop-power : goal.invariant-loop-power
invariant-loop-power l = record {
  is : l.power ≡ 2 ^ l.exponent;
  some : 0 < l.power;
  small : l.power ≤ 512;
  few : l.exponent ≤ 9;
  len : l.len ≤ 257;
  least : (j : ℕ) → l.len ≤ 2 ^ j → l.exponent ≤ j;
}

abbrev pub decreases-loop-power : goal.decreases-loop-power
decreases-loop-power l = 512 - l.power
