use Rattle.std.proofs.Common.{◌≡◌, take}
use Rattle.std.specs.Prelude.{map}
use Rattle.std.specs.Vec.{vec_items}
use Rattle.rx_scan.proofs.generate.slices.Given as goal

abbrev pub invariant-loop-text : goal.invariant-loop-text
invariant-loop-text l = map (λ h. h.now) l.all.items ≡ map vec_items (take l.text-index l.texts)
