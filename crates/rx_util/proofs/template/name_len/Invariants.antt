use Rattle.std.proofs.Common.{ℕ, ◌<◌, ◌≡◌, get_or, true}
use Rattle.rx_util.specs.Template.{is_name_byte}
use Rattle.rx_util.proofs.template.name_len.Given as goal

abbrev pub invariant-loop-place : goal.invariant-loop-place
invariant-loop-place l = (k : ℕ) → k < l.place → is_name_byte (get_or l.bytes k 0) ≡ true
