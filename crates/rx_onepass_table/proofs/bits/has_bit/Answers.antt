use Rattle.std.proofs.Common.{◌==◌, sym, ap}
use Rattle.std.proofs.lemmas.Nat.Bits.{bit_at_above}
use Rattle.rx_onepass_table.proofs.bits.has_bit.Goals as goal

pub returns-then-k-ge32 : goal.returns-then-k-ge32
returns-then-k-ge32 c = sym (ap (λ b. b == 1) (bit_at_above c.args.set 32 c.args.k c.ranges.set.fits c.if-k-ge32.true))
