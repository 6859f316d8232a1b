use Rattle.std.proofs.Common.{◌≡◌, ℕ, ◌<◌, false, length, take, slice_index_or}
use Rattle.rx_prefilter.specs.Bytes.{is_one_of}
use Rattle.rx_prefilter.proofs.byte_set.ByteSet.new.Given as goal

abbrev pub invariant-loop-byte : goal.invariant-loop-byte
invariant-loop-byte l = (length l.is_needle ≡ 256) × ((x : ℕ) → x < 256 → slice_index_or l.is_needle x false ≡ is_one_of (take l.byte-index l.byte-items) x)
