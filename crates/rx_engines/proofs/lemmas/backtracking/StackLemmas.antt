-- The frames that a search took off its stack, or emptied it of.
use Rattle.std.proofs.Common.{◌≡◌, ℕ, ◌+◌, ◌<◌, ◌≤◌, List, [], ◌∷◌, length, arith}
use Rattle.std.specs.Prelude.{◌^◌}
use Rattle.rx_engines.specs.Threads.{Frames}
use Rattle.rx_engines.specs.declared.frame.Frame.{Frame}

pub frames-cleared : {left : ℕ} (old new : Frames) → new ≡ record old { items = [] } → left ≤ old.room → left + length new.items ≤ new.room
frames-cleared old new is le = rw is (omega arith)

pub frames-popped : (left : ℕ) (frame : Frame) (old new : Frames) → old ≡ record new { items = frame ∷ new.items } → left + length old.items ≤ old.room
    → left + length new.items ≤ new.room
frames-popped left frame old new is le = let was = rw is at le in omega arith

-- what is left to do is less by the frame, whatever was done since
pub fewer-popped : (left work : ℕ) (frame : Frame) (old new : Frames) → old ≡ record new { items = frame ∷ new.items }
    → left ≤ work + length new.items → left < work + length old.items
fewer-popped left work frame old new is le = rw is (omega arith)

pub frames-over : (left : ℕ) (old new : Frames) → new ≡ old → left + length old.items ≤ old.room → left ≤ new.room
frames-over left old new is le = rw is (omega arith)

-- numbers of bits fit a word
pub below-half-all : {n most : ℕ} → n ≤ most → most < 2 ^ 63 → n < 2 ^ 64
below-half-all le small = omega arith

pub below-room : {n most room : ℕ} → n < most → most ≤ room → n < room
below-room lt le = omega arith
