use Rattle.std.proofs.Common.{◌≡◌, ◌≤◌}
use Rattle.std.specs.Char.{is_whitespace}
use Rattle.rx_reader.specs.Input.{place, unread, HasRoom}
use Rattle.rx_reader.specs.Reading.{past_all}
use Rattle.rx_reader.proofs.cursor.Cursor.skip_spaces.Given as goal

abbrev pub invariant-loop-self : goal.invariant-loop-self
invariant-loop-self l = record {
  same : past_all is_whitespace (place l.fn.self) ≡ past_all is_whitespace (place l.self);
  moves : unread l.self ≤ unread l.fn.self;
  kept : HasRoom l.fn.self → HasRoom l.self;
}

abbrev pub decreases-loop-self : goal.decreases-loop-self
decreases-loop-self l = unread l.self
