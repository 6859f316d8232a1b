use Rattle.std.proofs.Common.{◌≡◌, ◌-◌, ◌≤◌, ◌<◌}
use Rattle.rx_reader.specs.Input.{place, unread, HasRoom}
use Rattle.rx_reader.specs.Ahead.{past_n}
use Rattle.rx_reader.proofs.cursor.Cursor.bump_by.Given as goal

abbrev pub invariant-loop : goal.invariant-loop
invariant-loop l = record {
  same : past_n l.count (place l.fn.self) ≡ past_n (l.count - l.counter) (place l.self);
  moves : unread l.self ≤ unread l.fn.self;
  passed : 0 < l.counter → 0 < unread l.fn.self → unread l.self < unread l.fn.self;
  room : 0 < l.counter → 0 < unread l.fn.self → HasRoom l.self;
  begun : l.counter ≡ 0 → unread l.fn.self ≤ unread l.self;
  kept : HasRoom l.fn.self → HasRoom l.self;
}
