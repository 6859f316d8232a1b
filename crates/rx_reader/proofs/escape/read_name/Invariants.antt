use Rattle.std.proofs.Common.{◌≡◌, ◌≤◌, ◌++◌}
use Rattle.rx_reader.specs.Input.{place, unread}
use Rattle.rx_reader.specs.Reading.{past_all}
use Rattle.rx_reader.specs.Escapes.{leading, in_name}
use Rattle.rx_reader.proofs.escape.read_name.Given as goal

abbrev pub invariant-loop-inside : goal.invariant-loop-inside
invariant-loop-inside l = record {
  read : leading (in_name l.inside) (place l.fn.cursor).text ≡ l.name.items ++ leading (in_name l.inside) (place l.cursor).text;
  same : past_all (in_name l.inside) (place l.fn.cursor) ≡ past_all (in_name l.inside) (place l.cursor);
  moves : unread l.cursor ≤ unread l.fn.cursor;
}

abbrev pub decreases-loop-inside : goal.decreases-loop-inside
decreases-loop-inside l = unread l.cursor
