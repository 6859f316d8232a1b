use Rattle.std.proofs.Common.{◌≡◌, ◌<◌, ◌≤◌, ◌+◌, ◌-◌, length}
use Rattle.std.specs.Str.Parse.{digits_value, digits_value_after}
use Rattle.rx_reader.specs.Input.{place, unread}
use Rattle.rx_reader.specs.Escapes.{digits}
use Rattle.rx_reader.specs.Ahead.{past_n}
use Rattle.rx_reader.proofs.lemmas.tokens.EscapeLemmas.{room}
use Rattle.rx_reader.proofs.escape.read_digits.Given as goal

abbrev pub invariant-loop-count : goal.invariant-loop-count
invariant-loop-count l = record {
  number : digits_value l.radix (digits l.radix l.most (place l.fn.cursor)) ≡ digits_value_after l.radix l.value
      (digits l.radix (l.most - l.count) (place l.cursor));
  many : length (digits l.radix l.most (place l.fn.cursor)) ≡ l.count + length (digits l.radix (l.most - l.count) (place l.cursor));
  here : place l.cursor ≡ past_n l.count (place l.fn.cursor);
  moves : unread l.cursor ≤ unread l.fn.cursor;
  small : l.value < room l.count;
  few : l.count ≤ l.most;
}

abbrev pub decreases-loop-count : goal.decreases-loop-count
decreases-loop-count l = l.most - l.count
