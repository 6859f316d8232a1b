use Rattle.std.proofs.Common.{◌≡◌, ◌≤◌}
use Rattle.rx_reader.specs.Input.{place, unread}
use Rattle.rx_reader.specs.Grammar.{all_repetitions}
use Rattle.rx_reader.proofs.lemmas.branches.RepeatLemmas.{repeated_from}
use Rattle.rx_reader.proofs.parser.repetitions.Given as goal

abbrev pub invariant-loop-flags : goal.invariant-loop-flags
invariant-loop-flags l = record {
  read : all_repetitions l.config l.flags l.fn.item (place l.fn.cursor) ≡ repeated_from l.config l.flags l.item (place l.cursor);
  moves : unread l.cursor ≤ unread l.fn.cursor;
}

abbrev pub decreases-loop-flags : goal.decreases-loop-flags
decreases-loop-flags l = unread l.cursor
