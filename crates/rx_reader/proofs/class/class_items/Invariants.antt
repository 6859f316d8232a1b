use Rattle.std.proofs.Common.{◌≡◌, ◌≤◌, true}
use Rattle.rx_reader.specs.Reading.{Place}
use Rattle.rx_reader.specs.Input.{place, unread, IsPieceAt}
use Rattle.rx_reader.specs.Classes.{all_class_items}
use Rattle.rx_reader.proofs.lemmas.tokens.ClassItemLemmas.{after}
use Rattle.rx_reader.proofs.class.class_items.Given as goal

abbrev pub invariant-loop-items : goal.invariant-loop-items
invariant-loop-items l = record {
  read : (from : Place) → IsPieceAt l.opening from → all_class_items l.syntax.octal l.syntax.skips from true (place l.fn.cursor) ≡ after l.items.items
      (all_class_items l.syntax.octal l.syntax.skips from l.comes_first (place l.cursor));
  moves : unread l.cursor ≤ unread l.fn.cursor;
}

abbrev pub decreases-loop-items : goal.decreases-loop-items
decreases-loop-items l = unread l.cursor
