use Rattle.std.proofs.Common.{◌≡◌}
use Rattle.std.specs.Prelude.{chars}
use Rattle.rx_reader.specs.Input.{unread}
use Rattle.rx_reader.specs.Grammar.{read}
use Rattle.rx_reader.specs.Stack.{answer}
use Rattle.rx_reader.proofs.parser.read.Given as goal

abbrev pub invariant-loop-parser : goal.invariant-loop-parser
invariant-loop-parser l = answer l.parser ≡ read l.fn.config (chars l.pattern)

abbrev pub decreases-loop-parser : goal.decreases-loop-parser
decreases-loop-parser l = unread l.parser.cursor
