use Rattle.std.proofs.Common.{◌∙◌, ap}
use Rattle.rx_syntax.specs.Named.{bytes_of}
use Rattle.rx_syntax.proofs.known.KnownSets.find_bytes.Goals as goal

pub returns-then-is : goal.returns-then-is
returns-then-is c = c.set-item.result.own ∙ ap bytes_of (c.is.ensures c.if-is.true)
