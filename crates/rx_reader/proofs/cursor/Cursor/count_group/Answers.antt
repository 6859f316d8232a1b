use Rattle.std.proofs.Common.{arith}
use Rattle.rx_reader.proofs.lemmas.tokens.NumberLemmas.{number_is}
use Rattle.rx_reader.proofs.cursor.Cursor.count_group.Goals as goal

pub returns-clause-number : goal.returns-clause-number
returns-clause-number c = number_is c.saturating_add-number.result c.args.self.now.groups (omega arith)
