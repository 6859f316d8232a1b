use Rattle.std.proofs.Common.{refl, arith}
use Rattle.rx_dfa.proofs.lemmas.DrawLemmas.{none-filled}
use Rattle.rx_dfa.proofs.dense.rows.Cells.new.Goals as goal

pub returns-clause-within : goal.returns-clause-within
returns-clause-within c f = record { plain = omega arith; special = omega arith }

pub returns-clause-filled : goal.returns-clause-filled
returns-clause-filled c d f = none-filled d f _ refl refl c.new-plain.ensures.items c.new-special.ensures.items
