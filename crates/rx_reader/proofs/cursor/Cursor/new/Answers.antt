use Rattle.std.proofs.Common.{ap, List, ℕ, arith}
use Rattle.std.specs.Prelude.{chars}
use Rattle.rx_reader.specs.Reading.{Place}
use Rattle.rx_reader.proofs.cursor.Cursor.new.Goals as goal

with_names : List ℕ → List (List ℕ) → Place
with_names text names = record { text = text; at = 0; groups = 0; names = names }

pub invariant_of-result : goal.invariant_of-result
invariant_of-result c = record { narrow = omega arith; few = omega arith; utf8 = ∣ c.utf8.pattern ∣₁ }

pub returns : goal.returns
unfolding with_names
returns c = ap (with_names (chars c.args.pattern.now)) c.new.ensures
