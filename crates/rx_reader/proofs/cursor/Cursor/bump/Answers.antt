use Rattle.std.proofs.Common.{arith, length, ap, sym}
use Rattle.std.specs.Prelude.{chars}
use Rattle.rx_reader.proofs.lemmas.places.PlaceLemmas.{past_first}
use Rattle.rx_reader.specs.Input.{place}
use Rattle.rx_reader.proofs.cursor.Cursor.bump.Goals as goal

pub overflow_add-self : goal.overflow_add-self
overflow_add-self c = omega (arith, c.args.self.now.narrow, c.in-Some.ensures.size, c.len_utf8.ensures.value)

pub invariant_of-self : goal.invariant_of-self
invariant_of-self c = record {
  narrow = omega (arith, c.args.self.now.narrow, c.in-Some.ensures.size, c.len_utf8.ensures.value);
  few = omega (arith, c.args.self.now.few);
  utf8 = c.in-Some.ensures.utf8;
}

pub returns-in-Some-clause-value : goal.returns-in-Some-clause-value
returns-in-Some-clause-value c =
    sym (past_first (place c.args.self.now) (chars c.in-Some.rest.now) c.in-Some.c c.len_utf8.result c.in-Some.ensures.parts c.len_utf8.ensures.value)

pub returns-in-Some-clause-progress : goal.returns-in-Some-clause-progress
returns-in-Some-clause-progress c some =
    omega (arith, ap length c.in-Some.ensures.parts)
