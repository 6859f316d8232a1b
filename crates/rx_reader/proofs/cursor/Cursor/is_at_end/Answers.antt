use Rattle.std.proofs.Common.{sym, arith}
use Rattle.std.proofs.lemmas.Bool.Decides.{nat_tests}
use Rattle.rx_reader.specs.Input.{place}
use Rattle.rx_reader.proofs.lemmas.places.PlaceLemmas.{not_at_end}
use Rattle.rx_reader.proofs.cursor.Cursor.is_at_end.Goals as goal

pub returns-in-Some-clause-value : goal.returns-in-Some-clause-value
returns-in-Some-clause-value c = sym (not_at_end (place c.args.self.now) c.in-Some.ensures.0)

pub returns-in-None-clause-value : goal.returns-in-None-clause-value
returns-in-None-clause-value c = grind (arith, nat_tests)
