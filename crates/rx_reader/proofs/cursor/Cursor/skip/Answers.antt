use Rattle.std.proofs.Common.{◌≡◌, sym, false, arith}
use Rattle.std.proofs.lemmas.Grind.{common_steps}
use Rattle.rx_reader.specs.Input.{place}
use Rattle.rx_reader.proofs.lemmas.places.AheadLemmas.{skip_none}
use Rattle.rx_reader.proofs.cursor.Cursor.skip.Goals as goal

pub returns-then-not-flags-clause-value : goal.returns-then-not-flags-clause-value
returns-then-not-flags-clause-value c =
    let keeps : c.args.flags.ignore_whitespace ≡ false = grind (arith, common_steps) in
    sym (skip_none c.args.flags (place c.args.self.now) keeps)
