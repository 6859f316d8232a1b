use Rattle.std.proofs.Common.{◌∙◌, sym}
use Rattle.rx_reader.proofs.lemmas.places.PlaceLemmas.{is_at_of}
use Rattle.rx_reader.specs.Input.{place}
use Rattle.rx_reader.proofs.cursor.Cursor.is_at.Goals as goal

pub returns-in-Some-clause-value : goal.returns-in-Some-clause-value
returns-in-Some-clause-value c =
    c.contains.ensures.value ∙ sym (is_at_of (place c.args.self.now) c.args.chars.now c.in-Some.c c.in-Some.ensures.0 c.in-Some.ensures.1)
