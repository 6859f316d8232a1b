use Rattle.std.proofs.Common.{ap, ◌∙◌}
use Rattle.std.specs.Str.{chars}
use Rattle.rx_reader.proofs.lemmas.places.CharsLemmas.{trimmed}
use Rattle.rx_reader.proofs.cursor.front.after_white.Goals as goal

pub returns : goal.returns
returns c = ap chars c.trim_start.ensures.trim ∙ trimmed c.args.text.now c.utf8.text
