use Rattle.rx_syntax.proofs.lemmas.translation.Utf8Lemmas.{property, meaning, of_bytes, of_each, of_all, of_patterns}
use Rattle.rx_syntax.proofs.laws.patterns_read_under_utf8_mean_utf8.Goals as goal

pub returns : goal.returns
returns c = record { property = property; meaning = meaning; parsed = of_bytes; each = of_each; all = of_all; patterns = of_patterns }
