use Rattle.rx_syntax.proofs.lemmas.groups.PlainLemmas.{escaped-literal, plain-literal}
use Rattle.rx_syntax.proofs.laws.escaped_text_means_itself.Goals as goal

pub returns : goal.returns
returns c = record { escaped = escaped-literal; plain = plain-literal }
