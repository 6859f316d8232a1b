use Rattle.rx_reader.proofs.lemmas.patterns.PlainLemmas.{escaped-reads, plain-reads}
use Rattle.rx_reader.proofs.laws.escaped_text_reads_as_its_characters.Goals as goal

pub returns : goal.returns
returns c = record { escaped = escaped-reads; plain = plain-reads }
