use Rattle.rx_reader.proofs.lemmas.printed.PrintedLemmas.{printed-reads}
use Rattle.rx_reader.proofs.laws.printed_text_reads_back.Goals as goal

pub returns : goal.returns
returns c = printed-reads
