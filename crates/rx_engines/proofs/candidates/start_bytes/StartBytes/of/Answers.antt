use Rattle.rx_engines.proofs.lemmas.candidates.StartBytesLemmas.{marked-none}
use Rattle.rx_engines.proofs.candidates.start_bytes.StartBytes.of.Goals as goal

pub returns-in-Some : goal.returns-in-Some
returns-in-Some c = marked-none c.args.states.now c.mark_from.new.has c.args.start c.in-Some.ensures.marked.1
