use Rattle.rx_pre.proofs.AnswerLemmas.{next-whether}
use Rattle.rx_pre.proofs.pre.Pre.is_match.Goals as goal

pub returns : goal.returns
returns c = record { value = next-whether c.args.self.now c.args.input.now c.find.result c.find.ensures.next c.is_some.result c.is_some.ensures }
