use Rattle.std.proofs.Common.{ap}
use Rattle.rx_reader.specs.Stack.{innermost}
use Rattle.rx_reader.proofs.lemmas.branches.StackLemmas.{resume-start}
use Rattle.rx_reader.proofs.parser.Parser.new.Goals as goal

pub returns : goal.returns
returns c = resume-start c.args.config _ _ _ _ _ (ap innermost c.new-2.ensures.items) c.new-3.ensures c.flags-flags.ensures c.new.ensures
