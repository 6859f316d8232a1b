use Rattle.std.proofs.Common.{◌++◌, ◌∙◌, ap}
use Rattle.rx_dfa.proofs.dense.spread.Spread.reach.Goals as goal

pub returns-clause-threads : goal.returns-clause-threads
returns-clause-threads c = λ lists are. c.in_ok-append.ensures lists are ∙ ap (λ xs. xs ++ lists c.args.class) c.clear.ensures.items
