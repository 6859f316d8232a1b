use Rattle.rx_nfa.proofs.lemmas.classes.RowLemmas.{Adds-nothing}
use Rattle.rx_nfa.proofs.class.row.add_target.Goals as goal

pub returns-in-None-clause-ascends : goal.returns-in-None-clause-ascends
returns-in-None-clause-ascends c = (Adds-nothing 0 c.args.byte c.args.row.now.items c.requires).ascends

pub returns-in-None-clause-routes : goal.returns-in-None-clause-routes
returns-in-None-clause-routes c b = rw c.in-None.is ((Adds-nothing 0 c.args.byte c.args.row.now.items c.requires).routes b)
