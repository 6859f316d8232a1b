use Rattle.rx_dfa.proofs.lemmas.KeySetLemmas.{some-place, no-place}
use Rattle.rx_dfa.proofs.dense.found.find.position.Goals as goal

pub returns-clause-some : goal.returns-clause-some
returns-clause-some c = some-place c.args.keys.now.keys c.args.key.now c.get_index_of.result c.get_index_of.ensures.index

pub returns-clause-none : goal.returns-clause-none
returns-clause-none c = no-place c.args.keys.now.keys c.args.key.now c.get_index_of.result c.get_index_of.ensures.found
