use Rattle.rx_dfa.proofs.lemmas.KeySetLemmas.{appended-keys, stored-row}
use Rattle.rx_dfa.proofs.dense.found.find.append.Goals as goal

pub returns-clause-row : goal.returns-clause-row
returns-clause-row c =
    let s = c.in_ok-row.ensures.stored in
    stored-row c.insert_full.new.self.keys c.copy.new.into s.0 c.in_ok-row.row _ s.1 s.2 c.in_ok-copy.ensures

pub returns-clause-keys : goal.returns-clause-keys
returns-clause-keys c =
    appended-keys c.args.keys.now.keys c.copy.new.into _ c.insert_full.new.self.keys c.in_ok-row.ensures.keys c.in_ok-copy.ensures c.requires
