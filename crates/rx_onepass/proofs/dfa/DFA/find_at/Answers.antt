use Rattle.std.proofs.Common.{length, subst}
use Rattle.rx_onepass.specs.Search.{IsStartRow}
use Rattle.rx_onepass.proofs.lemmas.RunLemmas.{run-unknown}
use Rattle.rx_onepass.proofs.lemmas.SlotLemmas.{found-none}
use Rattle.rx_onepass.proofs.dfa.DFA.find_at.Goals as goal

pub find_from-requires-clause-row : goal.find_from-requires-clause-row
find_from-requires-clause-row c = subst (IsStartRow c.args.self.now c.args.input.now.anchor) c.in-Some.is c.requires.row

pub returns-in-None-clause-found : goal.returns-in-None-clause-found
returns-in-None-clause-found c =
    let d = c.args.self.now in
    let v = c.args.input.now in
    found-none d v c.args.slots.now (length c.args.slots.now) (run-unknown d v (subst (IsStartRow d v.anchor) c.in-None.is c.requires.row)) c.requires.empty
