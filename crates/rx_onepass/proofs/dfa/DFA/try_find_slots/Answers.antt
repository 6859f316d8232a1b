use Rattle.std.proofs.Common.{length}
use Rattle.rx_onepass.proofs.lemmas.RunLemmas.{run-done}
use Rattle.rx_onepass.proofs.lemmas.SlotLemmas.{found-none}
use Rattle.rx_onepass.proofs.dfa.DFA.try_find_slots.Goals as goal

pub returns-then-is_done-clause-found : goal.returns-then-is_done-clause-found
returns-then-is_done-clause-found c =
    found-none c.args.self.now c.args.input.now c.empty.new.slots (length c.args.slots.now)
    (run-done c.args.self.now c.args.input.now (c.is_done.ensures.0 c.if-is_done.true)) c.empty.ensures
