use Rattle.rx_onepass_table.proofs.lemmas.BitLemmas.{with_bit}
use Rattle.rx_onepass_table.proofs.epsilons.Epsilons.with_slot.Goals as goal

pub returns-clause-slots : goal.returns-clause-slots
returns-clause-slots c k = with_bit c.args.self.slots c.args.slot k c.requires
