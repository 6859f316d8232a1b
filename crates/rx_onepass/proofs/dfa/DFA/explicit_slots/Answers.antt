use Rattle.rx_onepass.proofs.dfa.DFA.explicit_slots.Goals as goal

pub explicit_start-requires : goal.explicit_start-requires
explicit_start-requires c = tt

pub saturating_sub-requires : goal.saturating_sub-requires
saturating_sub-requires c = tt

pub slot_len-requires : goal.slot_len-requires
slot_len-requires c = tt
