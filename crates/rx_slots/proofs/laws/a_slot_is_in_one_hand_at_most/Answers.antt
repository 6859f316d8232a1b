use Rattle.rx_slots.proofs.LawLemmas.{one_hand, at_its_turn, odd_turn, holds_seen, in_no_hand, not_to_come}
use Rattle.rx_slots.proofs.laws.a_slot_is_in_one_hand_at_most.Goals as goal

pub returns-clause-one : goal.returns-clause-one
returns-clause-one g c = λ s rule k near i j a b one other. one_hand s rule k i j a b near one other

pub returns-clause-turn : goal.returns-clause-turn
returns-clause-turn g c = λ s rule k near id turn h. (at_its_turn s rule k id turn h, odd_turn s rule k id turn near h, holds_seen s rule k id turn h)

pub returns-clause-home : goal.returns-clause-home
returns-clause-home g c = λ s rule k near nobody. in_no_hand s rule k near nobody

pub returns-clause-moves : goal.returns-clause-moves
returns-clause-moves g c = λ s rule k near. rule.counted k near

pub returns-clause-seen : goal.returns-clause-seen
returns-clause-seen g c = λ s rule k id turn h. not_to_come s rule k id turn h
