use Rattle.rx_onepass.proofs.lemmas.AgreeLemmas.{exists-told, next-told, match-told, slot-left}
use Rattle.rx_onepass.proofs.laws.what_is_found_is_a_match_of_the_patterns.Goals as goal

pub returns-clause-exists : goal.returns-clause-exists
returns-clause-exists c = λ d r v of within. exists-told d r v of within

pub returns-clause-next : goal.returns-clause-next
returns-clause-next c = λ d r v of within asked leftmost. next-told d r v of within asked leftmost

pub returns-clause-is_match : goal.returns-clause-is_match
returns-clause-is_match c = λ d r v of within asked t is. match-told d r v of within asked t is

pub returns-clause-slots : goal.returns-clause-slots
returns-clause-slots c = λ d r v of within asked range t is slot. slot-left d r v of within asked t is range slot
