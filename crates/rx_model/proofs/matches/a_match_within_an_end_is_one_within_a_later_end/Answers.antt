use Rattle.rx_model.proofs.lemmas.matches.WithinLemmas.{next-later}
use Rattle.rx_model.proofs.matches.a_match_within_an_end_is_one_within_a_later_end.Goals as goal

pub returns : goal.returns
returns c = λ r text anchor e b a m found le. next-later r text anchor e b a m found le
