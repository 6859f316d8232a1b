use Rattle.rx_model.proofs.lemmas.matches.BetweenLemmas.{between-none, between-permitted, match-empty, between-free, between-anchored}
use Rattle.rx_model.proofs.matches.the_next_match_between_characters.Goals as goal

pub returns-clause-none : goal.returns-clause-none
returns-clause-none c = λ r text anchor b a none. between-none r text anchor b a none

pub returns-clause-some : goal.returns-clause-some
returns-clause-some c = λ r text utf8 anchor b a m e permitted. between-permitted r text utf8 anchor b a m e permitted

pub returns-clause-empty : goal.returns-clause-empty
returns-clause-empty c = λ r text utf8 anchor b a m e refused. match-empty r text utf8 anchor b a m e refused

pub returns-clause-free : goal.returns-clause-free
returns-clause-free c = λ r text utf8 b a m e refused. between-free r text utf8 b a m e refused

pub returns-clause-anchored : goal.returns-clause-anchored
returns-clause-anchored c = λ r text utf8 anchor is b a m e refused. between-anchored r text utf8 anchor b a m e is refused
