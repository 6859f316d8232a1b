use Rattle.rx_slots.proofs.LawLemmas.{one_drew, drew_once, drew_below, drew_all}
use Rattle.rx_slots.proofs.laws.a_number_is_drawn_once.Goals as goal

pub returns-clause-one : goal.returns-clause-one
returns-clause-one c = one_drew

pub returns-clause-once : goal.returns-clause-once
returns-clause-once c = drew_once

pub returns-clause-below : goal.returns-clause-below
returns-clause-below c = drew_below

pub returns-clause-all : goal.returns-clause-all
returns-clause-all c = drew_all
