use Rattle.rx_onepass.proofs.lemmas.PlaceLemmas.{told-within, told-pattern, told-places}
use Rattle.rx_onepass.proofs.laws.what_is_found_lies_in_the_span.Goals as goal

pub returns-clause-end : goal.returns-clause-end
returns-clause-end c = λ d v range t is. told-within d v range t is

pub returns-clause-pattern : goal.returns-clause-pattern
returns-clause-pattern c = λ d v range t is. told-pattern d v range t is

pub returns-clause-places : goal.returns-clause-places
returns-clause-places c = λ d v range t is slot place h. told-places d v range t is slot place h
