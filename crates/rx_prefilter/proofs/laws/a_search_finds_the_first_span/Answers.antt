use Rattle.std.proofs.Common.{take}
use Rattle.rx_prefilter.proofs.FirstLemmas.{first_span-is_first}
use Rattle.rx_prefilter.proofs.laws.a_search_finds_the_first_span.Goals as goal

pub returns : goal.returns
returns c = λ needles text part. first_span-is_first needles (take part.end text) part.start
