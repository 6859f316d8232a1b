use Rattle.rx_meta.proofs.RefusalLemmas.{suffix-leftmost, inner-leftmost}
use Rattle.rx_meta.proofs.laws.attempts_are_leftmost_first.Goals as goal

pub returns-clause-suffix : goal.returns-clause-suffix
returns-clause-suffix c = λ config hs regex made named. suffix-leftmost config hs regex made named

pub returns-clause-inner : goal.returns-clause-inner
returns-clause-inner c = λ config hs regex made named. inner-leftmost config hs regex made named
