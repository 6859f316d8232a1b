use Rattle.rx_meta.proofs.RefusalLemmas.{suffix-refused, inner-refused}
use Rattle.rx_meta.proofs.laws.no_candidate_before_a_refusal_is_confirmed.Goals as goal

pub returns-clause-suffix : goal.returns-clause-suffix
returns-clause-suffix c = λ config hs regex made r v p cache met is. suffix-refused config hs regex made r v p cache met is

pub returns-clause-inner : goal.returns-clause-inner
returns-clause-inner c = λ config hs regex made r v p cache met is. inner-refused config hs regex made r v p cache met is
