use Rattle.std.proofs.Common.{IsTrue, sym, ◌∙◌, true≢false}
use Rattle.rx_model.proofs.lemmas.runs.ReachLemmas.{found-reach, found-outside}
use Rattle.rx_model.proofs.runs.the_unreachable_may_count_as_passed.Goals as goal

pub returns-clause-alike : goal.returns-clause-alike
returns-clause-alike c = λ g reached closed p q alike d is. found-reach g (λ s. IsTrue (reached s)) closed p q d is alike

pub returns-clause-outside : goal.returns-clause-outside
returns-clause-outside c = λ g reached closed u out passed d is.
    found-outside g (λ s. IsTrue (reached s)) closed u (λ is'. true≢false (sym is' ∙ out)) passed d is
