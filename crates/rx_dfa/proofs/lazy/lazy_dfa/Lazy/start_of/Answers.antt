use Rattle.std.proofs.Common.{◌<◌, length, ap, subst}
use Rattle.std.specs.Prelude.{IfSome}
use Rattle.rx_dfa.specs.Lazy.{LazyValue}
use Rattle.rx_dfa.proofs.lemmas.RowsLemmas.{start-below}
use Rattle.rx_dfa.proofs.lazy.lazy_dfa.Lazy.start_of.Goals as goal

pub returns-in-Pattern-clause-within : goal.returns-in-Pattern-clause-within
returns-in-Pattern-clause-within c =
    let nfa = c.self.inside.nfa in
    subst (λ n. IfSome c.start_pattern.result (λ q. q < n)) (ap (λ (v : LazyValue). length v.dfa.nfa.states) c.self.view_is)
    (start-below nfa.starts (length nfa.states) _ c.start_pattern.result c.start_pattern.ensures.value c.start_pattern.ensures.in_range.starts)
