use Rattle.std.proofs.Common.{subst}
use Rattle.std.specs.Prelude.{None, IfOk}
use Rattle.rx_model.specs.Search.{Patterns}
use Rattle.rx_search.specs.Matches.{match_value}
use Rattle.rx_search.specs.Promise.{Premises}
use Rattle.rx_dfa.specs.Search.{IsAnswerFor}
use Rattle.rx_strategy.specs.Attempts.{HasInner}
use Rattle.rx_strategy.specs.Prefix.{dfa_of}
use Rattle.rx_strategy.specs.Strategy.{IsFor, kind_in}
use Rattle.rx_strategy.proofs.AnswerLemmas.{more-premises}
use Rattle.rx_strategies.specs.Attempts.{InnerValue, IsInnerFor}
use Rattle.rx_strategies.proofs.inner.ReverseInner.try_search.Goals as goal

pub returns-clause-answer : goal.returns-clause-answer
returns-clause-answer g c =
    let v = c.args.input.now in
    let s = c.self.inside.core in
    subst
    (λ (k : InnerValue). (r : Patterns) → Premises (IsInnerFor k r) None r v
    → IfOk c.try_reverse_inner.result (IsAnswerFor (kind_in k.core) r v match_value))
    c.self.view_is
    (λ r p. c.try_reverse_inner.ensures.answer r (more-premises (λ q. IsFor s q × HasInner (dfa_of c.self.inside.prefix) c.self.inside.pre q) (λ q. IsFor s q) None v (λ q given. given.is_for.0) r p) p.is_for.1)
