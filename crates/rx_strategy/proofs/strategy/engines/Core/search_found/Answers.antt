use Rattle.std.proofs.Common.{◌≡◌, ap, subst}
use Rattle.std.specs.Prelude.{Option}
use Rattle.rx_model.specs.Search.{is_anchored}
use Rattle.rx_search.specs.Input.{InputValue}
use Rattle.rx_search.specs.Matches.{MatchValue, match_value}
use Rattle.rx_dfa.specs.Search.{IsAnswerFor}
use Rattle.rx_strategy.specs.Core.{IsToldFor}
use Rattle.rx_strategy.specs.Narrow.{narrowed}
use Rattle.rx_strategy.proofs.DfaLemmas.{anchored-begins, narrowed-told, none-told}
use Rattle.rx_strategy.proofs.strategy.engines.Core.search_found.Goals as goal

pub returns-in-Some-clause-told : goal.returns-in-Some-clause-told
returns-in-Some-clause-told c r of is =
    let core = c.args.self.now in
    let v = c.args.input.now in
    let slots = c.search_nofail.new.slots in
    let found = c.search_nofail.result in
    let part : c.narrowed-part.result ≡ narrowed v c.in-Some.found = c.narrowed-part.ensures.value in
    narrowed-told core v r of slots core.kind c.in-Some.found
    (subst (λ (o : Option MatchValue). IsAnswerFor core.kind r v match_value o) c.in-Some.is is) found
    (subst (λ (w : InputValue). IsToldFor core.kind r w slots found) part
    (c.search_nofail.ensures.told r of (anchored-begins core.pre core.nfa c.narrowed-part.result (ap (λ (w : InputValue). is_anchored w.anchor) part))))

pub returns-in-None-clause-told : goal.returns-in-None-clause-told
returns-in-None-clause-told c r of is =
    let core = c.args.self.now in
    let v = c.args.input.now in
    none-told core v r of c.empty.new.slots core.kind
    (subst (λ (o : Option MatchValue). IsAnswerFor core.kind r v match_value o) c.in-None.is is)
