use Rattle.std.proofs.Common.{subst}
use Rattle.std.specs.Prelude.{Option}
use Rattle.rx_search.specs.Matches.{HalfMatchValue, half_match_value}
use Rattle.rx_dfa.specs.Search.{IsAnswerFor}
use Rattle.rx_dfa.proofs.lemmas.BothLemmas.{none-answer}
use Rattle.rx_dfa.proofs.search.both.try_search.Goals as goal

pub returns-in_default-clause-answer : goal.returns-in_default-clause-answer
returns-in_default-clause-answer g c = λ r p starts.
    let v = c.args.input.now in
    let kind = (g.F.Automaton.dfa c.args.fwd.now).kind in
    none-answer kind r v (subst (λ (o : Option HalfMatchValue). IsAnswerFor kind r v half_match_value o) c.in_default.is (c.in-Ok.ensures.told r p))

pub try_search_start-requires-clause-lies : goal.try_search_start-requires-clause-lies
try_search_start-requires-clause-lies g c = rw c.in-Some.is at c.in-Ok.ensures.within

pub returns-in-Ok-try_search_start-clause-answer : goal.returns-in-Ok-try_search_start-clause-answer
returns-in-Ok-try_search_start-clause-answer g c = λ r p starts.
    let v = c.args.input.now in
    let kind = (g.F.Automaton.dfa c.args.fwd.now).kind in
    c.in-Ok-try_search_start.ensures.answer kind r starts p.utf8
    (subst (λ (o : Option HalfMatchValue). IsAnswerFor kind r v half_match_value o) c.in-Some.is (c.in-Ok.ensures.told r p))
