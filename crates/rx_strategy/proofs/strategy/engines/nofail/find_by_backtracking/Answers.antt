use Rattle.std.proofs.Common.{ap, ◌∙◌}
use Rattle.std.specs.Prelude.{is_some}
use Rattle.rx_search.specs.Matches.{match_value}
use Rattle.rx_nfa.specs.NextMatch.{next_match_in}
use Rattle.rx_strategy.proofs.AnswerLemmas.{is_some-map, next-is_match}
use Rattle.rx_strategy.proofs.strategy.engines.nofail.find_by_backtracking.Goals as goal

pub returns-clause-answer : goal.returns-clause-answer
returns-clause-answer c begins =
    let is = c.in-Ok.ensures in
    let next = next_match_in c.args.engine.now.nfa c.args.input.now in
    record {
      value = λ _. is.value begins;
      patterns = is.patterns;
      exists = ap is_some (is.value begins) ∙ is_some-map match_value next;
      is_match = λ r of. next-is_match r c.args.input.now c.try_find_slots.new.slots next (is.patterns r of) (is.slots begins) c.in-Ok.found (is.value begins);
      slots = λ _. is.slots begins;
    }
