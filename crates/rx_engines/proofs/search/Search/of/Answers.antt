use Rattle.std.proofs.Common.{sym, ◌∙◌, ap}
use Rattle.rx_nfa.specs.NextMatch.{start_of}
use Rattle.rx_engines.proofs.lemmas.answers.OptionLemmas.{if-none}
use Rattle.rx_engines.proofs.lemmas.answers.EngineLemmas.{none-missing, none-done}
use Rattle.rx_engines.proofs.search.Search.of.Goals as goal

pub returns-in_err-start-clause-none : goal.returns-in_err-start-clause-none
returns-in_err-start-clause-none c =
    if-none _
    (none-missing c.args.nfa.now c.args.input.now (sym (c.start_state.ensures.value ∙ ap (start_of c.args.nfa.now) c.get_anchored.ensures)
    ∙ c.in_err-start.was))

pub returns-then-is_done-clause-none : goal.returns-then-is_done-clause-none
returns-then-is_done-clause-none c = none-done c.args.nfa.now c.args.input.now (c.is_done.ensures.0 c.if-is_done.true)
