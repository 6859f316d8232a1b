use Rattle.std.proofs.Common.{◌-◌, sym, ◌∙◌}
use Rattle.rx_model.specs.Runs.{everywhere}
use Rattle.rx_onepass_table.specs.Along.{walk}
use Rattle.rx_onepass_table.specs.Search.{shown}
use Rattle.rx_onepass_table.proofs.lemmas.ShownLemmas.{answer-same, shown-length}
use Rattle.rx_onepass_table.proofs.table.Table.walk.Goals as goal

pub returns-clause-answer : goal.returns-clause-answer
returns-clause-answer c =
    let places = c.pass_over.new.places in
    let before = c.pass_over.new.out in
    let room = c.pass_over.ensures.places ∙ sym c.requires.room ∙ sym c.pass_over.ensures.out in
    answer-same c.args.nfa.now c.args.input.now.earliest
    (walk c.args.nfa.now c.args.self.now c.args.may_win everywhere c.args.input.now.haystack (c.args.input.now.end - c.args.input.now.start)
    c.args.input.now.start c.args.row)
    c.pass_over.new.best c.finish.new.places (shown c.pass_over.new.left places before)
    (c.finish.ensures.len ∙ room ∙ sym (shown-length c.pass_over.new.left places before room)) c.finish.ensures.value c.pass_over.ensures.answer
