use Rattle.std.proofs.Common.{◌∙◌, sym, ap, arith}
use Rattle.std.proofs.lemmas.List.{take_all}
use Rattle.std.proofs.lemmas.List.Folds.{list_any_more}
use Rattle.std.specs.Prelude.{◌||◌, take}
use Rattle.std.specs.List.{list_any}
use Rattle.rx_nfa.specs.Automaton.{asks_for}
use Rattle.rx_nfa.proofs.looks.looks_of.Goals as goal

pub loop-state-preserved : goal.loop-state-preserved
loop-state-preserved c = λ kind.
    c.with_asked-looks.ensures kind
    ∙ ap (λ b. b || asks_for kind c.state-item.result) (c.loop-state.invariant kind)
    ∙ ap (λ s. list_any (asks_for kind) (take c.loop-state.state-index c.args.states.now) || asks_for kind s) c.state-item.is
    ∙ sym (list_any_more (asks_for kind) c.args.states.now c.loop-state.state-index c.state-item.result (omega arith))

pub returns : goal.returns
returns c = λ kind.
    c.loop-state.invariant kind ∙ ap (list_any (asks_for kind)) (take_all c.loop-state.state-index c.args.states.now (omega arith))
