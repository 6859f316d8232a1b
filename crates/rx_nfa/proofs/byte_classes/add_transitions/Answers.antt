use Rattle.std.proofs.Common.{◌≡◌, ◌∙◌, refl, sym, ap, get_or, take, arith}
use Rattle.std.specs.Prelude.{Bool, true, false, ◌||◌}
use Rattle.std.proofs.lemmas.List.{take_all}
use Rattle.std.proofs.lemmas.List.Folds.{list_any_more}
use Rattle.rx_search.specs.ByteClasses.{is_edge}
use Rattle.rx_nfa.specs.ByteClasses.{transitions_end}
use Rattle.rx_nfa.specs.declared.state.Transition.{Transition}
use Rattle.rx_nfa.proofs.byte_classes.add_transitions.Goals as goal

or-moved : (a b c : Bool) → (a || (b || c)) ≡ ((b || a) || c)
or-moved true true c = refl
or-moved true false c = refl
or-moved false true c = refl
or-moved false false c = refl

pub loop-transition-init : goal.loop-transition-init
loop-transition-init c = λ b lt. refl

pub loop-transition-preserved : goal.loop-transition-preserved
loop-transition-preserved c = λ b lt.
    c.set_range.ensures b lt
    ∙ ap (λ x. is_edge c.transition-item.result.start c.transition-item.result.end b || x) (c.loop-transition.invariant b lt)
    ∙ or-moved (is_edge c.transition-item.result.start c.transition-item.result.end b)
    (transitions_end (take c.loop-transition.transition-index c.args.transitions.now) b) (get_or c.args.set.now b false)
    ∙ ap (λ (t : Transition). (transitions_end (take c.loop-transition.transition-index c.args.transitions.now) b || is_edge t.start t.end b) || get_or
    c.args.set.now b false) c.transition-item.is
    ∙ ap (λ x. x || get_or c.args.set.now b false)
    (sym (list_any_more (λ (t : Transition). is_edge t.start t.end b) c.args.transitions.now c.loop-transition.transition-index c.transition-item.result
    (omega arith)))

pub returns : goal.returns
returns c = λ b lt.
    c.loop-transition.invariant b lt ∙ ap (λ ts. transitions_end ts b || get_or c.args.set.now b false)
    (take_all c.loop-transition.transition-index c.args.transitions.now (omega arith))
