use Rattle.std.proofs.Common.{◌≡◌, ℕ, zero, suc, ◌+◌, ◌<◌, ◌∙◌, refl, sym, ap, get_or, take, arith}
use Rattle.std.specs.Prelude.{Bool, false, ◌||◌, if◌then◌else◌}
use Rattle.std.proofs.lemmas.List.{take_all}
use Rattle.std.proofs.lemmas.List.Folds.{list_any_more}
use Rattle.rx_search.specs.ByteClasses.{class_of}
use Rattle.rx_nfa.specs.ByteClasses.{state_ends, class_ends, AreClassesOf}
use Rattle.rx_nfa.proofs.byte_classes.classes_of.Goals as goal
use Rattle.std.proofs.Math.Bool.{or_comm}

pub loop-state-init : goal.loop-state-init
loop-state-init c = λ b lt. c.new-set.ensures b

pub loop-state-preserved : goal.loop-state-preserved
loop-state-preserved c = λ b lt.
    c.add_state.ensures b lt
    ∙ ap (λ x. state_ends c.args.terminator c.state-item.result b || x) (c.loop-state.invariant b lt)
    ∙ ap (λ s. state_ends c.args.terminator s b || class_ends c.args.terminator (take c.loop-state.state-index c.args.states.now) b) c.state-item.is
    ∙ or_comm (state_ends c.args.terminator (get_or c.args.states.now c.loop-state.state-index c.state-item.result) b)
    (class_ends c.args.terminator (take c.loop-state.state-index c.args.states.now) b)
    ∙ sym (list_any_more (λ s. state_ends c.args.terminator s b) c.args.states.now c.loop-state.state-index c.state-item.result (omega arith))

-- two tests that agree on the bytes give the same classes
class_of-alike : (f g : ℕ → Bool) (b : ℕ) → b < 256 → ((e : ℕ) → e < 256 → f e ≡ g e) → class_of f b ≡ class_of g b
unfolding class_of
class_of-alike f g zero lt same = refl
class_of-alike f g (suc b) lt same = λ i. class_of-alike f g b (omega arith) same i + (if same b (omega arith) i then 1 else 0)

pub returns : goal.returns
unfolding AreClassesOf
returns c = (
  c.byte_classes.ensures.classes,
  λ b lt.
      (let are = c.byte_classes.ensures.classes in
      let small : b < 256 = (let len = are.len in omega arith) in
      c.byte_classes.ensures.value b lt
      ∙ class_of-alike (λ e. get_or c.loop-state.set e false) (λ e. class_ends c.args.terminator c.args.states.now e) b small
      (λ e below. c.loop-state.invariant e below ∙ ap (λ ss. class_ends c.args.terminator ss e)
      (take_all c.loop-state.state-index c.args.states.now (omega arith)))),
)
