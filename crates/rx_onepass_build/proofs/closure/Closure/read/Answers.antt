use Rattle.std.proofs.Common.{◌∷◌, ◌∙◌, ap, refl}
use Rattle.std.specs.Prelude.{is_some}
use Rattle.std.proofs.lemmas.Result.{IfOk-weaker}
use Rattle.rx_onepass_build.proofs.lemmas.FillingLemmas.{told-wins, filling-end}
use Rattle.rx_onepass_build.proofs.closure.Closure.read.Goals as goal

pub returns-clause-cells : goal.returns-clause-cells
returns-clause-cells c =
    IfOk-weaker c.add_steps.result _ _
    (λ u f done way taken told h.
    filling-end c.args.job.now c.add_steps.new.entries.items.items c.args.self.now.entry done (way ∷ done) c.add_steps.new.cells.items
    (f done way (record {
      is_way = taken.is_way;
      wins = told-wins c.args.job.now.nfa.now c.args.self.now.entry done way c.args.frame c.args.self.now.told c.is_some-wins.result
          (c.is_some-wins.ensures ∙ ap is_some c.pattern.ensures) taken told;
    }) h))
    c.add_steps.ensures.cells

pub returns-clause-err : goal.returns-clause-err
returns-clause-err c done way taken told h =
    c.add_steps.ensures.err done way (record {
      is_way = taken.is_way;
      wins = told-wins c.args.job.now.nfa.now c.args.self.now.entry done way c.args.frame c.args.self.now.told c.is_some-wins.result
          (c.is_some-wins.ensures ∙ ap is_some c.pattern.ensures) taken told;
    }) h

pub add_steps-requires-clause-inside : goal.add_steps-requires-clause-inside
add_steps-requires-clause-inside c = c.requires.inside

pub add_steps-requires-clause-job : goal.add_steps-requires-clause-job
add_steps-requires-clause-job c = c.requires.job

pub add_steps-requires-clause-met : goal.add_steps-requires-clause-met
add_steps-requires-clause-met c = c.requires.met

pub add_steps-requires-clause-numbers : goal.add_steps-requires-clause-numbers
add_steps-requires-clause-numbers c = c.requires.numbers

pub add_steps-requires-clause-small : goal.add_steps-requires-clause-small
add_steps-requires-clause-small c = c.requires.small

pub add_steps-requires-clause-width : goal.add_steps-requires-clause-width
add_steps-requires-clause-width c = c.requires.width

pub pattern-requires : goal.pattern-requires
pattern-requires c = tt

pub returns-clause-entry : goal.returns-clause-entry
returns-clause-entry c = IfOk-weaker c.add_steps.result _ _ (λ _ _. refl) c.add_steps.ensures.met

pub returns-clause-frames : goal.returns-clause-frames
returns-clause-frames c = IfOk-weaker c.add_steps.result _ _ (λ _ _. refl) c.add_steps.ensures.met

pub returns-clause-marks : goal.returns-clause-marks
returns-clause-marks c = IfOk-weaker c.add_steps.result _ _ (λ _ _. refl) c.add_steps.ensures.met

pub returns-clause-met : goal.returns-clause-met
returns-clause-met c = c.add_steps.ensures.met

pub returns-clause-of : goal.returns-clause-of
returns-clause-of c = c.add_steps.ensures.of

pub returns-clause-row : goal.returns-clause-row
returns-clause-row c = IfOk-weaker c.add_steps.result _ _ (λ _ _. refl) c.add_steps.ensures.met

pub returns-clause-told : goal.returns-clause-told
returns-clause-told c = IfOk-weaker c.add_steps.result _ _ (λ _ _. refl) c.add_steps.ensures.met
