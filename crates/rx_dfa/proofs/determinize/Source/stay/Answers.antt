use Rattle.std.proofs.Common.{◌∙◌, ap}
use Rattle.std.specs.Prelude.{Bool}
use Rattle.rx_model.specs.Look as model
use Rattle.rx_nfa.specs.Ordered.{threads_from}
use Rattle.rx_dfa.specs.Beside.{known}
use Rattle.rx_dfa.proofs.determinize.Source.stay.Goals as goal

pub returns-clause-threads : goal.returns-clause-threads
returns-clause-threads c =
    let s = c.args.self.now in
    c.in_ok-threads_from.ensures.threads ∙ ap (λ xs. threads_from s.states.now (known s.matcher c.along.result) xs) c.as_slice.ensures.value
    ∙ ap (λ (holding : model.Look → Bool). threads_from s.states.now holding c.args.key.now.threads.items) (c.along.ensures s.matcher)
