use Rattle.std.proofs.Common.{[], ◌∷◌, ◌++◌, ◌∙◌, ap}
use Rattle.rx_nfa.specs.declared.state.State.TheVariants.{Union}
use Rattle.rx_nfa.proofs.lemmas.prefixes.GrowLemmas.{union-reads}
use Rattle.rx_nfa.proofs.prefixes.tree.join.Goals as goal

pub returns-clause-reads : goal.returns-clause-reads
returns-clause-reads c = λ words all reads.
    union-reads c.args.tree.now c.push.new.self c.args.starts.items words c.in_ok-start.start c.in_ok-start.ensures.grown
    (c.in_ok-start.ensures.states ∙ ap (λ qs. c.args.tree.now.states.items ++ Union qs ∷ []) c.new.ensures) c.in_ok-start.ensures.id
    c.in_ok-start.ensures.tree all reads
