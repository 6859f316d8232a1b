use Rattle.std.proofs.Common.{length, sym, subst}
use Rattle.rx_nfa.specs.Ordered.{AreBelow}
use Rattle.rx_dfa.proofs.lemmas.KeyLemmas.{counting-below}
use Rattle.rx_dfa.proofs.determinize.Source.settle.Goals as goal

pub returns-clause-below : goal.returns-clause-below
returns-clause-below c =
    let s = c.args.self.now in
    subst (AreBelow (length s.states.now)) (sym c.cut.ensures)
    (counting-below (length s.states.now) s.kind s.states.now c.args.key.now.threads.items c.requires.below)
