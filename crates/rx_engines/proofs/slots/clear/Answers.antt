use Rattle.std.proofs.Common.{◌∙◌, ap, arith}
use Rattle.std.specs.Prelude.{None, replicate}
use Rattle.rx_engines.proofs.lemmas.answers.SlotLemmas.{all-empty}
use Rattle.rx_engines.proofs.slots.clear.Goals as goal

pub returns : goal.returns
returns c =
    all-empty _ (λ k lt. c.loop-i.invariant.empty k (let e = c.loop-i.invariant.same in omega arith)) ∙ ap (λ n. replicate n None) c.loop-i.invariant.same
