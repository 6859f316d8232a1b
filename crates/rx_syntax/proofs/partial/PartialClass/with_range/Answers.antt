use Rattle.std.proofs.Common.{[], ◌∷◌, ◌++◌, ◌∙◌, ap}
use Rattle.rx_class.specs.Ranges.{next_scalar, fewest}
use Rattle.rx_class.proofs.EarlyLemmas.{both-ends, fewest-front}
use Rattle.rx_syntax.proofs.lemmas.sets.HeldLemmas.{sets-held}
use Rattle.rx_syntax.proofs.partial.PartialClass.with_range.Goals as goal

pub returns : goal.returns
returns c ranges is =
    let own = (c.args.low, c.args.high) ∷ [] in
    let ends = c.in_ok-members.ensures.ends in
    record {
      ends = both-ends ranges own is.ends ends;
      members = c.in_ok-members.ensures.value ∙ ap (λ xs. fewest next_scalar (xs ++ own)) is.members ∙ fewest-front ranges own is.ends ends;
      sets = sets-held ranges own is.ends ends c.args.self.sets.items is.sets;
    }
