use Rattle.std.proofs.Common.{ℕ, List, ◌++◌, ◌∙◌, ap, subst, sym}
use Rattle.std.specs.Prelude.{All}
use Rattle.rx_class.specs.Ranges.{next_scalar, fewest, HaveScalarEnds}
use Rattle.rx_class.proofs.EarlyLemmas.{both-ends, fewest-front}
use Rattle.rx_syntax.specs.Named.{scalars_of}
use Rattle.rx_syntax.specs.Partial.{IsHeld}
use Rattle.rx_syntax.proofs.lemmas.sets.HeldLemmas.{set-held}
use Rattle.rx_syntax.proofs.partial.PartialClass.with_new_set.Goals as goal

pub returns : goal.returns
returns c ranges is =
    let own = scalars_of c.args.key in
    let same = c.in-Ok.ensures in
    let ends : HaveScalarEnds own = subst HaveScalarEnds same c.in_ok-members.ensures.ends in
    record {
      ends = both-ends ranges own is.ends ends;
      members = c.in_ok-members.ensures.value ∙ ap (λ (ys : List (ℕ × ℕ)). fewest next_scalar (c.args.self.members ++ ys)) same
          ∙ ap (λ xs. fewest next_scalar (xs ++ own)) is.members ∙ fewest-front ranges own is.ends ends;
      sets = subst (All (IsHeld (ranges ++ own))) (sym c.in_ok-push.ensures.items) (set-held ranges c.args.key is.ends ends c.args.self.sets.items is.sets);
    }
