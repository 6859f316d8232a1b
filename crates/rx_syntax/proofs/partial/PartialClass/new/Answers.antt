use Rattle.std.proofs.Common.{ℕ, [], sym, subst}
use Rattle.std.specs.Prelude.{All}
use Rattle.std.proofs.lemmas.List.Elements.{All-nil}
use Rattle.std.specs.Char.{IsScalar}
use Rattle.rx_class.specs.Ranges.{fewest}
use Rattle.rx_syntax.specs.Partial.{IsHeld}
use Rattle.rx_syntax.proofs.partial.PartialClass.new.Goals as goal

pub returns : goal.returns
unfolding fewest
returns c = record {
  ends = All-nil (λ (r : ℕ × ℕ). IsScalar r.0 × IsScalar r.1);
  members = c.new.ensures;
  sets = subst (All (IsHeld [])) (sym c.new-2.ensures.items) (All-nil (IsHeld []));
}
