use Rattle.std.proofs.Common.{ℕ, List, ◌∙◌, ap, sym, arith}
use Rattle.std.specs.Char.{IsScalar}
use Rattle.std.proofs.lemmas.List.{drop_all}
use Rattle.std.proofs.lemmas.List.Elements.{All-from_get_or}
use Rattle.rx_class.specs.Merged.{add_all}
use Rattle.rx_class.specs.Ranges.{next_scalar}
use Rattle.rx_class.proofs.scalars.fewest.Goals as goal

abbrev HasEnds : ℕ × ℕ → Type 0
HasEnds r = IsScalar r.0 × IsScalar r.1

pub loop-low-init : goal.loop-low-init
loop-low-init c = record {
  so_far = ap (λ (xs : List (ℕ × ℕ)). add_all next_scalar xs c.args.sorted.now) c.new-found.ensures.items;
  ends = λ k d none. absurd (omega (arith, none));
}

pub returns-clause-value : goal.returns-clause-value
returns-clause-value c =
    sym (ap (add_all next_scalar c.loop-low.found.items) (drop_all c.loop-low.low-index c.args.sorted.now (omega (arith, c.loop-low-test.false))))
    ∙ c.loop-low.invariant.so_far

pub returns-clause-ends : goal.returns-clause-ends
returns-clause-ends c =
    All-from_get_or HasEnds c.args.sorted.now (0, 0) (λ k lt. c.loop-low.invariant.ends k (0, 0) (omega (arith, lt, c.loop-low-test.false)))
