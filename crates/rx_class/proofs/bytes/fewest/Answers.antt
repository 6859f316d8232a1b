use Rattle.std.proofs.Common.{ℕ, List, ◌∙◌, ap, sym, arith}
use Rattle.std.proofs.lemmas.List.{drop_all}
use Rattle.rx_class.specs.Merged.{add_all}
use Rattle.rx_class.specs.Ranges.{next_byte}
use Rattle.rx_class.proofs.bytes.fewest.Goals as goal

pub loop-low-init : goal.loop-low-init
loop-low-init c = ap (λ (xs : List (ℕ × ℕ)). add_all next_byte xs c.args.sorted.now) c.new-found.ensures.items

pub returns : goal.returns
returns c =
    sym (ap (add_all next_byte c.loop-low.found.items) (drop_all c.loop-low.low-index c.args.sorted.now (omega (arith, c.loop-low-test.false))))
    ∙ c.loop-low.invariant
