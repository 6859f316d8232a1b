-- Tests of a size, where numbers are told up to the greatest of 64 bits.
use Rattle.std.proofs.Common.{◌≡◌, ℕ, ◌-◌, ◌*◌, ◌^◌, ◌<◌, Bool, ◌&&◌, List, length, sym, ap, ◌∙◌, arith}
use Rattle.std.specs.Prelude.{nat_le}
use Rattle.std.proofs.lemmas.Bool.Decides.{nat_tests}
use Rattle.rx_model.specs.Expression.{Expression}
use Rattle.rx_hir.specs.Cost.{capped, nfa_states, slots_of}
use Rattle.rx_syntax.specs.Weight.{weights_of}
use Rattle.rx_syntax.specs.declared.weight.Weights.{Weights}
use Rattle.rx_scan.specs.Patterns.{fit, are_small}

-- a test that a number is at most another one, below the greatest
capped-le : (n limit : ℕ) → limit < 2 ^ 64 - 1 → nat_le (capped n) limit ≡ nat_le n limit
capped-le n limit lt = grind (arith, nat_tests)

cost-le : (n : ℕ) → (nat_le (capped n) 2147483647 && nat_le (32 * capped n) 10485760) ≡ (nat_le n 2147483647 && nat_le (32 * n) 10485760)
cost-le n = grind (arith, nat_tests)

pub capped-fit : (patterns slots states : ℕ) → fit patterns (capped slots) (capped states) ≡ fit patterns slots states
capped-fit patterns slots states =
    ap (λ b. (nat_le patterns 2147483647 && b) && (nat_le (capped states) 2147483647 && nat_le (32 * capped states) 10485760))
    (capped-le slots 2147483646 (omega arith))
    ∙ ap (λ b. (nat_le patterns 2147483647 && nat_le slots 2147483646) && b) (cost-le states)

pub small-weights : (hs : List Expression) (w : Weights) (count : ℕ) (b : Bool) → w ≡ weights_of hs → length hs ≡ count → b ≡ fit count w.slots w.states
    → b ≡ are_small hs
small-weights hs w count b is counted e =
    e ∙ ap (λ (v : Weights). fit count v.slots v.states) is ∙ capped-fit count (slots_of hs) (nfa_states hs)
    ∙ ap (λ n. fit n (slots_of hs) (nfa_states hs)) (sym counted)
