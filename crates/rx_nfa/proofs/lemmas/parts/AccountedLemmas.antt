-- The states of a part are those that are accounted for it.
use Rattle.std.proofs.Common.{◌≡◌, ℕ, zero, suc, ◌+◌, ◌-◌, ◌*◌, ◌≤◌, ◌<◌, List, [], ◌∷◌, refl, ap, arith, true, false, Option, Some, None, length, get_or, drop}
use Rattle.std.specs.Prelude.{nat_lt, ◌||◌, max, min, IfSome}
use Rattle.std.proofs.Math.Nat.{mul-le-mul_right}
use Rattle.std.proofs.lemmas.Bool.Decides.{nat_tests}
use Rattle.rx_model.specs.Expression.{Expression}
use Rattle.rx_model.specs.Text.{scalar_ranges}
use Rattle.rx_model.proofs.lemmas.runs.RunLemmas.{by_test}
use Rattle.rx_hir.specs.Cost.{states_of_part, states_of_class, states_of_copies, accounted_states, accounted_in}
use Rattle.rx_hir.specs.Normal.{expressions}
use Rattle.rx_class.specs.Ranges.{AreScalarRanges}
use Rattle.rx_nfa.specs.Ranges.{RisesFrom, clip, cost_of_parts, cost_of_class}
use Rattle.rx_nfa.specs.Repeated.{states_of_tail, leading}
use Rattle.rx_nfa.proofs.lemmas.parts.ExpressionLemmas.{expressions-more}
use Rattle.rx_nfa.proofs.lemmas.classes.RangesLemmas.{AreScalarRanges-rise}

-- the part of a range more
part-more : (n low high : ℕ) (r : ℕ × ℕ) (rs : List (ℕ × ℕ)) → low ≤ high → r.0 ≤ r.1
    → cost_of_parts n (clip low high (r ∷ rs)) ≡ states_of_part n low high r + cost_of_parts n (clip low high rs)
unfolding cost_of_parts clip
part-more n low high r rs inside ordered =
    by_test (nat_lt r.1 low || nat_lt high r.0)
    (λ e. let none : nat_lt (min high r.1) (max low r.0) ≡ true = grind (arith, nat_tests) in rw (e, none) (omega arith))
    (λ e. let some : nat_lt (min high r.1) (max low r.0) ≡ false = grind (arith, nat_tests) in rw (e, some) (omega arith))

class-none : cost_of_class [] ≡ 1
unfolding cost_of_class cost_of_parts clip
class-none = refl

class-accounted : (from : ℕ) (rs : List (ℕ × ℕ)) → RisesFrom from rs → cost_of_class rs ≡ states_of_class (scalar_ranges rs)
unfolding cost_of_class
class-accounted from [] rises = class-none
class-accounted from (r ∷ rs) rises =
    let one = part-more 1 0 0x7F r rs (omega arith) rises.1 in
    let two = part-more 2 0x80 0x7FF r rs (omega arith) rises.1 in
    let three = part-more 3 0x800 0xD7FF r rs (omega arith) rises.1 in
    let upper = part-more 3 0xE000 0xFFFF r rs (omega arith) rises.1 in
    let four = part-more 4 0x1_0000 0x10_FFFF r rs (omega arith) rises.1 in
    let rest = class-accounted (r.1 + 1) rs rises.2 in
    omega arith

-- what `compile_class` may add
pub cost_of_class-accounted : (rs : List (ℕ × ℕ)) → AreScalarRanges rs → cost_of_class rs ≡ states_of_class (scalar_ranges rs)
cost_of_class-accounted rs fewest = class-accounted 0 rs (AreScalarRanges-rise rs fewest)

-- one copy more of a body of n states
pub times-more : (k m n : ℕ) → k < m → k * n + n ≤ m * n
times-more k m n lt = let more : suc k * n ≤ m * n = mul-le-mul_right n lt in omega arith

options-accounted : (k m n : ℕ) → k ≤ m → k * n + (m - k) * (n + 1) ≤ m * n + (m - k) + 1
options-accounted k m n le =
    let all : k + (m - k) ≡ m = omega arith in
    let same : (k + (m - k)) * n ≡ m * n = ap (λ x. x * n) all in
    let parts = each-accounted k (m - k) n in
    omega arith
  where
    each-accounted : (k d n : ℕ) → k * n + d * (n + 1) ≤ (k + d) * n + d + 1
    each-accounted k d n = omega arith

-- a repetition is its leading copies and its tail
pub copies-accounted : (min : ℕ) (max : Option ℕ) (n : ℕ) → IfSome max (λ m. min ≤ m)
    → leading min max * n + states_of_tail min max n ≤ states_of_copies min max n
copies-accounted zero None n ordered = omega arith
copies-accounted (suc k) None n ordered = omega arith
copies-accounted zero (Some m) n ordered = options-accounted zero m n ordered
copies-accounted (suc k) (Some m) n ordered = options-accounted (suc k) m n ordered

-- what follows the copies has the states of a loop, and one more where no copy must be there
pub tail-least : (min n : ℕ) → n + 1 ≤ states_of_tail min None n
tail-least zero n = omega arith
tail-least (suc k) n = omega arith

pub tail-none : (min n : ℕ) → min ≡ 0 → states_of_tail min None n ≡ n + 2
tail-none min n none = ap (λ k. states_of_tail k None n) none

-- one expression more, from the back
pub accounted_in-more : (hs : List Expression) (k : ℕ) (h d : Expression) → 0 < k → k ≤ length hs → h ≡ get_or hs (k - 1) d
    → accounted_in (expressions (drop (k - 1) hs)) ≡ accounted_states h + accounted_in (expressions (drop k hs))
accounted_in-more hs k h d some le is = ap accounted_in (expressions-more hs k h d some le is)

pub accounted_in-least : (hs : List Expression) (k : ℕ) → accounted_in (expressions (drop k hs)) ≤ accounted_in (expressions hs)
accounted_in-least hs zero = omega arith
accounted_in-least [] (suc k) = omega arith
accounted_in-least (h ∷ hs) (suc k) = let later = accounted_in-least hs k in omega arith
