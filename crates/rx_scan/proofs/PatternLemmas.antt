-- The size of patterns.
use Rattle.std.proofs.Common.{◌≡◌, ℕ, ◌-◌, ◌*◌, ◌^◌, ◌<◌, Bool, true, false, ◌&&◌, List, length, Some, refl, arith}
use Rattle.std.specs.Prelude.{nat_le}
use Rattle.std.proofs.Math.Nat.{min-le_left}
use Rattle.std.proofs.lemmas.Bool.{le-leb}
use Rattle.std.proofs.lemmas.Bool.Decides.{nat_tests}
use Rattle.rx_model.specs.Expression.{Expression}
use Rattle.rx_hir.specs.Cost.{capped, nfa_states, slots_of}
use Rattle.rx_thompson.specs.declared.error.BuildError.{BuildError as CompilerError}
use Rattle.rx_thompson.specs.declared.error.BuildError.TheVariants.{Syntax, TooManyPatterns, TooManyGroups, TooManyStates, ExceededSizeLimit, Memory as NoMemory}
use Rattle.rx_meta.specs.Build.{AreAllowed, IsRefusal}
use Rattle.rx_scan.specs.Arguments.{config_without}
use Rattle.rx_scan.specs.Patterns.{are_small}
use Rattle.rx_scan.specs.declared.arguments.Off.{Off}

both : (a b : Bool) → a ≡ true → b ≡ true → a && b ≡ true
both a b e f = rw (e, f) refl

first-false : (a b : Bool) → a ≡ false → a && b ≡ false
first-false a b e = rw e refl

second-false : (a b : Bool) → b ≡ false → a && b ≡ false
second-false true b e = e
second-false false b e = refl

-- patterns that a regex is built of under the configuration of a scan
pub small-allowed : (off : Off) (hs : List Expression) → AreAllowed (config_without off) hs → are_small hs ≡ true
small-allowed off hs a =
    both _ _ (both _ _ (le-leb (length hs) 2147483647 a.few.patterns) (le-leb (slots_of hs) 2147483646 a.few.slots))
    (both _ _ (le-leb (nfa_states hs) 2147483647 a.states) (le-leb (32 * nfa_states hs) 10485760 a.size))

above : (n limit : ℕ) → limit < n → nat_le n limit ≡ false
above n limit lt = grind (arith, nat_tests)

-- more patterns, slots, states or cost than there may be
pub big-patterns : (hs : List Expression) → 2147483647 < length hs → are_small hs ≡ false
big-patterns hs lt = first-false _ _ (first-false _ _ (above _ _ lt))

pub big-slots : (hs : List Expression) → 2147483646 < slots_of hs → are_small hs ≡ false
big-slots hs lt = first-false _ _ (second-false _ _ (above _ _ lt))

pub big-states : (hs : List Expression) → 2147483647 < nfa_states hs → are_small hs ≡ false
big-states hs lt = second-false _ _ (first-false _ _ (above _ _ lt))

pub big-cost : (hs : List Expression) → 10485760 < 32 * nfa_states hs → are_small hs ≡ false
big-cost hs lt = second-false _ _ (second-false _ _ (above _ _ lt))

capped-above : (n limit : ℕ) → limit < capped n → limit < n
capped-above n limit lt = omega (arith, lt, min-le_left n (2 ^ 64 - 1))

-- what the compiler refuses under the configuration of a scan, beside want of memory, is too big
pub refused-big : (off : Off) (cause : CompilerError) (hs : List Expression) → IsRefusal (config_without off) (length hs) hs cause → are_small hs ≡ false
refused-big off (Syntax pid err) hs is = absurd is
refused-big off (TooManyPatterns given limit) hs is = big-patterns hs (omega (arith, is.0, is.1, is.2))
refused-big off (TooManyGroups given limit) hs is = big-slots hs (capped-above (slots_of hs) 2147483646 (omega (arith, is.1, is.2, is.3)))
refused-big off (TooManyStates given limit) hs is = big-states hs (capped-above (nfa_states hs) 2147483647 (omega (arith, is.2, is.3, is.4)))
refused-big off (ExceededSizeLimit limit size) hs is =
    let known : 10485760 ≡ limit = (let e : Some 10485760 ≡ Some limit = is.3 in cc) in
    big-cost hs (omega (arith, known, is.4, is.5))
refused-big off NoMemory hs is = absurd is
