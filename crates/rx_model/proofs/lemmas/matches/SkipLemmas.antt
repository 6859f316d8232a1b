-- A start that is not permitted, or from which nothing is found, may be skipped.
use Rattle.std.proofs.Common.{◌≡◌, ℕ, zero, suc, ◌+◌, ◌-◌, ◌≤◌, ◌<◌, List, IsTrue, refl, ◌∙◌, ap, arith}
use Rattle.std.specs.Prelude.{Bool, true, false, if◌then◌else◌, nat_lt, Option, None, option_map}
use Rattle.std.specs.Option.{option_or}
use Rattle.std.proofs.lemmas.Bool.Decides.{nat_tests}
use Rattle.rx_model.specs.Runs.{Trace}
use Rattle.rx_model.specs.Search.{Patterns, Match, free, starts, is_permitted, starting_at, first_start, next_match}
use Rattle.rx_model.proofs.lemmas.runs.RunLemmas.{by_test}

first_start-skip : (permitted : ℕ → Bool) (from : ℕ → Option Trace) (n i : ℕ) → (IsTrue (permitted i) → from i ≡ None)
    → first_start permitted from (suc n) i ≡ first_start permitted from n (i + 1)
unfolding first_start
first_start-skip permitted from n i none = nothing (permitted i) (from i) none (first_start permitted from n (i + 1))
  where
    nothing : (b : Bool) (t : Option Trace) → (IsTrue b → t ≡ None) → (o : Option Match)
        → option_or (if b then option_map (λ t. record { start = i; trace = t }) t else None) o ≡ o
    nothing true t none o = ap (λ t. option_or (option_map (λ t. record { start = i; trace = t }) t) o) (none refl)
    nothing false t none o = refl

nowhere : (permitted : ℕ → Bool) (from : ℕ → Option Trace) (i j : ℕ) → first_start permitted from 0 i ≡ first_start permitted from 0 j
unfolding first_start
nowhere permitted from i j = refl

starts-next : (a b : ℕ) → a ≤ b → starts free a b ≡ suc (starts free (a + 1) b)
starts-next a b le =
    let here : nat_lt b a ≡ false = grind (arith, nat_tests) in
    by_test (nat_lt b (a + 1))
    (λ e. let same : b ≡ a = grind (arith, nat_tests) in let one : b + 1 - a ≡ 1 = omega arith in rw (here, e) one)
    (λ e. let less : a + 1 ≤ b = grind (arith, nat_tests) in let one : b + 1 - a ≡ suc (b + 1 - (a + 1)) = omega arith in rw (here, e) one)

module _ (r : Patterns) (text : List ℕ) (b : ℕ) where
  module _ (a : ℕ) (none : IsTrue (is_permitted r.utf8_empty text a) → starting_at r text b free a ≡ None) where
    skip-one : next_match r text free b a ≡ next_match r text free b (a + 1)
    unfolding next_match
    skip-one =
        by_test (nat_lt b a)
        (λ e. let e' : nat_lt b (a + 1) ≡ true = grind (arith, nat_tests) in
        rw (e, e') (nowhere (is_permitted r.utf8_empty text) (starting_at r text b free) a (a + 1)))
        (λ e.
        ap (λ n. first_start (is_permitted r.utf8_empty text) (starting_at r text b free) n a) (starts-next a b (grind (arith, nat_tests)))
        ∙ first_start-skip (is_permitted r.utf8_empty text) (starting_at r text b free) (starts free (a + 1) b) a none)

  skip-many : (n a : ℕ) → ((j : ℕ) → a ≤ j → j < a + n → IsTrue (is_permitted r.utf8_empty text j) → starting_at r text b free j ≡ None)
      → next_match r text free b a ≡ next_match r text free b (a + n)
  skip-many zero a none = let same : a ≡ a + 0 = omega arith in ap (next_match r text free b) same
  skip-many (suc n) a none =
      let place : a + 1 + n ≡ a + suc n = omega arith in
      skip-one a (none a (omega arith) (omega arith))
      ∙ skip-many n (a + 1) (λ j low high. none j (omega arith) (omega arith))
      ∙ ap (next_match r text free b) place

  pub skip-to : (a c : ℕ) → a ≤ c → ((j : ℕ) → a ≤ j → j < c → IsTrue (is_permitted r.utf8_empty text j) → starting_at r text b free j ≡ None)
      → next_match r text free b a ≡ next_match r text free b c
  skip-to a c le none =
      let place : a + (c - a) ≡ c = omega arith in
      skip-many (c - a) a (λ j low high. none j low (omega arith)) ∙ ap (next_match r text free b) place
