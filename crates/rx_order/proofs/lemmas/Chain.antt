-- Units of a text in a row, each of them in a class or each of them not.
use Rattle.std.proofs.Common.{◌≡◌, ℕ, zero, suc, ◌+◌, ◌<◌, ◌≤◌, Bool, Option, Some, refl, sym, subst, arith}
use Rattle.std.specs.Prelude.{nat_lt, nat_eq}
use Rattle.std.proofs.lemmas.Bool.Decides.{nat_tests}
use Rattle.rx_model.specs.Meaning.{Pieces}
use Rattle.rx_model.proofs.lemmas.runs.RunLemmas.{by_test}

-- no unit begins inside another
abbrev pub AreUnits : (ℕ → Option ℕ) → Type 0
AreUnits unit = (i n k m : ℕ) → unit i ≡ Some n → unit k ≡ Some m → i < k → k < i + n → ⊥

-- each unit takes some byte
abbrev pub AreLong : (ℕ → Option ℕ) → Type 0
AreLong unit = (i n : ℕ) → unit i ≡ Some n → 1 ≤ n

module _ (unit : ℕ → Option ℕ) (is_in : ℕ → Bool) where
  -- one unit leads from i to j, and whether it is in the class
  abbrev pub Step : Bool → ℕ → ℕ → Type 0
  Step b i j = (n : ℕ) × (unit i ≡ Some n) × (is_in i ≡ b) × (i + n ≡ j)

  -- units in a row, each of them in the class, or each not
  abbrev pub Chain : Bool → ℕ → ℕ → Type 0
  Chain b i j = (count : ℕ) × Pieces (Step b) count i j

  -- a unit begins at i, and whether it is in the class
  abbrev pub UnitAt : Bool → ℕ → Type 0
  UnitAt b i = (n : ℕ) × (unit i ≡ Some n) × (is_in i ≡ b)

  pub chain-empty : (b : Bool) (i j : ℕ) → i ≡ j → Chain b i j
  chain-empty b i j e = (zero, e)

  pub chain-one : (b : Bool) (i j : ℕ) → Step b i j → Chain b i j
  chain-one b i j s = (suc zero, (j, s, refl))

  pub chain-join : (b : Bool) (i k j : ℕ) → Chain b i k → Chain b k j → Chain b i j
  chain-join b i k j first later = join first.0 i first.1
    where
      join : (count i : ℕ) → Pieces (Step b) count i k → Chain b i j
      join zero i e = subst (λ d. Chain b d j) (sym e) later
      join (suc count) i h = let rest = join count h.0 h.2 in (suc rest.0, (h.0, h.1, rest.1))

  -- where a chain that isn't empty begins
  pub chain-head : (b : Bool) (i j : ℕ) → Chain b i j → i < j → UnitAt b i
  chain-head b i j h lt = head h.0 h.1
    where
      head : (count : ℕ) → Pieces (Step b) count i j → UnitAt b i
      head zero e = absurd (omega arith)
      head (suc count) h = (h.1.0, h.1.1, h.1.2)

  module _ (units : AreUnits unit) where
    -- a unit that begins within a chain is one of it
    pub locate : (b : Bool) (i j k m : ℕ) → Chain b i j → unit k ≡ Some m → i ≤ k → k < j → is_in k ≡ b
    locate b i j k m h u low high = find h.0 i h.1 low
      where
        find : (count i : ℕ) → Pieces (Step b) count i j → i ≤ k → is_in k ≡ b
        find zero i e low = absurd (omega arith)
        find (suc count) i h low =
            by_test (nat_eq i k)
            (λ e. let same : i ≡ k = grind (arith, nat_tests) in subst (λ d. is_in d ≡ b) same h.1.2)
            (λ e.
            let ends = h.1.3 in
            by_test (nat_lt k h.0)
            (λ f. absurd (units i h.1.0 k m h.1.1 u (grind (arith, nat_tests)) (grind (arith, nat_tests))))
            (λ f. find count h.0 h.2 (grind (arith, nat_tests))))
