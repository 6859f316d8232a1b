-- What a contract sees of a stack of numbered values.
use Rattle.std.specs.Prelude.{◌≡◌, ℕ, ◌+◌, List, [], ◌∷◌, ◌++◌, map, refl}
use Rattle.std.specs.List.{remove}
use Rattle.std.specs.Coded.{Coded, code_by, coded×, coded_list, coded_ℕ}
use Rattle.rx_util.specs.PoolMachine.{Numbers}

-- the numbered values that are stored, the numbers that are lent, and the next number
pub record StackValue (T : Type 0) : Type 0 where
  pub stored : List (ℕ × T)
  pub lent : List ℕ
  pub next : ℕ

module _ {T : Type 0} where
  abbrev pub stack_code : Coded T → Coded (StackValue T)
  stack_code c =
      code_by (List (ℕ × T) × (List ℕ × ℕ)) (coded× (coded_list (coded× coded_ℕ c)) (coded× (coded_list coded_ℕ) coded_ℕ))
      (λ s. (s.stored, (s.lent, s.next))) (λ p. record { stored = p.0; lent = p.1.0; next = p.1.1 }) (λ _. refl)

  -- its numbers
  abbrev pub numbers_of : StackValue T → Numbers
  numbers_of s = record { stored = map (λ (e : ℕ × T). e.0) s.stored; lent = s.lent; next = s.next }

  -- nothing is stored or lent
  abbrev pub nothing : StackValue T
  nothing = record { stored = []; lent = []; next = 0 }

  -- the last value that was stored was taken, and its number is lent now
  pub record Takes (old new : StackValue T) (answer : ℕ × T) : Type 0 where
    pub last : old.stored ≡ new.stored ++ answer ∷ []
    pub lent : new.lent ≡ old.lent ++ answer.0 ∷ []
    pub next : new.next ≡ old.next

  -- the next number is lent now
  abbrev pub with_next : StackValue T → StackValue T
  with_next s = record s { lent = s.lent ++ s.next ∷ []; next = s.next + 1 }

  -- the value is stored under its number, which stood at this place among those lent
  abbrev pub with_value : StackValue T → (place number : ℕ) → T → StackValue T
  with_value s place number value = record s { stored = s.stored ++ (number, value) ∷ []; lent = remove s.lent place }
