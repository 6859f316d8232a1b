-- What the lock of a stack keeps of the values on it.
use Rattle.std.specs.Prelude.{◌≡◌, ◌≢◌, ℕ, ◌<◌, List, [], ◌∷◌, length, slice_index}
use mathlib.Core.Option.{some}
use lib.ListN.{get_elem?}
use Rattle.atomic_table.specs.Table.{State, Me}
use Rattle.rx_util.specs.Stack.{StackValue}

-- each of these numbered values is one that the maker stands for
abbrev pub AreMade : {T : Type 0} → (T → Type 0) → List (ℕ × T) → Type 0
AreMade made [] = Unit {0}
AreMade made (e ∷ es) = made e.1 × AreMade made es

-- While the word is 0 the stack lies in its slot, and each value on it is one that the maker stands for.
pub record KeepsMade {T M : Type 0} (made : T → Type 0) (s : State (StackValue T) M) : Type 0 where
  pub word : 0 < length s.words
  pub slot : length s.homes ≡ 1
  pub free : slice_index s.words 0 ≡ 0 → (stack : StackValue T) × (get_elem? s.homes 0 ≡ some (some stack)) × AreMade made stack.stored

-- who holds the lock has the stack
abbrev pub HasStack : {T M : Type 0} → (T → Type 0) → Me (StackValue T) M → Type 0
HasStack {T} made me = (stack : StackValue T) × (me.1 ≡ (0, stack) ∷ []) × AreMade made stack.stored

-- where the step found the word 0, it got the stack; else it has got nothing
pub record Holds {T M : Type 0} (made : T → Type 0) (before : Me (StackValue T) M) (found : ℕ) (after : Me (StackValue T) M) : Type 0 where
  pub same : after.0 ≡ before.0
  pub gets : found ≡ 0 → before.1 ≡ [] → HasStack made after
  pub waits : found ≢ 0 → after.1 ≡ before.1
