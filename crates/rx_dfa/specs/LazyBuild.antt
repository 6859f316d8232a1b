-- What the building of a lazy DFA answers.
use Rattle.std.specs.Prelude.{◌≡◌, ℕ, ◌^◌, ◌<◌, ◌≤◌, Bool, true, false, EachIndex, slice_index}
use Rattle.rx_model.specs.Look.{Look}
use Rattle.rx_search.specs.ByteClasses.{alphabet_len, IsLeastPower}
use Rattle.rx_search.specs.LookSet.{has}
use Rattle.rx_search.specs.declared.anchored.MatchKind.{MatchKind}
use Rattle.rx_nfa.specs.Nfa.{Nfa}
use Rattle.rx_dfa.specs.Lazy.{LazyValue, IsLazySound, minimum}
use Rattle.rx_dfa.specs.declared.lazy.build_error.BuildError.{BuildError}
use Rattle.rx_dfa.specs.declared.lazy.build_error.BuildError.TheVariants.{CacheTooSmall, Memory}

-- It is sound, of this NFA and kind, with this capacity, which is not below the minimum, and with the NFA's classes or one for
-- each byte. It keeps the class of the last byte exactly where the NFA asks for look-around, and a row is as short as the classes
-- allow.
pub record IsLazyOf (nfa : Nfa) (kind : MatchKind) (byte_classes : Bool) (capacity : ℕ) (l : LazyValue) : Type 0 where
  pub sound : IsLazySound l
  pub nfa_is : l.dfa.nfa ≡ nfa
  pub kind_is : l.dfa.kind ≡ kind
  pub capacity_is : l.capacity ≡ capacity
  pub enough : minimum nfa ≤ capacity
  pub own : byte_classes ≡ true → l.dfa.classes ≡ nfa.classes
  pub single : byte_classes ≡ false → EachIndex l.dfa.classes (λ b. slice_index l.dfa.classes b ≡ b)
  pub keeps : l.dfa.keeps ≡ false → (look : Look) → has nfa.looks look ≡ false
  pub asks : l.dfa.keeps ≡ true → (look : Look) × (has nfa.looks look ≡ true)
  pub stride2 : ℕ
  pub power : IsLeastPower (alphabet_len l.dfa.classes) stride2
  pub stride_is : l.stride ≡ 2 ^ stride2

-- the capacity is below the minimum; or there was no memory, and it is not
abbrev pub LazyFails : Nfa → (capacity : ℕ) → BuildError → Type 0
LazyFails nfa capacity (CacheTooSmall least given) = (least ≡ minimum nfa) × (given ≡ capacity) × (capacity < minimum nfa)
LazyFails nfa capacity Memory = minimum nfa ≤ capacity
