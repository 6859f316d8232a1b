-- What a search under `All` adds to a set of patterns.
use Rattle.std.specs.Prelude.{◌≡◌, ℕ, ◌≤◌, ◌<◌, Bool, true, false, List, length}
use Rattle.rx_model.specs.Search.{is_permitted}
use Rattle.rx_search.specs.Input.{InputValue}
use Rattle.rx_search.specs.PatternSet.{has}
use Rattle.rx_search.specs.Sets.{KeepsMembers}
use Rattle.rx_nfa.specs.Nfa.{Nfa}
use Rattle.rx_nfa.specs.Ordered.{has as stands_in}
use Rattle.rx_dfa.specs.Search.{HasRunIn, IsEnd}

-- These patterns were added to the set, where a match may end, and nothing else changed.
pub record AddsTold (may : Bool) (patterns : List ℕ) (old new : List Bool) : Type 0 where
  pub kept : KeepsMembers old new
  pub added : may ≡ true → (p : ℕ) → stands_in patterns p ≡ true → has new p ≡ true
  pub gained : (p : ℕ) → has old p ≡ false → has new p ≡ true → (may ≡ true) × (stands_in patterns p ≡ true)

-- Nothing was taken out of the set, and each pattern that was added has a run which ends in the span, where a match may end.
pub record AddsEnds (nfa : Nfa) (v : InputValue) (old new : List Bool) : Type 0 where
  pub kept : KeepsMembers old new
  pub gained : (p : ℕ) → has old p ≡ false → has new p ≡ true → (e : ℕ) × IsEnd nfa v (record { pattern = p; offset = e })

-- each pattern of the NFA with a run that ends in the span before this place, where a match may end, is in the set
abbrev pub HasEndsTo : Nfa → InputValue → (place : ℕ) → (set : List Bool) → Type 0
HasEndsTo nfa v place set =
    (p e : ℕ) → p < length nfa.starts → v.start ≤ e → e < place → is_permitted nfa.utf8 v.haystack e ≡ true → HasRunIn nfa v p e → has set p ≡ true
