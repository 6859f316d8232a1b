-- Prefix trees in the making.
use Rattle.std.specs.Prelude.{◌≡◌, ℕ, ◌+◌, ◌≤◌, ◌<◌, ◌⊎◌, List, [], ◌∷◌, length, All, Option, Some, None}
use Rattle.rx_search.specs.Limits.{id_limit}
use Rattle.rx_nfa.specs.Prefixes.{IsBranch, TreeReads, Grows}
use Rattle.rx_nfa.specs.declared.prefixes.tree.Tree.{Tree}

-- a state below top, or the one that the tree leads to
abbrev pub IsTarget : (top next : ℕ) → ℕ → Type 0
IsTarget top next q = (q < top) ⊎ (q ≡ next)

-- a target of the tree
abbrev pub IsTargetOf : Tree → ℕ → Type 0
IsTargetOf t = IsTarget (t.low + t.room) t.next

-- its states are no more than there is room for, and go on to its targets alone
pub record IsTree (t : Tree) : Type 0 where
  pub few : length t.states.items ≤ t.room
  pub fits : t.low + t.room ≤ id_limit
  pub branches : All (IsBranch (IsTargetOf t)) t.states.items

-- states were added to the tree
pub record Grown (old new : Tree) : Type 0 where
  pub low : new.low ≡ old.low
  pub room : new.room ≡ old.room
  pub next : new.next ≡ old.next
  pub states : Grows old.states.items new.states.items

-- these states of the tree read the words, in order
pub record ReadsByTree (t : Tree) (starts : List ℕ) (words : List (List ℕ)) : Type 0 where
  pub reads : TreeReads t.low t.states.items t.next starts words
  pub targets : All (IsTargetOf t) starts

-- this state reads the words; without one there are none
abbrev pub LeadsByTree : Tree → Option ℕ → (words : List (List ℕ)) → Type 0
LeadsByTree t None words = words ≡ []
LeadsByTree t (Some q) words = ReadsByTree t (q ∷ []) words
