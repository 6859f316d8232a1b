-- What trees that come in place of unions of chains leave as it was.
use Rattle.std.specs.Prelude.{◌≡◌, ℕ, suc, ◌≤◌, ◌<◌, ◌⊎◌, List, length}
use Rattle.rx_nfa.specs.Automaton.{state_at}
use Rattle.rx_nfa.specs.Named.{first_in, last_in}
use Rattle.rx_nfa.specs.Prefixes.{HasSameRuns, LeadsInto, Reads, IsOutside}
use Rattle.rx_nfa.specs.Trees.{IsTarget}
use Rattle.rx_nfa.specs.declared.prefixes.named.Named.{Named}
use Rattle.rx_nfa.specs.declared.state.State.{State}
use Rattle.rx_nfa.specs.declared.state.State.TheVariants.{Union}

-- The states below `done` may have other ones in their place; from there on all are as they were. From where a start stands the first runs
-- are as they were.
pub record Sharing (named : List Named) (old new : List State) (done : ℕ) : Type 0 where
  pub long : length new ≡ length old
  pub fresh : (r : ℕ) → done ≤ r → state_at new r ≡ state_at old r
  -- what is still come to from below was come to from below
  pub led : (r : ℕ) → r < done → LeadsInto (λ t. done ≤ t → first_in named t < done) (state_at new r)
  pub same : (s : ℕ) → s < length old → length old ≤ last_in named s → HasSameRuns old new s

-- The root is a union of states that read the words, and between low and the root some states have other ones in their place, which lead
-- to each other and to `next`.
pub record IsPlanted (old new : List State) (low root next : ℕ) (words : List (List ℕ)) : Type 0 where
  pub long : length new ≡ length old
  pub kept : (r : ℕ) → IsOutside low (suc root) r → state_at new r ≡ state_at old r
  pub starts : List ℕ
  pub is : state_at new root ≡ Union starts
  pub reads : Reads new low root next starts words
  pub led : (r : ℕ) → low ≤ r → r ≤ root → (state_at new r ≡ state_at old r) ⊎ LeadsInto (IsTarget root next) (state_at new r)
