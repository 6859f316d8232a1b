-- What a core's DFAs are to its searches, and what their caches hold.
use Rattle.std.specs.Prelude.{◌≡◌, ℕ, ◌+◌, ◌<◌, ◌≤◌, Bool, true, false, List, length, Option, Some, None, is_some, IfSome, IsSomeAnd}
use Rattle.rx_model.specs.Search.{Patterns}
use Rattle.rx_search.specs.Input.{InputValue}
use Rattle.rx_search.specs.Promise.{Premises}
use Rattle.rx_search.specs.declared.anchored.MatchKind.{MatchKind}
use Rattle.rx_search.specs.declared.anchored.MatchKind.TheVariants.{All, LeftmostFirst}
use Rattle.rx_nfa.specs.Nfa.{Nfa, IsNfaOf}
use Rattle.rx_dfa.specs.Automaton.{Dfa}
use Rattle.rx_dfa.specs.Lazy.{LazyValue}
use Rattle.rx_dfa.specs.LazyCache.{IsCacheOf, HoldsNone}
use Rattle.rx_dfa.specs.Search.{TellsStarts}
use Rattle.rx_strategy.specs.Availability.{table_memory}
use Rattle.rx_strategy.specs.declared.dfas.Dfas.{Dfas}
use Rattle.rx_strategy.specs.declared.dfas.Dfas.TheVariants.{Absent, Full, Lazy}
use Rattle.rx_strategy.specs.declared.lazies.Lazies.{Lazies}

-- the DFA that reads forwards and the one that reads backwards, if they are there
abbrev pub pair_of : Dfas → Option (Dfa × Dfa)
pair_of Absent = None
pair_of (Full forward backward) = Some (forward.dfa, backward.dfa)
pair_of (Lazy forward backward) = Some (forward.dfa, backward.dfa)

-- The first one reads forwards, and the second one backwards, under `All`; both permit the same starts, and have as many patterns.
pub record ArePair (both : Dfa × Dfa) : Type 0 where
  pub reads_on : both.0.nfa.reverse ≡ false
  pub reads_back : both.1.nfa.reverse ≡ true
  pub backward_kind : both.1.kind ≡ All
  pub utf8 : both.0.nfa.utf8 ≡ both.1.nfa.utf8
  pub patterns : length both.1.nfa.starts ≡ length both.0.nfa.starts

-- what their searches ask of them, if they are there
abbrev pub ArePaired : Dfas → Type 0
ArePaired dfas = IfSome (pair_of dfas) ArePair

-- The first one is of this NFA and kind, and the second one of the NFA that reads backwards, which is there.
pub record IsPairOf (nfa : Nfa) (kind : MatchKind) (reverse : Option Nfa) (both : Dfa × Dfa) : Type 0 where
  pub forward_nfa : both.0.nfa ≡ nfa
  pub forward_kind : both.0.kind ≡ kind
  pub backward_nfa : reverse ≡ Some both.1.nfa

-- what a core's searches ask of its DFAs, if it has some
pub record ServeNfa (nfa : Nfa) (kind : MatchKind) (reverse : Option Nfa) (dfas : Dfas) : Type 0 where
  pub paired : ArePaired dfas
  pub are : IfSome (pair_of dfas) (IsPairOf nfa kind reverse)

-- the one that reads forwards is leftmost-first, if it is there
abbrev pub AreLeftmost : Dfas → Type 0
AreLeftmost dfas = IfSome (pair_of dfas) (λ both. both.0.kind ≡ LeftmostFirst)

-- The first one is of this kind. Both are for these patterns, and their answers are promised of this input, where these needles are
-- looked for.
pub record IsSearchFor (needles : Option (List (List ℕ))) (kind : MatchKind) (r : Patterns) (v : InputValue) (both : Dfa × Dfa) : Type 0 where
  pub own_kind : both.0.kind ≡ kind
  pub premises : Premises (IsNfaOf both.0.nfa r) needles r v
  pub starts : TellsStarts both.1 r

-- what the clauses of their searches stand under
abbrev pub SearchFor : Dfas → (needles : Option (List (List ℕ))) → MatchKind → Patterns → InputValue → Type 0
SearchFor dfas needles kind r v = IfSome (pair_of dfas) (IsSearchFor needles kind r v)

-- a set of this size has room for the patterns of the DFA that reads forwards, if it is there
abbrev pub HaveRoomIn : (size : ℕ) → Dfas → Type 0
HaveRoomIn size dfas = IfSome (pair_of dfas) (λ both. length both.0.nfa.starts ≤ size)

-- it is a pattern of the DFA that reads forwards, which is there
abbrev pub IsPatternOf : Dfas → (pattern : ℕ) → Type 0
IsPatternOf dfas pattern = IsSomeAnd (pair_of dfas) (λ both. pattern < length both.0.nfa.starts)

-- the lazy DFAs, if they are there
abbrev pub lazies_of : Dfas → Option (LazyValue × LazyValue)
lazies_of Absent = None
lazies_of (Full forward backward) = None
lazies_of (Lazy forward backward) = Some (forward, backward)

-- there are lazy DFAs
abbrev pub are_lazy : Dfas → Bool
are_lazy dfas = is_some (lazies_of dfas)

-- each cache serves its lazy DFA
abbrev pub AreCachesOf : LazyValue × LazyValue → Lazies → Type 0
AreCachesOf pair both = IsCacheOf pair.0 both.forward × IsCacheOf pair.1 both.backward

-- the caches serve the lazy DFAs, if there are some
abbrev pub FitsLazies : Dfas → Option Lazies → Type 0
FitsLazies dfas lazies = IfSome (lazies_of dfas) (λ pair. IsSomeAnd lazies (AreCachesOf pair))

-- what is accounted for the states that the caches of lazy DFAs hold, if there are such caches
abbrev pub states_memory : Option Lazies → ℕ
states_memory None = 0
states_memory (Some both) = both.forward.rows.size + both.backward.rows.size

-- neither cache holds a state
abbrev pub HoldNoStates : Lazies → Type 0
HoldNoStates both = HoldsNone both.forward × HoldsNone both.backward

-- what is accounted for the tables of full DFAs, if there are some
abbrev pub tables_memory : Dfas → ℕ
tables_memory Absent = 0
tables_memory (Full forward backward) = table_memory forward + table_memory backward
tables_memory (Lazy forward backward) = 0
