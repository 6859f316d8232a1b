-- The DFA of what stands before literals, and its cache.
use Rattle.std.specs.Prelude.{◌≡◌, ◌⊎◌, ℕ, ◌+◌, ◌*◌, ◌/◌, Bool, true, false, [], ◌∷◌, length, Option, Some, None, option_map, IfSome, IsSomeAnd}
use Rattle.std.proofs.Props.{props}
use Rattle.rx_model.specs.Expression.{Expression}
use Rattle.rx_search.specs.declared.anchored.MatchKind.TheVariants.{All}
use Rattle.rx_hir.specs.Cost.{state_size}
use Rattle.rx_nfa.specs.Compiled.{IsCompiled, AreAllowed}
use Rattle.rx_nfa.specs.Nfa.{Nfa}
use Rattle.rx_dfa.specs.Automaton.{Dfa}
use Rattle.rx_dfa.specs.Dense.{IsDfaOf, IsFullTable, IsAbove}
use Rattle.rx_dfa.specs.Lazy.{LazyValue}
use Rattle.rx_dfa.specs.LazyBuild.{IsLazyOf}
use Rattle.rx_dfa.specs.LazyCache.{IsCacheOf, HoldsNone, GaveUpOn}
use Rattle.rx_dfa.specs.LazyProps.{IsCacheOf-prop}
use Rattle.rx_dfa.specs.Scratch.{room_with}
use Rattle.rx_dfa.specs.Table.{DenseValue}
use Rattle.rx_dfa.specs.declared.lazy.lazy_cache.LazyCache.{LazyCache}
use Rattle.rx_strategy.specs.Availability.{may_be_full, may_be_lazy, table_memory}
use Rattle.rx_strategy.specs.Config.{prefix_compiler_of, dfa_size_limit_of, byte_classes_of, hybrid_cache_capacity_of}
use Rattle.rx_strategy.specs.declared.config.Config.{Config}
use Rattle.rx_strategy.specs.declared.prefix.Missing.{Missing}
use Rattle.rx_strategy.specs.declared.prefix.Missing.TheVariants.{Nothing, Room, Cache}
use Rattle.rx_strategy.specs.declared.prefix.Sort.{Sort}
use Rattle.rx_strategy.specs.declared.prefix.Sort.TheVariants.{Full, Lazy}

pub record PrefixValue : Type 0 where
  pub nfa : Nfa
  -- the DFA, full or lazy
  pub sort : Sort

abbrev pub dfa_in : Sort → Dfa
dfa_in (Full d) = d.dfa
dfa_in (Lazy l) = l.dfa

-- the automaton that reads the prefix backwards
abbrev pub dfa_of : PrefixValue → Dfa
dfa_of p = dfa_in p.sort

-- it is of the NFA, which reads backwards
pub record ReadsBack (nfa : Nfa) (sort : Sort) : Type 0 where
  pub nfa_is : (dfa_in sort).nfa ≡ nfa
  pub reads_back : nfa.reverse ≡ true

-- the most bytes that the table of the full one may have: half of what all may have
abbrev pub prefix_limit : Config → Option ℕ
prefix_limit c = option_map (λ limit. limit / 2) (dfa_size_limit_of c)

-- the full DFA of the NFA has a table above the limit
abbrev pub HasLargePrefix : Config → Nfa → Type 0
HasLargePrefix c nfa = (limit : ℕ) × (size : ℕ) × (prefix_limit c ≡ Some limit) × IsAbove nfa All (byte_classes_of c) limit size

-- the full DFA of the NFA, of which the table is within the limit
pub record IsPrefixTable (c : Config) (nfa : Nfa) (d : DenseValue) : Type 0 where
  pub dfa : IsDfaOf nfa All (byte_classes_of c) d.dfa
  pub full : IsFullTable (prefix_limit c) d

-- there is no full DFA: it may not be built, or its table is above the limit
abbrev pub HasNoFullPrefix : Config → Nfa → Type 0
HasNoFullPrefix c nfa = (may_be_full c nfa ≡ false) ⊎ HasLargePrefix c nfa

-- the full one where it may be built and its table is within the limit, and else the lazy one where that may be built
abbrev pub IsSortOf : Config → Nfa → Sort → Type 0
IsSortOf c nfa (Full d) = (may_be_full c nfa ≡ true) × IsPrefixTable c nfa d
IsSortOf c nfa (Lazy l) =
    HasNoFullPrefix c nfa × (may_be_lazy c nfa ≡ true) × IsLazyOf nfa All (byte_classes_of c) (hybrid_cache_capacity_of c) l

-- the DFA of this prefix under the configuration
pub record IsPrefixOf (c : Config) (prefix : Expression) (p : PrefixValue) : Type 0 where
  pub compiled : IsCompiled (prefix_compiler_of c) (prefix ∷ []) p.nfa
  pub sort : IsSortOf c p.nfa p.sort

-- .. which is not there: the prefix alone has no NFA within the limits, or neither sort of DFA may be built
abbrev pub HasNoPrefix : Config → Expression → Type 0
HasNoPrefix c prefix =
    (AreAllowed (prefix_compiler_of c) (prefix ∷ []) → ⊥)
    ⊎ ((nfa : Nfa) × IsCompiled (prefix_compiler_of c) (prefix ∷ []) nfa × HasNoFullPrefix c nfa × (may_be_lazy c nfa ≡ false))

-- what is accounted for the NFA, and for the table of a full DFA
abbrev pub table_of : Sort → ℕ
table_of (Full d) = table_memory d
table_of (Lazy l) = 0

abbrev pub prefix_memory : PrefixValue → ℕ
prefix_memory p = state_size * p.nfa.accounted + table_of p.sort

-- the cache serves the DFA; a full one needs none
abbrev pub FitsSort : Sort → Option LazyCache → Type 0
FitsSort (Full d) cache = Unit {0}
FitsSort (Lazy l) cache = IsSomeAnd cache (IsCacheOf l)

abbrev pub FitsPrefix : PrefixValue → Option LazyCache → Type 0
FitsPrefix p cache = FitsSort p.sort cache

sort-prop : (s : Sort) (cache : Option LazyCache) → IsProp (FitsSort s cache)
sort-prop (Full d) cache = Prim.hlevel props
sort-prop (Lazy l) None = Prim.hlevel props
sort-prop (Lazy l) (Some cache) = IsCacheOf-prop l cache

-- that it does has one proof at most
pub FitsPrefix-prop : (p : PrefixValue) (cache : Option LazyCache) → IsProp (FitsPrefix p cache)
FitsPrefix-prop p cache = sort-prop p.sort cache

-- it is a lazy one, with states in a cache
abbrev pub is_lazy_sort : Sort → Bool
is_lazy_sort (Full d) = false
is_lazy_sort (Lazy l) = true

abbrev pub are_states : PrefixValue → Bool
are_states p = is_lazy_sort p.sort

-- what is accounted for the states that the cache holds
abbrev pub prefix_states : Option LazyCache → ℕ
prefix_states None = 0
prefix_states (Some cache) = cache.rows.size

-- it holds no state
abbrev pub HoldsNoPrefix : Option LazyCache → Type 0
HoldsNoPrefix cache = IfSome cache HoldsNone

-- what must hold where the automaton gave up, or wants memory
abbrev pub prefix_gives_up : Sort → Option LazyCache → Type 0
prefix_gives_up (Full d) cache = ⊥
prefix_gives_up (Lazy l) cache = IsSomeAnd cache (λ c. GaveUpOn l c.rows)

abbrev pub prefix_wants : Sort → Type 0
prefix_wants (Full d) = ⊥
prefix_wants (Lazy l) = Unit {0}

-- the room that such a cache lacks to serve a lazy DFA
abbrev pub SuppliesLazy : Missing → LazyValue → Option LazyCache → Type 0
SuppliesLazy Nothing l cache = ⊥
SuppliesLazy (Room room) l cache = IsSomeAnd cache (λ c. room_with room c.scratch ≡ length l.dfa.nfa.states)
SuppliesLazy (Cache made) l cache = IsCacheOf l made × HoldsNone made

abbrev pub SuppliesSort : Missing → Sort → Option LazyCache → Type 0
SuppliesSort missing (Full d) cache = Unit {0}
SuppliesSort missing (Lazy l) cache = SuppliesLazy missing l cache

abbrev pub Supplies : PrefixValue → Option LazyCache → Missing → Type 0
Supplies p cache missing = SuppliesSort missing p.sort cache

-- no room is lacking
abbrev pub IsNoRoom : Missing → Type 0
IsNoRoom Nothing = Unit {0}
IsNoRoom (Room None) = Unit {0}
IsNoRoom (Room (Some room)) = ⊥
IsNoRoom (Cache made) = ⊥

-- a new cache holds no state
abbrev pub IsBlank : Missing → Type 0
IsBlank Nothing = Unit {0}
IsBlank (Room room) = Unit {0}
IsBlank (Cache made) = HoldsNone made
