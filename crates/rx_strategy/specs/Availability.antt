-- Which DFAs a core has.
use Rattle.std.specs.Prelude.{◌≡◌, ◌⊎◌, ℕ, ◌^◌, ◌/◌, Bool, true, false, ◌&&◌, nat_le, length, Option, Some, None, option_map}
use Rattle.rx_search.specs.declared.anchored.MatchKind.{MatchKind}
use Rattle.rx_search.specs.declared.anchored.MatchKind.TheVariants.{All}
use Rattle.rx_nfa.specs.Nfa.{Nfa}
use Rattle.rx_dfa.specs.Dense.{IsDfaOf, IsFullTable, IsAbove, size_of}
use Rattle.rx_dfa.specs.Lazy.{minimum}
use Rattle.rx_dfa.specs.LazyBuild.{IsLazyOf}
use Rattle.rx_dfa.specs.Table.{DenseValue}
use Rattle.rx_strategy.specs.Config.{kind_of, dfa_of, hybrid_of, hybrid_cache_capacity_of, dfa_size_limit_of, dfa_state_limit_of, byte_classes_of}
use Rattle.rx_strategy.specs.declared.config.Config.{Config}
use Rattle.rx_strategy.specs.declared.dfas.Dfas.{Dfas}
use Rattle.rx_strategy.specs.declared.dfas.Dfas.TheVariants.{Absent, Full, Lazy}

-- it is within the limit, if there is one
abbrev pub is_within : ℕ → Option ℕ → Bool
is_within n None = true
is_within n (Some limit) = nat_le n limit

-- a full DFA of the NFA may be built: it is asked for, and few enough states are accounted
abbrev pub may_be_full : Config → Nfa → Bool
may_be_full c nfa = dfa_of c && is_within nfa.accounted (dfa_state_limit_of c)

-- a lazy DFA of the NFA may be built: it is asked for, and the capacity is at least its minimum
abbrev pub may_be_lazy : Config → Nfa → Bool
may_be_lazy c nfa = hybrid_of c && nat_le (minimum nfa) (hybrid_cache_capacity_of c)

-- the most bytes that the table of one full DFA may have: a quarter of what all may have
abbrev pub table_limit : Config → Option ℕ
table_limit c = option_map (λ limit. limit / 4) (dfa_size_limit_of c)

-- what is accounted for a full DFA
abbrev pub table_memory : DenseValue → ℕ
table_memory d = size_of (2 ^ d.stride2) (length d.keys)

-- the full DFA of the NFA and kind, of which the table is within the limit
pub record IsTableOf (c : Config) (nfa : Nfa) (kind : MatchKind) (d : DenseValue) : Type 0 where
  pub dfa : IsDfaOf nfa kind (byte_classes_of c) d.dfa
  pub full : IsFullTable (table_limit c) d

-- the full DFA of the NFA and kind has a table above the limit
abbrev pub HasLargeTable : Config → Nfa → MatchKind → Type 0
HasLargeTable c nfa kind = (limit : ℕ) × (size : ℕ) × (table_limit c ≡ Some limit) × IsAbove nfa kind (byte_classes_of c) limit size

-- there are no full DFAs: one may not be built, or one of the two tables is above its limit
abbrev pub HasNoFull : Config → (nfa reverse : Nfa) → Type 0
HasNoFull c nfa reverse = (may_be_full c nfa ≡ false) ⊎ (HasLargeTable c nfa (kind_of c) ⊎ HasLargeTable c reverse All)

-- Of an NFA and the one that reads backwards, these DFAs are there: the full ones where they may be built and each table is within
-- its limit, and else the lazy ones where these may be built.
abbrev pub AreDfasOf : Config → (nfa reverse : Nfa) → Dfas → Type 0
AreDfasOf c nfa reverse Absent = HasNoFull c nfa reverse × (may_be_lazy c nfa ≡ false)
AreDfasOf c nfa reverse (Full forward backward) =
    (may_be_full c nfa ≡ true) × (IsTableOf c nfa (kind_of c) forward × IsTableOf c reverse All backward)
AreDfasOf c nfa reverse (Lazy forward backward) =
    HasNoFull c nfa reverse × ((may_be_lazy c nfa ≡ true)
    × (IsLazyOf nfa (kind_of c) (byte_classes_of c) (hybrid_cache_capacity_of c) forward × IsLazyOf reverse All (byte_classes_of c) (hybrid_cache_capacity_of c) backward))

-- Without the NFA that reads backwards there are none.
abbrev pub AreDfasBeside : Config → (nfa : Nfa) → (reverse : Option Nfa) → Dfas → Type 0
AreDfasBeside c nfa None dfas = dfas ≡ Absent
AreDfasBeside c nfa (Some reverse) dfas = AreDfasOf c nfa reverse dfas
