-- Strategies that search by candidates, for a contract.
use Rattle.std.specs.Prelude.{◌≡◌, ℕ, ◌<◌, true, List, [], ◌∷◌, length, is_some, Option, Some, None, Result, Ok, Err, IfOk}
use Rattle.rx_model.specs.Expression.{Expression}
use Rattle.rx_model.specs.Search.{Patterns}
use Rattle.rx_search.specs.Input.{InputValue, next_in}
use Rattle.rx_search.specs.Matches.{MatchValue, match_value}
use Rattle.rx_dfa.specs.Search.{IsAnswerFor}
use Rattle.rx_order.specs.Inner.{inner_of}
use Rattle.rx_order.specs.Order.{SuffixIsNoEarlier, InnerIsNoEarlier}
use Rattle.rx_attempts.specs.Candidates.{AreNotEmpty}
use Rattle.rx_attempts.specs.declared.patience.Stop.{Stop}
use Rattle.rx_strategy.specs.Attempts.{HasSuffix, HasInner, IsOneNeedle}
use Rattle.rx_strategy.specs.Prefix.{PrefixValue, dfa_of, IsPrefixOf, HasNoPrefix}
use Rattle.rx_strategy.specs.Strategy as core
use Rattle.rx_strategy.specs.declared.config.Config.{Config}
use Rattle.rx_strategy.specs.declared.strategy.Strategy.{Strategy as CoreStrategy}
use Rattle.rx_strategies.specs.Choice.{suffix_for, inner_for, suffix_of_one, if_in_order, if_inner_in_order}

-- a core, and the needle that ends each match
pub record SuffixValue : Type 0 where
  pub core : CoreStrategy
  pub needles : List (List ℕ)

-- a core, the needles within each match, and what reads the prefix backwards
pub record InnerValue : Type 0 where
  pub core : CoreStrategy
  pub needles : List (List ℕ)
  pub prefix : PrefixValue

-- what their searches ask: there are DFAs, and needles with bytes
pub record IsBySuffix (c : CoreStrategy) (needles : List (List ℕ)) : Type 0 where
  pub there : core.has_dfas c ≡ true
  pub one : IsOneNeedle needles

pub record IsByInner (c : CoreStrategy) (needles : List (List ℕ)) : Type 0 where
  pub there : core.has_dfas c ≡ true
  pub some : AreNotEmpty needles

-- The core searches for the patterns, and in them no match starts earlier than the first candidate that is confirmed.
abbrev pub IsSuffixFor : SuffixValue → Patterns → Type 0
IsSuffixFor s r = core.IsFor s.core r × HasSuffix s.needles r

abbrev pub IsInnerFor : InnerValue → Patterns → Type 0
IsInnerFor i r = core.IsFor i.core r × HasInner (dfa_of i.prefix) i.needles r

-- The core is for the patterns, and what an attempt found, if it has an answer, is the answer of them.
abbrev pub HasTried : CoreStrategy → InputValue → Result (Option MatchValue) Stop → Patterns → Type 0
HasTried c v tried r = core.IsFor c r × IfOk tried (IsAnswerFor (core.kind_in c) r v match_value)

-- .. and something is found exactly where there is a match
abbrev pub HasTriedWhether : CoreStrategy → InputValue → Result (Option MatchValue) Stop → Patterns → Type 0
HasTriedWhether c v tried r = core.IsFor c r × IfOk tried (λ found. is_some found ≡ is_some (next_in r v))

-- .. of the only one of these expressions
abbrev pub HasOrder : List Expression → List ℕ → Type 0
HasOrder hs s = (h : Expression) × (hs ≡ h ∷ []) × SuffixIsNoEarlier h s

abbrev pub HasInnerOrder : List Expression → Expression → List (List ℕ) → Type 0
HasInnerOrder hs prefix needles = (h : Expression) × (hs ≡ h ∷ []) × InnerIsNoEarlier h prefix needles

-- the search by the needle that ends each match of these expressions, over this core
pub record IsSuffixOf (config : Config) (hs : List Expression) (c : CoreStrategy) (s : SuffixValue) : Type 0 where
  pub core_is : s.core ≡ c
  pub suffix : List ℕ
  pub needle : s.needles ≡ suffix ∷ []
  pub chosen : suffix_for config c hs ≡ Some suffix
  pub order : HasOrder hs suffix

-- .. and by needles within each match
pub record IsInnerOf (config : Config) (hs : List Expression) (c : CoreStrategy) (i : InnerValue) : Type 0 where
  pub core_is : i.core ≡ c
  pub prefix : Expression
  pub chosen : inner_for config c hs ≡ Some (prefix, i.needles)
  pub order : HasInnerOrder hs prefix i.needles
  pub reads : IsPrefixOf config prefix i.prefix

-- What is made of the core of these expressions; or else it is given back.
abbrev pub IsSuffixTried : Config → List Expression → CoreStrategy → Result SuffixValue CoreStrategy → Type 0
IsSuffixTried config hs c (Ok s) = IsSuffixOf config hs c s
IsSuffixTried config hs c (Err back) = (back ≡ c) × (suffix_for config c hs ≡ None)

-- there is none: no needles that keep the order, or no DFA of the prefix
abbrev pub HasNoInner : Config → Option (Expression × List (List ℕ)) → Type 0
HasNoInner config None = Unit {0}
HasNoInner config (Some found) = HasNoPrefix config found.0

abbrev pub IsInnerTried : Config → List Expression → CoreStrategy → Result InnerValue CoreStrategy → Type 0
IsInnerTried config hs c (Ok i) = IsInnerOf config hs c i
IsInnerTried config hs c (Err back) = (back ≡ c) × HasNoInner config (inner_for config c hs)

-- what is searched for at the end of each match of the only expression
abbrev pub IsSuffixFound : List Expression → Option (List (List ℕ)) → Type 0
IsSuffixFound hs None = if_in_order hs (suffix_of_one hs) ≡ None
IsSuffixFound hs (Some needles) =
    (s : List ℕ) × (needles ≡ s ∷ []) × (0 < length s) × (if_in_order hs (suffix_of_one hs) ≡ Some s) × HasOrder hs s

-- .. for this literal
abbrev pub IsOrderedSearch : List Expression → List ℕ → Option (List (List ℕ)) → Type 0
IsOrderedSearch hs s None = if_in_order hs (Some s) ≡ None
IsOrderedSearch hs s (Some needles) = (needles ≡ s ∷ []) × (0 < length s) × (if_in_order hs (Some s) ≡ Some s) × HasOrder hs s

-- .. and within each match, behind this prefix
abbrev pub IsInnerFound : List Expression → Expression → List (List ℕ) → Type 0
IsInnerFound hs prefix needles =
    (if_inner_in_order (inner_of hs) ≡ Some (prefix, needles)) × HasInnerOrder hs prefix needles × AreNotEmpty needles
