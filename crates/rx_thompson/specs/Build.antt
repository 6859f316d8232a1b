-- What a build answers.
use Rattle.std.specs.Prelude.{◌≡◌, ℕ, ◌<◌, ◌≤◌, List, length, take, Result, Ok, Err}
use Rattle.rx_model.specs.Expression.{Expression}
use Rattle.rx_search.specs.Limits.{id_limit}
use Rattle.rx_nfa.specs.Compiled.{AreAllowed, IsCompiled, IsRefusal}
use Rattle.rx_nfa.specs.Nfa.{Nfa}
use Rattle.rx_nfa.specs.declared.compiler.config.Config.{Config}
use Rattle.rx_nfa.specs.declared.error.BuildError.TheVariants.{TooManyPatterns as ManyPatterns, TooManyGroups as ManyGroups, TooManyStates as ManyStates, ExceededSizeLimit as ExceededLimit, Memory as NoMemory}
use Rattle.rx_reader.specs.declared.config.Config.{Config as Grammar}
use Rattle.rx_syntax.specs.Patterns.{Refusal, each_read}
use Rattle.rx_syntax.specs.Weight.{AreWeightsOf}
use Rattle.rx_syntax.specs.declared.weight.Weights.{Weights}
use Rattle.rx_thompson.specs.declared.error.BuildError.{BuildError}
use Rattle.rx_thompson.specs.declared.error.BuildError.TheVariants.{Syntax, TooManyPatterns, TooManyGroups, TooManyStates, ExceededSizeLimit, Memory}

-- what the patterns read as, one after another, of at most as many as identifiers tell apart, or the first refusal
unfoldable pub reading_of : Grammar → List (List ℕ) → Result (List Expression) Refusal
reading_of syntax texts = each_read syntax (take id_limit texts)

-- what the first patterns, at most as many as identifiers tell apart, weigh together
abbrev pub AreWeighed : Grammar → List (List ℕ) → Weights → Type 0
AreWeighed syntax texts weights = AreWeightsOf (reading_of syntax texts) (length (take id_limit texts)) weights

-- the NFA of these patterns
pub record IsBuiltOf (syntax : Grammar) (config : Config) (texts : List (List ℕ)) (nfa : Nfa) : Type 0 where
  pub expressions : List Expression
  pub read : each_read syntax texts ≡ Ok expressions
  pub compiled : IsCompiled config expressions nfa
  -- no count and no cost passes its limit
  pub allowed : AreAllowed config expressions

-- why there is no NFA of these expressions
abbrev pub IsRefused : Config → List Expression → BuildError → Type 0
IsRefused config hs (Syntax pid err) = ⊥
IsRefused config hs (TooManyPatterns given limit) = IsRefusal config hs (ManyPatterns given limit)
IsRefused config hs (TooManyGroups given limit) = IsRefusal config hs (ManyGroups given limit)
IsRefused config hs (TooManyStates given limit) = IsRefusal config hs (ManyStates given limit)
IsRefused config hs (ExceededSizeLimit limit size) = IsRefusal config hs (ExceededLimit limit size)
IsRefused config hs Memory = IsRefusal config hs NoMemory

-- why there is no NFA of so many patterns, of which the first ones read as these expressions
abbrev pub IsRefusedOf : Config → (count : ℕ) → List Expression → BuildError → Type 0
IsRefusedOf config count hs (TooManyPatterns given limit) = (given ≡ count) × (limit ≡ id_limit) × (limit < given)
IsRefusedOf config count hs e = (count ≤ id_limit) × IsRefused config hs e

-- Why there is no NFA of so many patterns, of which the first ones were read so: the first refusal of the grammar, and
-- else what is refused of their expressions. Of want of memory nothing is said.
abbrev pub IsRefusedAfter : Result (List Expression) Refusal → Config → (count : ℕ) → BuildError → Type 0
IsRefusedAfter reading config count (Syntax pid err) = reading ≡ Err (record { pattern = pid; error = err })
IsRefusedAfter reading config count Memory = Unit {0}
IsRefusedAfter reading config count e = (hs : List Expression) × (reading ≡ Ok hs) × IsRefusedOf config count hs e

-- why there is no NFA of these patterns
abbrev pub IsRefusedFor : Grammar → Config → List (List ℕ) → BuildError → Type 0
IsRefusedFor syntax config texts e = IsRefusedAfter (reading_of syntax texts) config (length texts) e
