-- What the build of a one-pass DFA answers.
use Rattle.std.specs.Prelude.{◌≡◌, ℕ, List, ◌⊎◌}
use Rattle.rx_model.specs.Expression.{Expression}
use Rattle.rx_nfa.specs.Compiled.{IsCompiled}
use Rattle.rx_nfa.specs.Config.{nothing_set as by_default}
use Rattle.rx_nfa.specs.Nfa.{Nfa}
use Rattle.rx_nfa.specs.declared.compiler.config.Config.{Config as NfaConfig}
use Rattle.rx_reader.specs.declared.config.Config.{Config as Grammar}
use Rattle.rx_thompson.specs.Build.{IsBuiltOf as IsNfaOf, IsRefusedFor}
use Rattle.rx_thompson.specs.declared.error.BuildError.{BuildError as CompilerError}
use Rattle.rx_onepass_build.specs.Build.{IsRefusalOf}
use Rattle.rx_onepass_build.specs.Config.{nothing_set}
use Rattle.rx_onepass_build.specs.declared.config.Config.{Config}
use Rattle.rx_onepass_build.specs.declared.build_error.BuildError.{BuildError as TableError}
use Rattle.rx_onepass_build.specs.declared.build_error.BuildError.TheVariants.{Memory as NoMemory}
use Rattle.rx_onepass.specs.Dfa.{Dfa, IsSound}
use Rattle.rx_onepass.specs.Error.{error_of, refusal_of}
use Rattle.rx_onepass.specs.declared.build_error.BuildError.{BuildError}

-- Of an NFA.

-- the one-pass DFA of this NFA: a row for each of its entries, and nothing is ambiguous from one
pub record IsBuiltFrom (config : Config) (nfa : Nfa) (d : Dfa) : Type 0 where
  pub nfa_is : d.nfa ≡ nfa
  pub config_is : d.config ≡ config
  pub sound : IsSound d

-- why there is none
abbrev pub IsRefusalFrom : Config → Nfa → BuildError → Type 0
IsRefusalFrom config nfa e = (cause : TableError) × IsRefusalOf config nfa cause × (e ≡ refusal_of cause)

-- Of expressions, by the default configurations.

pub record IsBuiltByDefault (hs : List Expression) (d : Dfa) : Type 0 where
  pub compiled : IsCompiled by_default hs d.nfa
  pub built : IsBuiltFrom nothing_set d.nfa d

-- a refusal of their NFA, or want of memory for it
abbrev pub IsRefusalByDefault : List Expression → BuildError → Type 0
IsRefusalByDefault hs e = (e ≡ refusal_of NoMemory) ⊎ ((nfa : Nfa) × IsCompiled by_default hs nfa × IsRefusalFrom nothing_set nfa e)

-- Of patterns.

-- the one-pass DFA of the NFA of these patterns
pub record IsBuiltFor (syntax : Grammar) (compiler : NfaConfig) (config : Config) (texts : List (List ℕ)) (d : Dfa) : Type 0 where
  pub compiled : IsNfaOf syntax compiler texts d.nfa
  pub built : IsBuiltFrom config d.nfa d

-- Why there is none: a refusal of the compiler, or one of the NFA that it makes.
abbrev pub IsRefusalFor : Grammar → NfaConfig → Config → List (List ℕ) → BuildError → Type 0
IsRefusalFor syntax compiler config texts e =
    ((cause : CompilerError) × IsRefusedFor syntax compiler texts cause × (e ≡ error_of cause))
    ⊎ ((nfa : Nfa) × IsNfaOf syntax compiler texts nfa × IsRefusalFrom config nfa e)
