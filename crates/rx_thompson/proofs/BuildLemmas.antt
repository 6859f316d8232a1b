-- From what is read and what rx_nfa answers to what a build answers.
use Rattle.std.proofs.Common.{◌≡◌, ℕ, ◌≤◌, List, length, sym, ◌∙◌, subst, arith}
use Rattle.std.specs.Prelude.{Result, Ok, Err, OnOk, IfOk}
use Rattle.rx_model.specs.Expression.{Expression}
use Rattle.rx_search.specs.Limits.{id_limit}
use Rattle.rx_nfa.specs.Compiled.{AreAllowed, IsCompiled, IsRefusal}
use Rattle.rx_nfa.specs.Nfa.{Nfa}
use Rattle.rx_nfa.specs.declared.compiler.config.Config.{Config}
use Rattle.rx_nfa.specs.declared.error.BuildError.{BuildError as NfaError}
use Rattle.rx_nfa.specs.declared.error.BuildError.TheVariants.{TooManyPatterns as ManyPatterns, TooManyGroups as ManyGroups, TooManyStates as ManyStates, ExceededSizeLimit as ExceededLimit, Memory as NoMemory}
use Rattle.rx_reader.specs.declared.config.Config.{Config as Grammar}
use Rattle.rx_syntax.specs.Patterns.{Refusal, RefusesAll}
use Rattle.rx_syntax.specs.declared.patterns.PatternsError.{PatternsError}
use Rattle.rx_syntax.specs.declared.patterns.PatternsError.TheVariants.{Syntax as Refused, Memory as NoMemoryToRead}
use Rattle.rx_thompson.specs.Error.{error_of, syntax_error_of}
use Rattle.rx_thompson.specs.Build.{reading_of, IsBuiltOf, IsRefused, IsRefusedOf, IsRefusedAfter, IsRefusedFor}
use Rattle.rx_thompson.proofs.ReadingLemmas.{all-read}
use Rattle.rx_thompson.specs.declared.error.BuildError.{BuildError}
use Rattle.rx_thompson.specs.declared.error.BuildError.TheVariants.{Syntax, TooManyPatterns, TooManyGroups, TooManyStates, ExceededSizeLimit, Memory}

pub refused-error : (config : Config) (hs : List Expression) (cause : NfaError) → IsRefusal config hs cause → IsRefused config hs (error_of cause)
refused-error config hs (ManyPatterns given limit) is = is
refused-error config hs (ManyGroups given limit) is = is
refused-error config hs (ManyStates given limit) is = is
refused-error config hs (ExceededLimit limit size) is = is
refused-error config hs NoMemory is = is

-- few enough patterns, of which all are these expressions
pub refused-counted : (config : Config) (count : ℕ) (hs : List Expression) → count ≤ id_limit → length hs ≡ count → (e : BuildError) → IsRefused config hs e
    → IsRefusedOf config count hs e
refused-counted config count hs few same (Syntax pid err) is = (few, is)
refused-counted config count hs few same (TooManyPatterns given limit) is = (is.0 ∙ same, is.1, is.2)
refused-counted config count hs few same (TooManyGroups given limit) is = (few, is)
refused-counted config count hs few same (TooManyStates given limit) is = (few, is)
refused-counted config count hs few same (ExceededSizeLimit limit size) is = (few, is)
refused-counted config count hs few same Memory is = (few, is)

-- patterns that were read as these expressions
pub refused-after : (reading : Result (List Expression) Refusal) (config : Config) (count : ℕ) (hs : List Expression) → reading ≡ Ok hs → (e : BuildError)
    → IsRefusedOf config count hs e
    → IsRefusedAfter reading config count e
refused-after reading config count hs same (Syntax pid err) is = absurd is.1
refused-after reading config count hs same (TooManyPatterns given limit) is = (hs, same, is)
refused-after reading config count hs same (TooManyGroups given limit) is = (hs, same, is)
refused-after reading config count hs same (TooManyStates given limit) is = (hs, same, is)
refused-after reading config count hs same (ExceededSizeLimit limit size) is = (hs, same, is)
refused-after reading config count hs same Memory is = tt

-- so many patterns as there are
pub refused-for : (syntax : Grammar) (config : Config) (texts : List (List ℕ)) (count : ℕ) (hs : List Expression) → count ≡ length texts
    → reading_of syntax texts ≡ Ok hs
    → (e : BuildError) → IsRefusedOf config count hs e → IsRefusedFor syntax config texts e
refused-for syntax config texts count hs counted same e is =
    refused-after (reading_of syntax texts) config (length texts) hs same e (subst (λ n. IsRefusedOf config n hs e) counted is)

pub built-of : (syntax : Grammar) (config : Config) (texts : List (List ℕ)) (count : ℕ) (hs : List Expression) → count ≡ length texts
    → reading_of syntax texts ≡ Ok hs
    → (r : Result Nfa BuildError) → OnOk r (count ≤ id_limit) → IfOk r (IsCompiled config hs) → OnOk r (AreAllowed config hs)
    → IfOk r (IsBuiltOf syntax config texts)
built-of syntax config texts count hs counted same (Ok nfa) few compiled allowed =
    record { expressions = hs; read = sym (all-read syntax texts (omega arith)) ∙ same; compiled = compiled; allowed = allowed }
built-of syntax config texts count hs counted same (Err e) few compiled allowed = tt

-- patterns of which one is refused
pub refused-reading : (reading : Result (List Expression) Refusal) (config : Config) (count : ℕ) (e : PatternsError) → RefusesAll e reading
    → IsRefusedAfter reading config count (syntax_error_of e)
refused-reading reading config count (Refused pattern error) is = is
refused-reading reading config count NoMemoryToRead is = tt
