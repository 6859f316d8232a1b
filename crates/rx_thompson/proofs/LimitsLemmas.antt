-- Patterns that are read before they are weighed.
use Rattle.std.proofs.Common.{◌≡◌, ℕ, min, List, Bor, length, take, sym, ap, ◌∙◌, subst}
use Rattle.std.specs.Prelude.{Result, Ok}
use Rattle.rx_search.specs.Limits.{id_limit}
use Rattle.rx_reader.specs.Syntax.{Syntax}
use Rattle.rx_reader.specs.declared.config.Config.{Config as Grammar}
use Rattle.rx_syntax.specs.Patterns.{Refusal, RefusesAll, all_syntaxes, translated_if, all_read, all_translated}
use Rattle.rx_syntax.specs.declared.patterns.PatternsError.{PatternsError}
use Rattle.rx_syntax.specs.declared.patterns.PatternsError.TheVariants.{Syntax as Refused, Memory as NoMemoryToRead}
use Rattle.rx_thompson.proofs.ReadingLemmas.{texts_of, first-texts}

-- what is refused of reading is refused of both
pub refuses-read : (syntax : Grammar) (e : PatternsError) (r : Result (List Syntax) Refusal) → RefusesAll e r → RefusesAll e (translated_if syntax r)
refuses-read syntax (Refused pattern error) r is = ap (translated_if syntax) is
refuses-read syntax NoMemoryToRead r is = tt

-- what the first patterns read as is what their syntaxes stand for
pub first-syntaxes : (syntax : Grammar) (ps : List (Bor (List ℕ))) (k : ℕ) (ss : List Syntax) → k ≡ min (length ps) id_limit
    → all_syntaxes syntax (texts_of (take k ps)) ≡ Ok ss
    → all_translated syntax ss ≡ all_read syntax (take id_limit (texts_of ps))
first-syntaxes syntax ps k ss is read = ap (translated_if syntax) (sym read) ∙ ap (all_read syntax) (first-texts ps id_limit k is)

pub first-refused : (syntax : Grammar) (ps : List (Bor (List ℕ))) (k : ℕ) (e : PatternsError) → k ≡ min (length ps) id_limit
    → RefusesAll e (all_syntaxes syntax (texts_of (take k ps)))
    → RefusesAll e (all_read syntax (take id_limit (texts_of ps)))
first-refused syntax ps k e is refused =
    subst (λ (texts : List (List ℕ)). RefusesAll e (all_read syntax texts)) (first-texts ps id_limit k is)
    (refuses-read syntax e (all_syntaxes syntax (texts_of (take k ps))) refused)
