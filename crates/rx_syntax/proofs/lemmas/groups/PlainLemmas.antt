-- An escaped text is the literal of its characters.
use Rattle.std.proofs.Common.{◌≡◌, ℕ, Bool, false, List, [], ◌∷◌, refl, ap, ◌∙◌}
use Rattle.std.specs.Prelude.{map, encode_utf8, Result, Ok, if◌then◌else◌}
use Rattle.std.specs.List.{list_any}
use lib.Utf8.{encodes}
use Rattle.rx_model.specs.Expression.{Expression}
use Rattle.rx_hir.specs.Normal.{literal_of, parts_of, sequence_of, concat_of, alternation_of}
use Rattle.rx_reader.specs.Config.{flags_of}
use Rattle.rx_reader.specs.Plain.{is_meta, escaped_text, has_skipped, characters}
use Rattle.rx_reader.specs.Reading.{◌>>=◌}
use Rattle.rx_reader.specs.Syntax.{Syntax}
use Rattle.rx_reader.specs.declared.config.Config.{Config}
use Rattle.rx_reader.specs.declared.flags.Flags.{Flags}
use Rattle.rx_reader.specs.declared.error.SyntaxError.{SyntaxError}
use Rattle.rx_reader.proofs.lemmas.patterns.PlainLemmas.{escaped-reads, plain-reads}
use Rattle.rx_syntax.specs.Literals.{in_either_case, character}
use Rattle.rx_syntax.specs.Pattern.{reads}
use Rattle.rx_syntax.specs.Translation.{translated}
use Rattle.rx_syntax.proofs.lemmas.translation.TranslationLemmas.{joined-run, run-alone}

-- the parts of a literal are it alone, or nothing where it has no bytes
one-literal : (bytes : List ℕ) → sequence_of (parts_of (literal_of bytes)) ≡ literal_of bytes
one-literal [] = refl
one-literal (b ∷ bytes) = refl

one-alternative : (bytes : List ℕ) → alternation_of (literal_of bytes ∷ []) ≡ literal_of bytes
one-alternative [] = refl
one-alternative (b ∷ bytes) = refl

module _ (config : Config) (flags : Flags) (off : flags.case_insensitive ≡ false) where
  in-own-case : (cs : List ℕ) → map (character flags) cs ≡ map (λ c. literal_of (encode_utf8 c)) cs
  in-own-case cs = ap (λ (b : Bool). map (λ c. if b then in_either_case flags c else literal_of (encode_utf8 c)) cs) off

  row-translated : (cs : List ℕ) → translated config (characters flags cs) ≡ Ok (literal_of (encodes cs))
  row-translated cs =
      ap (λ (r : Result (List Expression) SyntaxError). ((r >>= λ es. Ok (concat_of es)) >>= λ e. Ok (e ∷ [])) >>= λ es. Ok (alternation_of es))
      (run-alone config flags cs)
      ∙ ap (λ (es : List Expression). Ok (alternation_of (concat_of es ∷ []))) (in-own-case cs)
      ∙ ap (λ (es : List Expression). Ok (alternation_of (sequence_of es ∷ []))) (joined-run cs)
      ∙ ap (λ (e : Expression). Ok (alternation_of (e ∷ []))) (one-literal (encodes cs))
      ∙ ap (λ (e : Expression). Ok e) (one-alternative (encodes cs))

pub escaped-literal : (config : Config) (cs : List ℕ) → (flags_of config).case_insensitive ≡ false → has_skipped (flags_of config) cs ≡ false
    → reads config (escaped_text cs) ≡ Ok (literal_of (encodes cs))
unfolding reads
escaped-literal config cs sensitive solid =
    ap (λ (r : Result Syntax SyntaxError). r >>= translated config) (escaped-reads config cs solid) ∙ row-translated config (flags_of config) sensitive cs

pub plain-literal : (config : Config) (cs : List ℕ) → (flags_of config).case_insensitive ≡ false → has_skipped (flags_of config) cs ≡ false
    → list_any is_meta cs ≡ false → reads config cs ≡ Ok (literal_of (encodes cs))
unfolding reads
plain-literal config cs sensitive solid plain =
    ap (λ (r : Result Syntax SyntaxError). r >>= translated config) (plain-reads config cs solid plain) ∙ row-translated config (flags_of config) sensitive cs
