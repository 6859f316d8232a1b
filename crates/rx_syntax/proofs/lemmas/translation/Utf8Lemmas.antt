-- Under `utf8` the expression of a pattern is UTF-8.
use Rattle.std.proofs.Common.{◌≡◌, ℕ, ◌-◌, true, List, take, drop, Some, Ok, Err, refl, subst}
use Rattle.std.specs.Prelude.{Result, chars, slice_get, IsUtf8}
use Rattle.std.specs.Char.{IsScalar}
use Rattle.std.specs.List.{All}
use Rattle.std.proofs.lemmas.Option.{slice_get_within, get_or_from_slice_get}
use Rattle.std.proofs.lemmas.Str.{scalars-chars}
use lib.Utf8.{scalars}
use Rattle.rx_model.specs.Expression.{Expression, AreOrdered}
use Rattle.rx_model.specs.Meaning.{Means}
use Rattle.rx_model.specs.Search.{Patterns}
use Rattle.rx_model.specs.Utf8.{MeansUtf8}
use Rattle.rx_hir.specs.Properties.{is_utf8}
use Rattle.rx_hir.proofs.Utf8Lemmas.{means-utf8}
use Rattle.rx_hir.proofs.Utf8FormsLemmas.{HasUtf8, HaveUtf8, cons-utf8, repetition-utf8, concat-utf8, alternation-utf8}
use Rattle.rx_reader.specs.declared.config.Config.{Config}
use Rattle.rx_reader.specs.declared.group_kind.GroupKind.{GroupKind}
use Rattle.rx_reader.specs.declared.group_kind.GroupKind.TheVariants.{NonCapturing, CaptureIndex, CaptureName}
use Rattle.rx_reader.specs.Config.{utf8_of}
use Rattle.rx_reader.specs.Grammar.{read}
use Rattle.rx_reader.specs.Syntax.{Syntax, Syntaxes, literal, atom, repeated, group, cat, alt, nil, cons}
use Rattle.rx_reader.specs.Characters.{AllIn, AllInEach}
use Rattle.rx_reader.proofs.lemmas.patterns.CharacterLemmas.{read-scalars}
use Rattle.rx_syntax.specs.Translation.{group_of, translated, all_translated}
use Rattle.rx_syntax.specs.Pattern.{reads}
use Rattle.rx_syntax.specs.Patterns.{Refusal, each_read, all_syntaxes, all_translated as each_translated, translated_if, all_read}
use Rattle.rx_syntax.proofs.lemmas.translation.GivesLemmas.{Gives, refused, gives, bind, all_of-gives}
use Rattle.rx_syntax.proofs.lemmas.translation.OrderedLemmas.{ordered_all}
use Rattle.rx_syntax.proofs.lemmas.translation.AtomUtf8.{character-utf8, atom-utf8}

group-utf8 : (kind : GroupKind) (body : Expression) → HasUtf8 body → HasUtf8 (group_of kind body)
group-utf8 NonCapturing body is = is
group-utf8 (CaptureIndex number) body is = is
group-utf8 (CaptureName number name) body is = is

module _ (config : Config) (utf8 : utf8_of config ≡ true) where
  mutual
    unfolding AllIn

    translated-utf8 : (s : Syntax) → AllIn IsScalar s → Gives HasUtf8 (translated config s)
    translated-utf8 (literal flags c) own = gives (character-utf8 flags c own)
    translated-utf8 (atom flags piece a) own = atom-utf8 config flags piece a utf8 own
    translated-utf8 (repeated min max greedy body) own = bind _ (translated-utf8 body own) (λ h is. gives (repetition-utf8 min max greedy h is))
    translated-utf8 (group kind body) own = bind _ (translated-utf8 body own) (λ h is. gives (group-utf8 kind h is))
    translated-utf8 (cat items) own = bind _ (all-utf8 items own) (λ hs are. gives (concat-utf8 hs are))
    translated-utf8 (alt branches) own = bind _ (all-utf8 branches own) (λ hs are. gives (alternation-utf8 hs are))

    all-utf8 : (ss : Syntaxes) → AllInEach IsScalar ss → Gives HaveUtf8 (all_translated config ss)
    all-utf8 nil own = gives refl
    all-utf8 (cons s ss) own =
        bind _ (translated-utf8 s own.0) (λ h is. bind _ (all-utf8 ss own.1) (λ hs are. gives (cons-utf8 h hs is are)))

  read-gives : (text : List ℕ) → scalars text ≡ true → Gives (AllIn IsScalar) (read config text)
  read-gives text are = record { given = λ s is. read-scalars config text s are is }

  reads-gives : (text : List ℕ) → scalars text ≡ true → Gives HasUtf8 (reads config text)
  unfolding reads
  reads-gives text are = bind _ (read-gives text are) (λ s own. translated-utf8 s own)

-- Lists of patterns.

module _ (config : Config) (utf8 : utf8_of config ≡ true) where
  each-gives : (texts : List (List ℕ)) → All IsUtf8 texts → Gives (All HasUtf8) (each_read config texts)
  unfolding each_read
  each-gives texts are = all_of-gives IsUtf8 HasUtf8 (λ text. reads config (chars text))
      (λ text is. reads-gives config utf8 (chars text) (scalars-chars text is)) 0 texts are

  syntaxes-give : (texts : List (List ℕ)) → All IsUtf8 texts → Gives (All (AllIn IsScalar)) (all_syntaxes config texts)
  unfolding all_syntaxes
  syntaxes-give texts are = all_of-gives IsUtf8 (AllIn IsScalar) (λ text. read config (chars text))
      (λ text is. read-gives config utf8 (chars text) (scalars-chars text is)) 0 texts are

  translated_if-gives : (r : Result (List Syntax) Refusal) → Gives (All (AllIn IsScalar)) r → Gives (All HasUtf8) (translated_if config r)
  unfolding each_translated
  translated_if-gives (Err refusal) own = refused
  translated_if-gives (Ok ss) own = all_of-gives (AllIn IsScalar) HasUtf8 (translated config) (translated-utf8 config utf8) 0 ss (own.given ss refl)

-- The laws.

pub property : (config : Config) (text : List ℕ) (h : Expression) → utf8_of config ≡ true → scalars text ≡ true → reads config text ≡ Ok h → is_utf8 h ≡ true
property config text h utf8 are is = (reads-gives config utf8 text are).given h is

pub meaning : (config : Config) (pattern : List ℕ) (h : Expression) → utf8_of config ≡ true → scalars pattern ≡ true → reads config pattern ≡ Ok h
    → (t : ℕ) (text : List ℕ) (i j : ℕ) → Means t text h i j → IsUtf8 (take (j - i) (drop i text))
meaning config pattern h utf8 are is t text i j m = means-utf8 t text h (property config pattern h utf8 are is) i j m

pub of_bytes : (config : Config) (pattern : List ℕ) (h : Expression) → utf8_of config ≡ true → IsUtf8 pattern → reads config (chars pattern) ≡ Ok h
    → is_utf8 h ≡ true
of_bytes config pattern h utf8 are is = property config (chars pattern) h utf8 (scalars-chars pattern are) is

pub of_each : (config : Config) (patterns : List (List ℕ)) (hs : List Expression) → utf8_of config ≡ true → All IsUtf8 patterns
    → each_read config patterns ≡ Ok hs → All HasUtf8 hs
of_each config patterns hs utf8 are is = (each-gives config utf8 patterns are).given hs is

pub of_all : (config : Config) (patterns : List (List ℕ)) (hs : List Expression) → utf8_of config ≡ true → All IsUtf8 patterns
    → all_read config patterns ≡ Ok hs → All HasUtf8 hs
of_all config patterns hs utf8 are is = (translated_if-gives config utf8 (all_syntaxes config patterns) (syntaxes-give config utf8 patterns are)).given hs is

pub of_patterns : (config : Config) (patterns : List (List ℕ)) (r : Patterns) (text : List ℕ) → utf8_of config ≡ true → All IsUtf8 patterns
    → all_read config patterns ≡ Ok r.expressions → IsUtf8 text → MeansUtf8 r text
of_patterns config patterns r text utf8 are is whole = record {
  whole = whole;
  ordered = at_each AreOrdered (ordered_all config patterns r.expressions is);
  parts = λ p h at i j lt m. means-utf8 r.terminator text h (at_each HasUtf8 (of_all config patterns r.expressions utf8 are is) p h at) i j m;
}
  where
    at_each : (P : Expression → Type 0) → All P r.expressions → (p : ℕ) (h : Expression) → slice_get r.expressions p ≡ Some h → P h
    at_each P all p h at = subst P (get_or_from_slice_get r.expressions p h h at) (all p h (slice_get_within r.expressions p h at))
