-- The counts of each repetition are in order in the expression of a pattern.
use Rattle.std.proofs.Common.{◌≡◌, ℕ, List, Ok, Err, refl}
use Rattle.std.specs.Prelude.{Result, chars}
use Rattle.std.specs.List.{All}
use Rattle.rx_model.specs.Expression.{Expression, AreOrdered, look}
use Rattle.rx_model.specs.Look.{Look}
use Rattle.rx_hir.proofs.OrderedFormsLemmas.{HaveOrder, literal-ordered, class-ordered, none-ordered, cons-ordered, repetition-ordered, concat-ordered, alternation-ordered}
use Rattle.rx_reader.specs.declared.config.Config.{Config}
use Rattle.rx_reader.specs.declared.flags.Flags.{Flags}
use Rattle.rx_reader.specs.declared.piece.Piece.{Piece}
use Rattle.rx_reader.specs.declared.atom.Atom.{Atom}
use Rattle.rx_reader.specs.declared.group_kind.GroupKind.{GroupKind}
use Rattle.rx_reader.specs.declared.group_kind.GroupKind.TheVariants.{NonCapturing, CaptureIndex, CaptureName}
use Rattle.rx_reader.specs.Grammar.{read}
use Rattle.rx_reader.specs.Syntax.{Syntax, Syntaxes, literal, atom, repeated, group, cat, alt, nil, cons}
use Rattle.rx_reader.proofs.lemmas.patterns.RepetitionLemmas.{InOrder, EachInOrder, read-order}
use Rattle.rx_syntax.specs.Translation.{atom_of, group_of, translated, all_translated}
use Rattle.rx_syntax.specs.Literals.{character}
use Rattle.rx_syntax.specs.Pattern.{reads}
use Rattle.rx_syntax.specs.Patterns.{Refusal, each_read, all_syntaxes, all_translated as each_translated, translated_if, all_read}
use Rattle.rx_syntax.proofs.lemmas.translation.AtomLemmas.{character-is, atom-is}
use Rattle.rx_syntax.proofs.lemmas.translation.GivesLemmas.{Gives, refused, gives, bind, all_of-gives}

look-ordered : (kind : Look) → AreOrdered (look kind)
unfolding AreOrdered
look-ordered kind = tt

character-ordered : (flags : Flags) (c : ℕ) → AreOrdered (character flags c)
character-ordered = character-is AreOrdered class-ordered literal-ordered look-ordered

atom-ordered : (config : Config) (flags : Flags) (piece : Piece) (a : Atom) → Gives AreOrdered (atom_of config flags piece a)
atom-ordered = atom-is AreOrdered class-ordered literal-ordered look-ordered

group-ordered : (kind : GroupKind) (body : Expression) → AreOrdered body → AreOrdered (group_of kind body)
unfolding AreOrdered
group-ordered NonCapturing body own = own
group-ordered (CaptureIndex number) body own = own
group-ordered (CaptureName number name) body own = own

module _ (config : Config) where
  mutual
    unfolding InOrder

    translated-ordered : (s : Syntax) → InOrder s → Gives AreOrdered (translated config s)
    translated-ordered (literal flags c) own = gives (character-ordered flags c)
    translated-ordered (atom flags piece a) own = atom-ordered config flags piece a
    translated-ordered (repeated min max greedy body) own = bind _ (translated-ordered body own.1)
        (λ h is. gives (repetition-ordered min max greedy h own.0 is))
    translated-ordered (group kind body) own = bind _ (translated-ordered body own) (λ h is. gives (group-ordered kind h is))
    translated-ordered (cat items) own = bind _ (each-ordered items own) (λ hs are. gives (concat-ordered hs are))
    translated-ordered (alt branches) own = bind _ (each-ordered branches own) (λ hs are. gives (alternation-ordered hs are))

    each-ordered : (ss : Syntaxes) → EachInOrder ss → Gives HaveOrder (all_translated config ss)
    each-ordered nil own = gives none-ordered
    each-ordered (cons s ss) own =
        bind _ (translated-ordered s own.0) (λ h is. bind _ (each-ordered ss own.1) (λ hs are. gives (cons-ordered h hs is are)))

  read-gives : (text : List ℕ) → Gives InOrder (read config text)
  read-gives text = record { given = λ s is. read-order config text s is }

  reads-gives : (text : List ℕ) → Gives AreOrdered (reads config text)
  unfolding reads
  reads-gives text = bind _ (read-gives text) (λ s own. translated-ordered s own)

  -- Lists of patterns.

  syntaxes-give : (texts : List (List ℕ)) → Gives (All InOrder) (all_syntaxes config texts)
  unfolding all_syntaxes
  syntaxes-give texts = all_of-gives (λ text. Unit {0}) InOrder (λ text. read config (chars text)) (λ text _. read-gives (chars text)) 0 texts (λ k d lt. tt)

  translated_if-gives : (r : Result (List Syntax) Refusal) → Gives (All InOrder) r → Gives (All AreOrdered) (translated_if config r)
  unfolding each_translated
  translated_if-gives (Err refusal) own = refused
  translated_if-gives (Ok ss) own = all_of-gives InOrder AreOrdered (translated config) translated-ordered 0 ss (own.given ss refl)

-- The laws.

pub ordered_one : (config : Config) (text : List ℕ) (h : Expression) → reads config text ≡ Ok h → AreOrdered h
ordered_one config text h is = (reads-gives config text).given h is

pub ordered_each : (config : Config) (patterns : List (List ℕ)) (hs : List Expression) → each_read config patterns ≡ Ok hs → All AreOrdered hs
unfolding each_read
ordered_each config patterns hs is =
    (all_of-gives (λ text. Unit {0}) AreOrdered (λ text. reads config (chars text)) (λ text _. reads-gives config (chars text)) 0 patterns (λ k d lt. tt)).given
    hs is

pub ordered_all : (config : Config) (patterns : List (List ℕ)) (hs : List Expression) → all_read config patterns ≡ Ok hs → All AreOrdered hs
ordered_all config patterns hs is = (translated_if-gives config (all_syntaxes config patterns) (syntaxes-give config patterns)).given hs is
