-- Atoms are UTF-8: a class of scalars always, and a class of bytes where `utf8` refuses those above 7F.
use Rattle.std.proofs.Common.{◌≡◌, ℕ, suc, ◌≤◌, Bool, true, false, not, ◌&&◌, ◌||◌, List, [], ◌∷◌, Option, Some, None, option_map, refl, sym, ◌∙◌, true≢false, inl, inr, arith}
use Rattle.std.specs.Prelude.{if◌then◌else◌, nat_le, encode_utf8}
use Rattle.std.specs.Char.{IsScalar}
use Rattle.std.specs.List.{All}
use Rattle.std.proofs.Math.Utf8.{low_scalar}
use Rattle.std.proofs.lemmas.Bool.{or_cases}
use Rattle.std.proofs.lemmas.Bool.Decides.{nat_tests}
use Rattle.std.proofs.lemmas.List.Elements.{All-nil, All-cons, All-append}
use Rattle.std.proofs.lemmas.Str.{IsUtf8-encode}
use Rattle.rx_model.specs.Expression.{Expression}
use Rattle.rx_model.specs.Text.{is_member, scalar_ranges, byte_ranges}
use Rattle.rx_class.specs.Ranges.{next_scalar, next_byte, fewest, is_ascii, HaveScalarEnds, AreScalarRanges}
use Rattle.rx_class.specs.Scalars.{complement}
use Rattle.rx_class.specs.Bytes.{byte_folded, byte_complement, other_case}
use Rattle.rx_class.specs.Folding.{folded}
use Rattle.rx_class.proofs.RangeLemmas.{ends-bound, Ends}
use Rattle.rx_class.proofs.SuccessorLemmas.{bytes-succeed, IsAny, scalars-from-ends}
use Rattle.rx_class.proofs.ScalarLemmas.{AreScalarRanges-complement}
use Rattle.rx_class.proofs.FoldLemmas.{AreScalarRanges-folded}
use Rattle.rx_class.proofs.ByteLemmas.{byte_folded-members, AreByteRanges-folded}
use Rattle.rx_class.proofs.EarlyLemmas.{one-has-ends, fewest-are}
use Rattle.rx_sets.specs.Members.{scalars_where}
use Rattle.rx_sets.specs.Perl.{is_perl_char, ascii_kind}
use Rattle.rx_sets.specs.Ascii.{ascii_ranges}
use Rattle.rx_sets.specs.Property.{property}
use Rattle.rx_sets.specs.declared.ascii.ClassAsciiKind.{ClassAsciiKind}
use Rattle.rx_sets.specs.declared.ascii.ClassAsciiKind.TheVariants.{Alnum, Alpha, Ascii, Blank, Cntrl, Digit, Graph, Lower, Print, Punct, Space, Upper, Word, Xdigit}
use Rattle.rx_sets.proofs.MembersLemmas.{scalars_where-ranges}
use Rattle.rx_hir.specs.Normal.{class_of, literal_of}
use Rattle.rx_hir.proofs.Utf8FormsLemmas.{HasUtf8, either-utf8, literal-utf8, scalars-utf8, bytes-utf8}
use Rattle.rx_reader.specs.declared.config.Config.{Config}
use Rattle.rx_reader.specs.declared.flags.Flags.{Flags}
use Rattle.rx_reader.specs.declared.piece.Piece.{Piece}
use Rattle.rx_reader.specs.declared.atom.Atom.{Atom}
use Rattle.rx_reader.specs.declared.atom.Atom.TheVariants.{HexByte, Dot, Assertion, Perl, Property, Bracketed}
use Rattle.rx_reader.specs.declared.class_item.ClassItem.{ClassItem}
use Rattle.rx_reader.specs.declared.class_item.ClassItem.TheVariants as items
use Rattle.rx_reader.specs.Config.{utf8_of, terminator_of}
use Rattle.rx_reader.specs.Characters.{AllInItem, AllInAtom}
use Rattle.rx_syntax.specs.Literals.{character, in_either_case}
use Rattle.rx_syntax.specs.Classes.{scalars_under, scalars_named, item_scalars, all_scalars, all_bytes, byte_class, bytes_under, line_ends, has_odd_terminator}
use Rattle.rx_syntax.specs.Translation.{atom_of}
use Rattle.rx_syntax.proofs.lemmas.translation.GivesLemmas.{Gives, refused, gives, bind, test, any}

-- Scalars.

abbrev AreScalars : ℕ × ℕ → Type 0
AreScalars r = IsScalar r.0 × IsScalar r.1

folded-ranges : (b : Bool) (members : List (ℕ × ℕ)) → AreScalarRanges members → AreScalarRanges (if b then folded members else members)
folded-ranges true members ranges = AreScalarRanges-folded members ranges.1
folded-ranges false members ranges = ranges

negated-ranges : (negated : Bool) (members : List (ℕ × ℕ)) → AreScalarRanges members → AreScalarRanges (if negated then complement members else members)
negated-ranges true members ranges = AreScalarRanges-complement members ranges
negated-ranges false members ranges = ranges

scalars_under-ranges : (flags : Flags) (negated : Bool) (members : List (ℕ × ℕ)) → AreScalarRanges members
    → AreScalarRanges (scalars_under flags negated members)
scalars_under-ranges flags negated members ranges =
    negated-ranges negated (if flags.case_insensitive then folded members else members) (folded-ranges flags.case_insensitive members ranges)

named-ranges : {X : Type 0} (passes : X → ℕ → Bool) (flags : Flags) (piece : Piece) (negated : Bool) (found : Option X)
    → Gives AreScalarRanges (scalars_named flags piece negated (option_map (λ set. scalars_where (passes set)) found))
named-ranges passes flags piece negated (Some set) = gives (scalars_under-ranges flags negated (scalars_where (passes set)) (scalars_where-ranges (passes set)))
named-ranges passes flags piece negated None = refused

property-ranges : (flags : Flags) (piece : Piece) (name : List ℕ) (negated : Bool) → Gives AreScalarRanges (scalars_named flags piece negated (property name))
property-ranges flags piece name negated = named-ranges _ flags piece negated _

ascii-ends : (kind : ClassAsciiKind) → Ends IsScalar (ascii_ranges kind)
ascii-ends Alnum = (refl, refl, (refl, refl, (refl, refl, tt)))
ascii-ends Alpha = (refl, refl, (refl, refl, tt))
ascii-ends Ascii = (refl, refl, tt)
ascii-ends Blank = (refl, refl, (refl, refl, tt))
ascii-ends Cntrl = (refl, refl, (refl, refl, tt))
ascii-ends Digit = (refl, refl, tt)
ascii-ends Graph = (refl, refl, tt)
ascii-ends Lower = (refl, refl, tt)
ascii-ends Print = (refl, refl, tt)
ascii-ends Punct = (refl, refl, (refl, refl, (refl, refl, (refl, refl, tt))))
ascii-ends Space = (refl, refl, (refl, refl, tt))
ascii-ends Upper = (refl, refl, tt)
ascii-ends Word = (refl, refl, (refl, refl, (refl, refl, (refl, refl, tt))))
ascii-ends Xdigit = (refl, refl, (refl, refl, (refl, refl, tt)))

posix-ranges : (flags : Flags) (kind : ClassAsciiKind) (negated : Bool) → AreScalarRanges (scalars_under flags negated (fewest next_scalar (ascii_ranges kind)))
posix-ranges flags kind negated =
    scalars_under-ranges flags negated (fewest next_scalar (ascii_ranges kind))
    (fewest-are (ascii_ranges kind) (scalars-from-ends (ascii_ranges kind) (ascii-ends kind)))

perl-ranges : (flags : Flags) (test : ℕ → Bool) (negated : Bool) → AreScalarRanges (scalars_under flags negated (scalars_where test))
perl-ranges flags test negated = scalars_under-ranges flags negated (scalars_where test) (scalars_where-ranges test)

item-ends : (flags : Flags) (item : ClassItem) → AllInItem IsScalar item → Gives HaveScalarEnds (item_scalars flags item)
item-ends flags (items.Range low high) own = gives (one-has-ends low.character high.character own.0 own.1)
item-ends flags (items.Perl kind negated) own = gives (perl-ranges flags (is_perl_char kind) negated).1
item-ends flags (items.Posix kind negated) own = gives (posix-ranges flags kind negated).1
item-ends flags (items.Property negated piece name) own = record { given = λ rs is. ((property-ranges flags piece name negated).given rs is).1 }

all-ends : (flags : Flags) (items : List ClassItem) → All (AllInItem IsScalar) items → Gives HaveScalarEnds (all_scalars flags items)
all-ends flags [] own = gives (All-nil AreScalars)
all-ends flags (item ∷ items) own =
    bind _ (item-ends flags item (own 0 item (omega arith))) (λ first h.
    bind _ (all-ends flags items (λ k d lt. own (suc k) d (omega arith))) (λ others rest. gives (All-append AreScalars first others h rest)))

-- what `.` leaves out are scalars, where the terminator counts only if it is an ASCII character
line-ends : (whole crlf small : Bool) (t : ℕ) → (small ≡ true → IsScalar t) → (not (whole || crlf) && not small) ≡ false
    → HaveScalarEnds (if whole then [] else if crlf then (13, 13) ∷ (10, 10) ∷ [] else (t, t) ∷ [])
line-ends true crlf small t is even = All-nil AreScalars
line-ends false true small t is even = All-cons AreScalars (13, 13) ((10, 10) ∷ []) (refl, refl) (one-has-ends 10 10 refl refl)
line-ends false false true t is even = one-has-ends t t (is refl) (is refl)
line-ends false false false t is even = absurd (true≢false even)

dot-ends : (config : Config) (flags : Flags) → has_odd_terminator config flags ≡ false → HaveScalarEnds (line_ends config flags)
dot-ends config flags even =
    let t = terminator_of config in
    line-ends flags.dot_matches_new_line flags.crlf (nat_le t 0x7F) t (λ small. low_scalar t (grind (arith, nat_tests))) even

-- Bytes.

byte_class-utf8 : (config : Config) (piece : Piece) (members : List (ℕ × ℕ)) → utf8_of config ≡ true → Gives HasUtf8 (byte_class config piece members)
byte_class-utf8 config piece members utf8 =
    test (utf8_of config && not (is_ascii members)) (λ _. refused)
    (λ passes. gives (bytes-utf8 members (ascii-of (utf8_of config) (is_ascii members) utf8 passes)))
  where
    ascii-of : (asked ascii : Bool) → asked ≡ true → (asked && not ascii) ≡ false → ascii ≡ true
    ascii-of true true is passes = refl
    ascii-of true false is passes = absurd (true≢false passes)
    ascii-of false ascii is passes = absurd (true≢false (sym is))

-- an ASCII letter in either case is ASCII
case-ascii : (c : ℕ) → nat_le c 0x7F ≡ true → is_ascii (byte_folded ((c, c) ∷ [])) ≡ true
case-ascii c small =
    (ends-bound next_byte IsAny bytes-succeed (byte_folded ((c, c) ∷ [])) 0x7F (AreByteRanges-folded ((c, c) ∷ []))).1 (λ b is.
    elim (or_cases (is_member ((c, c) ∷ []) b) (is_member ((c, c) ∷ []) (other_case b)) (sym (byte_folded-members ((c, c) ∷ []) b) ∙ is)) [
      | inl own ↦ own-small b own
      | inr other ↦ other-small b other
    ])
  where
    own-small : (b : ℕ) → is_member ((c, c) ∷ []) b ≡ true → b ≤ 0x7F
    own-small b own = grind (arith, nat_tests)

    other-small : (b : ℕ) → is_member ((c, c) ∷ []) (other_case b) ≡ true → b ≤ 0x7F
    other-small b other = let low : other_case b ≤ 0x7F = own-small (other_case b) other in grind (arith, nat_tests)

-- Atoms.

pub character-utf8 : (flags : Flags) (c : ℕ) → IsScalar c → HasUtf8 (character flags c)
character-utf8 flags c is =
    let scalars : Expression = class_of (scalar_ranges (folded ((c, c) ∷ []))) in
    let bytes : Expression = class_of (byte_ranges (byte_folded ((c, c) ∷ []))) in
    let text : Expression = literal_of (encode_utf8 c) in
    let own : HasUtf8 text = literal-utf8 (encode_utf8 c) (IsUtf8-encode c is) in
    either-utf8 flags.case_insensitive (in_either_case flags c) text (λ _.
    either-utf8 flags.unicode scalars (if nat_le c 0x7F then bytes else text)
    (λ _. scalars-utf8 (folded ((c, c) ∷ [])) (AreScalarRanges-folded ((c, c) ∷ []) (one-has-ends c c is is)).1) (λ _.
    either-utf8 (nat_le c 0x7F) bytes text (λ small. bytes-utf8 (byte_folded ((c, c) ∷ [])) (case-ascii c small)) (λ _. own))) (λ _. own)

pub atom-utf8 : (config : Config) (flags : Flags) (piece : Piece) (a : Atom) → utf8_of config ≡ true → AllInAtom IsScalar a
    → Gives HasUtf8 (atom_of config flags piece a)
atom-utf8 config flags piece (HexByte c) utf8 own =
    test flags.unicode (λ _. gives (character-utf8 flags c own)) (λ _.
    test (nat_le c 0xFF) (λ _. byte_class-utf8 config piece (bytes_under flags false ((c, c) ∷ [])) utf8) (λ _. refused))
atom-utf8 config flags piece Dot utf8 own =
    test flags.unicode (λ _. test (has_odd_terminator config flags) (λ _. refused) (λ even.
    let ends = fewest-are (line_ends config flags) (dot-ends config flags even) in
    gives (scalars-utf8 (complement (fewest next_scalar (line_ends config flags)))
    (AreScalarRanges-complement (fewest next_scalar (line_ends config flags)) ends).1))) (λ _.
    byte_class-utf8 config piece (byte_complement (fewest next_byte (line_ends config flags))) utf8)
atom-utf8 config flags piece (Assertion kind) utf8 own = gives refl
atom-utf8 config flags piece (Perl kind negated) utf8 own =
    test flags.unicode
    (λ _. gives (scalars-utf8 (scalars_under flags negated (scalars_where (is_perl_char kind))) (perl-ranges flags (is_perl_char kind) negated).1)) (λ _.
    byte_class-utf8 config piece (bytes_under flags negated (fewest next_byte (ascii_ranges (ascii_kind kind)))) utf8)
atom-utf8 config flags piece (Property name negated) utf8 own =
    test flags.unicode (λ _. bind _ (property-ranges flags piece name negated) (λ members ranges. gives (scalars-utf8 members ranges.1))) (λ _. refused)
atom-utf8 config flags piece (Bracketed negated items) utf8 own =
    test flags.unicode (λ _. bind _ (all-ends flags items own) (λ ranges ends.
    gives (scalars-utf8 (scalars_under flags negated (fewest next_scalar ranges))
    (scalars_under-ranges flags negated (fewest next_scalar ranges) (fewest-are ranges ends)).1))) (λ _.
    bind _ (any (all_bytes flags piece items)) (λ ranges _. byte_class-utf8 config piece (bytes_under flags negated (fewest next_byte ranges)) utf8))
