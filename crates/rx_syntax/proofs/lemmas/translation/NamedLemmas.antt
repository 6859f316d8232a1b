-- Atoms that are named sets of scalars.
use Rattle.std.proofs.Common.{◌≡◌, ℕ, Bool, true, List, Ok, ap, sym, ◌∙◌}
use Rattle.std.specs.Prelude.{if◌then◌else◌}
use Rattle.rx_class.specs.Ranges.{next_byte, fewest}
use Rattle.rx_sets.specs.Ascii.{ascii_ranges}
use Rattle.rx_sets.specs.Members.{scalars_where}
use Rattle.rx_sets.specs.Perl.{is_perl_char, ascii_kind}
use Rattle.rx_sets.specs.Property.{property}
use Rattle.rx_sets.specs.declared.perl.ClassPerlKind.{ClassPerlKind}
use Rattle.rx_reader.specs.Reading.{◌>>=◌}
use Rattle.rx_reader.specs.Refusal.{Refuses}
use Rattle.rx_reader.specs.declared.atom.Atom.{Atom}
use Rattle.rx_reader.specs.declared.atom.Atom.TheVariants as atoms
use Rattle.rx_reader.specs.declared.config.Config.{Config}
use Rattle.rx_reader.specs.declared.error.ParseError.{ParseError}
use Rattle.rx_reader.specs.declared.error.SyntaxErrorKind.TheVariants as kinds
use Rattle.rx_reader.specs.declared.flags.Flags.{Flags}
use Rattle.rx_reader.specs.declared.piece.Piece.{Piece}
use Rattle.rx_syntax.specs.Classes.{scalars_under, scalars_named, scalar_class, byte_class, bytes_under}
use Rattle.rx_syntax.specs.Named.{scalars_of, key_of}
use Rattle.rx_syntax.specs.Refused.{refused}
use Rattle.rx_syntax.specs.Translation.{atom_of}
use Rattle.rx_syntax.specs.declared.named.NamedSet.TheVariants.{Perl}
use Rattle.rx_syntax.specs.declared.named.SetKey.{SetKey}
use Rattle.rx_syntax.proofs.lemmas.patterns.RefusalLemmas.{refuses-then}

pub perl-set : (config : Config) (flags : Flags) (piece : Piece) (a : Atom) (kind : ClassPerlKind) (negated : Bool) (key : SetKey) → flags.unicode ≡ true
    → a ≡ atoms.Perl kind negated
    → key ≡ key_of flags (Perl kind) negated → atom_of config flags piece a ≡ Ok (scalar_class (scalars_of key))
perl-set config flags piece a kind negated key on is own =
    let scalars = Ok (scalar_class (scalars_under flags negated (scalars_where (is_perl_char kind)))) in
    let bytes = byte_class config piece (bytes_under flags negated (fewest next_byte (ascii_ranges (ascii_kind kind)))) in
    ap (atom_of config flags piece) is ∙ ap (λ (b : Bool). if b then scalars else bytes) on ∙ ap (λ (k : SetKey). Ok (scalar_class (scalars_of k))) (sym own)

property-set-on : (config : Config) (flags : Flags) (piece : Piece) (a : Atom) (name : List ℕ) (negated : Bool) → flags.unicode ≡ true
    → a ≡ atoms.Property name negated
    → (scalars_named flags piece negated (property name) >>= λ members. Ok (scalar_class members)) ≡ atom_of config flags piece a
property-set-on config flags piece a name negated on is =
    let scalars = scalars_named flags piece negated (property name) >>= λ members. Ok (scalar_class members) in
    sym (ap (atom_of config flags piece) is ∙ ap (λ (b : Bool). if b then scalars else refused kinds.UnicodeOff piece) on)

pub property-set : (config : Config) (flags : Flags) (piece : Piece) (a : Atom) (name : List ℕ) (negated : Bool) (key : SetKey) → flags.unicode ≡ true
    → a ≡ atoms.Property name negated
    → scalars_named flags piece negated (property name) ≡ Ok (scalars_of key) → atom_of config flags piece a ≡ Ok (scalar_class (scalars_of key))
property-set config flags piece a name negated key on is own =
    sym (property-set-on config flags piece a name negated on is) ∙ ap (λ r. r >>= λ members. Ok (scalar_class members)) own

pub property-refused : (config : Config) (flags : Flags) (piece : Piece) (a : Atom) (name : List ℕ) (negated : Bool) (e : ParseError) → flags.unicode ≡ true
    → a ≡ atoms.Property name negated
    → Refuses e (scalars_named flags piece negated (property name)) → Refuses e (atom_of config flags piece a)
property-refused config flags piece a name negated e on is own =
    refuses-then e (scalars_named flags piece negated (property name)) (λ members. Ok (scalar_class members)) (atom_of config flags piece a)
    (property-set-on config flags piece a name negated on is) own
