-- The scalars and the bytes of the sets that a pattern may name.
use Rattle.std.specs.Prelude.{ℕ, Bool, List, if◌then◌else◌}
use Rattle.rx_class.specs.Ranges.{next_scalar, next_byte, fewest}
use Rattle.rx_class.specs.Scalars.{complement}
use Rattle.rx_class.specs.Bytes.{byte_complement, byte_folded}
use Rattle.rx_class.specs.Folding.{folded}
use Rattle.rx_sets.specs.Members.{scalars_where}
use Rattle.rx_sets.specs.Perl.{is_perl_char}
use Rattle.rx_sets.specs.Ascii.{ascii_ranges}
use Rattle.rx_sets.specs.Property.{set_scalars}
use Rattle.rx_sets.specs.declared.ascii.ClassAsciiKind.{ClassAsciiKind}
use Rattle.rx_reader.specs.declared.flags.Flags.{Flags}
use Rattle.rx_syntax.specs.declared.named.NamedSet.{NamedSet}
use Rattle.rx_syntax.specs.declared.named.NamedSet.TheVariants.{Perl, Posix, Property}
use Rattle.rx_syntax.specs.declared.named.SetKey.{SetKey}
use Rattle.rx_syntax.specs.declared.named.ByteKey.{ByteKey}

-- the scalars of a set
abbrev pub members_of : NamedSet → List (ℕ × ℕ)
members_of (Perl kind) = scalars_where (is_perl_char kind)
members_of (Posix kind) = fewest next_scalar (ascii_ranges kind)
members_of (Property set) = set_scalars set

-- with each character that shares a simple folding with one, where that is asked for
abbrev pub either_case : (folds : Bool) → List (ℕ × ℕ) → List (ℕ × ℕ)
either_case folds members = if folds then folded members else members

-- and then those that are left, where that is asked for
abbrev pub under : (folds negated : Bool) → List (ℕ × ℕ) → List (ℕ × ℕ)
under folds negated members =
    let all = either_case folds members in
    if negated then complement all else all

-- those of a set as it stands in a pattern
abbrev pub scalars_of : SetKey → List (ℕ × ℕ)
scalars_of key = under key.folded key.negated (members_of key.set)

-- the set under the flags at it
abbrev pub key_of : Flags → NamedSet → (negated : Bool) → SetKey
key_of flags set negated = record { set = set; folded = flags.case_insensitive; negated = negated }

-- Bytes.

-- with the other case of each ASCII letter, where that is asked for; and then those of the 256 that are left, where
-- that is asked for
abbrev pub bytes_within : (folds negated : Bool) → List (ℕ × ℕ) → List (ℕ × ℕ)
bytes_within folds negated members =
    let all = if folds then byte_folded members else members in
    if negated then byte_complement all else all

-- those of a set as it stands in a pattern
abbrev pub bytes_of : ByteKey → List (ℕ × ℕ)
bytes_of key = bytes_within key.folded key.negated (fewest next_byte (ascii_ranges key.kind))

-- the set under the flags at it
abbrev pub byte_key_of : Flags → ClassAsciiKind → (negated : Bool) → ByteKey
byte_key_of flags kind negated = record { kind = kind; folded = flags.case_insensitive; negated = negated }
