-- The sets of ASCII characters that have a name between `[:` and `:]`.
use Rattle.std.specs.Prelude.{ℕ, List, [], ◌∷◌, Option, Some, None, codes, bytes_eq, if◌then◌else◌}
use Rattle.rx_sets.specs.declared.ascii.ClassAsciiKind.{ClassAsciiKind}
use Rattle.rx_sets.specs.declared.ascii.ClassAsciiKind.TheVariants.{Alnum, Alpha, Ascii, Blank, Cntrl, Digit, Graph, Lower, Print, Punct, Space, Upper, Word, Xdigit}
use Prim.Native.String.{String}

-- the members, in fewest ranges
abbrev pub ascii_ranges : ClassAsciiKind → List (ℕ × ℕ)
ascii_ranges Alnum = (0x30, 0x39) ∷ (0x41, 0x5A) ∷ (0x61, 0x7A) ∷ []
ascii_ranges Alpha = (0x41, 0x5A) ∷ (0x61, 0x7A) ∷ []
ascii_ranges Ascii = (0x00, 0x7F) ∷ []
ascii_ranges Blank = (0x09, 0x09) ∷ (0x20, 0x20) ∷ []
ascii_ranges Cntrl = (0x00, 0x1F) ∷ (0x7F, 0x7F) ∷ []
ascii_ranges Digit = (0x30, 0x39) ∷ []
ascii_ranges Graph = (0x21, 0x7E) ∷ []
ascii_ranges Lower = (0x61, 0x7A) ∷ []
ascii_ranges Print = (0x20, 0x7E) ∷ []
ascii_ranges Punct = (0x21, 0x2F) ∷ (0x3A, 0x40) ∷ (0x5B, 0x60) ∷ (0x7B, 0x7E) ∷ []
ascii_ranges Space = (0x09, 0x0D) ∷ (0x20, 0x20) ∷ []
ascii_ranges Upper = (0x41, 0x5A) ∷ []
ascii_ranges Word = (0x30, 0x39) ∷ (0x41, 0x5A) ∷ (0x5F, 0x5F) ∷ (0x61, 0x7A) ∷ []
ascii_ranges Xdigit = (0x30, 0x39) ∷ (0x41, 0x46) ∷ (0x61, 0x66) ∷ []

-- the names
abbrev pub ascii_names : List (String × ClassAsciiKind)
ascii_names =
    ("alnum", Alnum) ∷ ("alpha", Alpha) ∷ ("ascii", Ascii) ∷ ("blank", Blank) ∷ ("cntrl", Cntrl) ∷ ("digit", Digit) ∷ ("graph", Graph)
    ∷ ("lower", Lower) ∷ ("print", Print) ∷ ("punct", Punct) ∷ ("space", Space) ∷ ("upper", Upper) ∷ ("word", Word) ∷ ("xdigit", Xdigit) ∷ []

-- the set of that name, among those
abbrev pub named_among : List (String × ClassAsciiKind) → List ℕ → Option ClassAsciiKind
named_among [] name = None
named_among (row ∷ rows) name = if bytes_eq (codes row.0) name then Some row.1 else named_among rows name

-- the set of that name
abbrev pub ascii_named : List ℕ → Option ClassAsciiKind
ascii_named = named_among ascii_names
