-- What a character that stands for itself means, and a byte that is written by two digits.
use Rattle.std.specs.Prelude.{ℕ, nat_le, [], ◌∷◌, if◌then◌else◌, encode_utf8}
use Rattle.rx_model.specs.Text.{scalar_ranges, byte_ranges}
use Rattle.rx_model.specs.Expression.{Expression}
use Rattle.rx_class.specs.Folding.{folded}
use Rattle.rx_class.specs.Bytes.{byte_folded}
use Rattle.rx_hir.specs.Normal.{literal_of, class_of}
use Rattle.rx_reader.specs.declared.flags.Flags.{Flags}

-- the character in either case, where `i` is on. Under `u` these are the characters that share its simple folding;
-- else an ASCII letter has its other case, and any other character is its UTF-8
abbrev pub in_either_case : Flags → (c : ℕ) → Expression
in_either_case flags c =
    let scalars = class_of (scalar_ranges (folded ((c, c) ∷ []))) in
    let bytes = class_of (byte_ranges (byte_folded ((c, c) ∷ []))) in
    let text = literal_of (encode_utf8 c) in
    if flags.unicode then scalars else if nat_le c 0x7F then bytes else text

-- the character, which is its UTF-8 where `i` is off
abbrev pub character : Flags → (c : ℕ) → Expression
character flags c = if flags.case_insensitive then in_either_case flags c else literal_of (encode_utf8 c)
