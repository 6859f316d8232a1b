-- Which kind of search a list of needles takes, and what is accounted for it.
use Rattle.std.specs.Prelude.{ℕ, ◌+◌, ◌*◌, ◌-◌, ◌^◌, min, max, Bool, true, false, ◌&&◌, ◌||◌, ◌==◌, nat_le, List, [], ◌∷◌, length, Option, None, Some, codes, if◌then◌else◌}
use Rattle.std.specs.List.{list_all, list_any}
use Rattle.std.specs.Option.{option_map, unwrap_or}
use Rattle.rx_prefilter.specs.declared.choice.Choice.{Choice}
use Rattle.rx_prefilter.specs.declared.choice.Choice.TheVariants.{Memchr, Memchr2, Memchr3, Memmem, Multi, ByteSet, AhoCorasick}

-- a needle of no bytes, of one byte, and of at least n bytes
abbrev pub is_empty : List ℕ → Bool
is_empty needle = length needle == 0

abbrev pub is_single : List ℕ → Bool
is_single needle = length needle == 1

abbrev pub has_bytes : ℕ → List ℕ → Bool
has_bytes n needle = nat_le n (length needle)

-- the kind for n needles of one byte
unfoldable pub choice_of_bytes : ℕ → Choice
choice_of_bytes n = if n == 1 then Memchr else if n == 2 then Memchr2 else if n == 3 then Memchr3 else ByteSet

-- the first kind that the needles fit; none where there is no needle, or an empty one
unfoldable pub choice_of : List (List ℕ) → Option Choice
choice_of needles =
    if length needles == 0 || list_any is_empty needles then None else
    if list_all is_single needles then Some (choice_of_bytes (length needles)) else
    if length needles == 1 then Some Memmem else
    if nat_le (length needles) 64 && list_all (has_bytes 2) needles then Some Multi else
    Some AhoCorasick

-- the name of a kind
unfoldable pub name_of : Choice → List ℕ
name_of Memchr = codes "memchr"
name_of Memchr2 = codes "memchr2"
name_of Memchr3 = codes "memchr3"
name_of Memmem = codes "memmem"
name_of Multi = codes "multi"
name_of ByteSet = codes "byteset"
name_of AhoCorasick = codes "aho-corasick"

-- the length of all needles together, and of the longest
abbrev pub total_length : List (List ℕ) → ℕ
total_length [] = 0
total_length (needle ∷ needles) = length needle + total_length needles

abbrev pub greatest_length : List (List ℕ) → ℕ
greatest_length [] = 0
greatest_length (needle ∷ needles) = max (length needle) (greatest_length needles)

-- a sum or a product that stops at the greatest number of 64 bits
abbrev pub saturated : ℕ → ℕ
saturated n = min n (2 ^ 64 - 1)

-- the bytes that are accounted for a kind of search for these needles
unfoldable pub accounted : Choice → List (List ℕ) → ℕ
accounted Memchr needles = 0
accounted Memchr2 needles = 0
accounted Memchr3 needles = 0
accounted Memmem needles = saturated (total_length needles)
accounted Multi needles = saturated (total_length needles)
accounted ByteSet needles = 0
accounted AhoCorasick needles = saturated (1028 * (1 + total_length needles))

-- a search is fast by a kind of the kit's, and by `Multi` where each needle has at least three bytes
unfoldable pub is_fast : Choice → List (List ℕ) → Bool
is_fast Memchr needles = true
is_fast Memchr2 needles = true
is_fast Memchr3 needles = true
is_fast Memmem needles = true
is_fast Multi needles = list_all (has_bytes 3) needles
is_fast ByteSet needles = false
is_fast AhoCorasick needles = false

-- the needles that a prefilter has, where they fit a kind
abbrev pub served : List (List ℕ) → Option (List (List ℕ))
served needles = option_map (λ choice. needles) (choice_of needles)

-- the kind of a prefilter of these needles, which fit one
abbrev pub chosen : List (List ℕ) → Choice
chosen needles = unwrap_or (choice_of needles) AhoCorasick
