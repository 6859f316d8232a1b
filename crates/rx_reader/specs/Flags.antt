-- The flags that a group or a directive names.
use Rattle.std.specs.Prelude.{ℕ, Bool, not, ◌&&◌, ◌||◌, ◌==◌, nat_eq, List, [], ◌∷◌, ◌++◌, length, take, drop, codes, Ok, if◌then◌else◌}
use Rattle.std.specs.List.{list_any, prefix_len, ends_with}
use Rattle.rx_reader.specs.declared.error.SyntaxErrorKind.TheVariants.{UnclosedGroup, Flag}
use Rattle.rx_reader.specs.declared.flags.Flags.{Flags}
use Rattle.rx_reader.specs.Reading.{Place, Read, refuse, at_end, past, ◌∈◌, is_at}
use Rattle.rx_reader.specs.Ahead.{past_n}

abbrev pub has : ℕ → List ℕ → Bool
has c letters = list_any (λ d. d == c) letters

-- a letter of a flag, or the hyphen before those that are switched off
abbrev pub is_letter : ℕ → Bool
is_letter c = c ∈ "imsURux-"

-- the letters in front, up to the first that is none or stood before it
unfoldable pub letters_after : (before : List ℕ) → List ℕ → List ℕ
letters_after before [] = []
letters_after before (c ∷ cs) =
    if is_letter c && not (has c before) then c ∷ letters_after (before ++ c ∷ []) cs else []

abbrev pub letters : List ℕ → List ℕ
letters text = letters_after [] text

-- how many letters stand before the hyphen; these are switched on, and those after it off
abbrev pub on_len : List ℕ → ℕ
on_len named = prefix_len (λ d. not (d ∈ "-")) named

abbrev pub on : List ℕ → List ℕ
on named = take (on_len named) named

abbrev pub off : List ℕ → List ℕ
off named = drop (on_len named) named

abbrev pub switched : (letter : ℕ) → (named : List ℕ) → (was : Bool) → Bool
switched letter named was = has letter (on named) || (was && not (has letter (off named)))

-- the flags, where these letters are named; the numbers are the letters' codes
abbrev pub changed : (named : List ℕ) → Flags → Flags
changed named flags = record {
  -- `i`, `m`, `s`, `U`
  case_insensitive = switched 105 named flags.case_insensitive;
  multi_line = switched 109 named flags.multi_line;
  dot_matches_new_line = switched 115 named flags.dot_matches_new_line;
  swap_greed = switched 85 named flags.swap_greed;
  -- `u`, `R`, `x`
  unicode = switched 117 named flags.unicode;
  crlf = switched 82 named flags.crlf;
  ignore_whitespace = switched 120 named flags.ignore_whitespace;
}

-- a hyphen, and no letter after it
abbrev pub ends_with_hyphen : List ℕ → Bool
ends_with_hyphen named = ends_with nat_eq named (codes "-")

-- so many letters end well at the place: at `:`, or at `)` where there are any
abbrev pub may_end_at : (count : ℕ) → Place → Bool
may_end_at count p = is_at ":" p || (is_at ")" p && not (count == 0))

-- The flags that the letters from p on make of these, up to a `:` or `)`; `from` is the place of the group's
-- parenthesis.
unfoldable pub read_flags : (from : Place) → Flags → Place → Read Flags
read_flags from flags p =
    let named = letters p.text in
    let q = past_n (length named) p in
    if at_end q then refuse UnclosedGroup from (past from)
    else if not (ends_with_hyphen named) && may_end_at (length named) q then Ok (changed named flags, q)
    else refuse Flag q (past q)
