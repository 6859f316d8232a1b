-- The kinds of look-around, when each holds at a place of a text, and the number that tells a kind.
use Rattle.std.specs.Prelude.{◌≡◌, refl, ℕ, ◌-◌, Bool, false, not, ◌&&◌, ◌||◌, ◌==◌, List, [], ◌∷◌, length, Option, Some, None, if◌then◌else◌, is_some, nat_le, slice_get}
use Rattle.std.specs.Bool.{beq}
use Rattle.std.specs.Char.{len_utf8}
use Rattle.std.specs.Option.{option_or}
use Rattle.unicode.specs.Perl.{is_word_char, is_word_byte}
use Rattle.rx_model.specs.Text.{char_at}

-- What a look-around asks for.
pub data Look : Type 0 where
  -- the start of the text, and its end
  start_text : Look
  end_text : Look
  -- the start of a line, where the line terminator ends lines, and its end
  start_lf : Look
  end_lf : Look
  -- the start of a line, where `\r`, `\n` and `\r\n` end lines, and its end
  start_crlf : Look
  end_crlf : Look
  -- a word character on one side and none on the other, and not so
  word_ascii : Look
  word_ascii_negate : Look
  word_unicode : Look
  word_unicode_negate : Look
  -- the start of a word, and its end
  word_start_ascii : Look
  word_end_ascii : Look
  word_start_unicode : Look
  word_end_unicode : Look
  -- the half of a word's start that lies before the place, and the half of its end that lies after it
  word_start_half_ascii : Look
  word_end_half_ascii : Look
  word_start_half_unicode : Look
  word_end_half_unicode : Look

-- there is a value, and it passes the test
abbrev pub is_some_and : Option ℕ → (ℕ → Bool) → Bool
is_some_and None test = false
is_some_and (Some x) test = test x

-- the character, where its encoding takes n bytes
abbrev pub of_length : ℕ → Option ℕ → Option ℕ
of_length n None = None
of_length n (Some c) = if len_utf8 c == n then Some c else None

module _ (text : List ℕ) (i : ℕ) where
  -- the byte before place i, and the byte at it
  abbrev pub byte_before : Option ℕ
  byte_before = if i == 0 then None else slice_get text (i - 1)

  abbrev pub byte_after : Option ℕ
  byte_after = slice_get text i

  -- the character whose UTF-8 encoding takes n bytes and ends at i, if one does
  abbrev pub char_of_length_before : (n : ℕ) → Option ℕ
  char_of_length_before n = if nat_le n i then of_length n (char_at text (i - n)) else None

  -- the character whose UTF-8 encoding ends at i, if one does, and the one whose encoding begins there
  unfoldable pub char_before : Option ℕ
  char_before =
      option_or (char_of_length_before 1) (option_or (char_of_length_before 2)
      (option_or (char_of_length_before 3) (char_of_length_before 4)))

  abbrev pub char_after : Option ℕ
  char_after = char_at text i

  -- the byte before the place, and the one after it, is b
  abbrev pub is_before : (b : ℕ) → Bool
  is_before b = is_some_and byte_before (λ x. x == b)

  abbrev pub is_after : (b : ℕ) → Bool
  is_after b = is_some_and byte_after (λ x. x == b)

  -- the byte before the place, and the one after it, is one of `0-9A-Za-z_`
  abbrev pub word_byte_before : Bool
  word_byte_before = is_some_and byte_before is_word_byte

  abbrev pub word_byte_after : Bool
  word_byte_after = is_some_and byte_after is_word_byte

  -- the character before the place, and the one after it, exists and is a word character
  abbrev pub word_char_before : Bool
  word_char_before = is_some_and char_before is_word_char

  abbrev pub word_char_after : Bool
  word_char_after = is_some_and char_after is_word_char

  -- the text starts at the place or a character ends there; the text ends there or a character begins there
  abbrev pub is_whole_before : Bool
  is_whole_before = i == 0 || is_some char_before

  abbrev pub is_whole_after : Bool
  is_whole_after = i == length text || is_some char_after

  -- a line starts at the place, or one ends there, where the terminator ends lines
  abbrev pub is_line_start : (terminator : ℕ) → Bool
  is_line_start terminator = i == 0 || is_before terminator

  abbrev pub is_line_end : (terminator : ℕ) → Bool
  is_line_end terminator = i == length text || is_after terminator

  -- the same, where `\r`, `\n` and `\r\n` end lines; the place within `\r\n` is neither
  abbrev pub is_crlf_line_start : Bool
  is_crlf_line_start = i == 0 || is_before 10 || (is_before 13 && not (is_after 10))

  abbrev pub is_crlf_line_end : Bool
  is_crlf_line_end = i == length text || is_after 13 || (is_after 10 && not (is_before 13))

  -- whole characters, or ends of the text, on both sides of the place, and a word character on both or on none
  abbrev pub is_no_word_boundary : Bool
  is_no_word_boundary = is_whole_before && is_whole_after && beq word_char_before word_char_after

  -- before the place a whole character that is no word character, or the start of the text; after the place
  -- such a character, or the end of the text
  abbrev pub is_word_start_half : Bool
  is_word_start_half = is_whole_before && not word_char_before

  abbrev pub is_word_end_half : Bool
  is_word_end_half = is_whole_after && not word_char_after

-- the look-around holds at place i of the text, under the line terminator
unfoldable pub holds : (terminator : ℕ) (text : List ℕ) → Look → (i : ℕ) → Bool
holds terminator text start_text i = i == 0
holds terminator text end_text i = i == length text
holds terminator text start_lf i = is_line_start text i terminator
holds terminator text end_lf i = is_line_end text i terminator
holds terminator text start_crlf i = is_crlf_line_start text i
holds terminator text end_crlf i = is_crlf_line_end text i
holds terminator text word_ascii i = not (beq (word_byte_before text i) (word_byte_after text i))
holds terminator text word_ascii_negate i = beq (word_byte_before text i) (word_byte_after text i)
holds terminator text word_unicode i = not (beq (word_char_before text i) (word_char_after text i))
holds terminator text word_unicode_negate i = is_no_word_boundary text i
holds terminator text word_start_ascii i = not (word_byte_before text i) && word_byte_after text i
holds terminator text word_end_ascii i = word_byte_before text i && not (word_byte_after text i)
holds terminator text word_start_unicode i = not (word_char_before text i) && word_char_after text i
holds terminator text word_end_unicode i = word_char_before text i && not (word_char_after text i)
holds terminator text word_start_half_ascii i = not (word_byte_before text i)
holds terminator text word_end_half_ascii i = not (word_byte_after text i)
holds terminator text word_start_half_unicode i = is_word_start_half text i
holds terminator text word_end_half_unicode i = is_word_end_half text i

-- the kinds, in order
abbrev pub kinds : List Look
kinds =
    start_text ∷ end_text ∷ start_lf ∷ end_lf ∷ start_crlf ∷ end_crlf ∷ word_ascii ∷ word_ascii_negate ∷ word_unicode ∷ word_unicode_negate
    ∷ word_start_ascii ∷ word_end_ascii ∷ word_start_unicode ∷ word_end_unicode
    ∷ word_start_half_ascii ∷ word_end_half_ascii ∷ word_start_half_unicode ∷ word_end_half_unicode ∷ []

-- the number of a kind, from 0 on
abbrev pub look_number : Look → ℕ
look_number start_text = 0
look_number end_text = 1
look_number start_lf = 2
look_number end_lf = 3
look_number start_crlf = 4
look_number end_crlf = 5
look_number word_ascii = 6
look_number word_ascii_negate = 7
look_number word_unicode = 8
look_number word_unicode_negate = 9
look_number word_start_ascii = 10
look_number word_end_ascii = 11
look_number word_start_unicode = 12
look_number word_end_unicode = 13
look_number word_start_half_ascii = 14
look_number word_end_half_ascii = 15
look_number word_start_half_unicode = 16
look_number word_end_half_unicode = 17

-- the kind of a number, if it is one's
abbrev pub look_of : ℕ → Option Look
look_of n = slice_get kinds n

-- the number of a kind tells the kind
pub look-back : (kind : Look) → look_of (look_number kind) ≡ Some kind
look-back start_text = refl
look-back end_text = refl
look-back start_lf = refl
look-back end_lf = refl
look-back start_crlf = refl
look-back end_crlf = refl
look-back word_ascii = refl
look-back word_ascii_negate = refl
look-back word_unicode = refl
look-back word_unicode_negate = refl
look-back word_start_ascii = refl
look-back word_end_ascii = refl
look-back word_start_unicode = refl
look-back word_end_unicode = refl
look-back word_start_half_ascii = refl
look-back word_end_half_ascii = refl
look-back word_start_half_unicode = refl
look-back word_end_half_unicode = refl
