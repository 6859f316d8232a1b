-- A look-around holds alike where the bytes beside the places are alike.
use Rattle.std.proofs.Common.{◌≡◌, ℕ, suc, ◌-◌, ◌≤◌, ◌<◌, List, ◌++◌, length, drop, slice_index, refl, sym, ◌∙◌, ap, subst, inl, inr, arith}
use Rattle.std.proofs.lemmas.Bool.Decides.{nat_tests}
use Rattle.std.proofs.lemmas.Option.{slice_get-get_or, slice_get_past}
use Rattle.std.proofs.Math.Seq.{drop-cons}
use Rattle.std.proofs.lemmas.Str.{encode_ascii, len_utf8_ascii, len_utf8_bounds}
use Rattle.std.specs.Prelude.{Bool, Option, true, false, not, ◌||◌, ◌&&◌, ◌==◌, Some, None, is_some, nat_le, nat_lt, slice_get}
use Rattle.std.specs.Bool.{beq}
use Rattle.std.specs.Char.{len_utf8}
use Rattle.unicode.specs.Perl.{is_word_char, is_word_byte}
use Rattle.unicode.proofs.PerlLemmas.{is_word_char-ascii}
use Rattle.rx_model.specs.Text.{char_at}
use Rattle.rx_model.specs.Look.{Look, holds, byte_before, byte_after, char_before, char_after, is_some_and, is_line_start, is_line_end, is_crlf_line_start, is_crlf_line_end, word_byte_before, word_byte_after, word_char_before, word_char_after, start_text, end_text, start_lf, end_lf, start_crlf, end_crlf, word_ascii, word_ascii_negate, word_unicode, word_unicode_negate, word_start_ascii, word_end_ascii, word_start_unicode, word_end_unicode, word_start_half_ascii, word_end_half_ascii, word_start_half_unicode, word_end_half_unicode}
use Rattle.rx_model.specs.Beside.{IsAsciiOrNone, IsTold, EndLinesAlike, EndCrlfAlike, AreWordBytesAlike, AreCharBytesAlike, AreAlike, BothOrNone}
use Rattle.rx_model.proofs.lemmas.runs.RunLemmas.{by_test}
use Rattle.rx_model.proofs.lemmas.runs.FirstLemmas.{tells}
use Rattle.rx_model.proofs.lemmas.meaning.CharLemmas.{char_at_from, char_at_fits}

module _ (text : List ℕ) where
  -- a byte that is ASCII is a character
  char_at-ascii : (i : ℕ) → i < length text → slice_index text i < 0x80 → char_at text i ≡ Some (slice_index text i)
  char_at-ascii i lt ascii =
      let b = slice_index text i in
      char_at_from text i b (drop (suc i) text) (grind arith) (drop-cons text i 0 lt ∙ ap (λ bs. bs ++ drop (suc i) text) (sym (encode_ascii b ascii)))

  char_at-past : (i : ℕ) → length text ≤ i → char_at text i ≡ None
  char_at-past i past =
      elim (tells (char_at text i)) [
        | inl none ↦ none
        | inr some ↦ let fits = char_at_fits text i some.0 some.1 in let long = (len_utf8_bounds some.0).0 in absurd (omega arith)
      ]

  module _ (i : ℕ) (within : i ≤ length text) where
    -- where a byte stands before the place, and where one stands after it
    starts : (i == 0) ≡ not (is_some (byte_before text i))
    starts =
        by_test (i == 0)
        (λ e. rw e refl)
        (λ e.
        let there : slice_get text (i - 1) ≡ Some (slice_index text (i - 1)) = slice_get-get_or text (i - 1) 0 (grind (arith, nat_tests)) in
        rw (e, there) refl)

    ends : (i == length text) ≡ not (is_some (byte_after text i))
    ends =
        by_test (i == length text)
        (λ e. let past : slice_get text i ≡ None = slice_get_past text i (grind (arith, nat_tests)) in rw (e, past) refl)
        (λ e. let there : slice_get text i ≡ Some (slice_index text i) = slice_get-get_or text i 0 (grind (arith, nat_tests)) in rw (e, there) refl)

    -- beside ASCII the characters are the bytes
    char_before-ascii : IsAsciiOrNone (byte_before text i) → char_before text i ≡ byte_before text i
    unfolding char_before
    char_before-ascii ascii =
        by_test (i == 0)
        (λ e.
        let one : nat_le 1 i ≡ false = grind (arith, nat_tests) in
        let two : nat_le 2 i ≡ false = grind (arith, nat_tests) in
        let three : nat_le 3 i ≡ false = grind (arith, nat_tests) in
        let four : nat_le 4 i ≡ false = grind (arith, nat_tests) in
        rw (e, one, two, three, four) refl)
        (λ e.
        let b = slice_index text (i - 1) in
        let there : slice_get text (i - 1) ≡ Some b = slice_get-get_or text (i - 1) 0 (grind (arith, nat_tests)) in
        let small : b < 0x80 = rw (e, there) at ascii in
        let one : nat_le 1 i ≡ true = grind (arith, nat_tests) in
        let character : char_at text (i - 1) ≡ Some b = char_at-ascii (i - 1) (grind (arith, nat_tests)) small in
        let length_one : (len_utf8 b == 1) ≡ true = ap (λ n. n == 1) (len_utf8_ascii b small) in
        rw (e, one, character, length_one, there) refl)

    char_after-ascii : IsAsciiOrNone (byte_after text i) → char_after text i ≡ byte_after text i
    char_after-ascii ascii =
        by_test (nat_lt i (length text))
        (λ e.
        let b = slice_index text i in
        let there : slice_get text i ≡ Some b = slice_get-get_or text i 0 (grind (arith, nat_tests)) in
        char_at-ascii i (grind (arith, nat_tests)) (rw there at ascii) ∙ sym there)
        (λ e. let past : length text ≤ i = grind (arith, nat_tests) in char_at-past i past ∙ sym (slice_get_past text i past))

-- What is there on both sides, or on neither.

module _ (R : ℕ → ℕ → Type 0) where
  both-some : (o p : Option ℕ) → BothOrNone R o p → is_some o ≡ is_some p
  both-some None None h = refl
  both-some None (Some c) h = absurd h
  both-some (Some b) None h = absurd h
  both-some (Some b) (Some c) h = refl

  both-tested : (test : ℕ → Bool) → ((b c : ℕ) → R b c → test b ≡ test c) → (o p : Option ℕ) → BothOrNone R o p → is_some_and o test ≡ is_some_and p test
  both-tested test same None None h = refl
  both-tested test same None (Some c) h = absurd h
  both-tested test same (Some b) None h = absurd h
  both-tested test same (Some b) (Some c) h = same b c h

  pub both-weaker : (S : ℕ → ℕ → Type 0) → ((b c : ℕ) → R b c → S b c) → (o p : Option ℕ) → BothOrNone R o p → BothOrNone S o p
  both-weaker S to None None h = tt
  both-weaker S to None (Some c) h = absurd h
  both-weaker S to (Some b) None h = absurd h
  both-weaker S to (Some b) (Some c) h = to b c h

  both-self : ((b : ℕ) → R b b) → (o : Option ℕ) → BothOrNone R o o
  both-self self None = tt
  both-self self (Some b) = self b

-- bytes that are alike for words of Unicode: both are ASCII, or neither is
still-small : (b c : ℕ) → nat_lt 127 b ≡ nat_lt 127 c → b < 0x80 → c < 0x80
still-small b c same small = let above : nat_lt 127 c ≡ false = sym same ∙ not-above b small in grind (arith, nat_tests)
  where
    not-above : (x : ℕ) → x < 0x80 → nat_lt 127 x ≡ false
    not-above x lt = grind (arith, nat_tests)

ascii-alike : (o p : Option ℕ) → BothOrNone AreCharBytesAlike o p → IsAsciiOrNone o → IsAsciiOrNone p
ascii-alike None None h ascii = tt
ascii-alike None (Some c) h ascii = absurd h
ascii-alike (Some b) None h ascii = absurd h
ascii-alike (Some b) (Some c) h small = still-small b c h.1 small

words-alike : (o p : Option ℕ) → BothOrNone AreCharBytesAlike o p → IsAsciiOrNone o → is_some_and o is_word_char ≡ is_some_and p is_word_char
words-alike None None h ascii = refl
words-alike None (Some c) h ascii = absurd h
words-alike (Some b) None h ascii = absurd h
words-alike (Some b) (Some c) h small = is_word_char-ascii b small ∙ h.0 ∙ sym (is_word_char-ascii c (still-small b c h.1 small))

-- two places of two texts
module _ (text other : List ℕ) (i j : ℕ) (within : i ≤ length text) (within' : j ≤ length other) where
  -- bytes beside them that stand so to each other
  module _ (R : ℕ → ℕ → Type 0) (before : BothOrNone R (byte_before text i) (byte_before other j))
      (after : BothOrNone R (byte_after text i) (byte_after other j)) where
    start : (i == 0) ≡ (j == 0)
    start = starts text i within ∙ ap not (both-some R (byte_before text i) (byte_before other j) before) ∙ sym (starts other j within')

    end : (i == length text) ≡ (j == length other)
    end = ends text i within ∙ ap not (both-some R (byte_after text i) (byte_after other j) after) ∙ sym (ends other j within')

    before_is : (test : ℕ → Bool) → ((b c : ℕ) → R b c → test b ≡ test c) → is_some_and (byte_before text i) test ≡ is_some_and (byte_before other j) test
    before_is test same = both-tested R test same (byte_before text i) (byte_before other j) before

    after_is : (test : ℕ → Bool) → ((b c : ℕ) → R b c → test b ≡ test c) → is_some_and (byte_after text i) test ≡ is_some_and (byte_after other j) test
    after_is test same = both-tested R test same (byte_after text i) (byte_after other j) after

    line_start : (terminator : ℕ) → ((b c : ℕ) → R b c → (b == terminator) ≡ (c == terminator))
        → is_line_start text i terminator ≡ is_line_start other j terminator
    line_start terminator same = λ k. start k || before_is (λ x. x == terminator) same k

    line_end : (terminator : ℕ) → ((b c : ℕ) → R b c → (b == terminator) ≡ (c == terminator)) → is_line_end text i terminator ≡ is_line_end other j terminator
    line_end terminator same = λ k. end k || after_is (λ x. x == terminator) same k

    module _ (return : (b c : ℕ) → R b c → (b == 13) ≡ (c == 13)) (feed : (b c : ℕ) → R b c → (b == 10) ≡ (c == 10)) where
      crlf_line_start : is_crlf_line_start text i ≡ is_crlf_line_start other j
      crlf_line_start = λ k. start k || before_is (λ x. x == 10) feed k || (before_is (λ x. x == 13) return k && not (after_is (λ x. x == 10) feed k))

      crlf_line_end : is_crlf_line_end text i ≡ is_crlf_line_end other j
      crlf_line_end = λ k. end k || after_is (λ x. x == 13) return k || (after_is (λ x. x == 10) feed k && not (before_is (λ x. x == 13) return k))

  -- bytes that are alike for words of Unicode, before the places, and ASCII
  module _ (before : BothOrNone AreCharBytesAlike (byte_before text i) (byte_before other j)) (ascii : IsAsciiOrNone (byte_before text i)) where
    char_before-other : char_before other j ≡ byte_before other j
    char_before-other = char_before-ascii other j within' (ascii-alike (byte_before text i) (byte_before other j) before ascii)

    word_before : word_char_before text i ≡ word_char_before other j
    word_before =
        ap (λ o. is_some_and o is_word_char) (char_before-ascii text i within ascii)
        ∙ words-alike (byte_before text i) (byte_before other j) before ascii
        ∙ ap (λ o. is_some_and o is_word_char) (sym char_before-other)

    some_before : is_some (char_before text i) ≡ is_some (char_before other j)
    some_before =
        ap (λ o. is_some o) (char_before-ascii text i within ascii)
        ∙ both-some AreCharBytesAlike (byte_before text i) (byte_before other j) before
        ∙ ap (λ o. is_some o) (sym char_before-other)

  -- and after them
  module _ (after : BothOrNone AreCharBytesAlike (byte_after text i) (byte_after other j)) (ascii : IsAsciiOrNone (byte_after text i)) where
    char_after-other : char_after other j ≡ byte_after other j
    char_after-other = char_after-ascii other j within' (ascii-alike (byte_after text i) (byte_after other j) after ascii)

    word_after : word_char_after text i ≡ word_char_after other j
    word_after =
        ap (λ o. is_some_and o is_word_char) (char_after-ascii text i within ascii)
        ∙ words-alike (byte_after text i) (byte_after other j) after ascii
        ∙ ap (λ o. is_some_and o is_word_char) (sym char_after-other)

    some_after : is_some (char_after text i) ≡ is_some (char_after other j)
    some_after =
        ap (λ o. is_some o) (char_after-ascii text i within ascii)
        ∙ both-some AreCharBytesAlike (byte_after text i) (byte_after other j) after
        ∙ ap (λ o. is_some o) (sym char_after-other)

  bytes_before : BothOrNone AreWordBytesAlike (byte_before text i) (byte_before other j) → BothOrNone AreWordBytesAlike (byte_after text i) (byte_after other j)
      → word_byte_before text i ≡ word_byte_before other j
  bytes_before before after = before_is AreWordBytesAlike before after is_word_byte (λ b c h. h)

  bytes_after : BothOrNone AreWordBytesAlike (byte_before text i) (byte_before other j) → BothOrNone AreWordBytesAlike (byte_after text i) (byte_after other j)
      → word_byte_after text i ≡ word_byte_after other j
  bytes_after before after = after_is AreWordBytesAlike before after is_word_byte (λ b c h. h)

  -- bytes beside them that are alike to the kind
  pub holds-alike : (terminator : ℕ) (kind : Look) → BothOrNone (AreAlike terminator kind) (byte_before text i) (byte_before other j)
      → BothOrNone (AreAlike terminator kind) (byte_after text i) (byte_after other j) → IsTold kind (byte_before text i) (byte_after text i)
      → holds terminator text kind i ≡ holds terminator other kind j
  unfolding holds
  holds-alike terminator start_text before after told = start (AreAlike terminator start_text) before after
  holds-alike terminator end_text before after told = end (AreAlike terminator end_text) before after
  holds-alike terminator start_lf before after told = line_start (EndLinesAlike terminator) before after terminator (λ b c h. h)
  holds-alike terminator end_lf before after told = line_end (EndLinesAlike terminator) before after terminator (λ b c h. h)
  holds-alike terminator start_crlf before after told = crlf_line_start EndCrlfAlike before after (λ b c h. h.0) (λ b c h. h.1)
  holds-alike terminator end_crlf before after told = crlf_line_end EndCrlfAlike before after (λ b c h. h.0) (λ b c h. h.1)
  holds-alike terminator word_ascii before after told = λ k. not (beq (bytes_before before after k) (bytes_after before after k))
  holds-alike terminator word_ascii_negate before after told = λ k. beq (bytes_before before after k) (bytes_after before after k)
  holds-alike terminator word_unicode before after told = let ascii = told refl in λ k. not (beq (word_before before ascii.0 k) (word_after after ascii.1 k))
  holds-alike terminator word_unicode_negate before after told =
      let ascii = told refl in
      λ k. (start AreCharBytesAlike before after k || some_before before ascii.0 k) && (end AreCharBytesAlike before after k || some_after after ascii.1 k)
      && beq (word_before before ascii.0 k) (word_after after ascii.1 k)
  holds-alike terminator word_start_ascii before after told = λ k. not (bytes_before before after k) && bytes_after before after k
  holds-alike terminator word_end_ascii before after told = λ k. bytes_before before after k && not (bytes_after before after k)
  holds-alike terminator word_start_unicode before after told = let ascii = told refl in λ k. not (word_before before ascii.0 k) && word_after after ascii.1 k
  holds-alike terminator word_end_unicode before after told = let ascii = told refl in λ k. word_before before ascii.0 k && not (word_after after ascii.1 k)
  holds-alike terminator word_start_half_ascii before after told = λ k. not (bytes_before before after k)
  holds-alike terminator word_end_half_ascii before after told = λ k. not (bytes_after before after k)
  holds-alike terminator word_start_half_unicode before after told =
      let ascii = told refl in λ k. (start AreCharBytesAlike before after k || some_before before ascii.0 k) && not (word_before before ascii.0 k)
  holds-alike terminator word_end_half_unicode before after told =
      let ascii = told refl in λ k. (end AreCharBytesAlike before after k || some_after after ascii.1 k) && not (word_after after ascii.1 k)

-- a byte is alike to itself
alike-self : (terminator : ℕ) (kind : Look) (b : ℕ) → AreAlike terminator kind b b
alike-self terminator start_text b = tt
alike-self terminator end_text b = tt
alike-self terminator start_lf b = refl
alike-self terminator end_lf b = refl
alike-self terminator start_crlf b = (refl, refl)
alike-self terminator end_crlf b = (refl, refl)
alike-self terminator word_ascii b = refl
alike-self terminator word_ascii_negate b = refl
alike-self terminator word_unicode b = (refl, refl)
alike-self terminator word_unicode_negate b = (refl, refl)
alike-self terminator word_start_ascii b = refl
alike-self terminator word_end_ascii b = refl
alike-self terminator word_start_unicode b = (refl, refl)
alike-self terminator word_end_unicode b = (refl, refl)
alike-self terminator word_start_half_ascii b = refl
alike-self terminator word_end_half_ascii b = refl
alike-self terminator word_start_half_unicode b = (refl, refl)
alike-self terminator word_end_half_unicode b = (refl, refl)

-- the same bytes are alike
pub same-alike : (terminator : ℕ) (kind : Look) (o p : Option ℕ) → o ≡ p → BothOrNone (AreAlike terminator kind) o p
same-alike terminator kind o p e = subst (λ x. BothOrNone (AreAlike terminator kind) o x) e
    (both-self (AreAlike terminator kind) (alike-self terminator kind) o)
