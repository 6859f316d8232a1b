-- The characters on both sides of a place, by what decodes there.
use Rattle.std.proofs.Common.{◌≡◌, ℕ, zero, suc, ◌+◌, ◌-◌, ◌/◌, ◌%◌, ◌<◌, ◌≤◌, ◌⊎◌, true, false, List, [], ◌∷◌, ◌++◌, length, take, drop, Option, Some, None, slice_index, ◌==◌, nat_le, refl, sym, ap, ◌∙◌, subst, inl, inr, ⊎_elim, arith, lt-ltb, le-ltb, length-drop, length-take-le, take-append-drop, append-nil}
use Rattle.std.proofs.lemmas.Bool.{cond-true, cond-false, cases_lt}
use Rattle.std.proofs.lemmas.Bool.Decides.{nat_tests}
use Rattle.std.proofs.lemmas.List.{drop_all, drop-append-le}
use Rattle.std.proofs.lemmas.Option.{none-some, cond_some}
use Rattle.std.proofs.lemmas.Str.{length-encode, len_utf8_bounds}
use Rattle.std.proofs.Math.Seq.{take-append_seam, take-append-add}
use Rattle.std.specs.Char.{IsScalar, len_utf8, encode_utf8}
use Rattle.std.specs.Option.{option_or}
use Rattle.bstr.specs.Utf8.{Decoded, good, decoded, continues, IsLastPiece}
use Rattle.bstr.proofs.lemmas.EncodeLemmas.{decoded-encode}
use Rattle.bstr.proofs.lemmas.PieceLemmas.{IsLastPiece-whole}
use Rattle.bstr.proofs.lemmas.SoundLemmas.{SpellsChar-decoded, IsLastPiece-decoded, IsLastPiece-same}
use Rattle.rx_model.specs.Text.{char_at}
use Rattle.rx_model.specs.Look.{char_before, char_of_length_before, of_length}
use Rattle.rx_model.proofs.lemmas.meaning.CharLemmas.{char_at_parts, char_at_from, by_option}
use Rattle.rx_model.proofs.lemmas.runs.RunLemmas.{by_test}

-- a character that stands at a place decodes there
decoded-char_at : (text : List ℕ) (i c : ℕ) → char_at text i ≡ Some c → decoded (drop i text) ≡ good c (len_utf8 c)
decoded-char_at text i c found =
    let parts = char_at_parts text i c found in
    ap decoded parts.1 ∙ decoded-encode c (drop (i + len_utf8 c) text) parts.0 ∙ ap (good c) (length-encode c)

-- the character at a place is what decodes there
pub char_at-decoded : (text : List ℕ) (i : ℕ) → char_at text i ≡ (decoded (drop i text)).char
char_at-decoded text i =
    by_option (decoded (drop i text)).char
    (λ none.
    by_option (char_at text i)
    (λ e. e ∙ sym none)
    (λ c e. absurd (none-some c (sym none ∙ ap (λ (p : Decoded). p.char) (decoded-char_at text i c e)))))
    (λ c some.
    let spelt = SpellsChar-decoded (drop i text) c some in
    char_at_from text i c (drop (decoded (drop i text)).size (drop i text)) spelt.scalar spelt.bytes ∙ sym some)

-- the first of four values that are a character
step : (a rest : Option ℕ) (c : ℕ) → (a ≡ None) ⊎ (a ≡ Some c) → (a ≡ None → rest ≡ Some c) → option_or a rest ≡ Some c
step a rest c (inl e) next = ap (λ x. option_or x rest) e ∙ next e
step a rest c (inr e) next = ap (λ x. option_or x rest) e

fourth : (v : ℕ → Option ℕ) (c n : ℕ) → v 1 ≡ None → v 2 ≡ None → v 3 ≡ None → 1 ≤ n → n ≤ 4 → v n ≡ Some c → v 4 ≡ Some c
fourth v c zero a b d low high e = absurd (omega arith)
fourth v c (suc zero) a b d low high e = absurd (none-some c (sym a ∙ e))
fourth v c (suc (suc zero)) a b d low high e = absurd (none-some c (sym b ∙ e))
fourth v c (suc (suc (suc zero))) a b d low high e = absurd (none-some c (sym d ∙ e))
fourth v c (suc (suc (suc (suc zero)))) a b d low high e = e
fourth v c (suc (suc (suc (suc (suc n))))) a b d low high e = absurd (omega arith)

first_of_four : (v : ℕ → Option ℕ) (c n : ℕ) → ((k : ℕ) → (v k ≡ None) ⊎ (v k ≡ Some c)) → 1 ≤ n → n ≤ 4 → v n ≡ Some c
    → option_or (v 1) (option_or (v 2) (option_or (v 3) (v 4))) ≡ Some c
first_of_four v c n all low high e =
    step (v 1) _ c (all 1) (λ a. step (v 2) _ c (all 2) (λ b. step (v 3) _ c (all 3) (λ d. fourth v c n a b d low high e)))

none_of_four : (v : ℕ → Option ℕ) → v 1 ≡ None → v 2 ≡ None → v 3 ≡ None → v 4 ≡ None
    → option_or (v 1) (option_or (v 2) (option_or (v 3) (v 4))) ≡ None
none_of_four v a b c d = rw (a, b, c, d) refl

-- The bytes of a character: the first continues nothing, and each other one continues.
record IsWhole (bs : List ℕ) : Type 0 where
  clean : continues (slice_index bs 0) ≡ false
  rest : (k : ℕ) → 0 < k → k < length bs → continues (slice_index bs k) ≡ true

one : (a : ℕ) → continues a ≡ false → IsWhole (a ∷ [])
one a first = record { clean = first; rest = λ k low high. absurd (omega arith) }

two : (a b : ℕ) → continues a ≡ false → continues b ≡ true → IsWhole (a ∷ b ∷ [])
two a b first second = record { clean = first; rest = rest }
  where
    rest : (k : ℕ) → 0 < k → k < 2 → continues (slice_index (a ∷ b ∷ []) k) ≡ true
    rest zero low high = absurd (omega arith)
    rest (suc zero) low high = second
    rest (suc (suc k)) low high = absurd (omega arith)

three : (a b c : ℕ) → continues a ≡ false → continues b ≡ true → continues c ≡ true → IsWhole (a ∷ b ∷ c ∷ [])
three a b c first second third = record { clean = first; rest = rest }
  where
    rest : (k : ℕ) → 0 < k → k < 3 → continues (slice_index (a ∷ b ∷ c ∷ []) k) ≡ true
    rest zero low high = absurd (omega arith)
    rest (suc zero) low high = second
    rest (suc (suc zero)) low high = third
    rest (suc (suc (suc k))) low high = absurd (omega arith)

four : (a b c d : ℕ) → continues a ≡ false → continues b ≡ true → continues c ≡ true → continues d ≡ true → IsWhole (a ∷ b ∷ c ∷ d ∷ [])
four a b c d first second third fourth = record { clean = first; rest = rest }
  where
    rest : (k : ℕ) → 0 < k → k < 4 → continues (slice_index (a ∷ b ∷ c ∷ d ∷ []) k) ≡ true
    rest zero low high = absurd (omega arith)
    rest (suc zero) low high = second
    rest (suc (suc zero)) low high = third
    rest (suc (suc (suc zero))) low high = fourth
    rest (suc (suc (suc (suc k)))) low high = absurd (omega arith)

IsWhole-encode : (c : ℕ) → IsWhole (encode_utf8 c)
unfolding encode_utf8
IsWhole-encode c =
    let low : (n : ℕ) → continues (128 + n % 64) ≡ true = λ n. grind (arith, nat_tests) in
    let high : (n : ℕ) → continues (192 + n) ≡ false = λ n. grind (arith, nat_tests) in
    ⊎_elim
    (λ (within : c < 0x80). subst IsWhole (sym (cond-true _ _ _ (lt-ltb c 128 within))) (one c (grind (arith, nat_tests))))
    (λ (past : 0x80 ≤ c).
    ⊎_elim
    (λ (within : c < 0x800).
    subst IsWhole (sym (cond-false _ _ _ (le-ltb c 128 past) ∙ cond-true _ _ _ (lt-ltb c 2048 within))) (two _ _ (high (c / 64)) (low c)))
    (λ (past' : 0x800 ≤ c).
    ⊎_elim
    (λ (within : c < 0x1_0000).
    subst IsWhole (sym (cond-false _ _ _ (le-ltb c 128 past) ∙ cond-false _ _ _ (le-ltb c 2048 past') ∙ cond-true _ _ _ (lt-ltb c 65536 within)))
    (three _ _ _ (grind (arith, nat_tests)) (low (c / 64)) (low c)))
    (λ (past'' : 0x1_0000 ≤ c).
    subst IsWhole (sym (cond-false _ _ _ (le-ltb c 128 past) ∙ cond-false _ _ _ (le-ltb c 2048 past') ∙ cond-false _ _ _ (le-ltb c 65536 past'')))
    (four _ _ _ _ (grind (arith, nat_tests)) (low (c / 4096)) (low (c / 64)) (low c)))
    (cases_lt c 0x1_0000))
    (cases_lt c 0x800))
    (cases_lt c 0x80)

-- bytes that end in a character have it for their last piece
IsLastPiece-encode : (xs : List ℕ) (c : ℕ) → IsScalar c → IsLastPiece (xs ++ encode_utf8 c) (good c (len_utf8 c))
IsLastPiece-encode xs c scalar =
    let ys = encode_utf8 c in
    let whole = IsWhole-encode c in
    let reads : decoded ys ≡ good c (len_utf8 c) = ap decoded (sym (append-nil ys)) ∙ decoded-encode c [] scalar ∙ ap (good c) (length-encode c) in
    let some : 0 < length ys = omega (arith, length-encode c, len_utf8_bounds c) in
    subst (IsLastPiece (xs ++ ys)) reads
    (IsLastPiece-whole xs ys some (λ _. whole.clean) whole.rest (ap (λ (p : Decoded). p.size) reads ∙ sym (length-encode c)))

of_length-parts : (n c : ℕ) (o : Option ℕ) → of_length n o ≡ Some c → (o ≡ Some c) × (len_utf8 c ≡ n)
of_length-parts n c None e = absurd (none-some c e)
of_length-parts n c (Some x) e =
    let parts = cond_some _ x c e in
    (ap Some parts.1, (let same = parts.0 in let is = parts.1 in subst (λ y. len_utf8 y ≡ n) is (grind (arith, nat_tests))))

module _ (text : List ℕ) (i : ℕ) (within : i ≤ length text) where
  within_parts : (n c : ℕ) → char_of_length_before text i n ≡ Some c → (nat_le n i ≡ true) × (of_length n (char_at text (i - n)) ≡ Some c)
  within_parts n c e =
      by_test (nat_le n i) (λ yes. (yes, sym (cond-true _ _ _ yes) ∙ e)) (λ no. absurd (none-some c (sym (cond-false _ _ _ no) ∙ e)))

  -- a character that ends at the place is the last piece before it
  ending : (n c : ℕ) → char_of_length_before text i n ≡ Some c → IsLastPiece (take i text) (good c n)
  ending n c e =
      let test = within_parts n c e in
      let fits : n ≤ i = grind (arith, nat_tests) in
      let parts = of_length-parts n c (char_at text (i - n)) test.1 in
      let stands = char_at_parts text (i - n) c parts.0 in
      let ys = encode_utf8 c in
      let size : length ys ≡ n = length-encode c ∙ parts.1 in
      let start : length (take (i - n) text) ≡ i - n = length-take-le (i - n) text (omega arith) in
      let whole : text ≡ take (i - n) text ++ (ys ++ drop (i - n + len_utf8 c) text) =
      sym (take-append-drop (i - n) text) ∙ ap (λ r. take (i - n) text ++ r) stands.1 in
      let place : i ≡ length (take (i - n) text) + n = omega arith in
      let front : take i text ≡ take (i - n) text ++ ys =
      (λ k. take (place k) (whole k)) ∙ take-append-add (take (i - n) text) (ys ++ drop (i - n + len_utf8 c) text) n
      ∙ ap (λ r. take (i - n) text ++ r) (ap (λ m. take m (ys ++ drop (i - n + len_utf8 c) text)) (sym size)
      ∙ take-append_seam ys (drop (i - n + len_utf8 c) text)) in
      subst (λ bs. IsLastPiece bs (good c n)) (sym front) (subst (λ m. IsLastPiece (take (i - n) text ++ ys) (good c m)) parts.1
      (IsLastPiece-encode (take (i - n) text) c stands.0))

  module _ (p : Decoded) (last : IsLastPiece (take i text) p) where
    -- so it is the character of the last piece
    only : (n : ℕ) → (char_of_length_before text i n ≡ None) ⊎ (char_of_length_before text i n ≡ p.char)
    only n =
        by_option (char_of_length_before text i n)
        inl
        (λ c e. inr (e ∙ sym (ap (λ (q : Decoded). q.char) (IsLastPiece-same (take i text) p (good c n) last (ending n c e)))))

    -- the character of the last piece ends at the place
    of_last : (c : ℕ) → p.char ≡ Some c → (1 ≤ p.size) × (p.size ≤ 4) × (char_of_length_before text i p.size ≡ Some c)
    of_last c found =
        let bs = take i text in
        let long : length bs ≡ i = length-take-le i text within in
        let n = p.size in
        let fits : n ≤ i = omega (arith, last.fits) in
        let ys = drop (length bs - n) bs in
        let is : p ≡ decoded ys = IsLastPiece-decoded bs p last in
        let spelt = SpellsChar-decoded ys c (sym (ap (λ (q : Decoded). q.char) is) ∙ found) in
        let size : length (encode_utf8 c) ≡ n = spelt.width ∙ sym (ap (λ (q : Decoded). q.size) is) in
        let none_left : drop (decoded ys).size ys ≡ [] =
        drop_all (decoded ys).size ys (omega (arith, length-drop (length bs - n) bs, ap (λ (q : Decoded). q.size) is)) in
        let all : ys ≡ encode_utf8 c = spelt.bytes ∙ ap (λ r. encode_utf8 c ++ r) none_left ∙ append-nil (encode_utf8 c) in
        let start : i - n ≡ length bs - n = omega arith in
        let goes : drop (i - n) text ≡ encode_utf8 c ++ drop i text =
        ap (λ m. drop m text) start ∙ ap (drop (length bs - n)) (sym (take-append-drop i text))
        ∙ drop-append-le (length bs - n) bs (drop i text) (omega arith) ∙ ap (λ r. r ++ drop i text) all in
        let stands : char_at text (i - n) ≡ Some c = char_at_from text (i - n) c (drop i text) spelt.scalar goes in
        let test : nat_le n i ≡ true = grind (arith, nat_tests) in
        let same : (len_utf8 c == n) ≡ true = (let e = sym (length-encode c) ∙ size in grind (arith, nat_tests)) in (
          omega (arith, length-encode c, len_utf8_bounds c),
          omega (arith, length-encode c, len_utf8_bounds c),
          cond-true _ _ _ test ∙ ap (of_length n) stands ∙ cond-true _ _ _ same,
        )

    -- the character before the place is that of the last piece
    char_before-last : char_before text i ≡ p.char
    unfolding char_before
    char_before-last =
        let v = char_of_length_before text i in
        by_option p.char
        (λ none.
        let silent = λ (n : ℕ). ⊎_elim (λ e. e) (λ e. e ∙ none) (only n) in
        none_of_four v (silent 1) (silent 2) (silent 3) (silent 4) ∙ sym none)
        (λ c some.
        let parts = of_last c some in
        first_of_four v c p.size (λ n. ⊎_elim inl (λ e. inr (e ∙ some)) (only n)) parts.0 parts.1 parts.2 ∙ sym some)

-- at the start of the text there is no character before the place
char_before-start : (text : List ℕ) → char_before text 0 ≡ None
unfolding char_before
char_before-start text = refl

-- the character before a place is that of the last piece before it
pub char_before-decoded : (text : List ℕ) (i : ℕ) (p : Decoded) → i ≤ length text
    → (length (take i text) ≡ 0 → p.char ≡ None) → (0 < length (take i text) → IsLastPiece (take i text) p) → char_before text i ≡ p.char
char_before-decoded text i p within empty last =
    let long : length (take i text) ≡ i = length-take-le i text within in
    ⊎_elim
    (λ (some : 0 < i). char_before-last text i within p (last (omega arith)))
    (λ (none : i ≤ 0).
    let start : i ≡ 0 = omega arith in
    ap (char_before text) start ∙ char_before-start text ∙ sym (empty (omega arith)))
    (cases_lt 0 i)
