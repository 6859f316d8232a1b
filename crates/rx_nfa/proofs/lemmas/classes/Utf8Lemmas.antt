-- The character whose encoding stands at a place, byte by byte.
use Rattle.std.proofs.Common.{◌≡◌, ℕ, suc, ◌+◌, ◌/◌, ◌%◌, ◌<◌, ◌≤◌, ◌⊎◌, List, [], ◌∷◌, ◌++◌, length, drop, Some, slice_index, sym, ap, ap₂, ◌∙◌, inl, inr, ⊎_elim, arith, drop-cons, get_or-drop, lt-ltb, le-ltb}
use Rattle.std.proofs.lemmas.Bool.{cond-true, cond-false, cases_lt}
use Rattle.std.proofs.lemmas.Bool.Decides.{nat_tests}
use Rattle.std.proofs.lemmas.Str.{length-encode, encode_ascii}
use Rattle.std.specs.Char.{IsScalar, InScalarRange, len_utf8, encode_utf8}
use Rattle.rx_model.specs.Text.{char_at}
use Rattle.rx_model.proofs.lemmas.meaning.CharLemmas.{char_at_parts, char_at_from, char_at_fits}

pub encode_two : (c : ℕ) → 0x80 ≤ c → c < 0x800 → encode_utf8 c ≡ (192 + c / 64) ∷ (128 + c % 64) ∷ []
unfolding encode_utf8
encode_two c low high = cond-false _ _ _ (le-ltb c 128 low) ∙ cond-true _ _ _ (lt-ltb c 2048 high)

pub encode_three : (c : ℕ) → 0x800 ≤ c → c < 0x1_0000 →
    encode_utf8 c ≡ (224 + c / 4096) ∷ (128 + (c / 64) % 64) ∷ (128 + c % 64) ∷ []
unfolding encode_utf8
encode_three c low high =
    cond-false _ _ _ (le-ltb c 128 (omega arith)) ∙ cond-false _ _ _ (le-ltb c 2048 low) ∙ cond-true _ _ _ (lt-ltb c 65536 high)

pub encode_four : (c : ℕ) → 0x1_0000 ≤ c →
    encode_utf8 c ≡ (240 + c / 262144) ∷ (128 + (c / 4096) % 64) ∷ (128 + (c / 64) % 64) ∷ (128 + c % 64) ∷ []
unfolding encode_utf8
encode_four c low =
    cond-false _ _ _ (le-ltb c 128 (omega arith)) ∙ cond-false _ _ _ (le-ltb c 2048 (omega arith)) ∙ cond-false _ _ _ (le-ltb c 65536 low)

abbrev pub IsOneByteAt : List ℕ → ℕ → ℕ → Type 0
IsOneByteAt text i c = (c < 0x80) × (i < length text) × (slice_index text i ≡ c)

abbrev pub IsTwoBytesAt : List ℕ → ℕ → ℕ → Type 0
IsTwoBytesAt text i c =
    (0x80 ≤ c) × (c < 0x800) × (i + 1 < length text)
    × (slice_index text i ≡ 192 + c / 64) × (slice_index text (i + 1) ≡ 128 + c % 64)

abbrev pub IsThreeBytesAt : List ℕ → ℕ → ℕ → Type 0
IsThreeBytesAt text i c =
    (0x800 ≤ c) × (c < 0x1_0000) × (i + 2 < length text) × (slice_index text i ≡ 224 + c / 4096)
    × (slice_index text (i + 1) ≡ 128 + (c / 64) % 64) × (slice_index text (i + 2) ≡ 128 + c % 64)

abbrev pub IsFourBytesAt : List ℕ → ℕ → ℕ → Type 0
IsFourBytesAt text i c =
    (0x1_0000 ≤ c) × (i + 3 < length text) × (slice_index text i ≡ 240 + c / 262144)
    × (slice_index text (i + 1) ≡ 128 + (c / 4096) % 64) × (slice_index text (i + 2) ≡ 128 + (c / 64) % 64)
    × (slice_index text (i + 3) ≡ 128 + c % 64)

pub InScalarRange-of_IsScalar : (c : ℕ) → IsScalar c → InScalarRange c
InScalarRange-of_IsScalar c h = grind (arith, nat_tests)

pub IsScalar-of_InScalarRange : (c : ℕ) → InScalarRange c → IsScalar c
IsScalar-of_InScalarRange c h = grind (arith, nat_tests)

byte_of : (text : List ℕ) (i k : ℕ) (bs : List ℕ) → drop i text ≡ bs → slice_index text (i + k) ≡ slice_index bs k
byte_of text i k bs e = sym (get_or-drop i text k 0) ∙ ap (λ l. slice_index l k) e

lead_of : (text : List ℕ) (i : ℕ) (bs : List ℕ) → drop i text ≡ bs → slice_index text i ≡ slice_index bs 0
lead_of text i bs e = let same : i ≡ i + 0 = omega arith in ap (slice_index text) same ∙ byte_of text i 0 bs e

pub char_at_cases : (text : List ℕ) (i c : ℕ) → char_at text i ≡ Some c →
    InScalarRange c × (IsOneByteAt text i c ⊎ (IsTwoBytesAt text i c ⊎ (IsThreeBytesAt text i c ⊎ IsFourBytesAt text i c)))
char_at_cases text i c found =
    let parts = char_at_parts text i c found in
    let fits : i + length (encode_utf8 c) ≤ length text = omega (arith, char_at_fits text i c found, length-encode c) in
    let rest = drop (i + len_utf8 c) text in (
      InScalarRange-of_IsScalar c parts.0,
      ⊎_elim
          (λ (one : c < 0x80). let is = encode_ascii c one in let e = parts.1 ∙ ap (λ bs. bs ++ rest) is in
          inl (one, omega (arith, ap length is), lead_of text i _ e))
          (λ (from_two : 0x80 ≤ c). inr (⊎_elim
          (λ (two : c < 0x800). let is = encode_two c from_two two in let e = parts.1 ∙ ap (λ bs. bs ++ rest) is in
          inl (from_two, two, omega (arith, ap length is), lead_of text i _ e, byte_of text i 1 _ e))
          (λ (from_three : 0x800 ≤ c). inr (⊎_elim
          (λ (three : c < 0x1_0000). let is = encode_three c from_three three in let e = parts.1 ∙ ap (λ bs. bs ++ rest) is in
          inl (from_three, three, omega (arith, ap length is), lead_of text i _ e, byte_of text i 1 _ e, byte_of text i 2 _ e))
          (λ (four : 0x1_0000 ≤ c). let is = encode_four c four in let e = parts.1 ∙ ap (λ bs. bs ++ rest) is in
          inr (four, omega (arith, ap length is), lead_of text i _ e, byte_of text i 1 _ e, byte_of text i 2 _ e, byte_of text i 3 _ e))
          (cases_lt c 0x1_0000)))
          (cases_lt c 0x800)))
          (cases_lt c 0x80),
    )

-- one more byte of what stands at i
step : (text : List ℕ) (i j b : ℕ) → i < length text → slice_index text i ≡ b → j ≡ suc i → drop i text ≡ b ∷ drop j text
step text i j b h is next = drop-cons text i 0 h ∙ ap₂ (λ x n. x ∷ drop n text) is (sym next)

pub char_at_two : (text : List ℕ) (i c : ℕ) → IsTwoBytesAt text i c → char_at text i ≡ Some c
char_at_two text i c h =
    char_at_from text i c (drop (i + 2) text) (IsScalar-of_InScalarRange c (inl (omega arith)))
    (step text i (i + 1) _ (omega arith) h.3 (omega arith)
    ∙ ap (λ l. (192 + c / 64) ∷ l) (step text (i + 1) (i + 2) _ h.2 h.4 (omega arith))
    ∙ ap (λ bs. bs ++ drop (i + 2) text) (sym (encode_two c h.0 h.1)))

pub char_at_three : (text : List ℕ) (i c : ℕ) → InScalarRange c → IsThreeBytesAt text i c → char_at text i ≡ Some c
char_at_three text i c scalar h =
    char_at_from text i c (drop (i + 3) text) (IsScalar-of_InScalarRange c scalar)
    (step text i (i + 1) _ (omega arith) h.3 (omega arith)
    ∙ ap (λ l. (224 + c / 4096) ∷ l) (step text (i + 1) (i + 2) _ (omega arith) h.4 (omega arith)
    ∙ ap (λ l. (128 + (c / 64) % 64) ∷ l) (step text (i + 2) (i + 3) _ h.2 h.5 (omega arith)))
    ∙ ap (λ bs. bs ++ drop (i + 3) text) (sym (encode_three c h.0 h.1)))

pub char_at_four : (text : List ℕ) (i c : ℕ) → c ≤ 0x10_FFFF → IsFourBytesAt text i c → char_at text i ≡ Some c
char_at_four text i c top h =
    char_at_from text i c (drop (i + 4) text) (IsScalar-of_InScalarRange c (inr (omega arith)))
    (step text i (i + 1) _ (omega arith) h.2 (omega arith)
    ∙ ap (λ l. (240 + c / 262144) ∷ l) (step text (i + 1) (i + 2) _ (omega arith) h.3 (omega arith)
    ∙ ap (λ l. (128 + (c / 4096) % 64) ∷ l) (step text (i + 2) (i + 3) _ (omega arith) h.4 (omega arith)
    ∙ ap (λ l. (128 + (c / 64) % 64) ∷ l) (step text (i + 3) (i + 4) _ h.1 h.5 (omega arith))))
    ∙ ap (λ bs. bs ++ drop (i + 4) text) (sym (encode_four c h.0)))

pub char_at_one : (text : List ℕ) (i c : ℕ) → IsOneByteAt text i c → char_at text i ≡ Some c
char_at_one text i c h =
    char_at_from text i c (drop (i + 1) text) (IsScalar-of_InScalarRange c (inl (omega (arith, h.0))))
    (step text i (i + 1) c h.1 h.2 (omega arith) ∙ ap (λ bs. bs ++ drop (i + 1) text) (sym (encode_ascii c h.0)))

pub len_is : (c n : ℕ) → ((c < 0x80) × (n ≡ 1)) ⊎ (((0x80 ≤ c) × (c < 0x800) × (n ≡ 2))
    ⊎ (((0x800 ≤ c) × (c < 0x1_0000) × (n ≡ 3)) ⊎ ((0x1_0000 ≤ c) × (n ≡ 4)))) → n ≡ len_utf8 c
len_is c n h = grind (arith, nat_tests)

pub most-scalar : (c : ℕ) → InScalarRange c → c ≤ 0x10_FFFF
most-scalar c (inl x) = omega arith
most-scalar c (inr x) = omega (arith, x.1)
