-- The character that stands at a place, and the member of a class.
use Rattle.std.proofs.Common.{◌≡◌, ℕ, ◌+◌, ◌<◌, ◌≤◌, Bool, true, cond, ◌&&◌, List, [], ◌∷◌, ◌++◌, length, take, drop, Option, Some, None, slice_index, chars, refl, sym, ap, ◌∙◌, subst, arith, length-append, length-drop, drop-drop, append-nil, if◌then◌else◌}
use Rattle.std.specs.Prelude.{nat_lt, nat_le, ◌||◌, IsTrue}
use Rattle.std.proofs.lemmas.Bool.{cond-true, and_parts, and_from}
use Rattle.std.proofs.lemmas.Bool.Decides.{nat_tests, Decides-eqb}
use Rattle.std.proofs.lemmas.List.{take-append-drop}
use Rattle.std.proofs.Math.Seq.{take-append_seam}
use Rattle.std.proofs.lemmas.Option.{none-some, slice_get-get_or, slice_get_past, cond_some}
use Rattle.std.proofs.lemmas.Slice.Eq.{starts_is}
use Rattle.std.proofs.lemmas.Str.{length-encode, len_utf8_bounds, IsUtf8-encode, chars-append, chars-encodes}
use Rattle.std.specs.Char.{IsScalar, len_utf8, encode_utf8}
use Rattle.rx_model.specs.Text.{stands_at, char_at, scalar_ranges, byte_ranges, is_member, member_len}
use Rattle.rx_model.proofs.lemmas.runs.RunLemmas.{by_test}

abbrev is_scalar : ℕ → Bool
is_scalar c = nat_lt c 0xD800 || (nat_le 0xE000 c && nat_le c 0x10_FFFF)

-- bytes that stand at i are what the text goes on with there
pub stands_at_parts : (text : List ℕ) (i : ℕ) (bytes : List ℕ) → stands_at text i bytes ≡ true → drop i text ≡ bytes ++ drop (i + length bytes) text
unfolding stands_at
stands_at_parts text i bytes h =
    (starts_is Decides-eqb (drop i text) bytes true (sym h)).0 refl ∙ ap (λ rest. bytes ++ rest) (drop-drop (length bytes) i text)

pub stands_at_from : (text : List ℕ) (i : ℕ) (bytes rest : List ℕ) → drop i text ≡ bytes ++ rest → stands_at text i bytes ≡ true
unfolding stands_at
stands_at_from text i bytes rest e = (starts_is Decides-eqb (drop i text) bytes _ refl).1 rest e

pub IsScalar-of_is_scalar : (c : ℕ) → is_scalar c ≡ true → IsScalar c
IsScalar-of_is_scalar c h = grind (arith, nat_tests)

is_scalar-of_IsScalar : (c : ℕ) → IsScalar c → is_scalar c ≡ true
is_scalar-of_IsScalar c h = grind (arith, nat_tests)

-- the first character of bytes that begin with the encoding of c
first_char : (c : ℕ) (rest : List ℕ) → IsScalar c → slice_index (chars (encode_utf8 c ++ rest)) 0 ≡ c
first_char c rest s =
    let one : chars (encode_utf8 c) ≡ c ∷ [] =
    ap chars (sym (append-nil (encode_utf8 c))) ∙ chars-encodes (c ∷ []) (and_from _ true s refl) in
    ap (λ cs. slice_index cs 0) (chars-append (encode_utf8 c) rest (IsUtf8-encode c s) ∙ ap (λ cs. cs ++ chars rest) one)

-- the character at i is the scalar whose encoding the text goes on with there
pub char_at_parts : (text : List ℕ) (i c : ℕ) → char_at text i ≡ Some c → IsScalar c × (drop i text ≡ encode_utf8 c ++ drop (i + len_utf8 c) text)
unfolding char_at
char_at_parts text i c h =
    let p = cond_some _ _ c h in
    let both = and_parts _ _ (subst (λ x. (is_scalar x && stands_at text i (encode_utf8 x)) ≡ true) p.1 p.0) in (
      IsScalar-of_is_scalar c both.0,
      stands_at_parts text i (encode_utf8 c) both.1 ∙ ap (λ n. encode_utf8 c ++ drop (i + n) text) (length-encode c),
    )

pub char_at_from : (text : List ℕ) (i c : ℕ) (rest : List ℕ) → IsScalar c → drop i text ≡ encode_utf8 c ++ rest → char_at text i ≡ Some c
unfolding char_at
char_at_from text i c rest s e =
    let first : slice_index (chars (drop i text)) 0 ≡ c = ap (λ bs. slice_index (chars bs) 0) e ∙ first_char c rest s in
    ap (λ x. cond (is_scalar x && stands_at text i (encode_utf8 x)) (Some x) None) first
    ∙ cond-true _ (Some c) None (and_from _ _ (is_scalar-of_IsScalar c s) (stands_at_from text i (encode_utf8 c) rest e))

-- a character lies within the text
pub char_at_fits : (text : List ℕ) (i c : ℕ) → char_at text i ≡ Some c → i + len_utf8 c ≤ length text
char_at_fits text i c h =
    omega (
      arith,
      ap length (char_at_parts text i c h).1,
      length-drop i text,
      length-encode c,
      len_utf8_bounds c,
      length-append (encode_utf8 c) (drop (i + len_utf8 c) text),
    )

-- by the value of an option
pub by_option : {P : Type 0} (o : Option ℕ) → (o ≡ None → P) → ((x : ℕ) → o ≡ Some x → P) → P
by_option None none some = none refl
by_option (Some x) none some = some x refl

pub member_len-some : (text : List ℕ) (rs : List (ℕ × ℕ)) (i c : ℕ) → char_at text i ≡ Some c
    → member_len text (scalar_ranges rs) i ≡ (if is_member rs c then Some (len_utf8 c) else None)
unfolding member_len
member_len-some text rs i c h = rw h refl

pub member_len-none : (text : List ℕ) (rs : List (ℕ × ℕ)) (i : ℕ) → char_at text i ≡ None → member_len text (scalar_ranges rs) i ≡ None
unfolding member_len
member_len-none text rs i h = rw h refl

-- the n bytes at i are the encoding of a scalar that is a member
abbrev pub IsMemberAt : List ℕ → List (ℕ × ℕ) → (i n : ℕ) → Type 0
IsMemberAt text rs i n = (c : ℕ) × IsScalar c × IsTrue (is_member rs c) × (n ≡ len_utf8 c) × (take n (drop i text) ≡ encode_utf8 c)

pub member_len-is : (text : List ℕ) (rs : List (ℕ × ℕ)) (i n : ℕ) → member_len text (scalar_ranges rs) i ≡ Some n → IsMemberAt text rs i n
member_len-is text rs i n h =
    by_option (char_at text i)
    (λ none. absurd (none-some n (sym (member_len-none text rs i none) ∙ h)))
    (λ c some.
    let test = cond_some _ _ n (sym (member_len-some text rs i c some) ∙ h) in
    let parts = char_at_parts text i c some in
    let long : n ≡ length (encode_utf8 c) = sym test.1 ∙ sym (length-encode c) in (
      c,
      parts.0,
      test.0,
      sym test.1,
      (λ k. take (long k) (parts.1 k)) ∙ take-append_seam (encode_utf8 c) (drop (i + len_utf8 c) text),
    ))

pub member_len-of : (text : List ℕ) (rs : List (ℕ × ℕ)) (i n : ℕ) → IsMemberAt text rs i n → member_len text (scalar_ranges rs) i ≡ Some n
member_len-of text rs i n h =
    let c = h.0 in
    let rest = drop n (drop i text) in
    let goes : drop i text ≡ encode_utf8 c ++ rest = sym (take-append-drop n (drop i text)) ∙ ap (λ bs. bs ++ rest) h.4 in
    member_len-some text rs i c (char_at_from text i c rest h.1 goes) ∙ cond-true _ (Some (len_utf8 c)) None h.2 ∙ ap Some (sym h.3)

pub byte_len-within : (text : List ℕ) (rs : List (ℕ × ℕ)) (i : ℕ) → i < length text
    → member_len text (byte_ranges rs) i ≡ (if is_member rs (slice_index text i) then Some 1 else None)
unfolding member_len
byte_len-within text rs i lt = rw (slice_get-get_or text i 0 lt) refl

pub byte_len-past : (text : List ℕ) (rs : List (ℕ × ℕ)) (i : ℕ) → length text ≤ i → member_len text (byte_ranges rs) i ≡ None
unfolding member_len
byte_len-past text rs i le = rw (slice_get_past text i le) refl

-- one byte stands at i, and it is a member
abbrev pub IsByteAt : List ℕ → List (ℕ × ℕ) → (i n : ℕ) → Type 0
IsByteAt text rs i n = (n ≡ 1) × (i < length text) × IsTrue (is_member rs (slice_index text i))

pub byte_len-is : (text : List ℕ) (rs : List (ℕ × ℕ)) (i n : ℕ) → member_len text (byte_ranges rs) i ≡ Some n → IsByteAt text rs i n
byte_len-is text rs i n h =
    by_test (nat_lt i (length text))
    (λ e.
    let lt : i < length text = grind (arith, nat_tests) in
    let test = cond_some _ _ n (sym (byte_len-within text rs i lt) ∙ h) in
    (sym test.1, lt, test.0))
    (λ e.
    let le : length text ≤ i = grind (arith, nat_tests) in
    absurd (none-some n (sym (byte_len-past text rs i le) ∙ h)))

pub byte_len-of : (text : List ℕ) (rs : List (ℕ × ℕ)) (i n : ℕ) → IsByteAt text rs i n → member_len text (byte_ranges rs) i ≡ Some n
byte_len-of text rs i n h = byte_len-within text rs i h.1 ∙ cond-true _ (Some 1) None h.2 ∙ ap Some (sym h.0)
