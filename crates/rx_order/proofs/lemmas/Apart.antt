-- The units of a text that a class sees: what shares no member with the class means units outside it, and the class
-- means a unit in it.
use Rattle.std.proofs.Common.{◌≡◌, ℕ, zero, suc, ◌+◌, ◌-◌, ◌<◌, ◌≤◌, Bool, true, false, List, [], ◌∷◌, ◌++◌, length, slice_index, drop, Option, Some, None, refl, sym, ap, subst, ◌∙◌, inl, inr, arith, true≢false, drop-drop, length-drop, length-append, append_assoc}
use Rattle.std.specs.Prelude.{nat_lt, nat_le, ◌||◌, ◌&&◌, not, is_some, option_map, chars, if◌then◌else◌, encode_utf8_all}
use Rattle.std.specs.List.{list_all}
use Rattle.std.specs.Str.{is_utf8, all_scalars}
use Rattle.std.specs.Char.{len_utf8, encode_utf8}
use Rattle.std.proofs.lemmas.List.{take-append-drop}
use Rattle.std.proofs.lemmas.Bool.{and_parts, or_cases}
use Rattle.std.proofs.lemmas.Option.{none-some, same_Some, cond_some}
use Rattle.std.proofs.lemmas.Str.{length-encode, len_utf8_bounds, drop_past_char, encodes-chars, scalars-chars, IsUtf8-from_is_utf8}
use Rattle.std.proofs.lemmas.Bool.Decides.{nat_tests}
use Rattle.rx_model.specs.Text.{Class, scalar_ranges, byte_ranges, is_member, member_len, stands_at, char_at}
use Rattle.rx_model.specs.Expression.{Expression, Expressions, empty, literal, class, look, repetition, capture, concat, alternation, nil, cons}
use Rattle.rx_model.specs.Meaning.{Pieces, Means, MeansInTurn, MeansOne}
use Rattle.rx_model.proofs.lemmas.meaning.CharLemmas.{member_len-is, byte_len-is, char_at_parts, char_at_from, member_len-some, byte_len-within, stands_at_parts}
use Rattle.rx_order.specs.Tests.{is_clear, are_disjoint, are_apart, literal_is_apart, is_apart, all_apart}
use Rattle.rx_order.proofs.lemmas.Bytes.{lead-byte, next-byte, byte-in}
use Rattle.rx_order.proofs.lemmas.Chain.{AreUnits, Step, Chain, chain-empty, chain-one, chain-join}

-- how long the unit at i is: of scalars the encoding that stands there, of bytes one byte
abbrev pub unit_of : List ℕ → Class → ℕ → Option ℕ
unit_of text (scalar_ranges rs) i = option_map len_utf8 (char_at text i)
unit_of text (byte_ranges rs) i = if nat_lt i (length text) then Some 1 else None

abbrev pub is_in : List ℕ → Class → ℕ → Bool
is_in text k i = is_some (member_len text k i)

pub mapped : (o : Option ℕ) (n : ℕ) → option_map len_utf8 o ≡ Some n → (c : ℕ) × (o ≡ Some c) × (len_utf8 c ≡ n)
mapped None n h = absurd (none-some n h)
mapped (Some c) n h = (c, refl, same_Some (len_utf8 c) n h)

not-true : (b : Bool) → not b ≡ true → b ≡ false
not-true true e = sym e
not-true false e = refl

cond-in : (b : Bool) (n : ℕ) → is_some (if b then Some n else None) ≡ b
cond-in true n = refl
cond-in false n = refl

all-cons : (a b : Bool) → (a && b) ≡ true → (a ≡ true) × (b ≡ true)
all-cons a b e = and_parts a b e

-- a number of a range that is clear is no member
clear-not : (rs : List (ℕ × ℕ)) (q : ℕ × ℕ) (c : ℕ) → is_clear rs q ≡ true → (nat_le q.0 c && nat_le c q.1) ≡ true → is_member rs c ≡ false
clear-not [] q c clear is = refl
clear-not (r ∷ rs) q c clear is =
    let both = and_parts (nat_lt r.1 q.0 || nat_lt q.1 r.0) (is_clear rs q) clear in
    let here : (nat_le r.0 c && nat_le c r.1) ≡ false = (let now = both.0 in grind (arith, nat_tests)) in
    rw (here, clear-not rs q c both.1 is) refl

disjoint-not : (rs qs : List (ℕ × ℕ)) (c : ℕ) → are_disjoint rs qs ≡ true → is_member qs c ≡ true → is_member rs c ≡ false
disjoint-not rs [] c all is = absurd (true≢false (sym is))
disjoint-not rs (q ∷ qs) c all is =
    let both = and_parts (is_clear rs q) (are_disjoint rs qs) all in
    elim (or_cases (nat_le q.0 c && nat_le c q.1) (is_member qs c) is) [
      | inl here ↦ clear-not rs q c both.0 here
      | inr later ↦ disjoint-not rs qs c both.1 later
    ]

module _ (text : List ℕ) where
  pub scalar-step : (rs : List (ℕ × ℕ)) (i c : ℕ) (b : Bool) → char_at text i ≡ Some c → is_member rs c ≡ b
      → Step (unit_of text (scalar_ranges rs)) (is_in text (scalar_ranges rs)) b i (i + len_utf8 c)
  scalar-step rs i c b h is = (
    len_utf8 c,
    ap (option_map len_utf8) h,
    ap is_some (member_len-some text rs i c h) ∙ cond-in (is_member rs c) (len_utf8 c) ∙ is,
    refl,
  )

  pub byte-step : (rs : List (ℕ × ℕ)) (i : ℕ) (b : Bool) → i < length text → is_member rs (slice_index text i) ≡ b
      → Step (unit_of text (byte_ranges rs)) (is_in text (byte_ranges rs)) b i (i + 1)
  byte-step rs i b lt is =
      let test : nat_lt i (length text) ≡ true = grind (arith, nat_tests) in (
        1,
        rw test refl,
        ap is_some (byte_len-within text rs i lt) ∙ cond-in (is_member rs (slice_index text i)) 1 ∙ is,
        refl,
      )

  -- no unit begins inside another
  pub units : (k : Class) → AreUnits (unit_of text k)
  units (scalar_ranges rs) i n k m u v low high =
      let c = mapped (char_at text i) n u in
      let d = mapped (char_at text k) m v in
      let first = (char_at_parts text i c.0 c.1).1 in
      let other = (char_at_parts text k d.0 d.1).1 in
      let long = c.2 in
      let bounds = len_utf8_bounds d.0 in
      let q = k - i - 1 in
      let lt : suc q < len_utf8 c.0 = omega arith in
      let same : i + suc q ≡ k = omega arith in
      let size = length-encode c.0 in
      let size' = length-encode d.0 in
      let byte = byte-in text i (encode_utf8 c.0) (drop (i + len_utf8 c.0) text) first (suc q) (omega arith) in
      let byte' = byte-in text k (encode_utf8 d.0) (drop (k + len_utf8 d.0) text) other 0 (omega arith) in
      let equal : slice_index (encode_utf8 c.0) (suc q) ≡ slice_index (encode_utf8 d.0) 0 =
      sym byte ∙ ap (slice_index text) (let e : i + suc q ≡ k + 0 = omega arith in e) ∙ byte' in
      let next = next-byte c.0 q lt in
      let above = next.0 in
      let below = next.1 in
      elim (lead-byte d.0) [
        | inl x ↦ let small = x.0 in let is = x.1 in omega arith
        | inr x ↦ let big = x.1 in omega arith
      ]
  units (byte_ranges rs) i n k m u v low high = let one = (cond_some (nat_lt i (length text)) 1 n u).1 in omega arith

  module _ (k : Class) where
    -- units in a row, each a member of the class, or each not
    abbrev pub Row : Bool → ℕ → ℕ → Type 0
    Row b i j = Chain (unit_of text k) (is_in text k) b i j

    pub row-empty : (b : Bool) (i j : ℕ) → i ≡ j → Row b i j
    row-empty b i j e = chain-empty (unit_of text k) (is_in text k) b i j e

    row-one : (b : Bool) (i j : ℕ) → Step (unit_of text k) (is_in text k) b i j → Row b i j
    row-one b i j s = chain-one (unit_of text k) (is_in text k) b i j s

    pub row-join : (b : Bool) (i m j : ℕ) → Row b i m → Row b m j → Row b i j
    row-join b i m j first later = chain-join (unit_of text k) (is_in text k) b i m j first later

    pub row-pieces : (b : Bool) (R : ℕ → ℕ → Type 0) → ((i j : ℕ) → R i j → Row b i j) → (count i j : ℕ) → Pieces R count i j → Row b i j
    row-pieces b R each zero i j e = row-empty b i j e
    row-pieces b R each (suc count) i j h = row-join b i h.0 j (each i h.0 h.1) (row-pieces b R each count h.0 j h.2)

  -- a member takes a byte
  pub class-long : (k : Class) (i n : ℕ) → member_len text k i ≡ Some n → 1 ≤ n
  class-long (scalar_ranges rs) i n h =
      let m = member_len-is text rs i n h in
      let e = m.3 in
      let long = (len_utf8_bounds m.0).0 in
      omega arith
  class-long (byte_ranges rs) i n h = let m = byte_len-is text rs i n h in let e = m.0 in omega arith

  -- a member of a class is a unit of it, and of no class that shares no member with it
  pub class-in : (k : Class) (i n : ℕ) → member_len text k i ≡ Some n → Row k true i (i + n)
  class-in (scalar_ranges rs) i n h =
      let m = member_len-is text rs i n h in
      let goes : drop i text ≡ encode_utf8 m.0 ++ drop n (drop i text) = sym (take-append-drop n (drop i text)) ∙ ap (λ bs. bs ++ drop n (drop i text)) m.4 in
      let step = scalar-step rs i m.0 true (char_at_from text i m.0 (drop n (drop i text)) m.1 goes) m.2 in
      subst (λ (d : ℕ). Row (scalar_ranges rs) true i (i + d)) (sym m.3) (row-one (scalar_ranges rs) true i (i + len_utf8 m.0) step)
  class-in (byte_ranges rs) i n h =
      let m = byte_len-is text rs i n h in
      let step = byte-step rs i true m.1 m.2 in
      subst (λ (d : ℕ). Row (byte_ranges rs) true i (i + d)) (sym m.0) (row-one (byte_ranges rs) true i (i + 1) step)

  class-out : (k members : Class) (i n : ℕ) → are_apart k members ≡ true → member_len text members i ≡ Some n → Row k false i (i + n)
  class-out (scalar_ranges rs) (scalar_ranges qs) i n apart h =
      let m = member_len-is text qs i n h in
      let goes : drop i text ≡ encode_utf8 m.0 ++ drop n (drop i text) = sym (take-append-drop n (drop i text)) ∙ ap (λ bs. bs ++ drop n (drop i text)) m.4 in
      let step = scalar-step rs i m.0 false (char_at_from text i m.0 (drop n (drop i text)) m.1 goes) (disjoint-not rs qs m.0 apart m.2) in
      subst (λ (d : ℕ). Row (scalar_ranges rs) false i (i + d)) (sym m.3) (row-one (scalar_ranges rs) false i (i + len_utf8 m.0) step)
  class-out (byte_ranges rs) (byte_ranges qs) i n apart h =
      let m = byte_len-is text qs i n h in
      let step = byte-step rs i false m.1 (disjoint-not rs qs (slice_index text i) apart m.2) in
      subst (λ (d : ℕ). Row (byte_ranges rs) false i (i + d)) (sym m.0) (row-one (byte_ranges rs) false i (i + 1) step)
  class-out (scalar_ranges rs) (byte_ranges qs) i n apart h = absurd (true≢false (sym apart))
  class-out (byte_ranges rs) (scalar_ranges qs) i n apart h = absurd (true≢false (sym apart))

  bytes-out : (rs : List (ℕ × ℕ)) (bytes rest : List ℕ) (i : ℕ) → drop i text ≡ bytes ++ rest → list_all (λ b. not (is_member rs b)) bytes ≡ true
      → Row (byte_ranges rs) false i (i + length bytes)
  bytes-out rs [] rest i goes all = row-empty (byte_ranges rs) false i (i + 0) (omega arith)
  bytes-out rs (b ∷ bytes) rest i goes all =
      let both = and_parts (not (is_member rs b)) (list_all (λ c. not (is_member rs c)) bytes) all in
      let lt : i < length text = omega (arith, ap length goes, length-drop i text) in
      let place : i + 0 ≡ i = omega arith in
      let byte : slice_index text i ≡ b = ap (slice_index text) (sym place) ∙ byte-in text i (b ∷ bytes) rest goes 0 (omega arith) in
      let step = byte-step rs i false lt (ap (is_member rs) byte ∙ not-true (is_member rs b) both.0) in
      let goes' : drop (i + 1) text ≡ bytes ++ rest = sym (drop-drop 1 i text) ∙ ap (drop 1) goes in
      let later = bytes-out rs bytes rest (i + 1) goes' both.1 in
      let ends : i + 1 + length bytes ≡ i + suc (length bytes) = omega arith in
      row-join (byte_ranges rs) false i (i + 1) (i + suc (length bytes)) (row-one (byte_ranges rs) false i (i + 1) step)
      (subst (Row (byte_ranges rs) false (i + 1)) ends later)

  chars-out : (rs : List (ℕ × ℕ)) (cs rest : List ℕ) (i : ℕ) → all_scalars cs ≡ true → drop i text ≡ encode_utf8_all cs ++ rest
      → list_all (λ c. not (is_member rs c)) cs ≡ true
      → Row (scalar_ranges rs) false i (i + length (encode_utf8_all cs))
  chars-out rs [] rest i scalars goes all = row-empty (scalar_ranges rs) false i (i + 0) (omega arith)
  chars-out rs (c ∷ cs) rest i scalars goes all =
      let both = and_parts (not (is_member rs c)) (list_all (λ d. not (is_member rs d)) cs) all in
      let are = and_parts _ (all_scalars cs) scalars in
      let more = encode_utf8_all cs ++ rest in
      let goes' : drop i text ≡ encode_utf8 c ++ more = goes ∙ append_assoc (encode_utf8 c) (encode_utf8_all cs) rest in
      let step = scalar-step rs i c false (char_at_from text i c more are.0 goes') (not-true (is_member rs c) both.0) in
      let later = chars-out rs cs rest (i + len_utf8 c) are.1 (drop_past_char text more i c goes') both.1 in
      let size = length-encode c in
      let whole = length-append (encode_utf8 c) (encode_utf8_all cs) in
      let ends : i + len_utf8 c + length (encode_utf8_all cs) ≡ i + length (encode_utf8 c ++ encode_utf8_all cs) = omega arith in
      row-join (scalar_ranges rs) false i (i + len_utf8 c) (i + length (encode_utf8 c ++ encode_utf8_all cs))
      (row-one (scalar_ranges rs) false i (i + len_utf8 c) step) (subst (Row (scalar_ranges rs) false (i + len_utf8 c)) ends later)

  -- a literal that has no member of the class
  literal-out : (k : Class) (bytes : List ℕ) (i : ℕ) → literal_is_apart k bytes ≡ true → stands_at text i bytes ≡ true → Row k false i (i + length bytes)
  literal-out (scalar_ranges rs) bytes i apart h =
      let both = and_parts (is_utf8 bytes) (list_all (λ c. not (is_member rs c)) (chars bytes)) apart in
      let utf8 = IsUtf8-from_is_utf8 bytes both.0 in
      let same = encodes-chars bytes utf8 in
      let goes = stands_at_parts text i bytes h ∙ ap (λ bs. bs ++ drop (i + length bytes) text) (sym same) in
      subst (λ bs. Row (scalar_ranges rs) false i (i + length bs)) same (chars-out rs (chars bytes) (drop (i + length bytes) text) i
      (scalars-chars bytes utf8) goes both.1)
  literal-out (byte_ranges rs) bytes i apart h = bytes-out rs bytes (drop (i + length bytes) text) i (stands_at_parts text i bytes h) apart

  module _ (t : ℕ) (k : Class) where
    mutual
      unfolding Means is_apart

      -- what shares no member with the class means units that are no members
      pub means-out : (h : Expression) → is_apart k h ≡ true → (i j : ℕ) → Means t text h i j → Row k false i j
      means-out empty apart i j m = row-empty k false i j m
      means-out (literal bytes) apart i j m = subst (Row k false i) m.1 (literal-out k bytes i apart m.0)
      means-out (class members) apart i j m = subst (Row k false i) m.2 (class-out k members i m.0 apart m.1)
      means-out (look kind) apart i j m = row-empty k false i j m.1
      means-out (repetition least greatest greedy sub) apart i j m =
          row-pieces k false (Means t text sub) (λ x y piece. means-out sub apart x y piece) m.0 i j m.2
      means-out (capture group name sub) apart i j m = means-out sub apart i j m
      means-out (concat subs) apart i j m = in_turn-out subs apart i j m
      means-out (alternation subs) apart i j m = one-out subs apart i j m

      pub in_turn-out : (hs : Expressions) → all_apart k hs ≡ true → (i j : ℕ) → MeansInTurn t text hs i j → Row k false i j
      in_turn-out nil apart i j m = row-empty k false i j m
      in_turn-out (cons sub subs) apart i j m =
          let both = and_parts (is_apart k sub) (all_apart k subs) apart in
          row-join k false i m.0 j (means-out sub both.0 i m.0 m.1) (in_turn-out subs both.1 m.0 j m.2)

      one-out : (hs : Expressions) → all_apart k hs ≡ true → (i j : ℕ) → MeansOne t text hs i j → Row k false i j
      one-out nil apart i j m = absurd m
      one-out (cons sub subs) apart i j m =
          let both = and_parts (is_apart k sub) (all_apart k subs) apart in
          elim m [ inl is ↦ means-out sub both.0 i j is | inr is ↦ one-out subs both.1 i j is ]
