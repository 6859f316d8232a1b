-- An expression that can't consume a byte means no part with that byte, and the argument of such a byte.
use Rattle.std.proofs.Common.{◌≡◌, ℕ, zero, suc, ◌+◌, ◌-◌, ◌<◌, ◌≤◌, Bool, true, false, List, [], ◌∷◌, ◌++◌, length, slice_index, drop, Some, refl, sym, ap, subst, ◌∙◌, inl, inr, arith, true≢false}
use Rattle.std.specs.Prelude.{nat_lt, nat_le, nat_eq, ◌||◌}
use Rattle.std.specs.List.{list_any}
use Rattle.std.specs.Char.{len_utf8, encode_utf8}
use Rattle.std.proofs.lemmas.List.{take-append-drop}
use Rattle.std.proofs.lemmas.Str.{length-encode}
use Rattle.std.proofs.lemmas.Bool.Decides.{nat_tests}
use Rattle.rx_model.specs.Text.{Class, scalar_ranges, byte_ranges, is_member, member_len, stands_at}
use Rattle.rx_model.specs.Expression.{Expression, Expressions, empty, literal, class, look, repetition, capture, concat, alternation, nil, cons}
use Rattle.rx_model.specs.Meaning.{Pieces, Means, MeansInTurn, MeansOne}
use Rattle.rx_model.proofs.lemmas.runs.RunLemmas.{by_test}
use Rattle.rx_model.proofs.lemmas.meaning.EmptyLemmas.{means-rises}
use Rattle.rx_model.proofs.lemmas.meaning.CharLemmas.{member_len-is, byte_len-is}
use Rattle.rx_order.specs.Tests.{class_has_byte, can_consume, one_can_consume, cannot_consume_all}
use Rattle.rx_order.proofs.lemmas.Core.{IsOrdered}
use Rattle.rx_order.proofs.lemmas.Forms.{only-one}
use Rattle.rx_order.proofs.lemmas.Bytes.{lead-byte, next-byte, byte-in, byte-standing}

neither : (a b : Bool) → (a || b) ≡ false → (a ≡ false) × (b ≡ false)
neither true b e = absurd (true≢false e)
neither false b e = (refl, e)

none-is : (b : ℕ) (bytes : List ℕ) → list_any (nat_eq b) bytes ≡ false → (q : ℕ) → q < length bytes → slice_index bytes q ≡ b → ⊥
none-is b [] e q lt is = omega arith
none-is b (x ∷ bytes) e zero lt is = let first = (neither (nat_eq b x) (list_any (nat_eq b) bytes) e).0 in grind (arith, nat_tests)
none-is b (x ∷ bytes) e (suc q) lt is = none-is b bytes (neither (nat_eq b x) (list_any (nat_eq b) bytes) e).1 q (omega arith) is

module _ (text : List ℕ) (b : ℕ) where
  -- no place i..j holds the byte
  abbrev HasNone : ℕ → ℕ → Type 0
  HasNone i j = (k : ℕ) → i ≤ k → k < j → slice_index text k ≡ b → ⊥

  encoding-none : (c i : ℕ) (rest : List ℕ) → nat_le 0x80 b ≡ false → (c ≡ b → ⊥) → drop i text ≡ encode_utf8 c ++ rest → HasNone i (i + len_utf8 c)
  encoding-none c i rest small differs goes k low high is =
      at (k - i) (omega arith)
    where
      at : (q : ℕ) → i + q ≡ k → ⊥
      at zero e =
          let long = length-encode c in
          let some : 1 ≤ len_utf8 c = omega arith in
          let byte = byte-in text i (encode_utf8 c) rest goes 0 (omega arith) in
          let here : slice_index text (i + 0) ≡ b = ap (slice_index text) e ∙ is in
          elim (lead-byte c) [
            | inl x ↦ differs (sym x.1 ∙ sym byte ∙ here)
            | inr x ↦ let le : b < 128 = grind (arith, nat_tests) in let up = x.1 in omega arith
          ]
      at (suc q) e =
          let long = length-encode c in
          let lt : suc q < len_utf8 c = omega arith in
          let byte = byte-in text i (encode_utf8 c) rest goes (suc q) (omega arith) in
          let here : slice_index text (i + suc q) ≡ b = ap (slice_index text) e ∙ is in
          let up = (next-byte c q lt).0 in
          let le : b < 128 = grind (arith, nat_tests) in
          omega arith

  class-none : (members : Class) (i n : ℕ) → class_has_byte b members ≡ false → member_len text members i ≡ Some n → HasNone i (i + n)
  class-none (scalar_ranges rs) i n none h =
      let both = neither (nat_le 0x80 b) (is_member rs b) none in
      let m = member_len-is text rs i n h in
      let goes : drop i text ≡ encode_utf8 m.0 ++ drop n (drop i text) = sym (take-append-drop n (drop i text)) ∙ ap (λ bs. bs ++ drop n (drop i text)) m.4 in
      subst (λ (k : ℕ). HasNone i (i + k)) (sym m.3) (encoding-none m.0 i (drop n (drop i text)) both.0
      (λ e. true≢false (sym m.2 ∙ ap (is_member rs) e ∙ both.1)) goes)
  class-none (byte_ranges rs) i n none h = λ k low high is.
      let m = byte_len-is text rs i n h in
      let one = m.0 in
      let same : k ≡ i = omega arith in
      true≢false (sym m.2 ∙ ap (is_member rs) (ap (slice_index text) (sym same) ∙ is) ∙ none)

  pieces-none : (R : ℕ → ℕ → Type 0) → ((i j : ℕ) → R i j → HasNone i j) → (count i j : ℕ) → Pieces R count i j → HasNone i j
  pieces-none R each zero i j e k low high is = omega arith
  pieces-none R each (suc count) i j h k low high is =
      by_test (nat_lt k h.0)
      (λ e. each i h.0 h.1 k low (grind (arith, nat_tests)) is)
      (λ e. pieces-none R each count h.0 j h.2 k (grind (arith, nat_tests)) high is)

  module _ (t : ℕ) where
    mutual
      unfolding Means can_consume

      pub means-none : (h : Expression) → can_consume b h ≡ false → (i j : ℕ) → Means t text h i j → HasNone i j
      means-none empty none i j m = λ k low high is. omega arith
      means-none (literal bytes) none i j m = λ k low high is.
          let ends = m.1 in
          let same : i + (k - i) ≡ k = omega arith in
          let lt : k - i < length bytes = omega arith in
          let byte = byte-standing text i bytes m.0 (k - i) lt in
          none-is b bytes none (k - i) lt (sym byte ∙ ap (slice_index text) same ∙ is)
      means-none (class members) none i j m = subst (λ (d : ℕ). HasNone i d) m.2 (class-none members i m.0 none m.1)
      means-none (look kind) none i j m = λ k low high is. let e = m.1 in omega arith
      means-none (repetition least greatest greedy sub) none i j m = pieces-none (Means t text sub) (λ x y piece. means-none sub none x y piece) m.0 i j m.2
      means-none (capture group name sub) none i j m = means-none sub none i j m
      means-none (concat subs) none i j m = in_turn-none subs none i j m
      means-none (alternation subs) none i j m = one-none subs none i j m

      in_turn-none : (hs : Expressions) → one_can_consume b hs ≡ false → (i j : ℕ) → MeansInTurn t text hs i j → HasNone i j
      in_turn-none nil none i j m = λ k low high is. omega arith
      in_turn-none (cons sub subs) none i j m = λ k low high is.
          let both = neither (can_consume b sub) (one_can_consume b subs) none in
          by_test (nat_lt k m.0)
          (λ e. means-none sub both.0 i m.0 m.1 k low (grind (arith, nat_tests)) is)
          (λ e. in_turn-none subs both.1 m.0 j m.2 k (grind (arith, nat_tests)) high is)

      one-none : (hs : Expressions) → one_can_consume b hs ≡ false → (i j : ℕ) → MeansOne t text hs i j → HasNone i j
      one-none nil none i j m = absurd m
      one-none (cons sub subs) none i j m =
          let both = neither (can_consume b sub) (one_can_consume b subs) none in
          elim m [ inl is ↦ means-none sub both.0 i j is | inr is ↦ one-none subs both.1 i j is ]

-- the first byte of the literal that the expression can't consume
first-not : (x : Expression) (s : List ℕ) → cannot_consume_all x s ≡ true
    → (o : ℕ) × (o < length s) × (can_consume (slice_index s o) x ≡ false) × ((q : ℕ) → q < o → can_consume (slice_index s q) x ≡ true)
first-not x [] e = absurd (true≢false (sym e))
first-not x (b ∷ s) e =
    by_test (can_consume b x)
    (λ can.
    let later = first-not x s (rw can at e) in
    (suc later.0, (let lt = later.1 in omega arith), later.2, before later.0 can later.3))
    (λ not. (0, omega arith, not, λ q lt. absurd (omega arith)))
  where
    before : (o : ℕ) → can_consume b x ≡ true → ((q : ℕ) → q < o → can_consume (slice_index s q) x ≡ true) → (q : ℕ) → q < suc o
        → can_consume (slice_index (b ∷ s) q) x ≡ true
    before o can each zero lt = can
    before o can each (suc q) lt = each q (omega arith)

pub byte-ordered : (p : Expression) (s : List ℕ) → cannot_consume_all p s ≡ true → (t : ℕ) (text : List ℕ) → IsOrdered t text p (s ∷ [])
byte-ordered p s test t text i c i' c' m here m' there lt later none =
    let f = first-not p s test in
    let o = f.0 in
    let inside = f.1 in
    let up = means-rises t text p i c m in
    let stands : stands_at text c s ≡ true = subst (λ l. stands_at text c l ≡ true) (sym (only-one s here.0 here.1)) here.2 in
    let stands' : stands_at text c' s ≡ true = subst (λ l. stands_at text c' l ≡ true) (sym (only-one s there.0 there.1)) there.2 in
    let byte = byte-standing text c s stands o f.1 in
    by_test (nat_lt (c + o) c')
    (λ e. means-none text (slice_index s o) t p f.2 i' c' m' (c + o) (omega arith) (grind (arith, nat_tests)) byte)
    (λ e.
    let low : c' ≤ c + o = grind (arith, nat_tests) in
    let same : c' + (c + o - c') ≡ c + o = omega arith in
    let q = c + o - c' in
    let byte' = byte-standing text c' s stands' q (omega arith) in
    let equal : slice_index s q ≡ slice_index s o = sym byte' ∙ ap (slice_index text) same ∙ byte in
    true≢false (sym (f.3 q (omega arith)) ∙ ap (λ b. can_consume b p) equal ∙ f.2))
