-- What a UTF-8 expression means is UTF-8.
use Rattle.std.proofs.Common.{◌≡◌, ℕ, zero, suc, ◌+◌, ◌-◌, ◌<◌, ◌≤◌, true, List, [], ◌∷◌, ◌++◌, length, take, drop, slice_index, Some, refl, sym, ap, ◌∙◌, subst, inl, inr, arith, true≢false, drop-drop}
use Rattle.std.specs.Prelude.{nat_lt, nat_le, ◌&&◌, IsUtf8}
use Rattle.std.specs.List.{list_all}
use Rattle.std.proofs.lemmas.Bool.{or_cases, and_parts}
use Rattle.std.proofs.lemmas.Bool.Decides.{nat_tests}
use Rattle.std.proofs.lemmas.Str.{IsUtf8-encode, IsUtf8-append, IsUtf8-nil, IsUtf8-from_ascii, IsUtf8-from_is_utf8}
use Rattle.std.proofs.Math.Seq.{take-add, take-append_seam}
use Rattle.rx_model.specs.Text.{Class, scalar_ranges, byte_ranges, is_member, member_len}
use Rattle.rx_model.specs.Expression.{Expression, Expressions, empty, literal, class, look, repetition, capture, concat, alternation, nil, cons}
use Rattle.rx_model.specs.Meaning.{Pieces, Means, MeansInTurn, MeansOne}
use Rattle.rx_model.proofs.lemmas.meaning.CharLemmas.{stands_at_parts, member_len-is, byte_len-is}
use Rattle.rx_model.proofs.lemmas.meaning.EmptyLemmas.{means-rises, in_turn-rise}
use Rattle.rx_hir.specs.Properties.{is_utf8, are_utf8, is_utf8_class}

-- the bytes i..j
abbrev pub part : List ℕ → ℕ → ℕ → List ℕ
part text i j = take (j - i) (drop i text)

part-nothing : (text : List ℕ) (i j : ℕ) → i ≡ j → IsUtf8 (part text i j)
part-nothing text i j e =
    let none : j - i ≡ 0 = omega arith in
    subst (λ n. IsUtf8 (take n (drop i text))) (sym none) IsUtf8-nil

-- two parts in a row
part-join : (text : List ℕ) (i k j : ℕ) → i ≤ k → k ≤ j → IsUtf8 (part text i k) → IsUtf8 (part text k j) → IsUtf8 (part text i j)
part-join text i k j le up first later =
    let long : j - i ≡ (k - i) + (j - k) = omega arith in
    let place : i + (k - i) ≡ k = omega arith in
    let rest : drop (k - i) (drop i text) ≡ drop k text = drop-drop (k - i) i text ∙ ap (λ n. drop n text) place in
    let whole : part text i j ≡ part text i k ++ part text k j =
    ap (λ n. take n (drop i text)) long ∙ take-add (k - i) (j - k) (drop i text) ∙ ap (λ bs. part text i k ++ take (j - k) bs) rest in
    subst IsUtf8 (sym whole) (IsUtf8-append (part text i k) (part text k j) first later)

part-len : (text : List ℕ) (i n j : ℕ) (bytes : List ℕ) → i + n ≡ j → take n (drop i text) ≡ bytes → IsUtf8 bytes → IsUtf8 (part text i j)
part-len text i n j bytes e same utf8 =
    let long : n ≡ j - i = omega arith in
    subst (λ m. IsUtf8 (take m (drop i text))) long (subst IsUtf8 (sym same) utf8)

small-member : (rs : List (ℕ × ℕ)) (b : ℕ) → list_all (λ r. nat_lt r.1 0x80) rs ≡ true → is_member rs b ≡ true → b < 128
small-member [] b all is = absurd (true≢false (sym is))
small-member (r ∷ rs) b all is =
    let both = and_parts (nat_lt r.1 0x80) (list_all (λ q. nat_lt q.1 0x80) rs) all in
    let end = both.0 in
    elim (or_cases (nat_le r.0 b && nat_le b r.1) (is_member rs b) is) [
      | inl here ↦ grind (arith, nat_tests)
      | inr later ↦ small-member rs b both.1 later
    ]

one-byte : (text : List ℕ) (i : ℕ) → i < length text → take 1 (drop i text) ≡ slice_index text i ∷ []
one-byte [] i lt = absurd (omega arith)
one-byte (b ∷ text) zero lt = refl
one-byte (b ∷ text) (suc i) lt = one-byte text i (omega arith)

pub one-ascii : (b : ℕ) → b < 128 → IsUtf8 (b ∷ [])
one-ascii b lt = IsUtf8-from_ascii (b ∷ []) (each)
  where
    each : (i : ℕ) → slice_index (b ∷ []) i < 128
    each zero = lt
    each (suc i) = omega arith

class-utf8 : (text : List ℕ) (members : Class) → is_utf8_class members ≡ true → (i n j : ℕ) → member_len text members i ≡ Some n → i + n ≡ j
    → IsUtf8 (part text i j)
class-utf8 text (scalar_ranges rs) all i n j h e =
    let m = member_len-is text rs i n h in
    part-len text i n j _ e m.4 (IsUtf8-encode m.0 m.1)
class-utf8 text (byte_ranges rs) all i n j h e =
    let m = byte_len-is text rs i n h in
    let b = slice_index text i in
    let one : take n (drop i text) ≡ b ∷ [] = ap (λ k. take k (drop i text)) m.0 ∙ one-byte text i m.1 in
    part-len text i n j (b ∷ []) e one (one-ascii b (small-member rs b all m.2))

pieces-utf8 : (text : List ℕ) (R : ℕ → ℕ → Type 0) → ((i j : ℕ) → R i j → (i ≤ j) × IsUtf8 (part text i j)) → (n i j : ℕ) → Pieces R n i j
    → (i ≤ j) × IsUtf8 (part text i j)
pieces-utf8 text R each zero i j e = (omega arith, part-nothing text i j e)
pieces-utf8 text R each (suc n) i j h =
    let first = each i h.0 h.1 in
    let later = pieces-utf8 text R each n h.0 j h.2 in
    (omega (arith, first.0, later.0), part-join text i h.0 j first.0 later.0 first.1 later.1)

module _ (terminator : ℕ) (text : List ℕ) where
  mutual
    unfolding Means

    pub means-utf8 : (h : Expression) → is_utf8 h ≡ true → (i j : ℕ) → Means terminator text h i j → IsUtf8 (part text i j)
    means-utf8 empty e i j m = part-nothing text i j m
    means-utf8 (literal bytes) e i j m =
        let stands = stands_at_parts text i bytes m.0 in
        let same : take (length bytes) (drop i text) ≡ bytes = ap (take (length bytes)) stands ∙ take-append_seam bytes (drop (i + length bytes) text) in
        part-len text i (length bytes) j bytes m.1 same (IsUtf8-from_is_utf8 bytes e)
    means-utf8 (class members) e i j m = class-utf8 text members e i m.0 j m.1 m.2
    means-utf8 (look kind) e i j m = part-nothing text i j m.1
    means-utf8 (repetition least greatest greedy sub) e i j m =
        (pieces-utf8 text (Means terminator text sub) (λ a b piece. (means-rises terminator text sub a b piece, means-utf8 sub e a b piece)) m.0 i j m.2).1
    means-utf8 (capture group name sub) e i j m = means-utf8 sub e i j m
    means-utf8 (concat subs) e i j m = row-utf8 subs e i j m
    means-utf8 (alternation subs) e i j m = one-utf8 subs e i j m

    row-utf8 : (hs : Expressions) → are_utf8 hs ≡ true → (i j : ℕ) → MeansInTurn terminator text hs i j → IsUtf8 (part text i j)
    row-utf8 nil e i j m = part-nothing text i j m
    row-utf8 (cons sub subs) e i j m =
        let both = and_parts (is_utf8 sub) (are_utf8 subs) e in
        let up = means-rises terminator text sub i m.0 m.1 in
        let on = in_turn-rise terminator text subs m.0 j m.2 in
        part-join text i m.0 j up on (means-utf8 sub both.0 i m.0 m.1) (row-utf8 subs both.1 m.0 j m.2)

    one-utf8 : (hs : Expressions) → are_utf8 hs ≡ true → (i j : ℕ) → MeansOne terminator text hs i j → IsUtf8 (part text i j)
    one-utf8 nil e i j m = absurd m
    one-utf8 (cons sub subs) e i j m =
        let both = and_parts (is_utf8 sub) (are_utf8 subs) e in
        elim m [ inl is ↦ means-utf8 sub both.0 i j is | inr is ↦ one-utf8 subs both.1 i j is ]
