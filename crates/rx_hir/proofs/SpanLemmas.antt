-- The greatest length that is known is an upper bound.
use Rattle.std.proofs.Common.{◌≡◌, ℕ, zero, suc, ◌+◌, ◌*◌, ◌-◌, ◌^◌, min, max, ◌≤◌, true, List, [], ◌∷◌, length, Option, Some, None, refl, sym, ◌∙◌, inl, inr, arith, true≢false}
use Rattle.std.specs.Prelude.{nat_le, nat_lt, ◌&&◌, IfSome}
use Rattle.std.proofs.lemmas.Bool.Decides.{nat_tests}
use Rattle.std.proofs.lemmas.Option.{none-some, same_Some}
use Rattle.std.proofs.Math.Nat.{mul-suc, mul-le-mul_left}
use Rattle.std.specs.Char.{IsScalar, len_utf8}
use Rattle.rx_model.specs.Text.{Class, scalar_ranges, byte_ranges, is_member, member_len}
use Rattle.rx_model.specs.Expression.{Expression, Expressions, empty, literal, class, look, repetition, capture, concat, alternation, nil, cons}
use Rattle.rx_model.specs.Meaning.{Pieces, Means, MeansInTurn, MeansOne}
use Rattle.rx_model.specs.Length.{shortest_byte}
use Rattle.rx_model.proofs.lemmas.runs.RunLemmas.{by_test}
use Rattle.rx_model.proofs.lemmas.meaning.CharLemmas.{member_len-is, byte_len-is}
use Rattle.rx_hir.specs.Length.{times, greater, longer, scalar_until, longest_scalar, longest_of, longest_member, maximum_len, sum_of_maximum_len, greatest_maximum_len, saturated, in_64_bits}
use Rattle.rx_model.proofs.lemmas.meaning.LengthLemmas.{len_utf8-rises, plus-some}

-- a length that is known, and at least n
abbrev IsReached : Option ℕ → ℕ → Type 0
IsReached o n = (m : ℕ) × (o ≡ Some m) × (n ≤ m)

longer-left : (a b : Option ℕ) (n : ℕ) → IsReached a n → IsReached (longer a b) n
longer-left None b n h = absurd (none-some h.0 h.1)
longer-left (Some x) None n h = h
longer-left (Some x) (Some y) n h = let e : x ≡ h.0 = same_Some x h.0 h.1 in let le = h.2 in (max x y, refl, omega arith)

longer-right : (a b : Option ℕ) (n : ℕ) → IsReached b n → IsReached (longer a b) n
longer-right None b n h = h
longer-right (Some x) None n h = absurd (none-some h.0 h.1)
longer-right (Some x) (Some y) n h = let e : y ≡ h.0 = same_Some y h.0 h.1 in let le = h.2 in (max x y, refl, omega arith)

longest-reached : (longest : ℕ × ℕ → Option ℕ) (rs : List (ℕ × ℕ)) (c n : ℕ) → ((r : ℕ × ℕ) → r.0 ≤ c → c ≤ r.1 → IsReached (longest r) n)
    → is_member rs c ≡ true → IsReached (longest_of longest rs) n
longest-reached longest [] c n each h = absurd (true≢false (sym h))
longest-reached longest (r ∷ rs) c n each h =
    by_test (nat_le r.0 c && nat_le c r.1)
    (λ e. longer-left (longest r) (longest_of longest rs) n (each r (grind (arith, nat_tests)) (grind (arith, nat_tests))))
    (λ e. longer-right (longest r) (longest_of longest rs) n (longest-reached longest rs c n each (rw e at h)))

longest_scalar-reached : (r : ℕ × ℕ) (c : ℕ) → IsScalar c → r.0 ≤ c → c ≤ r.1 → IsReached (longest_scalar r) (len_utf8 c)
longest_scalar-reached r c s low high =
    let last : c ≤ scalar_until r.1 = grind (arith, nat_tests) in
    let fits : nat_le r.0 (scalar_until r.1) ≡ true = grind (arith, nat_tests) in
    (len_utf8 (scalar_until r.1), rw fits refl, len_utf8-rises c (scalar_until r.1) last)

shortest_byte-reached : (r : ℕ × ℕ) (b : ℕ) → r.0 ≤ b → b ≤ r.1 → IsReached (shortest_byte r) 1
shortest_byte-reached r b low high = let fits : nat_le r.0 r.1 ≡ true = grind (arith, nat_tests) in (1, rw fits refl, omega arith)

-- a member's encoding is no longer
class-reached : (text : List ℕ) (members : Class) (i n : ℕ) → member_len text members i ≡ Some n → IsReached (longest_member members) n
class-reached text (scalar_ranges rs) i n h =
    let m = member_len-is text rs i n h in
    let x = longest-reached longest_scalar rs m.0 (len_utf8 m.0) (λ r low high. longest_scalar-reached r m.0 m.1 low high) m.2 in
    (x.0, x.1, (let le = x.2 in let e = m.3 in omega arith))
class-reached text (byte_ranges rs) i n h =
    let m = byte_len-is text rs i n h in
    let x = longest-reached shortest_byte rs _ 1 (λ r low high. shortest_byte-reached r _ low high) m.2 in
    (x.0, x.1, (let le = x.2 in let e = m.0 in omega arith))

greater-some : (a b : Option ℕ) (n : ℕ) → greater a b ≡ Some n → (x y : ℕ) × (a ≡ Some x) × (b ≡ Some y) × (x ≤ n) × (y ≤ n)
greater-some None b n h = absurd (none-some n h)
greater-some (Some x) None n h = absurd (none-some n h)
greater-some (Some x) (Some y) n h = let e : max x y ≡ n = same_Some (max x y) n h in (x, y, refl, refl, omega arith, omega arith)

times-some : (a b : Option ℕ) (n : ℕ) → times a b ≡ Some n → (x y : ℕ) × (a ≡ Some x) × (b ≡ Some y) × (x * y ≡ n)
times-some None b n h = absurd (none-some n h)
times-some (Some x) None n h = absurd (none-some n h)
times-some (Some x) (Some y) n h = (x, y, refl, refl, same_Some (x * y) n h)

count-within : (greatest : Option ℕ) (most count : ℕ) → greatest ≡ Some most → IfSome greatest (λ m. count ≤ m) → count ≤ most
count-within None most count e h = absurd (none-some most e)
count-within (Some m) most count e h = let is = same_Some m most e in omega arith

pieces-short : (R : ℕ → ℕ → Type 0) (m : ℕ) → ((i j : ℕ) → R i j → j ≤ i + m) → (count i j : ℕ) → Pieces R count i j → j ≤ i + m * count
pieces-short R m each zero i j e = omega arith
pieces-short R m each (suc count) i j h =
    let now = each i h.0 h.1 in
    let later = pieces-short R m each count h.0 j h.2 in
    let e = mul-suc m count in
    omega arith

module _ (terminator : ℕ) (text : List ℕ) where
  mutual
    unfolding Means

    -- what the expression means is no longer
    pub means-short : (h : Expression) (n : ℕ) → maximum_len h ≡ Some n → (i j : ℕ) → Means terminator text h i j → j ≤ i + n
    means-short empty n e i j m = let none = same_Some 0 n e in omega arith
    means-short (literal bytes) n e i j m = let is = same_Some (length bytes) n e in let ends = m.1 in omega arith
    means-short (class members) n e i j m =
        let x = class-reached text members i m.0 m.1 in
        let is = same_Some x.0 n (sym x.1 ∙ e) in
        let le = x.2 in
        let ends = m.2 in
        omega arith
    means-short (look kind) n e i j m = let none = same_Some 0 n e in let ends = m.1 in omega arith
    means-short (repetition least greatest greedy sub) n e i j m =
        let x = times-some (maximum_len sub) greatest n e in
        let short = pieces-short (Means terminator text sub) x.0 (λ a b piece. means-short sub x.0 x.2 a b piece) m.0 i j m.2 in
        let few = count-within greatest x.1 m.0 x.3 m.1.1 in
        let more = mul-le-mul_left x.0 few in
        let is = x.4 in
        omega arith
    means-short (capture group name sub) n e i j m = means-short sub n e i j m
    means-short (concat subs) n e i j m = in_turn-short subs n e i j m
    means-short (alternation subs) n e i j m = one-short subs n e i j m

    in_turn-short : (hs : Expressions) (n : ℕ) → sum_of_maximum_len hs ≡ Some n → (i j : ℕ) → MeansInTurn terminator text hs i j → j ≤ i + n
    in_turn-short nil n e i j m = let none = same_Some 0 n e in omega arith
    in_turn-short (cons sub subs) n e i j m =
        let x = plus-some (maximum_len sub) (sum_of_maximum_len subs) n e in
        let first = means-short sub x.0 x.2 i m.0 m.1 in
        let later = in_turn-short subs x.1 x.3 m.0 j m.2 in
        let is = x.4 in
        omega arith

    one-short : (hs : Expressions) (n : ℕ) → greatest_maximum_len hs ≡ Some n → (i j : ℕ) → MeansOne terminator text hs i j → j ≤ i + n
    one-short nil n e i j m = absurd m
    one-short (cons sub nil) n e i j m = elim m [ inl is ↦ means-short sub n e i j is | inr is ↦ absurd is ]
    one-short (cons sub (cons next subs)) n e i j m =
        let x = greater-some (maximum_len sub) (greatest_maximum_len (cons next subs)) n e in
        let first = x.4 in
        let other = x.5 in
        elim m [
          | inl is ↦ let short = means-short sub x.0 x.2 i j is in omega arith
          | inr is ↦ let short = one-short (cons next subs) x.1 x.3 i j is in omega arith
        ]

-- what is kept of a length is a bound too

pub saturated-some : (o : Option ℕ) (n : ℕ) → saturated o ≡ Some n → (m : ℕ) × (o ≡ Some m) × (n ≤ m)
saturated-some None n h = absurd (none-some n h)
saturated-some (Some m) n h = let e : min m (2 ^ 64 - 1) ≡ n = same_Some (min m (2 ^ 64 - 1)) n h in (m, refl, omega arith)

pub in_64_bits-some : (o : Option ℕ) (n : ℕ) → in_64_bits o ≡ Some n → o ≡ Some n
in_64_bits-some None n h = h
in_64_bits-some (Some m) n h =
    by_test (nat_lt m (2 ^ 64))
    (λ e. rw e at h)
    (λ e. absurd (none-some n (rw e at h)))
