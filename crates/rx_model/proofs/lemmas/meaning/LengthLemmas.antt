-- The least length that is known is a lower bound, and that of a class is met.
use Rattle.std.proofs.Common.{◌≡◌, ℕ, zero, suc, ◌+◌, ◌*◌, min, ◌≤◌, ◌⊎◌, true, false, ◌&&◌, List, [], ◌∷◌, length, Option, Some, None, refl, sym, ap, ◌∙◌, inl, inr, arith, true≢false}
use Rattle.std.specs.Prelude.{nat_le, option_map, IsTrue, All}
use Rattle.std.proofs.lemmas.Bool.Decides.{nat_tests}
use Rattle.std.proofs.lemmas.Bool.{and_parts, or_right}
use Rattle.std.proofs.lemmas.Option.{none-some, same_Some, cond_some}
use Rattle.std.proofs.Math.Nat.{mul-suc, mul-le-mul_left}
use Rattle.std.specs.Char.{IsScalar, len_utf8}
use Rattle.rx_model.specs.Text.{Class, scalar_ranges, byte_ranges, is_member, member_len}
use Rattle.rx_model.specs.Expression.{Expression, Expressions, empty, literal, class, look, repetition, capture, concat, alternation, nil, cons}
use Rattle.rx_model.specs.Meaning.{Pieces, Means, MeansInTurn, MeansOne}
use Rattle.rx_model.specs.Length.{plus, lesser, shorter, scalar_from, shortest_scalar, shortest_byte, shortest_of, shortest_member, minimum_len, sum_of_minimum_len, least_minimum_len}
use Rattle.rx_model.proofs.lemmas.runs.RunLemmas.{by_test}
use Rattle.rx_model.proofs.lemmas.meaning.CharLemmas.{member_len-is, byte_len-is}

pub len_utf8-rises : (c d : ℕ) → c ≤ d → len_utf8 c ≤ len_utf8 d
len_utf8-rises c d le = grind (arith, nat_tests)

-- a length that is known, and at most n
abbrev IsKnown : Option ℕ → ℕ → Type 0
IsKnown o n = (m : ℕ) × (o ≡ Some m) × (m ≤ n)

shorter-left : (a b : Option ℕ) (n : ℕ) → IsKnown a n → IsKnown (shorter a b) n
shorter-left None b n h = absurd (none-some h.0 h.1)
shorter-left (Some x) None n h = h
shorter-left (Some x) (Some y) n h = let e : x ≡ h.0 = same_Some x h.0 h.1 in let le = h.2 in (min x y, refl, omega arith)

shorter-right : (a b : Option ℕ) (n : ℕ) → IsKnown b n → IsKnown (shorter a b) n
shorter-right None b n h = h
shorter-right (Some x) None n h = absurd (none-some h.0 h.1)
shorter-right (Some x) (Some y) n h = let e : y ≡ h.0 = same_Some y h.0 h.1 in let le = h.2 in (min x y, refl, omega arith)

-- what each range gives for its members is a bound for those of the list
shortest-known : (shortest : ℕ × ℕ → Option ℕ) (rs : List (ℕ × ℕ)) (c n : ℕ) → ((r : ℕ × ℕ) → r.0 ≤ c → c ≤ r.1 → IsKnown (shortest r) n)
    → is_member rs c ≡ true → IsKnown (shortest_of shortest rs) n
shortest-known shortest [] c n each h = absurd (true≢false (sym h))
shortest-known shortest (r ∷ rs) c n each h =
    by_test (nat_le r.0 c && nat_le c r.1)
    (λ e. shorter-left (shortest r) (shortest_of shortest rs) n (each r (grind (arith, nat_tests)) (grind (arith, nat_tests))))
    (λ e. shorter-right (shortest r) (shortest_of shortest rs) n (shortest-known shortest rs c n each (rw e at h)))

shortest_scalar-known : (r : ℕ × ℕ) (c : ℕ) → IsScalar c → r.0 ≤ c → c ≤ r.1 → IsKnown (shortest_scalar r) (len_utf8 c)
shortest_scalar-known r c s low high =
    let first : scalar_from r.0 ≤ c = grind (arith, nat_tests) in
    let fits : (nat_le (scalar_from r.0) r.1 && nat_le (scalar_from r.0) 0x10FFFF) ≡ true = grind (arith, nat_tests) in
    (len_utf8 (scalar_from r.0), rw fits refl, len_utf8-rises (scalar_from r.0) c first)

shortest_byte-known : (r : ℕ × ℕ) (b : ℕ) → r.0 ≤ b → b ≤ r.1 → IsKnown (shortest_byte r) 1
shortest_byte-known r b low high = let fits : nat_le r.0 r.1 ≡ true = grind (arith, nat_tests) in (1, rw fits refl, omega arith)

-- a member's encoding is no shorter
pub class-known : (text : List ℕ) (members : Class) (i n : ℕ) → member_len text members i ≡ Some n → IsKnown (shortest_member members) n
class-known text (scalar_ranges rs) i n h =
    let m = member_len-is text rs i n h in
    let x = shortest-known shortest_scalar rs m.0 (len_utf8 m.0) (λ r low high. shortest_scalar-known r m.0 m.1 low high) m.2 in
    (x.0, x.1, (let le = x.2 in let e = m.3 in omega arith))
class-known text (byte_ranges rs) i n h =
    let m = byte_len-is text rs i n h in
    let x = shortest-known shortest_byte rs _ 1 (λ r low high. shortest_byte-known r _ low high) m.2 in
    (x.0, x.1, (let le = x.2 in let e = m.0 in omega arith))

shorter-cases : (a b : Option ℕ) (n : ℕ) → shorter a b ≡ Some n → (a ≡ Some n) ⊎ (b ≡ Some n)
shorter-cases None b n h = inr h
shorter-cases (Some x) None n h = inl h
shorter-cases (Some x) (Some y) n h =
    let e : min x y ≡ n = same_Some (min x y) n h in
    by_test (nat_le x y)
    (λ le. let is : x ≡ n = grind (arith, nat_tests) in inl (ap Some is))
    (λ gt. let is : y ≡ n = grind (arith, nat_tests) in inr (ap Some is))

-- what each range gives is met by one of its members, and so is what the list gives
shortest-met : (shortest : ℕ × ℕ → Option ℕ) (IsMet : (c n : ℕ) → Type 0)
    → ((r : ℕ × ℕ) (n : ℕ) → shortest r ≡ Some n → (c : ℕ) × (r.0 ≤ c) × (c ≤ r.1) × IsMet c n)
    → (rs : List (ℕ × ℕ)) (n : ℕ) → shortest_of shortest rs ≡ Some n → (c : ℕ) × IsTrue (is_member rs c) × IsMet c n
shortest-met shortest IsMet each [] n h = absurd (none-some n h)
shortest-met shortest IsMet each (r ∷ rs) n h =
    elim (shorter-cases (shortest r) (shortest_of shortest rs) n h) [
      | inl first ↦
          let x = each r n first in
          let low = x.1 in
          let high = x.2 in
          let is : (nat_le r.0 x.0 && nat_le x.0 r.1) ≡ true = grind (arith, nat_tests) in
          (x.0, rw is refl, x.3)
      | inr later ↦ let x = shortest-met shortest IsMet each rs n later in (x.0, or_right _ _ x.1, x.2)
    ]

-- the shortest encoding of a member is one
pub scalars-met : (rs : List (ℕ × ℕ)) (n : ℕ) → shortest_of shortest_scalar rs ≡ Some n → (c : ℕ) × IsTrue (is_member rs c) × (IsScalar c × (len_utf8 c ≡ n))
scalars-met rs n h =
    shortest-met shortest_scalar (λ c m. IsScalar c × (len_utf8 c ≡ m))
    (λ r m e.
    let test = cond_some (nat_le (scalar_from r.0) r.1 && nat_le (scalar_from r.0) 0x10FFFF) (len_utf8 (scalar_from r.0)) m e in
    let both = and_parts (nat_le (scalar_from r.0) r.1) (nat_le (scalar_from r.0) 0x10FFFF) test.0 in
    (scalar_from r.0, grind (arith, nat_tests), grind (arith, nat_tests), (grind (arith, nat_tests), test.1))) rs n h

pub bytes-met : (rs : List (ℕ × ℕ)) (n : ℕ) → shortest_of shortest_byte rs ≡ Some n → (b : ℕ) × IsTrue (is_member rs b) × (n ≡ 1)
bytes-met rs n h =
    shortest-met shortest_byte (λ b m. m ≡ 1)
    (λ r m e. let test = cond_some (nat_le r.0 r.1) 1 m e in (r.0, omega arith, grind (arith, nat_tests), sym test.1)) rs n h

-- where there is none, the class has no members
pub scalars-none : (rs : List (ℕ × ℕ)) → shortest_of shortest_scalar rs ≡ None → (c : ℕ) → IsScalar c → is_member rs c ≡ false
scalars-none rs none c s =
    by_test (is_member rs c)
    (λ e. let x = shortest-known shortest_scalar rs c (len_utf8 c) (λ r low high. shortest_scalar-known r c s low high) e in
    absurd (none-some x.0 (sym none ∙ x.1)))
    (λ e. e)

pub bytes-none : (rs : List (ℕ × ℕ)) → shortest_of shortest_byte rs ≡ None → (b : ℕ) → is_member rs b ≡ false
bytes-none rs none b =
    by_test (is_member rs b)
    (λ e. let x = shortest-known shortest_byte rs b 1 (λ r low high. shortest_byte-known r b low high) e in absurd (none-some x.0 (sym none ∙ x.1)))
    (λ e. e)

-- the first number of the first range, where the ranges ascend, is the one with the shortest encoding
pub shortest-first : (r : ℕ × ℕ) (rs : List (ℕ × ℕ)) → IsScalar r.0 → r.0 ≤ r.1 → All (λ (q : ℕ × ℕ). r.0 ≤ q.0) rs
    → shortest_of shortest_scalar (r ∷ rs) ≡ Some (len_utf8 r.0)
shortest-first r rs s le above =
    let first : scalar_from r.0 ≡ r.0 = grind (arith, nat_tests) in
    let fits : (nat_le r.0 r.1 && nat_le r.0 0x10FFFF) ≡ true = grind (arith, nat_tests) in
    rw (first, fits) (keeps (shortest_of shortest_scalar rs) refl)
  where
    member-above : (qs : List (ℕ × ℕ)) → All (λ (q : ℕ × ℕ). r.0 ≤ q.0) qs → (c : ℕ) → is_member qs c ≡ true → r.0 ≤ c
    member-above [] all c h = absurd (true≢false (sym h))
    member-above (q ∷ qs) all c h =
        by_test (nat_le q.0 c && nat_le c q.1)
        (λ e. let low : r.0 ≤ q.0 = all 0 q (omega arith) in let up : q.0 ≤ c = grind (arith, nat_tests) in omega arith)
        (λ e. member-above qs (λ k d lt. all (suc k) d (omega arith)) c (rw e at h))

    keeps : (o : Option ℕ) → shortest_of shortest_scalar rs ≡ o → shorter (Some (len_utf8 r.0)) o ≡ Some (len_utf8 r.0)
    keeps None e = refl
    keeps (Some n) e =
        let x = scalars-met rs n e in
        let up = len_utf8-rises r.0 x.0 (member-above rs above x.0 x.1) in
        let is = x.2.1 in
        let least : min (len_utf8 r.0) n ≡ len_utf8 r.0 = omega arith in
        ap Some least

pub plus-some : (a b : Option ℕ) (n : ℕ) → plus a b ≡ Some n → (x y : ℕ) × (a ≡ Some x) × (b ≡ Some y) × (x + y ≡ n)
plus-some None b n h = absurd (none-some n h)
plus-some (Some x) None n h = absurd (none-some n h)
plus-some (Some x) (Some y) n h = (x, y, refl, refl, same_Some (x + y) n h)

pub lesser-some : (a b : Option ℕ) (n : ℕ) → lesser a b ≡ Some n → (x y : ℕ) × (a ≡ Some x) × (b ≡ Some y) × (n ≤ x) × (n ≤ y)
lesser-some None b n h = absurd (none-some n h)
lesser-some (Some x) None n h = absurd (none-some n h)
lesser-some (Some x) (Some y) n h = let e : min x y ≡ n = same_Some (min x y) n h in (x, y, refl, refl, omega arith, omega arith)

pub times-some : (o : Option ℕ) (k n : ℕ) → option_map (λ m. m * k) o ≡ Some n → (m : ℕ) × (o ≡ Some m) × (m * k ≡ n)
times-some None k n h = absurd (none-some n h)
times-some (Some m) k n h = (m, refl, same_Some (m * k) n h)

pieces-long : (R : ℕ → ℕ → Type 0) (m : ℕ) → ((i j : ℕ) → R i j → i + m ≤ j) → (count i j : ℕ) → Pieces R count i j → i + m * count ≤ j
pieces-long R m each zero i j e = rw (mul-none m) (omega arith)
  where
    mul-none : (x : ℕ) → x * zero ≡ zero
    mul-none x = omega arith
pieces-long R m each (suc count) i j h =
    let now = each i h.0 h.1 in
    let later = pieces-long R m each count h.0 j h.2 in
    let e = mul-suc m count in
    omega arith

module _ (terminator : ℕ) (text : List ℕ) where
  mutual
    unfolding Means

    -- what the expression means is no shorter
    pub means-long : (h : Expression) (n : ℕ) → minimum_len h ≡ Some n → (i j : ℕ) → Means terminator text h i j → i + n ≤ j
    means-long empty n e i j m = let none = same_Some 0 n e in omega arith
    means-long (literal bytes) n e i j m = let is = same_Some (length bytes) n e in let ends = m.1 in omega arith
    means-long (class members) n e i j m =
        let x = class-known text members i m.0 m.1 in
        let is = same_Some x.0 n (sym x.1 ∙ e) in
        let le = x.2 in
        let ends = m.2 in
        omega arith
    means-long (look kind) n e i j m = let none = same_Some 0 n e in let ends = m.1 in omega arith
    means-long (repetition least greatest greedy sub) n e i j m =
        let x = times-some (minimum_len sub) least n e in
        let long = pieces-long (Means terminator text sub) x.0 (λ a b piece. means-long sub x.0 x.1 a b piece) m.0 i j m.2 in
        let more = mul-le-mul_left x.0 m.1.0 in
        let is = x.2 in
        omega arith
    means-long (capture group name sub) n e i j m = means-long sub n e i j m
    means-long (concat subs) n e i j m = in_turn-long subs n e i j m
    means-long (alternation subs) n e i j m = one-long subs n e i j m

    in_turn-long : (hs : Expressions) (n : ℕ) → sum_of_minimum_len hs ≡ Some n → (i j : ℕ) → MeansInTurn terminator text hs i j → i + n ≤ j
    in_turn-long nil n e i j m = let none = same_Some 0 n e in omega arith
    in_turn-long (cons sub subs) n e i j m =
        let x = plus-some (minimum_len sub) (sum_of_minimum_len subs) n e in
        let first = means-long sub x.0 x.2 i m.0 m.1 in
        let later = in_turn-long subs x.1 x.3 m.0 j m.2 in
        let is = x.4 in
        omega arith

    one-long : (hs : Expressions) (n : ℕ) → least_minimum_len hs ≡ Some n → (i j : ℕ) → MeansOne terminator text hs i j → i + n ≤ j
    one-long nil n e i j m = absurd m
    one-long (cons sub nil) n e i j m = elim m [ inl is ↦ means-long sub n e i j is | inr is ↦ absurd is ]
    one-long (cons sub (cons next subs)) n e i j m =
        let x = lesser-some (minimum_len sub) (least_minimum_len (cons next subs)) n e in
        let first = x.4 in
        let other = x.5 in
        elim m [
          | inl is ↦ let long = means-long sub x.0 x.2 i j is in omega arith
          | inr is ↦ let long = one-long (cons next subs) x.1 x.3 i j is in omega arith
        ]
