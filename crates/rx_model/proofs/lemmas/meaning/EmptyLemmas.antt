-- What means the empty string can be empty, and what can be empty means it, where there is no look-around.
use Rattle.std.proofs.Common.{◌≡◌, ℕ, zero, suc, ◌≤◌, Bool, true, List, subst, Some, refl, inl, inr, arith}
use Rattle.std.specs.Prelude.{◌==◌, ◌||◌}
use Rattle.std.proofs.lemmas.Bool.Decides.{nat_tests}
use Rattle.std.proofs.lemmas.Bool.{or_left, or_right}
use Rattle.std.specs.Char.{len_utf8}
use Rattle.rx_model.specs.Text.{Class, scalar_ranges, byte_ranges, member_len}
use Rattle.rx_model.specs.Expression.{Expression, Expressions, empty, literal, class, look, repetition, capture, concat, alternation, nil, cons}
use Rattle.rx_model.specs.Meaning.{Pieces, Means, MeansInTurn, MeansOne}
use Rattle.rx_model.specs.Empty.{can_be_empty, all_can_be_empty, one_can_be_empty}
use Rattle.rx_model.proofs.lemmas.meaning.CharLemmas.{member_len-is, byte_len-is}
use Rattle.rx_model.proofs.lemmas.meaning.PieceLemmas.{pieces-rise}

-- a member takes a byte
member-takes : (text : List ℕ) (members : Class) (i n : ℕ) → member_len text members i ≡ Some n → 1 ≤ n
member-takes text (scalar_ranges rs) i n h =
    let m = member_len-is text rs i n h in
    let e = m.3 in
    let long : 1 ≤ len_utf8 m.0 = grind (arith, nat_tests) in
    omega arith
member-takes text (byte_ranges rs) i n h = let m = byte_len-is text rs i n h in let e = m.0 in omega arith

-- of pieces from i to i each is from i to i
first-empty : (R : ℕ → ℕ → Type 0) → ((i j : ℕ) → R i j → i ≤ j) → (count i : ℕ) → Pieces R (suc count) i i → R i i
first-empty R each count i h =
    let up = each i h.0 h.1 in
    let down = pieces-rise R each count h.0 i h.2 in
    let same : h.0 ≡ i = omega arith in
    subst (R i) same h.1

-- there are none, or one of them shows that the body can be empty
pieces-empty : (R : ℕ → ℕ → Type 0) → ((i j : ℕ) → R i j → i ≤ j) → (can : Bool) → ((k : ℕ) → R k k → can ≡ true) → (least n i : ℕ) → least ≤ n → Pieces R n i i
    → ((least == 0) || can) ≡ true
pieces-empty R each can shows least zero i le h = or_left (least == 0) can (grind (arith, nat_tests))
pieces-empty R each can shows least (suc n) i le h = or_right (least == 0) can (shows i (first-empty R each n i h))

module _ (terminator : ℕ) (text : List ℕ) where
  mutual
    unfolding Means

    -- what an expression means doesn't end before it starts
    pub means-rises : (h : Expression) (i j : ℕ) → Means terminator text h i j → i ≤ j
    means-rises empty i j m = omega arith
    means-rises (literal bytes) i j m = let e = m.1 in omega arith
    means-rises (class members) i j m = let e = m.2 in omega arith
    means-rises (look kind) i j m = let e = m.1 in omega arith
    means-rises (repetition least greatest greedy sub) i j m = pieces-rise (Means terminator text sub) (λ a b piece. means-rises sub a b piece) m.0 i j m.2
    means-rises (capture group name sub) i j m = means-rises sub i j m
    means-rises (concat subs) i j m = in_turn-rise subs i j m
    means-rises (alternation subs) i j m = one-rises subs i j m

    pub in_turn-rise : (hs : Expressions) (i j : ℕ) → MeansInTurn terminator text hs i j → i ≤ j
    in_turn-rise nil i j m = omega arith
    in_turn-rise (cons sub subs) i j m =
        let first = means-rises sub i m.0 m.1 in
        let later = in_turn-rise subs m.0 j m.2 in
        omega arith

    one-rises : (hs : Expressions) (i j : ℕ) → MeansOne terminator text hs i j → i ≤ j
    one-rises nil i j m = absurd m
    one-rises (cons sub subs) i j m = elim m [ inl is ↦ means-rises sub i j is | inr is ↦ one-rises subs i j is ]

  mutual
    unfolding Means can_be_empty

    -- what means the empty string somewhere can be empty
    pub means-empty : (h : Expression) (i : ℕ) → Means terminator text h i i → can_be_empty h ≡ true
    means-empty empty i m = refl
    means-empty (literal bytes) i m = let e = m.1 in grind (arith, nat_tests)
    means-empty (class members) i m = let long = member-takes text members i m.0 m.1 in let e = m.2 in absurd (omega arith)
    means-empty (look kind) i m = refl
    means-empty (repetition least greatest greedy sub) i m =
        pieces-empty (Means terminator text sub) (λ a b piece. means-rises sub a b piece) (can_be_empty sub) (λ k piece. means-empty sub k piece) least m.0 i
        m.1.0 m.2
    means-empty (capture group name sub) i m = means-empty sub i m
    means-empty (concat subs) i m = in_turn-empty subs i m
    means-empty (alternation subs) i m = one-empty subs i m

    in_turn-empty : (hs : Expressions) (i : ℕ) → MeansInTurn terminator text hs i i → all_can_be_empty hs ≡ true
    in_turn-empty nil i m = refl
    in_turn-empty (cons sub subs) i m =
        let up = means-rises sub i m.0 m.1 in
        let down = in_turn-rise subs m.0 i m.2 in
        let same : m.0 ≡ i = omega arith in
        let first = means-empty sub i (subst (Means terminator text sub i) same m.1) in
        let later = in_turn-empty subs i (subst (λ k. MeansInTurn terminator text subs k i) same m.2) in
        rw (first, later) refl

    one-empty : (hs : Expressions) (i : ℕ) → MeansOne terminator text hs i i → one_can_be_empty hs ≡ true
    one-empty nil i m = absurd m
    one-empty (cons sub subs) i m =
        elim m [
          | inl is ↦ or_left (can_be_empty sub) (one_can_be_empty subs) (means-empty sub i is)
          | inr is ↦ or_right (can_be_empty sub) (one_can_be_empty subs) (one-empty subs i is)
        ]
