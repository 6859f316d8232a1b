-- A look-around that each match begins, or ends, with holds there.
use Rattle.std.proofs.Common.{◌≡◌, ℕ, zero, suc, ◌<◌, true, List, Option, Some, None, sym, ap, subst, inl, inr, arith, true≢false}
use Rattle.std.specs.Prelude.{nat_lt, ◌&&◌}
use Rattle.std.proofs.lemmas.Bool.{or_cases, and_parts}
use Rattle.std.proofs.lemmas.Bool.Decides.{nat_tests}
use Rattle.rx_model.specs.Look.{Look, holds}
use Rattle.rx_model.specs.Expression.{Expression, Expressions, empty, literal, class, look, repetition, capture, concat, alternation, nil, cons}
use Rattle.rx_model.specs.Meaning.{Pieces, Means, MeansInTurn, MeansOne}
use Rattle.rx_model.proofs.lemmas.meaning.EmptyLemmas.{means-rises, in_turn-rise}
use Rattle.rx_hir.specs.Length.{maximum_len, sum_of_maximum_len}
use Rattle.rx_hir.specs.Normal.{is_zero}
use Rattle.rx_hir.specs.SameLaws.{same-kind}
use Rattle.rx_hir.specs.Properties.{looks_first, row_looks_first, each_looks_first, looks_last, row_looks_last, each_looks_last}
use Rattle.rx_hir.proofs.SpanLemmas.{means-short}

pub zero-len : (o : Option ℕ) → is_zero o ≡ true → o ≡ Some 0
zero-len None e = absurd (true≢false (sym e))
zero-len (Some n) e = let none : n ≡ 0 = grind (arith, nat_tests) in ap Some none

first-piece : (R : ℕ → ℕ → Type 0) (n i j : ℕ) → 0 < n → Pieces R n i j → (k : ℕ) × R i k
first-piece R zero i j lt h = absurd (omega arith)
first-piece R (suc n) i j lt h = (h.0, h.1)

last-piece : (R : ℕ → ℕ → Type 0) (n i j : ℕ) → 0 < n → Pieces R n i j → (k : ℕ) × R k j
last-piece R zero i j lt h = absurd (omega arith)
last-piece R (suc zero) i j lt h = (i, subst (R i) h.2 h.1)
last-piece R (suc (suc n)) i j lt h = last-piece R (suc n) h.0 j (omega arith) h.2

module _ (terminator : ℕ) (text : List ℕ) where
  mutual
    unfolding Means

    pub first-holds : (k : Look) (h : Expression) → looks_first k h ≡ true → (i j : ℕ) → Means terminator text h i j → holds terminator text k i ≡ true
    first-holds k empty e i j m = absurd (true≢false (sym e))
    first-holds k (literal bytes) e i j m = absurd (true≢false (sym e))
    first-holds k (class members) e i j m = absurd (true≢false (sym e))
    first-holds k (look kind) e i j m = subst (λ q. holds terminator text q i ≡ true) (sym (same-kind k kind e)) m.0
    first-holds k (repetition least greatest greedy sub) e i j m =
        let both = and_parts (nat_lt 0 least) (looks_first k sub) e in
        let some : 0 < least = (let more = both.0 in grind (arith, nat_tests)) in
        let enough = m.1.0 in
        let piece = first-piece (Means terminator text sub) m.0 i j (omega arith) m.2 in
        first-holds k sub both.1 i piece.0 piece.1
    first-holds k (capture group name sub) e i j m = first-holds k sub e i j m
    first-holds k (concat subs) e i j m = row-first k subs e i j m
    first-holds k (alternation subs) e i j m = each-first k subs e i j m

    row-first : (k : Look) (hs : Expressions) → row_looks_first k hs ≡ true → (i j : ℕ) → MeansInTurn terminator text hs i j → holds terminator text k i ≡ true
    row-first k nil e i j m = absurd (true≢false (sym e))
    row-first k (cons sub subs) e i j m =
        elim (or_cases (looks_first k sub) (is_zero (maximum_len sub) && row_looks_first k subs) e) [
          | inl now ↦ first-holds k sub now i m.0 m.1
          | inr later ↦
              let both = and_parts (is_zero (maximum_len sub)) (row_looks_first k subs) later in
              let short = means-short terminator text sub 0 (zero-len (maximum_len sub) both.0) i m.0 m.1 in
              let up = means-rises terminator text sub i m.0 m.1 in
              let same : m.0 ≡ i = omega arith in
              subst (λ a. holds terminator text k a ≡ true) same (row-first k subs both.1 m.0 j m.2)
        ]

    each-first : (k : Look) (hs : Expressions) → each_looks_first k hs ≡ true → (i j : ℕ) → MeansOne terminator text hs i j → holds terminator text k i ≡ true
    each-first k nil e i j m = absurd m
    each-first k (cons sub nil) e i j m = elim m [ inl is ↦ first-holds k sub e i j is | inr is ↦ absurd is ]
    each-first k (cons sub (cons next subs)) e i j m =
        let both = and_parts (looks_first k sub) (each_looks_first k (cons next subs)) e in
        elim m [ inl is ↦ first-holds k sub both.0 i j is | inr is ↦ each-first k (cons next subs) both.1 i j is ]

  mutual
    unfolding Means

    pub last-holds : (k : Look) (h : Expression) → looks_last k h ≡ true → (i j : ℕ) → Means terminator text h i j → holds terminator text k j ≡ true
    last-holds k empty e i j m = absurd (true≢false (sym e))
    last-holds k (literal bytes) e i j m = absurd (true≢false (sym e))
    last-holds k (class members) e i j m = absurd (true≢false (sym e))
    last-holds k (look kind) e i j m =
        subst (λ q. holds terminator text q j ≡ true) (sym (same-kind k kind e)) (subst (λ a. holds terminator text kind a ≡ true) m.1 m.0)
    last-holds k (repetition least greatest greedy sub) e i j m =
        let both = and_parts (nat_lt 0 least) (looks_last k sub) e in
        let some : 0 < least = (let more = both.0 in grind (arith, nat_tests)) in
        let enough = m.1.0 in
        let piece = last-piece (Means terminator text sub) m.0 i j (omega arith) m.2 in
        last-holds k sub both.1 piece.0 j piece.1
    last-holds k (capture group name sub) e i j m = last-holds k sub e i j m
    last-holds k (concat subs) e i j m = row-last k subs e i j m
    last-holds k (alternation subs) e i j m = each-last k subs e i j m

    row-last : (k : Look) (hs : Expressions) → row_looks_last k hs ≡ true → (i j : ℕ) → MeansInTurn terminator text hs i j → holds terminator text k j ≡ true
    row-last k nil e i j m = absurd (true≢false (sym e))
    row-last k (cons sub subs) e i j m =
        elim (or_cases (row_looks_last k subs) (is_zero (sum_of_maximum_len subs) && looks_last k sub) e) [
          | inl later ↦ row-last k subs later m.0 j m.2
          | inr now ↦
              let both = and_parts (is_zero (sum_of_maximum_len subs)) (looks_last k sub) now in
              let short = means-short terminator text (concat subs) 0 (zero-len (sum_of_maximum_len subs) both.0) m.0 j m.2 in
              let up = in_turn-rise terminator text subs m.0 j m.2 in
              let same : m.0 ≡ j = omega arith in
              subst (λ a. holds terminator text k a ≡ true) same (last-holds k sub both.1 i m.0 m.1)
        ]

    each-last : (k : Look) (hs : Expressions) → each_looks_last k hs ≡ true → (i j : ℕ) → MeansOne terminator text hs i j → holds terminator text k j ≡ true
    each-last k nil e i j m = absurd m
    each-last k (cons sub nil) e i j m = elim m [ inl is ↦ last-holds k sub e i j is | inr is ↦ absurd is ]
    each-last k (cons sub (cons next subs)) e i j m =
        let both = and_parts (looks_last k sub) (each_looks_last k (cons next subs)) e in
        elim m [ inl is ↦ last-holds k sub both.0 i j is | inr is ↦ each-last k (cons next subs) both.1 i j is ]
