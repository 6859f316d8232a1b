-- Pieces in a row, from either side.
use Rattle.std.proofs.Common.{◌≡◌, ℕ, zero, suc, ◌≤◌, refl, subst, arith}
use Rattle.std.proofs.lemmas.Bool.Decides.{nat_tests}
use Rattle.std.specs.Prelude.{nat_eq}
use Rattle.std.proofs.Common.{Bool, true, false, Option, Some, None}
use Rattle.std.specs.Prelude.{if◌then◌else◌}
use Rattle.rx_model.specs.Meaning.{Pieces, IsCount}
use Rattle.rx_literal.specs.Literals.{Literal, Seq, one_empty, loosened}
use Rattle.rx_literal.specs.declared.side.Side.{Side}
use Rattle.rx_literal.specs.Extract.{with_empty, at_most_one, copies, repeated}
use Rattle.rx_literal.specs.Spans.{OneIn}
use Rattle.rx_literal.proofs.lemmas.prefixes.OneLemmas.{union-left, union-right}
use Rattle.rx_model.proofs.lemmas.runs.RunLemmas.{by_test}

module _ (R : ℕ → ℕ → Type 0) (rises : (i j : ℕ) → R i j → i ≤ j) where
  pub pieces-rise : (n i j : ℕ) → Pieces R n i j → i ≤ j
  pieces-rise zero i j p = omega arith
  pieces-rise (suc n) i j p = let now = rises i p.0 p.1 in let later = pieces-rise n p.0 j p.2 in omega arith

  -- the first c of them
  pub first-pieces : (c n i j : ℕ) → c ≤ n → Pieces R n i j → (k : ℕ) × Pieces R c i k × (k ≤ j)
  first-pieces zero n i j le p = (i, refl, pieces-rise n i j p)
  first-pieces (suc c) zero i j le p = absurd (omega arith)
  first-pieces (suc c) (suc n) i j le p =
      let less : c ≤ n = omega arith in
      let x = first-pieces c n p.0 j less p.2 in
      (x.0, (p.0, p.1, x.1), x.2)

  -- the last c of them
  pub last-pieces : (c n i j : ℕ) → c ≤ n → Pieces R n i j → (k : ℕ) × (i ≤ k) × Pieces R c k j
  last-pieces c zero i j le p = let is : zero ≡ c = omega arith in (i, omega arith, subst (λ m. Pieces R m i j) is p)
  last-pieces c (suc n) i j le p =
      by_test (nat_eq c (suc n))
      (λ e. let is : suc n ≡ c = grind (arith, nat_tests) in (i, omega arith, subst (λ m. Pieces R m i j) is p))
      (λ e.
      let less : c ≤ n = grind (arith, nat_tests) in
      let now = rises i p.0 p.1 in
      let x = last-pieces c n p.0 j less p.2 in
      let up = x.1 in
      (x.0, omega arith, x.2))

-- What a repetition's literals tell of i..j, by what the body's tell: of no bytes, of several pieces loosely, of
-- one piece, and of copies.
module _ (side : Side) (P : Literal → Type 0) (R : ℕ → ℕ → Type 0) (ts : Seq) (i j : ℕ) (nothing : i ≡ j → OneIn P one_empty)
    (some : (n : ℕ) → 1 ≤ n → Pieces R n i j → OneIn P (loosened ts)) (single : R i j → OneIn P ts)
    (several : (least most n : ℕ) → least ≤ n → n ≤ most → Pieces R n i j → OneIn P (copies side least most ts)) where
  with_empty-body : (greedy : Bool) (ss : Seq) → OneIn P ss → OneIn P (with_empty greedy ss)
  with_empty-body true ss h = union-left P ss one_empty h
  with_empty-body false ss h = union-right P one_empty ss h

  with_empty-empty : (greedy : Bool) (ss : Seq) → i ≡ j → OneIn P (with_empty greedy ss)
  with_empty-empty true ss e = union-right P ss one_empty (nothing e)
  with_empty-empty false ss e = union-left P one_empty ss (nothing e)

  pub repeated-in : (least : ℕ) (most : Option ℕ) (greedy : Bool) (n : ℕ) → IsCount least most n → Pieces R n i j → OneIn P (repeated side least most greedy ts)
  unfolding repeated
  repeated-in zero most greedy zero is p = with_empty-empty greedy (if at_most_one most then ts else loosened ts) p
  repeated-in zero None greedy (suc n) is p = with_empty-body greedy (loosened ts) (some (suc n) (omega arith) p)
  repeated-in zero (Some m) greedy (suc n) is p =
      by_test (nat_eq m 1)
      (λ e.
      let up = is.1 in
      let last : n ≡ zero = grind (arith, nat_tests) in
      let ends : Pieces R zero p.0 j = subst (λ x. Pieces R x p.0 j) last p.2 in
      rw e (with_empty-body greedy ts (single (subst (λ x. R i x) ends p.1))))
      (λ e. rw e (with_empty-body greedy (loosened ts) (some (suc n) (omega arith) p)))
  repeated-in (suc least) None greedy n is p = some n (let low = is.0 in omega arith) p
  repeated-in (suc least) (Some m) greedy n is p = several (suc least) m n is.0 is.1 p
