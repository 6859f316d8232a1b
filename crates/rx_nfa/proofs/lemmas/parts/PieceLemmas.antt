-- The pieces of a range of numbers, and the numbers that they have.
use Rattle.std.proofs.Common.{◌≡◌, ℕ, suc, ◌+◌, ◌-◌, ◌*◌, ◌/◌, ◌%◌, ◌≤◌, ◌<◌, ◌⊎◌, [], ◌++◌, refl, sym, ◌∙◌, ap, subst, inl, inr, ⊎_elim, arith}
use Rattle.std.specs.Prelude.{Bool, true, false, Option, Some, None, Contains, IfSome, if◌then◌else◌, ◌==◌, nat_le}
use Rattle.std.proofs.Math.Nat.{mul-le-mul_right, div-div-eq-div-mul}
use Rattle.std.proofs.lemmas.Bool.{cases_lt, eqb-true, eqb-false, lt-leb}
use Rattle.std.proofs.lemmas.Bool.Decides.{nat_tests}
use Rattle.std.proofs.lemmas.Option.{none-some, same_Some}
use Rattle.rx_model.proofs.lemmas.runs.RunLemmas.{by_test}
use Rattle.rx_model.proofs.lemmas.runs.MemberLemmas.{none-among, split-among, either-among, front-among, back-among}
use Rattle.rx_nfa.specs.Directed.{low_piece, middle_piece, high_piece, whole_from, whole_to, some_list, pieces_of}
use Rattle.rx_nfa.specs.Ranges.{size_of_block}
use Rattle.rx_nfa.specs.Digits.{FitsDigits, IsPiece}
use Rattle.rx_nfa.specs.declared.backwards.Piece.{Piece}
use Rattle.rx_nfa.proofs.lemmas.classes.RangesLemmas.{size_of_block-pos, size_of_block-suc}

pub div-le : (size a b : ℕ) → 0 < size → a ≤ b → a / size ≤ b / size
div-le size a b some le =
    ⊎_elim
    (λ lt. let more : suc (b / size) * size ≤ a / size * size = mul-le-mul_right size lt in absurd (omega arith))
    (λ ge. ge)
    (cases_lt (b / size) (a / size))

-- Each piece, by its tests.
module _ (size low high : ℕ) where
  abbrev one : Bool
  one = low / size == high / size

  pub low-one : one ≡ true → low_piece size low high ≡ Some (record { first = low / size; last = low / size; low = low % size; high = high % size })
  unfolding low_piece
  low-one e = rw e refl

  pub low-whole : one ≡ false → (low % size == 0) ≡ true → low_piece size low high ≡ None
  unfolding low_piece
  low-whole e z = rw (e, z) refl

  pub low-part : one ≡ false → (low % size == 0) ≡ false
      → low_piece size low high ≡ Some (record { first = low / size; last = low / size; low = low % size; high = size - 1 })
  unfolding low_piece
  low-part e z = rw (e, z) refl

  pub middle-one : one ≡ true → middle_piece size low high ≡ None
  unfolding middle_piece
  middle-one e = rw e refl

  pub middle-none : one ≡ false → nat_le (whole_to size high) (whole_from size low) ≡ true → middle_piece size low high ≡ None
  unfolding middle_piece
  middle-none e z = rw (e, z) refl

  pub middle-some : one ≡ false → nat_le (whole_to size high) (whole_from size low) ≡ false
      → middle_piece size low high ≡ Some (record { first = whole_from size low; last = whole_to size high - 1; low = 0; high = size - 1 })
  unfolding middle_piece
  middle-some e z = rw (e, z) refl

  pub high-one : one ≡ true → high_piece size low high ≡ None
  unfolding high_piece
  high-one e = rw e refl

  pub high-whole : one ≡ false → (high % size + 1 == size) ≡ true → high_piece size low high ≡ None
  unfolding high_piece
  high-whole e z = rw (e, z) refl

  pub high-part : one ≡ false → (high % size + 1 == size) ≡ false
      → high_piece size low high ≡ Some (record { first = high / size; last = high / size; low = 0; high = high % size })
  unfolding high_piece
  high-part e z = rw (e, z) refl

pub whole_to-most : (size high : ℕ) → whole_to size high ≤ high / size + 1
whole_to-most size high = by_test (high % size + 1 == size) (λ e. rw e (omega arith)) (λ e. rw e (omega arith))

-- Members of lists of pieces.

some-member : (o : Option Piece) (p : Piece) → Contains (some_list o) p → o ≡ Some p
some-member None p m = absurd (none-among p m)
some-member (Some x) p m = ⊎_elim (λ e. ap Some e) (λ none. absurd (none-among p none)) (split-among x p [] m)

member-some : (o : Option Piece) (p : Piece) → o ≡ Some p → Contains (some_list o) p
member-some None p e = absurd (none-some p e)
member-some (Some x) p e = (0, omega arith, same_Some _ _ e)

-- a piece is one of three
pub piece-is : (size low high : ℕ) (p : Piece) → Contains (pieces_of size low high) p
    → (low_piece size low high ≡ Some p) ⊎ ((middle_piece size low high ≡ Some p) ⊎ (high_piece size low high ≡ Some p))
piece-is size low high p m =
    let l = some_list (low_piece size low high) in
    let mid = some_list (middle_piece size low high) in
    let h = some_list (high_piece size low high) in
    ⊎_elim
    (λ x. inl (some-member (low_piece size low high) p x))
    (λ more. ⊎_elim (λ x. inr (inl (some-member (middle_piece size low high) p x))) (λ x. inr (inr (some-member (high_piece size low high) p x)))
    (either-among mid h p more))
    (either-among l (mid ++ h) p m)

is-piece : (size low high : ℕ) (p : Piece) → (low_piece size low high ≡ Some p) ⊎ ((middle_piece size low high ≡ Some p) ⊎ (high_piece size low high ≡ Some p))
    → Contains (pieces_of size low high) p
is-piece size low high p (inl e) = front-among (some_list (low_piece size low high))
    (some_list (middle_piece size low high) ++ some_list (high_piece size low high)) p (member-some (low_piece size low high) p e)
is-piece size low high p (inr (inl e)) =
    back-among (some_list (low_piece size low high)) (some_list (middle_piece size low high) ++ some_list (high_piece size low high)) p
    (front-among (some_list (middle_piece size low high)) (some_list (high_piece size low high)) p (member-some (middle_piece size low high) p e))
is-piece size low high p (inr (inr e)) =
    back-among (some_list (low_piece size low high)) (some_list (middle_piece size low high) ++ some_list (high_piece size low high)) p
    (back-among (some_list (middle_piece size low high)) (some_list (high_piece size low high)) p (member-some (high_piece size low high) p e))

-- the number of this first digit, with this rest, is one of the piece
pub record IsIn (p : Piece) (digit rest : ℕ) : Type 0 where
  pub from : p.first ≤ digit
  pub to : digit ≤ p.last
  pub least : p.low ≤ rest
  pub most : rest ≤ p.high

-- The pieces of a range have its numbers.
module _ (size low high : ℕ) (some : 0 < size) (ordered : low ≤ high) where
  -- whole numbers of multiples
  multiples : (a b : ℕ) → a ≤ b → a * size ≤ b * size
  multiples a b le = mul-le-mul_right size le

  digit-less : (low / size == high / size) ≡ false → low / size < high / size
  digit-less e =
      let rise = div-le size low high some ordered in
      ⊎_elim (λ lt. lt) (λ ge. let same : low / size ≡ high / size = omega arith in absurd (eqb-false (low / size) (high / size) e same))
      (cases_lt (low / size) (high / size))

  abbrev IsWithin : ℕ → ℕ → Type 0
  IsWithin q r = (low ≤ q * size + r) × (q * size + r ≤ high)

  from-whole : (q : ℕ) → whole_from size low ≤ q → low ≤ q * size
  from-whole q le =
      by_test (low % size == 0)
      (λ z. let none = eqb-true (low % size) 0 z in let le' : low / size ≤ q = subst (λ b. (if b then low / size else low / size + 1) ≤ q) z le in
      let more = multiples (low / size) q le' in omega arith)
      (λ z. let le' : low / size + 1 ≤ q = subst (λ b. (if b then low / size else low / size + 1) ≤ q) z le in
      let more = multiples (low / size + 1) q le' in omega arith)

  to-whole : (q : ℕ) → q < whole_to size high → q * size + size ≤ high + 1
  to-whole q lt =
      by_test (high % size + 1 == size)
      (λ z.
      let full = eqb-true (high % size + 1) size z in
      let le : q < high / size + 1 = subst (λ b. q < (if b then high / size + 1 else high / size)) z lt in
      let more = multiples q (high / size) (omega arith) in
      omega arith)
      (λ z. let le : q < high / size = subst (λ b. q < (if b then high / size + 1 else high / size)) z lt in
      let more = multiples (q + 1) (high / size) (omega arith) in omega arith)

  pub piece-sound : (p : Piece) (q r : ℕ) → Contains (pieces_of size low high) p → IsIn p q r → IsWithin q r
  piece-sound p q r m is =
      let from = is.from in
      let to = is.to in
      let least = is.least in
      let most = is.most in
      by_test (low / size == high / size)
      (λ e.
      ⊎_elim
      (λ l.
      let same = same_Some _ _ (sym (low-one size low high e) ∙ l) in
      let f = ap (λ (x : Piece). x.first) same in
      let t = ap (λ (x : Piece). x.last) same in
      let a = ap (λ (x : Piece). x.low) same in
      let b = ap (λ (x : Piece). x.high) same in
      let one = eqb-true (low / size) (high / size) e in
      let digit : q ≡ low / size = omega arith in
      let product : q * size ≡ low / size * size = ap (λ n. n * size) digit in
      let product' : q * size ≡ high / size * size = ap (λ n. n * size) (digit ∙ one) in
      (omega arith, omega arith))
      (λ more. ⊎_elim (λ x. absurd (none-some p (sym (middle-one size low high e) ∙ x))) (λ x. absurd (none-some p (sym (high-one size low high e) ∙ x))) more)
      (piece-is size low high p m))
      (λ e.
      let less = digit-less e in
      ⊎_elim
      (λ l.
      by_test (low % size == 0)
      (λ z. absurd (none-some p (sym (low-whole size low high e z) ∙ l)))
      (λ z.
      let same = same_Some _ _ (sym (low-part size low high e z) ∙ l) in
      let f = ap (λ (x : Piece). x.first) same in
      let t = ap (λ (x : Piece). x.last) same in
      let a = ap (λ (x : Piece). x.low) same in
      let b = ap (λ (x : Piece). x.high) same in
      let digit : q ≡ low / size = omega arith in
      let product : q * size ≡ low / size * size = ap (λ n. n * size) digit in
      let more = multiples (low / size + 1) (high / size) (omega arith) in
      (omega arith, omega arith)))
      (λ more.
      ⊎_elim
      (λ x.
      by_test (nat_le (whole_to size high) (whole_from size low))
      (λ z. absurd (none-some p (sym (middle-none size low high e z) ∙ x)))
      (λ z.
      let same = same_Some _ _ (sym (middle-some size low high e z) ∙ x) in
      let f = ap (λ (y : Piece). y.first) same in
      let t = ap (λ (y : Piece). y.last) same in
      let a = ap (λ (y : Piece). y.low) same in
      let b = ap (λ (y : Piece). y.high) same in
      let order : whole_from size low < whole_to size high = less-from z in
      let low' = from-whole q (omega arith) in
      let high' = to-whole q (omega arith) in
      (omega arith, omega arith)))
      (λ x.
      by_test (high % size + 1 == size)
      (λ z. absurd (none-some p (sym (high-whole size low high e z) ∙ x)))
      (λ z.
      let same = same_Some _ _ (sym (high-part size low high e z) ∙ x) in
      let f = ap (λ (y : Piece). y.first) same in
      let t = ap (λ (y : Piece). y.last) same in
      let a = ap (λ (y : Piece). y.low) same in
      let b = ap (λ (y : Piece). y.high) same in
      let digit : q ≡ high / size = omega arith in
      let product : q * size ≡ high / size * size = ap (λ n. n * size) digit in
      let more' = multiples (low / size + 1) (high / size) (omega arith) in
      (omega arith, omega arith)))
      more)
      (piece-is size low high p m))
    where
      less-from : nat_le (whole_to size high) (whole_from size low) ≡ false → whole_from size low < whole_to size high
      less-from z = grind (arith, nat_tests)

  pub piece-complete : (c : ℕ) → low ≤ c → c ≤ high → (p : Piece) × Contains (pieces_of size low high) p × IsIn p (c / size) (c % size)
  piece-complete c above below =
      let first = div-le size low c some above in
      let last = div-le size c high some below in
      by_test (low / size == high / size)
      (λ e.
      let one = eqb-true (low / size) (high / size) e in
      let digit : c / size ≡ low / size = omega arith in
      let product : c / size * size ≡ low / size * size = ap (λ n. n * size) digit in
      let product' : c / size * size ≡ high / size * size = ap (λ n. n * size) (digit ∙ one) in (
        record { first = low / size; last = low / size; low = low % size; high = high % size },
        is-piece size low high _ (inl (low-one size low high e)),
        record { from = omega arith; to = omega arith; least = omega arith; most = omega arith },
      ))
      (λ e.
      let less = digit-less e in
      by_test (low % size == 0)
      (λ z. from-first e c above below (from-zero c z first))
      (λ z.
      ⊎_elim
      (λ later. from-first e c above below (from-next c z later))
      (λ same.
      let digit : c / size ≡ low / size = omega arith in
      let product : c / size * size ≡ low / size * size = ap (λ n. n * size) digit in (
        record { first = low / size; last = low / size; low = low % size; high = size - 1 },
        is-piece size low high _ (inl (low-part size low high e z)),
        record { from = omega arith; to = omega arith; least = omega arith; most = omega arith },
      ))
      (cases_lt (low / size) (c / size))))
    where
      from-zero : (c : ℕ) → (low % size == 0) ≡ true → low / size ≤ c / size → whole_from size low ≤ c / size
      from-zero c z le = subst (λ b. (if b then low / size else low / size + 1) ≤ c / size) (sym z) le

      from-next : (c : ℕ) → (low % size == 0) ≡ false → low / size < c / size → whole_from size low ≤ c / size
      from-next c z lt = subst (λ b. (if b then low / size else low / size + 1) ≤ c / size) (sym z) (omega arith)

      -- its first digit is one of which all numbers are there, or the last
      from-first : (low / size == high / size) ≡ false → (c : ℕ) → low ≤ c → c ≤ high → whole_from size low ≤ c / size
          → (p : Piece) × Contains (pieces_of size low high) p × IsIn p (c / size) (c % size)
      from-first e c above below from =
          let last = div-le size c high some below in
          by_test (high % size + 1 == size)
          (λ z. middle e c from (to-full z last))
          (λ z.
          ⊎_elim
          (λ before. middle e c from (to-part z before))
          (λ same.
          let digit : c / size ≡ high / size = omega arith in
          let product : c / size * size ≡ high / size * size = ap (λ n. n * size) digit in (
            record { first = high / size; last = high / size; low = 0; high = high % size },
            is-piece size low high _ (inr (inr (high-part size low high e z))),
            record { from = omega arith; to = omega arith; least = omega arith; most = omega arith },
          ))
          (cases_lt (c / size) (high / size)))
        where
          to-full : (high % size + 1 == size) ≡ true → c / size ≤ high / size → c / size < whole_to size high
          to-full z le = subst (λ b. c / size < (if b then high / size + 1 else high / size)) (sym z) (omega arith)

          to-part : (high % size + 1 == size) ≡ false → c / size < high / size → c / size < whole_to size high
          to-part z lt = subst (λ b. c / size < (if b then high / size + 1 else high / size)) (sym z) lt

          middle : (low / size == high / size) ≡ false → (c : ℕ) → whole_from size low ≤ c / size → c / size < whole_to size high
              → (p : Piece) × Contains (pieces_of size low high) p × IsIn p (c / size) (c % size)
          middle e c from to =
              let order : nat_le (whole_to size high) (whole_from size low) ≡ false = lt-leb (whole_to size high) (whole_from size low) (omega arith) in (
                record { first = whole_from size low; last = whole_to size high - 1; low = 0; high = size - 1 },
                is-piece size low high _ (inr (inl (middle-some size low high e order))),
                record { from = from; to = omega arith; least = omega arith; most = omega arith },
              )

-- a number by its first digit and its rest
module _ (size q r : ℕ) (small : r < size) where
  pub digit-of : (q * size + r) / size ≡ q
  digit-of =
      let n : ℕ = q * size + r in
      let d : ℕ = (q * size + r) / size in
      ⊎_elim
      (λ lt. let more : suc ((q * size + r) / size) * size ≤ q * size = mul-le-mul_right size lt in absurd (omega arith))
      (λ ge.
      ⊎_elim
      (λ lt. let more : suc q * size ≤ (q * size + r) / size * size = mul-le-mul_right size lt in absurd (omega arith))
      (λ le. omega arith)
      (cases_lt q ((q * size + r) / size)))
      (cases_lt ((q * size + r) / size) q)

  pub rest-of : (q * size + r) % size ≡ r
  rest-of = let product : size * ((q * size + r) / size) ≡ size * q = ap (λ n. size * n) digit-of in omega arith

-- Pieces fit.

-- what stands before the rest, and the rest, are in order, and the rest is one
record Fits (size high : ℕ) (p : Piece) : Type 0 where
  digits : p.first ≤ p.last
  top : p.last ≤ high / size
  ordered : p.low ≤ p.high
  small : p.high < size

module _ (size low high : ℕ) (some : 0 < size) (rise : low ≤ high) where
  low-fits : IfSome (low_piece size low high) (Fits size high)
  low-fits =
      let digits-rise = div-le size low high some rise in
      by_test (low / size == high / size)
      (λ e.
      let same = eqb-true (low / size) (high / size) e in
      let product = ap (λ q. size * q) same in
      subst (λ o. IfSome o (Fits size high)) (sym (low-one size low high e)) (record {
        digits = omega arith;
        top = omega arith;
        ordered = omega arith;
        small = omega arith;
      }))
      (λ e.
      by_test (low % size == 0)
      (λ z. subst (λ o. IfSome o (Fits size high)) (sym (low-whole size low high e z)) tt)
      (λ z. subst (λ o. IfSome o (Fits size high)) (sym (low-part size low high e z))
      (record { digits = omega arith; top = omega arith; ordered = omega arith; small = omega arith })))

  middle-fits : IfSome (middle_piece size low high) (Fits size high)
  middle-fits =
      let most = whole_to-most size high in
      by_test (low / size == high / size)
      (λ e. subst (λ o. IfSome o (Fits size high)) (sym (middle-one size low high e)) tt)
      (λ e.
      by_test (nat_le (whole_to size high) (whole_from size low))
      (λ z. subst (λ o. IfSome o (Fits size high)) (sym (middle-none size low high e z)) tt)
      (λ z.
      let less : whole_from size low < whole_to size high = grind (arith, nat_tests) in
      subst (λ o. IfSome o (Fits size high)) (sym (middle-some size low high e z))
      (record { digits = omega arith; top = omega arith; ordered = omega arith; small = omega arith })))

  high-fits : IfSome (high_piece size low high) (Fits size high)
  high-fits =
      by_test (low / size == high / size)
      (λ e. subst (λ o. IfSome o (Fits size high)) (sym (high-one size low high e)) tt)
      (λ e.
      by_test (high % size + 1 == size)
      (λ z. subst (λ o. IfSome o (Fits size high)) (sym (high-whole size low high e z)) tt)
      (λ z. subst (λ o. IfSome o (Fits size high)) (sym (high-part size low high e z))
      (record { digits = omega arith; top = omega arith; ordered = omega arith; small = omega arith })))

  fits-of : (p : Piece) → Contains (pieces_of size low high) p → Fits size high p
  fits-of p m =
      ⊎_elim
      (λ l. subst (λ o. IfSome o (Fits size high)) l low-fits)
      (λ more. ⊎_elim (λ x. subst (λ o. IfSome o (Fits size high)) x middle-fits) (λ x. subst (λ o. IfSome o (Fits size high)) x high-fits) more)
      (piece-is size low high p m)

-- a piece of a range that fits
pub piece-fits : (lead depth : ℕ) (r : ℕ × ℕ) (p : Piece) → 0 < depth → FitsDigits lead depth r → Contains (pieces_of 64 r.0 r.1) p → IsPiece lead depth p
piece-fits lead depth r p some fits m =
    let is = fits-of 64 r.0 r.1 (omega arith) fits.ordered p m in
    let small = is.small in
    let pos = size_of_block-pos (depth - 1) in
    let less = div-le (size_of_block (depth - 1)) p.last (r.1 / 64) pos is.top in
    let block : size_of_block depth ≡ 64 * size_of_block (depth - 1) = size_of_block-suc depth some in
    let digit : r.1 / 64 / size_of_block (depth - 1) ≡ r.1 / size_of_block depth =
    div-div-eq-div-mul r.1 64 (size_of_block (depth - 1)) ∙ ap (λ n. r.1 / n) (sym block) in
    let bytes = fits.bytes in
    record { rest = record { ordered = is.digits; bytes = omega arith }; last = record { ordered = is.ordered; small = omega arith } }

-- the rest of a piece is less than the size
pub rest-small : (size low high : ℕ) (p : Piece) → 0 < size → low ≤ high → Contains (pieces_of size low high) p → p.high < size
rest-small size low high p some rise m = let is = fits-of size low high some rise p m in is.small
