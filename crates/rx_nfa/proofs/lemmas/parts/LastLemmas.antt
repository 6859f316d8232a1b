-- The ranges of last digits among pieces, and what stands before them.
use Rattle.std.proofs.Common.{◌≡◌, ℕ, zero, suc, ◌+◌, ◌-◌, ◌/◌, ◌<◌, ◌≤◌, ◌⊎◌, List, [], ◌∷◌, ◌++◌, refl, sym, ◌∙◌, ap, subst, inl, inr, ⊎_elim, arith, length, get_or, drop, drop-cons, append_assoc, true≢false}
use Rattle.std.specs.Prelude.{Bool, true, false, ◌&&◌, ◌||◌, not, Option, All, Contains, if◌then◌else◌, ◌==◌, nat_le}
use Rattle.std.specs.List.{list_any}
use Rattle.std.proofs.lemmas.Bool.{and_parts, or_parts, eqb-true, eq-eqb, le-leb, leb-true}
use Rattle.std.proofs.lemmas.List.{drop_all}
use Rattle.std.proofs.lemmas.List.Elements.{All-weaker, All-contains, All-contains_itself}
use Rattle.rx_model.proofs.lemmas.runs.RunLemmas.{by_test}
use Rattle.rx_model.proofs.lemmas.runs.MemberLemmas.{first-among, later-among, none-among, split-among, either-among, front-among, back-among}
use Rattle.rx_nfa.specs.Directed.{low_piece, middle_piece, high_piece, some_list, pieces_of, pieces_of_range, pieces_in, last_of, before_of, is_range, lasts_from, lasts_of, before_last}
use Rattle.rx_nfa.specs.Digits.{FitsDigits, IsDigits, IsPiece}
use Rattle.rx_nfa.specs.Ranges.{RisesFrom, StaysBelow, size_of_block}
use Rattle.rx_nfa.specs.declared.backwards.Piece.{Piece}
use Rattle.rx_nfa.proofs.lemmas.classes.RangesLemmas.{size_of_block-pos}
use Rattle.rx_nfa.proofs.lemmas.parts.PieceLemmas.{div-le, piece-fits}

-- Equal ranges.

pub range-same : (r s : ℕ × ℕ) → is_range r s ≡ true → r ≡ s
range-same r s e =
    let both = and_parts (r.0 == s.0) (r.1 == s.1) e in
    let first = eqb-true r.0 s.0 both.0 in
    let last = eqb-true r.1 s.1 both.1 in
    λ i. (first i, last i)

pub range-itself : (r : ℕ × ℕ) → is_range r r ≡ true
range-itself r = λ i. eq-eqb r.0 r.0 refl i && eq-eqb r.1 r.1 refl i

range-turned : (r s : ℕ × ℕ) → is_range r s ≡ false → is_range s r ≡ false
range-turned r s e =
    by_test (is_range s r)
    (λ same. absurd (true≢false (sym (ap (λ x. is_range x s) (sym (range-same s r same)) ∙ range-itself s) ∙ e)))
    (λ other. other)

any-among : (r : ℕ × ℕ) (rs : List (ℕ × ℕ)) → list_any (is_range r) rs ≡ true → Contains rs r
any-among r [] e = absurd (true≢false (sym e))
any-among r (x ∷ rs) e =
    by_test (is_range r x)
    (λ here. subst (λ y. Contains (x ∷ rs) y) (sym (range-same r x here)) (first-among x rs))
    (λ other. later-among x r rs (any-among r rs (subst (λ b. (b || list_any (is_range r) rs) ≡ true) other e)))

-- The ranges of last digits that are found: each of them once.

abbrev pub Distinct : List (ℕ × ℕ) → Type 0
Distinct [] = Unit {0}
Distinct (r ∷ rs) = (list_any (is_range r) rs ≡ false) × Distinct rs

none-more : (r x : ℕ × ℕ) (rs : List (ℕ × ℕ)) → list_any (is_range r) rs ≡ false → is_range r x ≡ false → list_any (is_range r) (rs ++ x ∷ []) ≡ false
none-more r x [] none other = ap (λ b. b || false) other
none-more r x (y ∷ rs) none other =
    let both = or_parts (is_range r y) (list_any (is_range r) rs) none in
    λ i. both.0 i || none-more r x rs both.1 other i

distinct-more : (rs : List (ℕ × ℕ)) (x : ℕ × ℕ) → Distinct rs → list_any (is_range x) rs ≡ false → Distinct (rs ++ x ∷ [])
distinct-more [] x d none = (refl, tt)
distinct-more (r ∷ rs) x d none =
    let both = or_parts (is_range x r) (list_any (is_range x) rs) none in
    (none-more r x rs d.0 (range-turned x r both.0), distinct-more rs x d.1 both.1)

-- one piece more
lasts-known : (found : List (ℕ × ℕ)) (p : Piece) (ps : List Piece) → list_any (is_range (last_of p)) found ≡ true
    → lasts_from found (p ∷ ps) ≡ lasts_from found ps
unfolding lasts_from
lasts-known found p ps e = ap (λ b. lasts_from (if b then found else found ++ last_of p ∷ []) ps) e

lasts-new : (found : List (ℕ × ℕ)) (p : Piece) (ps : List Piece) → list_any (is_range (last_of p)) found ≡ false
    → lasts_from found (p ∷ ps) ≡ lasts_from (found ++ last_of p ∷ []) ps
unfolding lasts_from
lasts-new found p ps e = ap (λ b. lasts_from (if b then found else found ++ last_of p ∷ []) ps) e

lasts-none : (found : List (ℕ × ℕ)) → lasts_from found [] ≡ found
unfolding lasts_from
lasts-none found = refl

pub lasts-distinct : (found : List (ℕ × ℕ)) (ps : List Piece) → Distinct found → Distinct (lasts_from found ps)
lasts-distinct found [] d = subst Distinct (sym (lasts-none found)) d
lasts-distinct found (p ∷ ps) d =
    by_test (list_any (is_range (last_of p)) found)
    (λ e. subst Distinct (sym (lasts-known found p ps e)) (lasts-distinct found ps d))
    (λ e. subst Distinct (sym (lasts-new found p ps e)) (lasts-distinct (found ++ last_of p ∷ []) ps (distinct-more found (last_of p) d e)))

lasts-kept : (found : List (ℕ × ℕ)) (ps : List Piece) (r : ℕ × ℕ) → Contains found r → Contains (lasts_from found ps) r
lasts-kept found [] r m = subst (λ rs. Contains rs r) (sym (lasts-none found)) m
lasts-kept found (p ∷ ps) r m =
    by_test (list_any (is_range (last_of p)) found)
    (λ e. subst (λ rs. Contains rs r) (sym (lasts-known found p ps e)) (lasts-kept found ps r m))
    (λ e. subst (λ rs. Contains rs r) (sym (lasts-new found p ps e)) (lasts-kept (found ++ last_of p ∷ []) ps r (front-among found (last_of p ∷ []) r m)))

-- each piece's last digits are there
lasts-have : (found : List (ℕ × ℕ)) (ps : List Piece) (p : Piece) → Contains ps p → Contains (lasts_from found ps) (last_of p)
lasts-have found [] p m = absurd (none-among p m)
lasts-have found (q ∷ ps) p m =
    by_test (list_any (is_range (last_of q)) found)
    (λ e.
    subst (λ rs. Contains rs (last_of p)) (sym (lasts-known found q ps e))
    (⊎_elim (λ same. subst (λ (x : Piece). Contains (lasts_from found ps) (last_of x)) same (lasts-kept found ps (last_of q) (any-among (last_of q) found e)))
    (λ more. lasts-have found ps p more) (split-among q p ps m)))
    (λ e.
    subst (λ rs. Contains rs (last_of p)) (sym (lasts-new found q ps e))
    (⊎_elim
    (λ same. subst (λ (x : Piece). Contains (lasts_from (found ++ last_of q ∷ []) ps) (last_of x)) same
    (lasts-kept (found ++ last_of q ∷ []) ps (last_of q) (back-among found (last_of q ∷ []) (last_of q) (first-among (last_of q) []))))
    (λ more. lasts-have (found ++ last_of q ∷ []) ps p more) (split-among q p ps m)))

-- the last digits of a piece
pub record OfPiece (ps : List Piece) (last : ℕ × ℕ) : Type 0 where
  pub piece : Piece
  pub inside : Contains ps piece
  pub is : last_of piece ≡ last

lasts-are : (found : List (ℕ × ℕ)) (ps : List Piece) (r : ℕ × ℕ) → Contains (lasts_from found ps) r → Contains found r ⊎ OfPiece ps r
lasts-are found [] r m = inl (subst (λ rs. Contains rs r) (lasts-none found) m)
lasts-are found (p ∷ ps) r m =
    by_test (list_any (is_range (last_of p)) found)
    (λ e. later found (λ old. inl old) (lasts-are found ps r (subst (λ rs. Contains rs r) (lasts-known found p ps e) m)))
    (λ e.
    later (found ++ last_of p ∷ [])
    (λ old. ⊎_elim (λ x. inl x) (λ new. inr (record { piece = p; inside = first-among p ps; is = only new })) (either-among found (last_of p ∷ []) r old))
    (lasts-are (found ++ last_of p ∷ []) ps r (subst (λ rs. Contains rs r) (lasts-new found p ps e) m)))
  where
    only : Contains (last_of p ∷ []) r → last_of p ≡ r
    only new = ⊎_elim (λ e. e) (λ none. absurd (none-among r none)) (split-among (last_of p) r [] new)

    later : (rs : List (ℕ × ℕ)) → (Contains rs r → Contains found r ⊎ OfPiece (p ∷ ps) r) → Contains rs r ⊎ OfPiece ps r
        → Contains found r ⊎ OfPiece (p ∷ ps) r
    later rs known h = ⊎_elim known (λ x. inr (record { piece = x.piece; inside = later-among p x.piece ps x.inside; is = x.is })) h

pub last-of-piece : (ps : List Piece) (r : ℕ × ℕ) → Contains (lasts_of ps) r → OfPiece ps r
last-of-piece ps r m = ⊎_elim (λ none. absurd (none-among r none)) (λ x. x) (lasts-are [] ps r m)

pub piece-of-last : (ps : List Piece) (p : Piece) → Contains ps p → Contains (lasts_of ps) (last_of p)
piece-of-last ps p m = lasts-have [] ps p m

-- What stands before last digits.

pub before-none : (last : ℕ × ℕ) → before_last last [] ≡ []
unfolding before_last
before-none last = refl

pub before-here : (last : ℕ × ℕ) (p : Piece) (ps : List Piece) → is_range last (last_of p) ≡ true
    → before_last last (p ∷ ps) ≡ before_of p ∷ before_last last ps
unfolding before_last
before-here last p ps e = rw e refl

pub before-other : (last : ℕ × ℕ) (p : Piece) (ps : List Piece) → is_range last (last_of p) ≡ false → before_last last (p ∷ ps) ≡ before_last last ps
unfolding before_last
before-other last p ps e = rw e refl

-- it stands before these last digits in a piece
pub record BeforeIn (ps : List Piece) (last r : ℕ × ℕ) : Type 0 where
  pub piece : Piece
  pub inside : Contains ps piece
  pub last_is : last ≡ last_of piece
  pub is : before_of piece ≡ r

pub before-of-piece : (last : ℕ × ℕ) (ps : List Piece) (r : ℕ × ℕ) → Contains (before_last last ps) r → BeforeIn ps last r
before-of-piece last [] r m = absurd (none-among r (subst (λ rs. Contains rs r) (before-none last) m))
before-of-piece last (p ∷ ps) r m =
    by_test (is_range last (last_of p))
    (λ e.
    ⊎_elim (λ here. record { piece = p; inside = first-among p ps; last_is = range-same last (last_of p) e; is = here })
    (λ more. later (before-of-piece last ps r more))
    (split-among (before_of p) r (before_last last ps) (subst (λ rs. Contains rs r) (before-here last p ps e) m)))
    (λ e. later (before-of-piece last ps r (subst (λ rs. Contains rs r) (before-other last p ps e) m)))
  where
    later : BeforeIn ps last r → BeforeIn (p ∷ ps) last r
    later x = record { piece = x.piece; inside = later-among p x.piece ps x.inside; last_is = x.last_is; is = x.is }

pub piece-before : (ps : List Piece) (p : Piece) → Contains ps p → Contains (before_last (last_of p) ps) (before_of p)
piece-before [] p m = absurd (none-among p m)
piece-before (q ∷ ps) p m =
    ⊎_elim
    (λ same.
    subst (λ (x : Piece). Contains (before_last (last_of x) (q ∷ ps)) (before_of x)) same
    (subst (λ rs. Contains rs (before_of q)) (sym (before-here (last_of q) q ps (range-itself (last_of q))))
    (first-among (before_of q) (before_last (last_of q) ps))))
    (λ more.
    by_test (is_range (last_of p) (last_of q))
    (λ e. subst (λ rs. Contains rs (before_of p)) (sym (before-here (last_of p) q ps e))
    (later-among (before_of q) (before_of p) (before_last (last_of p) ps) (piece-before ps p more)))
    (λ e. subst (λ rs. Contains rs (before_of p)) (sym (before-other (last_of p) q ps e)) (piece-before ps p more)))
    (split-among q p ps m)

-- something stands before last digits that are there
pub before-some : (ps : List Piece) (r : ℕ × ℕ) → Contains (lasts_of ps) r → 0 < length (before_last r ps)
before-some ps r m =
    let x = last-of-piece ps r m in
    let inside = subst (λ y. Contains (before_last y ps) (before_of x.piece)) x.is (piece-before ps x.piece x.inside) in
    let lt = inside.1 in
    omega arith

-- The pieces of ranges.

pub pieces-some : (r : ℕ × ℕ) → r.0 ≤ r.1 → pieces_of_range r ≡ pieces_of 64 r.0 r.1
pieces-some r le = let e = le-leb r.0 r.1 le in rw e refl

pub pieces-none : (r : ℕ × ℕ) → nat_le r.0 r.1 ≡ false → pieces_of_range r ≡ []
pieces-none r e = rw e refl

pub record InRange (rs : List (ℕ × ℕ)) (p : Piece) : Type 0 where
  pub range : ℕ × ℕ
  pub inside : Contains rs range
  pub ordered : range.0 ≤ range.1
  pub is : Contains (pieces_of 64 range.0 range.1) p

pub piece-in : (rs : List (ℕ × ℕ)) (p : Piece) → Contains (pieces_in rs) p → InRange rs p
piece-in [] p m = absurd (none-among p m)
piece-in (r ∷ rs) p m =
    ⊎_elim
    (λ here.
    by_test (nat_le r.0 r.1)
    (λ e.
    let le = leb-true r.0 r.1 e in
    record { range = r; inside = first-among r rs; ordered = le; is = subst (λ ps. Contains ps p) (pieces-some r le) here })
    (λ e. absurd (none-among p (subst (λ ps. Contains ps p) (pieces-none r e) here))))
    (λ more.
    let x = piece-in rs p more in
    record { range = x.range; inside = later-among r x.range rs x.inside; ordered = x.ordered; is = x.is })
    (either-among (pieces_of_range r) (pieces_in rs) p m)

pub in-pieces : (rs : List (ℕ × ℕ)) (r : ℕ × ℕ) (p : Piece) → Contains rs r → r.0 ≤ r.1 → Contains (pieces_of 64 r.0 r.1) p → Contains (pieces_in rs) p
in-pieces [] r p m le h = absurd (none-among r m)
in-pieces (x ∷ rs) r p m le h =
    ⊎_elim
    (λ same.
    front-among (pieces_of_range x) (pieces_in rs) p
    (subst (λ (y : ℕ × ℕ). Contains (pieces_of_range y) p) (sym same) (subst (λ ps. Contains ps p) (sym (pieces-some r le)) h)))
    (λ more. back-among (pieces_of_range x) (pieces_in rs) p (in-pieces rs r p more le h))
    (split-among x r rs m)

-- What fits.

pub pieces-fit : (lead depth : ℕ) (rs : List (ℕ × ℕ)) → 0 < depth → All (FitsDigits lead depth) rs → All (IsPiece lead depth) (pieces_in rs)
pieces-fit lead depth rs some all =
    All-weaker (Contains (pieces_in rs)) (IsPiece lead depth)
    (λ p m. let x = piece-in rs p m in piece-fits lead depth x.range p some (All-contains (FitsDigits lead depth) rs x.range all x.inside) x.is)
    (pieces_in rs) (All-contains_itself (pieces_in rs))

pub lasts-fit : (lead depth : ℕ) (ps : List Piece) → All (IsPiece lead depth) ps → All IsDigits (lasts_of ps)
lasts-fit lead depth ps all =
    All-weaker (Contains (lasts_of ps)) IsDigits
    (λ r m. let x = last-of-piece ps r m in let is = All-contains (IsPiece lead depth) ps x.piece all x.inside in subst IsDigits x.is is.last)
    (lasts_of ps) (All-contains_itself (lasts_of ps))

pub before-fits : (lead depth : ℕ) (last : ℕ × ℕ) (ps : List Piece) → All (IsPiece lead depth) ps → All (FitsDigits lead (depth - 1)) (before_last last ps)
before-fits lead depth last ps all =
    All-weaker (Contains (before_last last ps)) (FitsDigits lead (depth - 1))
    (λ r m. let x = before-of-piece last ps r m in let is = All-contains (IsPiece lead depth) ps x.piece all x.inside in
    subst (FitsDigits lead (depth - 1)) x.is is.rest)
    (before_last last ps) (All-contains_itself (before_last last ps))

-- ranges within a band
pub ranges-fit : (lead depth high low : ℕ) (rs : List (ℕ × ℕ)) → lead + high / size_of_block depth ≤ 255 → RisesFrom low rs → StaysBelow high rs
    → All (FitsDigits lead depth) rs
ranges-fit lead depth high low [] bytes rises below k d lt = absurd (omega arith)
ranges-fit lead depth high low (r ∷ rs) bytes rises below zero d lt =
    let less = div-le (size_of_block depth) r.1 high (size_of_block-pos depth) below.0 in
    record { ordered = rises.1; bytes = omega arith }
ranges-fit lead depth high low (r ∷ rs) bytes rises below (suc k) d lt = ranges-fit lead depth high (r.1 + 1) rs bytes rises.2 below.1 k d (omega arith)

-- One piece more, at a place of a list.

pub lasts-more : (found more : List (ℕ × ℕ)) (ps : List Piece) (k : ℕ) (p d : Piece) (known : Bool) → k < length ps → p ≡ get_or ps k d
    → known ≡ list_any (is_range (last_of p)) found → more ≡ (if not known then found ++ last_of p ∷ [] else found)
    → lasts_from found (drop k ps) ≡ lasts_of ps → lasts_from more (drop (k + 1) ps) ≡ lasts_of ps
lasts-more found more ps k p d known lt is known_is more_is before =
    let next : suc k ≡ k + 1 = omega arith in
    let first : drop k ps ≡ p ∷ drop (k + 1) ps = drop-cons ps k d lt ∙ (λ i. sym is i ∷ drop (next i) ps) in
    by_test (list_any (is_range (last_of p)) found)
    (λ e.
    let same : more ≡ found = more_is ∙ ap (λ b. if not b then found ++ last_of p ∷ [] else found) (known_is ∙ e) in
    ap (λ rs. lasts_from rs (drop (k + 1) ps)) same ∙ sym (lasts-known found p (drop (k + 1) ps) e) ∙ ap (lasts_from found) (sym first) ∙ before)
    (λ e.
    let grown : more ≡ found ++ last_of p ∷ [] = more_is ∙ ap (λ b. if not b then found ++ last_of p ∷ [] else found) (known_is ∙ e) in
    ap (λ rs. lasts_from rs (drop (k + 1) ps)) grown ∙ sym (lasts-new found p (drop (k + 1) ps) e) ∙ ap (lasts_from found) (sym first) ∙ before)

pub lasts-past : (found : List (ℕ × ℕ)) (ps : List Piece) (k : ℕ) → length ps ≤ k → lasts_from found (drop k ps) ≡ found
lasts-past found ps k past = ap (lasts_from found) (drop_all k ps past) ∙ lasts-none found

pub before-more : (last : ℕ × ℕ) (ps : List Piece) (k : ℕ) (p d : Piece) (xs ys : List (ℕ × ℕ)) (behind : Bool) → k < length ps → p ≡ get_or ps k d
    → behind ≡ is_range last (last_of p) → ys ≡ (if behind then xs ++ before_of p ∷ [] else xs)
    → xs ++ before_last last (drop k ps) ≡ before_last last ps → ys ++ before_last last (drop (k + 1) ps) ≡ before_last last ps
before-more last ps k p d xs ys behind lt is behind_is ys_is before =
    let next : suc k ≡ k + 1 = omega arith in
    let first : drop k ps ≡ p ∷ drop (k + 1) ps = drop-cons ps k d lt ∙ (λ i. sym is i ∷ drop (next i) ps) in
    let rest = before_last last (drop (k + 1) ps) in
    by_test (is_range last (last_of p))
    (λ e.
    let grown : ys ≡ xs ++ before_of p ∷ [] = ys_is ∙ ap (λ b. if b then xs ++ before_of p ∷ [] else xs) (behind_is ∙ e) in
    ap (λ rs. rs ++ rest) grown ∙ append_assoc xs (before_of p ∷ []) rest
    ∙ ap (λ rs. xs ++ rs) (sym (ap (before_last last) first ∙ before-here last p (drop (k + 1) ps) e)) ∙ before)
    (λ e.
    let same : ys ≡ xs = ys_is ∙ ap (λ b. if b then xs ++ before_of p ∷ [] else xs) (behind_is ∙ e) in
    ap (λ rs. rs ++ rest) same ∙ ap (λ rs. xs ++ rs) (sym (ap (before_last last) first ∙ before-other last p (drop (k + 1) ps) e)) ∙ before)

pub before-past : (last : ℕ × ℕ) (ps : List Piece) (k : ℕ) → length ps ≤ k → before_last last (drop k ps) ≡ []
before-past last ps k past = ap (before_last last) (drop_all k ps past) ∙ before-none last

pub pieces-at : (rs : List (ℕ × ℕ)) (k : ℕ) → k < length rs → (get_or rs k (0, 0)).0 ≤ (get_or rs k (0, 0)).1
    → pieces_in (drop k rs) ≡ pieces_of 64 (get_or rs k (0, 0)).0 (get_or rs k (0, 0)).1 ++ pieces_in (drop (k + 1) rs)
pieces-at rs k lt le =
    let more : suc k ≡ k + 1 = omega arith in
    ap pieces_in (drop-cons rs k (0, 0) lt) ∙ (λ i. pieces-some (get_or rs k (0, 0)) le i ++ pieces_in (drop (more i) rs))

-- the pieces of one range more
pub pieces-more : (rs : List (ℕ × ℕ)) (k : ℕ) (l m h : Option Piece) (xs a b ys : List Piece) → k < length rs
    → (get_or rs k (0, 0)).0 ≤ (get_or rs k (0, 0)).1 → l ≡ low_piece 64 (get_or rs k (0, 0)).0 (get_or rs k (0, 0)).1
    → m ≡ middle_piece 64 (get_or rs k (0, 0)).0 (get_or rs k (0, 0)).1 → h ≡ high_piece 64 (get_or rs k (0, 0)).0 (get_or rs k (0, 0)).1
    → a ≡ xs ++ some_list l → b ≡ a ++ some_list m → ys ≡ b ++ some_list h → xs ++ pieces_in (drop k rs) ≡ pieces_in rs
    → ys ++ pieces_in (drop (k + 1) rs) ≡ pieces_in rs
pieces-more rs k l m h xs a b ys lt le low middle high one two three before =
    let rest = pieces_in (drop (k + 1) rs) in
    let ls = some_list (low_piece 64 (get_or rs k (0, 0)).0 (get_or rs k (0, 0)).1) in
    let ms = some_list (middle_piece 64 (get_or rs k (0, 0)).0 (get_or rs k (0, 0)).1) in
    let hs = some_list (high_piece 64 (get_or rs k (0, 0)).0 (get_or rs k (0, 0)).1) in
    let a' : a ≡ xs ++ ls = one ∙ ap (λ o. xs ++ some_list o) low in
    let b' : b ≡ (xs ++ ls) ++ ms = two ∙ (λ i. a' i ++ some_list (middle i)) in
    let y' : ys ≡ ((xs ++ ls) ++ ms) ++ hs = three ∙ (λ i. b' i ++ some_list (high i)) in
    ap (λ zs. zs ++ rest) y' ∙ grouped xs ls ms hs rest ∙ ap (λ zs. xs ++ zs) (sym (pieces-at rs k lt le)) ∙ before
  where
    grouped : (xs ls ms hs rest : List Piece) → (((xs ++ ls) ++ ms) ++ hs) ++ rest ≡ xs ++ ((ls ++ (ms ++ hs)) ++ rest)
    grouped xs ls ms hs rest =
        append_assoc ((xs ++ ls) ++ ms) hs rest ∙ append_assoc (xs ++ ls) ms (hs ++ rest) ∙ append_assoc xs ls (ms ++ (hs ++ rest))
        ∙ ap (λ zs. xs ++ zs) (sym (append_assoc ls (ms ++ hs) rest ∙ ap (λ zs. ls ++ zs) (append_assoc ms hs rest)))

pub pieces-past : (rs : List (ℕ × ℕ)) (k : ℕ) → length rs ≤ k → pieces_in (drop k rs) ≡ []
pieces-past rs k past = ap pieces_in (drop_all k rs past)
