-- What several calls of a source or a sink do together.
use Rattle.std.proofs.Common.{◌≡◌, ℕ, suc, ◌+◌, ◌-◌, ◌<◌, ◌≤◌, List, [], ◌++◌, length, take, drop, get_or, Option, Some, None, sym, ap, ◌∙◌, subst, inl, inr, append_assoc, append-nil, length-append, arith, drop-cons}
use Rattle.std.specs.List.{flat_map}
use Rattle.std.proofs.Math.Seq.{take-add, take-take, take-append_seam, take-append-add}
use Rattle.std.proofs.lemmas.List.{take-append-le, drop_all}
use Rattle.std.proofs.KnownBytes.{Consumes-nil, Consumes-trans}
use Rattle.std.specs.Io.KnownBytes.{Consumes}
use Rattle.rx_scan.specs.Ends.{HasRisen, Gains, GainsPrefix, CountsCall, CountsAtMost}

-- a count that rose later rose since
pub HasRisen-since : (a b c : ℕ) → a ≤ b → HasRisen b c → HasRisen a c
HasRisen-since a b c le (inl lt) = inl (omega arith)
HasRisen-since a b c le (inr end) = inr end

pub Gains-nil : (a : Option (List ℕ)) → Gains a a []
Gains-nil None = tt
Gains-nil (Some had) = sym (append-nil had)

pub Gains-trans : (a b c : Option (List ℕ)) (xs ys : List ℕ) → Gains a b xs → Gains b c ys → Gains a c (xs ++ ys)
Gains-trans a b None xs ys p q = tt
Gains-trans a None (Some z) xs ys p q = absurd q
Gains-trans None (Some y) (Some z) xs ys p q = absurd p
Gains-trans (Some x) (Some y) (Some z) xs ys p q = q ∙ ap (λ l. l ++ ys) p ∙ append_assoc x xs ys

-- n bytes more of the text, from the piece that is left of it
pub Gains-more : (a b c : Option (List ℕ)) (text : List ℕ) (done n : ℕ) → n ≤ length text - done → Gains a b (take done text)
    → Gains b c (take n (take (length text - done) (drop done text))) → Gains a c (take (done + n) text)
Gains-more a b c text done n fits p q =
    let whole = ap (λ l. take done text ++ l) (take-take n (length text - done) (drop done text) fits) ∙ sym (take-add done n text) in
    subst (Gains a c) whole (Gains-trans a b c (take done text) _ p q)

-- what broke off in one part of a text broke off in the text
pub GainsPrefix-after : (a b c : Option (List ℕ)) (xs ys zs text : List ℕ) → Gains a b xs → GainsPrefix b c ys → xs ++ (ys ++ zs) ≡ text
    → GainsPrefix a c text
GainsPrefix-after a b c xs ys zs text p q whole =
    let n = q.0 in
    let front : take (length xs + n) text ≡ xs ++ take n ys =
    ap (take (length xs + n)) (sym whole) ∙ take-append-add xs (ys ++ zs) n ∙ ap (λ l. xs ++ l) (take-append-le n ys zs (omega (arith, q.1))) in (
      length xs + n,
      omega (arith, q.1, ap length whole, length-append xs (ys ++ zs), length-append ys zs),
      subst (Gains a c) (sym front) (Gains-trans a b c xs (take n ys) p q.2),
    )

-- A text in pieces: what was written, what was gathered behind it, and the pieces that are left, of which this is the first.
module _ {V : Type 0} (items : V → List ℕ) (vs : List V) (i : ℕ) (v : V) (below : i < length vs) (is : v ≡ get_or vs i v) (written old : List ℕ)
    (told : written ++ old ++ flat_map items (drop i vs) ≡ flat_map items vs) where
  pieces-first : written ++ old ++ (items v ++ flat_map items (drop (i + 1) vs)) ≡ flat_map items vs
  pieces-first =
      let next : suc i ≡ i + 1 = omega arith in
      let parts : flat_map items (drop i vs) ≡ items v ++ flat_map items (drop (i + 1) vs) =
      ap (flat_map items) (drop-cons vs i v below) ∙ ap (λ w. items w ++ flat_map items (drop (suc i) vs)) (sym is)
      ∙ ap (λ k. items v ++ flat_map items (drop k vs)) next in
      ap (λ l. written ++ old ++ l) (sym parts) ∙ told

  -- some of what was gathered, and of it, is written
  pub pieces-step : (more new : List ℕ) → more ++ new ≡ old ++ items v → written ++ more ++ new ++ flat_map items (drop (i + 1) vs) ≡ flat_map items vs
  pieces-step more new same =
      let rest = flat_map items (drop (i + 1) vs) in
      ap (λ l. l ++ rest) (append_assoc written more new) ∙ ap (λ l. written ++ l ++ rest) same
      ∙ ap (λ l. l ++ rest) (sym (append_assoc written old (items v))) ∙ append_assoc (written ++ old) (items v) rest ∙ pieces-first

  pub pieces-front : written ++ (old ++ items v ++ flat_map items (drop (i + 1) vs)) ≡ flat_map items vs
  pieces-front =
      let rest = flat_map items (drop (i + 1) vs) in
      ap (λ l. written ++ l) (append_assoc old (items v) rest) ∙ sym (append_assoc written old (items v ++ rest)) ∙ pieces-first

-- no piece is left
pub pieces-over : {V : Type 0} (items : V → List ℕ) (vs : List V) (i : ℕ) (written old : List ℕ) → length vs ≤ i
    → written ++ old ++ flat_map items (drop i vs) ≡ flat_map items vs → written ++ old ≡ flat_map items vs
pieces-over items vs i written old over told =
    sym (append-nil (written ++ old)) ∙ ap (λ l. written ++ old ++ flat_map items l) (sym (drop_all i vs over)) ∙ told

-- nothing was given
pub Consumes-none : (a : Option (List ℕ)) (xs : List ℕ) → xs ≡ [] → Consumes a a xs
Consumes-none a xs e = subst (Consumes a a) (sym e) (Consumes-nil a)

-- one read after the others
pub Consumes-more : (a b c : Option (List ℕ)) (xs ys zs : List ℕ) → Consumes a b xs → Consumes b c ys → zs ≡ xs ++ ys → Consumes a c zs
Consumes-more a b c xs ys zs p q e = subst (Consumes a c) (sym e) (Consumes-trans a b c xs ys p q)

-- a read that gave nothing
pub Consumes-same : (a b c : Option (List ℕ)) (xs ys : List ℕ) → Consumes a b xs → Consumes b c ys → ys ≡ [] → Consumes a c xs
Consumes-same a b c xs ys p q e = Consumes-more a b c xs ys xs p q (sym (ap (λ l. xs ++ l) e ∙ append-nil xs))

-- what was lent as a whole comes back as a whole
pub take-front : (n : ℕ) (xs ys : List ℕ) → length xs ≡ n → take n (xs ++ ys) ≡ xs
take-front n xs ys e = ap (λ k. take k (xs ++ ys)) (sym e) ∙ take-append_seam xs ys

pub CountsAtMost-none : (a : Option ℕ) (most : ℕ) → CountsAtMost a a most
CountsAtMost-none None most = tt
CountsAtMost-none (Some n) most = omega arith

pub CountsAtMost-more : (a b c : Option ℕ) (n m : ℕ) → CountsAtMost a b n → CountsCall b c → n + 1 ≤ m → CountsAtMost a c m
CountsAtMost-more a b None n m p q le = tt
CountsAtMost-more a None (Some z) n m p q le = absurd q
CountsAtMost-more None (Some y) (Some z) n m p q le = absurd p
CountsAtMost-more (Some x) (Some y) (Some z) n m p q le = omega (arith, p, q, le)
