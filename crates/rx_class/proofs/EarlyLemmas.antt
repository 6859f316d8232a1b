-- Ranges that are merged while more are gathered.
use Rattle.std.proofs.Common.{◌≡◌, ℕ, Bool, true, false, List, [], ◌∷◌, ◌++◌, refl, ap, sym, ◌∙◌}
use Rattle.std.specs.Prelude.{◌||◌}
use Rattle.std.specs.Char.{IsScalar}
use Rattle.std.proofs.lemmas.List.Elements.{All-append, All-nil, All-cons}
use Rattle.std.proofs.lemmas.List.Folds.{list_any-append}
use Rattle.rx_model.specs.Text.{is_member}
use Rattle.rx_class.specs.Ranges.{next_scalar, next_byte, fewest, union, HaveScalarEnds, AreScalarRanges}
use Rattle.rx_class.proofs.RangeLemmas.{IsSuccessor, Ends, fewest-unique, fewest-fewest, fewest-ends, fewest-members}
use Rattle.rx_class.proofs.SuccessorLemmas.{scalars-succeed, bytes-succeed, IsAny, ends-any, ends-from-scalars, scalars-from-ends}

pub both-ends : (xs ys : List (ℕ × ℕ)) → HaveScalarEnds xs → HaveScalarEnds ys → HaveScalarEnds (xs ++ ys)
both-ends xs ys h k = All-append (λ (r : ℕ × ℕ). IsScalar r.0 × IsScalar r.1) xs ys h k

member-append : (xs ys : List (ℕ × ℕ)) (n : ℕ) → is_member (xs ++ ys) n ≡ (is_member xs n || is_member ys n)
member-append xs ys n = list_any-append _ xs ys

module _ (next : ℕ → ℕ) (Counts : ℕ → Type 0) (succ : IsSuccessor next Counts) where
  -- ranges with the same members among the numbers that count have the same fewest ranges
  pub fewest-alike : (xs ys : List (ℕ × ℕ)) → Ends Counts xs → Ends Counts ys → ((n : ℕ) → Counts n → is_member xs n ≡ is_member ys n)
      → fewest next xs ≡ fewest next ys
  fewest-alike xs ys ex ey same =
      fewest-unique next Counts succ (fewest next xs) (fewest next ys) (fewest-fewest next Counts succ xs) (fewest-fewest next Counts succ ys)
      (fewest-ends next Counts succ xs ex) (fewest-ends next Counts succ ys ey)
      (λ n counts. fewest-members next Counts succ xs ex n counts ∙ same n counts ∙ sym (fewest-members next Counts succ ys ey n counts))

  front-members : (xs ys : List (ℕ × ℕ)) → Ends Counts xs → (n : ℕ) → Counts n → is_member (fewest next xs ++ ys) n ≡ is_member (xs ++ ys) n
  front-members xs ys ex n counts =
      member-append (fewest next xs) ys n ∙ ap (λ b. b || is_member ys n) (fewest-members next Counts succ xs ex n counts) ∙ sym (member-append xs ys n)

-- Scalars.

pub union-ends : (xs ys : List (ℕ × ℕ)) → HaveScalarEnds xs → HaveScalarEnds ys → HaveScalarEnds (union next_scalar xs ys)
union-ends xs ys h k =
    scalars-from-ends (fewest next_scalar (xs ++ ys)) (fewest-ends next_scalar IsScalar scalars-succeed (xs ++ ys)
    (ends-from-scalars (xs ++ ys) (both-ends xs ys h k)))

pub fewest-has-ends : (xs : List (ℕ × ℕ)) → HaveScalarEnds xs → HaveScalarEnds (fewest next_scalar xs)
fewest-has-ends xs h = scalars-from-ends (fewest next_scalar xs) (fewest-ends next_scalar IsScalar scalars-succeed xs (ends-from-scalars xs h))

scalars-alike : (xs ys : List (ℕ × ℕ)) → HaveScalarEnds xs → HaveScalarEnds ys → ((n : ℕ) → IsScalar n → is_member xs n ≡ is_member ys n)
    → fewest next_scalar xs ≡ fewest next_scalar ys
scalars-alike xs ys h k same = fewest-alike next_scalar IsScalar scalars-succeed xs ys (ends-from-scalars xs h) (ends-from-scalars ys k) same

scalar-members : (xs : List (ℕ × ℕ)) → HaveScalarEnds xs → (n : ℕ) → IsScalar n → is_member (fewest next_scalar xs) n ≡ is_member xs n
scalar-members xs h n scalar = fewest-members next_scalar IsScalar scalars-succeed xs (ends-from-scalars xs h) n scalar

pub fewest-are : (xs : List (ℕ × ℕ)) → HaveScalarEnds xs → AreScalarRanges (fewest next_scalar xs)
fewest-are xs h = (fewest-fewest next_scalar IsScalar scalars-succeed xs, fewest-has-ends xs h)

-- fewest ranges stay as they are
pub fewest-itself : (xs : List (ℕ × ℕ)) → AreScalarRanges xs → fewest next_scalar xs ≡ xs
fewest-itself xs h =
    fewest-unique next_scalar IsScalar scalars-succeed (fewest next_scalar xs) xs (fewest-fewest next_scalar IsScalar scalars-succeed xs) h.0
    (ends-from-scalars (fewest next_scalar xs) (fewest-has-ends xs h.1)) (ends-from-scalars xs h.1) (scalar-members xs h.1)

pub one-has-ends : (low high : ℕ) → IsScalar low → IsScalar high → HaveScalarEnds ((low, high) ∷ [])
one-has-ends low high first last =
    All-cons (λ (r : ℕ × ℕ). IsScalar r.0 × IsScalar r.1) (low, high) [] (first, last) (All-nil (λ (r : ℕ × ℕ). IsScalar r.0 × IsScalar r.1))

-- a front that is already merged
pub fewest-front : (xs ys : List (ℕ × ℕ)) → HaveScalarEnds xs → HaveScalarEnds ys
    → fewest next_scalar (fewest next_scalar xs ++ ys) ≡ fewest next_scalar (xs ++ ys)
fewest-front xs ys h k =
    scalars-alike (fewest next_scalar xs ++ ys) (xs ++ ys) (both-ends (fewest next_scalar xs) ys (fewest-has-ends xs h) k) (both-ends xs ys h k)
    (front-members next_scalar IsScalar scalars-succeed xs ys (ends-from-scalars xs h))

pub bytes-front : (xs ys : List (ℕ × ℕ)) → fewest next_byte (fewest next_byte xs ++ ys) ≡ fewest next_byte (xs ++ ys)
bytes-front xs ys =
    fewest-alike next_byte IsAny bytes-succeed (fewest next_byte xs ++ ys) (xs ++ ys) (ends-any (fewest next_byte xs ++ ys)) (ends-any (xs ++ ys))
    (front-members next_byte IsAny bytes-succeed xs ys (ends-any xs))

or-held : (x y z : Bool) → (x || y) ≡ x → ((x || z) || y) ≡ (x || z)
or-held true y z e = refl
or-held false y true e = refl
or-held false y false e = e

or-twice : (x y : Bool) → ((x || y) || y) ≡ (x || y)
or-twice true y = refl
or-twice false true = refl
or-twice false false = refl

-- what is there stays there
pub union-held : (xs ys zs : List (ℕ × ℕ)) → HaveScalarEnds xs → HaveScalarEnds ys → HaveScalarEnds zs
    → union next_scalar xs ys ≡ xs → union next_scalar (union next_scalar xs zs) ys ≡ union next_scalar xs zs
union-held xs ys zs hx hy hz same =
    fewest-front (xs ++ zs) ys (both-ends xs zs hx hz) hy
    ∙ scalars-alike ((xs ++ zs) ++ ys) (xs ++ zs) (both-ends (xs ++ zs) ys (both-ends xs zs hx hz) hy) (both-ends xs zs hx hz)
    (λ n scalar.
    let within : (is_member xs n || is_member ys n) ≡ is_member xs n =
    sym (member-append xs ys n) ∙ sym (scalar-members (xs ++ ys) (both-ends xs ys hx hy) n scalar) ∙ ap (λ rs. is_member rs n) same in
    member-append (xs ++ zs) ys n ∙ ap (λ b. b || is_member ys n) (member-append xs zs n)
    ∙ or-held (is_member xs n) (is_member ys n) (is_member zs n) within ∙ sym (member-append xs zs n))

-- what was added need not be added again
pub union-twice : (xs ys : List (ℕ × ℕ)) → HaveScalarEnds xs → HaveScalarEnds ys → union next_scalar (union next_scalar xs ys) ys ≡ union next_scalar xs ys
union-twice xs ys hx hy =
    fewest-front (xs ++ ys) ys (both-ends xs ys hx hy) hy
    ∙ scalars-alike ((xs ++ ys) ++ ys) (xs ++ ys) (both-ends (xs ++ ys) ys (both-ends xs ys hx hy) hy) (both-ends xs ys hx hy)
    (λ n scalar.
    member-append (xs ++ ys) ys n ∙ ap (λ b. b || is_member ys n) (member-append xs ys n)
    ∙ or-twice (is_member xs n) (is_member ys n) ∙ sym (member-append xs ys n))
