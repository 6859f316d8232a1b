-- What pairs join to the members of ranges.
use Rattle.std.proofs.Common.{◌≡◌, ℕ, zero, suc, ◌+◌, ◌<◌, ◌≤◌, Bool, true, false, cond, List, [], ◌∷◌, ◌++◌, length, drop, get_or, map, Contains, refl, ◌∙◌, ap, sym, subst, arith, inl, inr, append_assoc, add-one, drop-cons, get_or-drop, le_of_suc-le-suc, not-suc-le-zero, zero-lt-suc, suc-le-suc}
use Rattle.std.specs.Prelude.{◌&&◌, ◌||◌}
use Rattle.std.specs.List.{filter, flat_map, list_any}
use Rattle.std.specs.List.Sorted.{IsNonDecreasingBy}
use Rattle.std.proofs.lemmas.Bool.{or_cases}
use Rattle.std.proofs.lemmas.List.{drop_all, get_or_default, length-drop}
use Rattle.std.proofs.lemmas.List.Folds.{list_any-append}
use Rattle.rx_model.specs.Text.{is_member}
use Rattle.rx_class.specs.Folding.{joined_to}
use Rattle.rx_class.proofs.RangeLemmas.{inside, inside-true, inside-before, inside-after}
use Rattle.std.proofs.Math.Bool.{or-true}

-- The members.

abbrev single : ℕ × ℕ → ℕ × ℕ
single p = (p.1, p.1)

-- the pair joins a member to this number
abbrev pub joins : List (ℕ × ℕ) → ℕ → ℕ × ℕ → Bool
joins rs n p = is_member rs p.0 && inside (p.1, p.1) n

first-joined : (b : Bool) (p : ℕ × ℕ) (ps : List (ℕ × ℕ)) (n : ℕ) → is_member (map single (cond b (p ∷ ps) ps))
    n ≡ ((b && inside (p.1, p.1) n) || is_member (map single ps) n)
first-joined true p ps n = refl
first-joined false p ps n = refl

pub joined-members : (ps rs : List (ℕ × ℕ)) (n : ℕ) → is_member (joined_to ps rs) n ≡ list_any (joins rs n) ps
joined-members [] rs n = refl
joined-members (p ∷ ps) rs n =
    first-joined (is_member rs p.0) p (filter (λ (q : ℕ × ℕ). is_member rs q.0) ps) n ∙ ap (λ b. joins rs n p || b) (joined-members ps rs n)

spread : (a b c x y : Bool) → (((a || b) && c) || (x || y)) ≡ ((((a || false) && c) || x) || ((b && c) || y))
spread true b true x y = refl
spread true true false x y = refl
spread true false false x y = refl
spread false false c x y = refl
spread false true false x y = refl
spread false true true true y = refl
spread false true true false y = refl

joins-none : (ps : List (ℕ × ℕ)) (n : ℕ) → list_any (joins [] n) ps ≡ false
joins-none [] n = refl
joins-none (p ∷ ps) n = joins-none ps n

joins-cons : (ps : List (ℕ × ℕ)) (r : ℕ × ℕ) (rs : List (ℕ × ℕ)) (n : ℕ)
    → list_any (joins (r ∷ rs) n) ps ≡ (list_any (joins (r ∷ []) n) ps || list_any (joins rs n) ps)
joins-cons [] r rs n = refl
joins-cons (p ∷ ps) r rs n =
    ap (λ b. joins (r ∷ rs) n p || b) (joins-cons ps r rs n)
    ∙ spread (inside r p.0) (is_member rs p.0) (inside (p.1, p.1) n) (list_any (joins (r ∷ []) n) ps) (list_any (joins rs n) ps)

-- what the pairs join to the members of one range
abbrev pub joined_to_one : List (ℕ × ℕ) → ℕ × ℕ → List (ℕ × ℕ)
joined_to_one ps r = joined_to ps (r ∷ [])

pub range_by_range : (ps rs : List (ℕ × ℕ)) (n : ℕ) → is_member (flat_map (joined_to_one ps) rs) n ≡ is_member (joined_to ps rs) n
range_by_range ps [] n = sym (joined-members ps [] n ∙ joins-none ps n)
range_by_range ps (r ∷ rs) n =
    list_any-append _ (joined_to_one ps r) (flat_map (joined_to_one ps) rs)
    ∙ ap (λ b. is_member (joined_to_one ps r) n || b) (range_by_range ps rs n ∙ joined-members ps rs n)
    ∙ ap (λ b. b || list_any (joins rs n) ps) (joined-members ps (r ∷ []) n)
    ∙ sym (joined-members ps (r ∷ rs) n ∙ joins-cons ps r rs n)

pub list_any-from_Contains : (p : ℕ × ℕ → Bool) (xs : List (ℕ × ℕ)) (x : ℕ × ℕ) → Contains xs x → p x ≡ true → list_any p xs ≡ true
list_any-from_Contains p [] x (k, lt, at) is = absurd (not-suc-le-zero lt)
list_any-from_Contains p (y ∷ xs) x (zero, lt, at) is = ap (λ b. b || list_any p xs) (subst (λ z. p z ≡ true) (sym at) is)
list_any-from_Contains p (y ∷ xs) x (suc k, lt, at) is =
    ap (λ b. p y || b) (list_any-from_Contains p xs x (k, le_of_suc-le-suc lt, at) is) ∙ or-true (p y)

pub Contains-from_list_any : (p : ℕ × ℕ → Bool) (xs : List (ℕ × ℕ)) → list_any p xs ≡ true → (x : ℕ × ℕ) × Contains xs x × (p x ≡ true)
Contains-from_list_any p [] h = cc
Contains-from_list_any p (y ∷ xs) h = elim (or_cases (p y) (list_any p xs) h) [
  | inl here ↦ (y, (zero, zero-lt-suc _, refl), here)
  | inr later ↦
      let rest = Contains-from_list_any p xs later in
      let at = rest.1 in
      (rest.0, (suc at.0, suc-le-suc at.1, at.2), rest.2)
]

-- Pairs in the order of their first numbers.

joined-kept : (p r : ℕ × ℕ) (ps : List (ℕ × ℕ)) → r.0 ≤ p.0 → p.0 ≤ r.1 → joined_to_one (p ∷ ps) r ≡ (p.1, p.1) ∷ joined_to_one ps r
joined-kept p r ps low high =
    let rest = filter (λ (q : ℕ × ℕ). is_member (r ∷ []) q.0) ps in
    ap (λ b. map single (cond (b || false) (p ∷ rest) rest)) (inside-true r p.0 low high)

joined-left : (p r : ℕ × ℕ) (ps : List (ℕ × ℕ)) → inside r p.0 ≡ false → joined_to_one (p ∷ ps) r ≡ joined_to_one ps r
joined-left p r ps out =
    let rest = filter (λ (q : ℕ × ℕ). is_member (r ∷ []) q.0) ps in
    ap (λ b. map single (cond (b || false) (p ∷ rest) rest)) out

pub joined-skip : (k : ℕ) (ps : List (ℕ × ℕ)) (r : ℕ × ℕ) → ((j : ℕ) (d : ℕ × ℕ) → j < k → j < length ps → (get_or ps j d).0 < r.0)
    → joined_to_one (drop k ps) r ≡ joined_to_one ps r
joined-skip zero ps r low = refl
joined-skip (suc k) [] r low = refl
joined-skip (suc k) (p ∷ ps) r low =
    joined-skip k ps r (λ j d lt within. low (suc j) d (omega arith) (omega arith))
    ∙ sym (joined-left p r ps (inside-before r p.0 (low 0 (0, 0) (omega arith) (omega arith))))

pub joined-none : (ps : List (ℕ × ℕ)) (r : ℕ × ℕ) → ((j : ℕ) (d : ℕ × ℕ) → j < length ps → r.1 < (get_or ps j d).0) → joined_to_one ps r ≡ []
joined-none [] r high = refl
joined-none (p ∷ ps) r high =
    joined-left p r ps (inside-after r p.0 (high 0 (0, 0) (omega arith))) ∙ joined-none ps r (λ j d lt. high (suc j) d (omega arith))

-- the pair at i joins a member
pub joined-step : (ps found more : List (ℕ × ℕ)) (i : ℕ) (r p d : ℕ × ℕ) → i < length ps → p ≡ get_or ps i d → r.0 ≤ p.0 → p.0 ≤ r.1
    → more ≡ found ++ (p.1, p.1) ∷ []
    → more ++ joined_to_one (drop (i + 1) ps) r ≡ found ++ joined_to_one (drop i ps) r
joined-step ps found more i r p d lt is low high more_is =
    let here : drop i ps ≡ p ∷ drop (suc i) ps = drop-cons ps i d lt ∙ ap (λ (x : ℕ × ℕ). x ∷ drop (suc i) ps) (sym is) in
    rw (more_is, add-one, here, joined-kept p r (drop (suc i) ps) low high) (append_assoc found ((p.1, p.1) ∷ []) (joined_to_one (drop (suc i) ps) r))

-- from the pair at i on none joins a member
pub joined-done : (ps : List (ℕ × ℕ)) (i : ℕ) (r d : ℕ × ℕ) → IsNonDecreasingBy (λ (p : ℕ × ℕ). p.0) ps → i < length ps → r.1 < (get_or ps i d).0
    → joined_to_one (drop i ps) r ≡ []
joined-done ps i r d up lt high =
    joined-none (drop i ps) r (λ j e within.
    let inside_ps : i + j < length ps = omega (arith, length-drop i ps) in
    let later = up i (i + j) e (omega arith) inside_ps in
    let first : (get_or ps i d).0 ≡ (get_or ps i e).0 = ap (λ (p : ℕ × ℕ). p.0) (get_or_default ps i d e lt) in
    let moved : (get_or (drop i ps) j e).0 ≡ (get_or ps (i + j) e).0 = ap (λ (p : ℕ × ℕ). p.0) (get_or-drop i ps j e) in
    omega (arith, first, moved, later, high))

pub joined-end : (ps : List (ℕ × ℕ)) (i : ℕ) (r : ℕ × ℕ) → length ps ≤ i → joined_to_one (drop i ps) r ≡ []
joined-end ps i r le = ap (λ ys. joined_to_one ys r) (drop_all i ps le)
