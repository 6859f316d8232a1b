-- What is left of a list that a loop goes over.
use Rattle.std.specs.List.{list_any, list_all}
use Rattle.std.proofs.Common.{◌≡◌, ℕ, ◌+◌, ◌<◌, ◌≤◌, Bool, true, false, ◌||◌, ◌&&◌, List, [], ◌∷◌, ◌++◌, All, map, length, take, drop, get_or, ⊎_elim, refl, sym, ap, subst, ◌∙◌, arith}
use Rattle.std.proofs.lemmas.Bool.{cases_Bool, false≢true}
use Rattle.std.proofs.lemmas.List.{drop_more, drop_all, get_or-map, length-map, map_more, map_push, append-nil, take_all}
use Rattle.std.proofs.lemmas.List.Elements.{All-get_or}
use Rattle.std.proofs.lemmas.List.Folds.{list_all_at}

-- the element at i comes next, under a map
pub drop-map_more : {X Y : Type 0} (f : X → Y) (xs : List X) (i : ℕ) (x : X) → i < length xs → x ≡ get_or xs i x
    → drop i (map f xs) ≡ f x ∷ drop (i + 1) (map f xs)
drop-map_more f xs i x l is =
    let within : i < length (map f xs) = subst (λ n. i < n) (sym (length-map xs f)) l in
    drop_more (map f xs) i (f x) within ∙ ap (λ y. y ∷ drop (i + 1) (map f xs)) (get_or-map f xs i x (f x) l ∙ ap f (sym is))

pub drop-map_all : {X Y : Type 0} (f : X → Y) (xs : List X) (i : ℕ) → length xs ≤ i → drop i (map f xs) ≡ []
drop-map_all f xs i l = drop_all i (map f xs) (subst (λ n. n ≤ i) (sym (length-map xs f)) l)

-- a function of the whole list that is that of what is left, at the element at i
pub at_next : {X Y Z : Type 0} (f : X → Y) (F : List Y → Z) (xs : List X) (i : ℕ) (x : X) → i < length xs → x ≡ get_or xs i x
    → F (map f xs) ≡ F (drop i (map f xs)) → F (map f xs) ≡ F (f x ∷ drop (i + 1) (map f xs))
at_next f F xs i x l is invariant = invariant ∙ ap F (drop-map_more f xs i x l is)

-- the first element decides a test of any, or leaves it to the others
pub list_any-here : {Y : Type 0} (p : Y → Bool) (y : Y) (ys : List Y) → p y ≡ true → list_any p (y ∷ ys) ≡ true
list_any-here p y ys e = ap (λ b. b || list_any p ys) e

pub list_any-next : {Y : Type 0} (p : Y → Bool) (y : Y) (ys : List Y) → p y ≡ false → list_any p (y ∷ ys) ≡ list_any p ys
list_any-next p y ys e = ap (λ b. b || list_any p ys) e

-- the same of a test of all
pub list_all-here : {Y : Type 0} (p : Y → Bool) (y : Y) (ys : List Y) → p y ≡ false → list_all p (y ∷ ys) ≡ false
list_all-here p y ys e = ap (λ b. b && list_all p ys) e

pub list_all-next : {Y : Type 0} (p : Y → Bool) (y : Y) (ys : List Y) → p y ≡ true → list_all p (y ∷ ys) ≡ list_all p ys
list_all-next p y ys e = ap (λ b. b && list_all p ys) e

-- what all elements pass, the element at i passes
pub list_all-at : {X Y : Type 0} (p : Y → Bool) (f : X → Y) (xs : List X) (i : ℕ) (x : X) → i < length xs → x ≡ get_or xs i x → list_all p (map f xs) ≡ true
    → p (f x) ≡ true
list_all-at p f xs i x l is every =
    let within : i < length (map f xs) = subst (λ n. i < n) (sym (length-map xs f)) l in
    let read : get_or (map f xs) i (f x) ≡ f x = get_or-map f xs i x (f x) l ∙ ap f (sym is) in
    ⊎_elim (λ yes_is. yes_is) (λ no_is. absurd (false≢true (sym (list_all_at p (map f xs) i (f x) within (ap p read ∙ no_is)) ∙ every))) (cases_Bool (p (f x)))

-- a list that a loop makes of another, element by element
pub map-take_more : {X Y : Type 0} (f : X → Y) (xs : List X) (i : ℕ) (x : X) → i < length xs → x ≡ get_or xs i x
    → map f (take (i + 1) xs) ≡ map f (take i xs) ++ f x ∷ []
map-take_more f xs i x l is = map_more f xs i x l ∙ ap (λ y. map f (take i xs) ++ f y ∷ []) (sym is)

pub map-push : {X Y : Type 0} (f : X → Y) (xs : List X) (x : X) → map f (xs ++ x ∷ []) ≡ map f xs ++ f x ∷ []
map-push f xs x = map_push f xs x

-- lists of one, two and three elements
pub one_element : (xs : List ℕ) → length xs ≡ 1 → xs ≡ get_or xs 0 0 ∷ []
one_element [] e = absurd (omega arith)
one_element (x ∷ []) e = refl
one_element (x ∷ y ∷ xs) e = absurd (omega arith)

pub two_elements : (xs : List ℕ) → length xs ≡ 2 → xs ≡ get_or xs 0 0 ∷ get_or xs 1 0 ∷ []
two_elements [] e = absurd (omega arith)
two_elements (x ∷ []) e = absurd (omega arith)
two_elements (x ∷ y ∷ []) e = refl
two_elements (x ∷ y ∷ z ∷ xs) e = absurd (omega arith)

pub three_elements : (xs : List ℕ) → length xs ≡ 3 → xs ≡ get_or xs 0 0 ∷ get_or xs 1 0 ∷ get_or xs 2 0 ∷ []
three_elements [] e = absurd (omega arith)
three_elements (x ∷ []) e = absurd (omega arith)
three_elements (x ∷ y ∷ []) e = absurd (omega arith)
three_elements (x ∷ y ∷ z ∷ []) e = refl
three_elements (x ∷ y ∷ z ∷ w ∷ xs) e = absurd (omega arith)

-- what holds of all elements holds of the element at i
pub All-at : {X Y : Type 0} (P : Y → Type 0) (f : X → Y) (xs : List X) (i : ℕ) (x : X) → i < length xs → x ≡ get_or xs i x → All P (map f xs) → P (f x)
All-at P f xs i x l is every =
    let within : i < length (map f xs) = subst (λ n. i < n) (sym (length-map xs f)) l in
    let read : get_or (map f xs) i (f x) ≡ f x = get_or-map f xs i x (f x) l ∙ ap f (sym is) in
    subst P read (All-get_or P (map f xs) i (f x) within every)

-- a list that a callee wrote through a loan of the whole
pub written_back : (new old : List ℕ) (n : ℕ) → n ≡ length old → length new ≡ length old → take n (new ++ drop (length new) old) ≡ new
written_back new old n long same =
    let none : drop (length new) old ≡ [] = drop_all (length new) old (omega arith) in
    ap (λ l. take n (new ++ l)) none ∙ ap (take n) (append-nil new) ∙ take_all n new (omega arith)
