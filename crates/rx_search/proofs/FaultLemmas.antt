-- Which groups of patterns are refused.
use Rattle.std.proofs.Common.{ℕ, zero, suc, ◌+◌, ◌≡◌, ◌≤◌, ◌<◌, inl, inr, ⊎_elim, List, [], ◌∷◌, ◌++◌, length, take, drop, get_or, Option, None, Some, Bool, true, false, not, ◌||◌, cond, nat_lt, nat_eq, min, Bor, bytes_eq, sym, ap, ◌∙◌, refl, subst, arith, Vec, String, string_bytes, option_map}
use Rattle.std.proofs.lemmas.List.{take_more, take-append-drop, take-take, take_all, length-take, length-take-le, length-map, get_or-map}
use Rattle.std.proofs.lemmas.Bool.Decides.{nat_tests}
use Rattle.std.proofs.lemmas.Bool.{or_cases, or_left, or_right}
use Rattle.std.proofs.lemmas.List.Folds.{list_any-append}
use Rattle.std.proofs.lemmas.Map.Text.{is_eq-slice_cmp}
use Rattle.std.specs.BTreeSet.{BTreeSet, UpdatesBy, contains_by}
use Rattle.std.specs.Cmp.Lexicographic.{slice_cmp}
use Rattle.std.specs.Ordering.{nat_cmp}
use Rattle.std.specs.List.{list_any}
use Rattle.std.specs.Option.{option_or}
use Rattle.rx_model.proofs.lemmas.runs.OptionLemmas.{or-assoc, or-none_right}
use Rattle.rx_model.proofs.lemmas.runs.RunLemmas.{or-none}
use Rattle.rx_search.specs.declared.group_error.GroupInfoError.{GroupInfoError}
use Rattle.rx_search.specs.declared.group_error.GroupInfoError.TheVariants.{TooMany}
use Rattle.rx_search.specs.Limits.{id_limit, slot_limit}
use Rattle.rx_search.specs.GroupInfo.{group_count, slot_count, is_named, has_duplicate, fault_of, first_fault, refusal, groups_of, names_of, IsFault, IsRefusal}

-- one pattern more
pub group_count-push : (gs : List (List (Option (List ℕ)))) (g : List (Option (List ℕ))) → group_count (gs ++ g ∷ []) ≡ group_count gs + length g
group_count-push [] g = omega arith
group_count-push (first ∷ gs) g = omega (arith, group_count-push gs g)

pub group_count-more : (gs : List (List (Option (List ℕ)))) (i : ℕ) (d : List (Option (List ℕ))) → i < length gs
    → group_count (take (i + 1) gs) ≡ group_count (take i gs) + length (get_or gs i d)
group_count-more gs i d below = ap group_count (take_more gs i d below) ∙ group_count-push (take i gs) (get_or gs i d)

-- a front has no more groups
pub group_count-front : (i : ℕ) (gs : List (List (Option (List ℕ)))) → group_count (take i gs) ≤ group_count gs
group_count-front zero gs = omega arith
group_count-front (suc i) [] = omega arith
group_count-front (suc i) (g ∷ gs) = omega (arith, group_count-front i gs)

-- the first fault of a list that goes on
pub first_fault-append : (p : ℕ) (xs ys : List (List (Option (List ℕ)))) → first_fault p (xs ++ ys) ≡ option_or (first_fault p xs)
    (first_fault (p + length xs) ys)
first_fault-append p [] ys = ap (λ (n : ℕ). first_fault n ys) (omega arith)
first_fault-append p (x ∷ xs) ys =
    let place : p + 1 + length xs ≡ p + length (x ∷ xs) = omega arith in
    ap (option_or (fault_of p x)) (first_fault-append (p + 1) xs ys ∙ ap (λ (n : ℕ). option_or (first_fault (p + 1) xs) (first_fault n ys)) place)
    ∙ sym (or-assoc (fault_of p x) (first_fault (p + 1) xs) (first_fault (p + length (x ∷ xs)) ys))

-- one pattern more
pub first_fault-more : (gs : List (List (Option (List ℕ)))) (i : ℕ) (d : List (Option (List ℕ))) → i < length gs
    → first_fault 0 (take (i + 1) gs) ≡ option_or (first_fault 0 (take i gs)) (fault_of i (get_or gs i d))
first_fault-more gs i d below =
    let len : length (take i gs) ≡ i = length-take-le i gs (omega arith) in
    let place : 0 + length (take i gs) ≡ i = omega (arith, len) in
    ap (first_fault 0) (take_more gs i d below)
    ∙ first_fault-append 0 (take i gs) (get_or gs i d ∷ [])
    ∙ ap (λ (n : ℕ). option_or (first_fault 0 (take i gs)) (option_or (fault_of n (get_or gs i d)) None)) place
    ∙ ap (option_or (first_fault 0 (take i gs))) (or-none_right (fault_of i (get_or gs i d)))

-- the fault of a front is the fault of a longer one
pub first_fault-stays : (gs : List (List (Option (List ℕ)))) (i n : ℕ) (e : GroupInfoError) → i ≤ n → first_fault 0 (take i gs) ≡ Some e
    → first_fault 0 (take n gs) ≡ Some e
first_fault-stays gs i n e order fault =
    let rest = drop i (take n gs) in
    let whole : take i gs ++ rest ≡ take n gs =
    ap (λ (xs : List (List (Option (List ℕ)))). xs ++ rest) (sym (take-take i n gs order)) ∙ take-append-drop i (take n gs) in
    ap (first_fault 0) (sym whole) ∙ first_fault-append 0 (take i gs) rest
    ∙ ap (λ (o : Option GroupInfoError). option_or o (first_fault (0 + length (take i gs)) rest)) fault

-- where there is no fault each pattern has a group
pub some_group : (p : ℕ) (g : List (Option (List ℕ))) → fault_of p g ≡ None → 1 ≤ length g
some_group p [] fault = absurd (cc)
some_group p (name ∷ g) fault = omega arith

pub group_count-least : (p : ℕ) (gs : List (List (Option (List ℕ)))) → first_fault p gs ≡ None → length gs ≤ group_count gs
group_count-least p [] none = omega arith
group_count-least p (g ∷ gs) none =
    let both = or-none (fault_of p g) (first_fault (p + 1) gs) none in
    omega (arith, some_group p g both.0, group_count-least (p + 1) gs both.1)

pub is_above : {n : ℕ} → slot_limit < n → nat_lt slot_limit n ≡ true
is_above above = grind (arith, nat_tests)

pub too_many_slots : (gs : List (List (Option (List ℕ)))) → first_fault 0 (take id_limit gs) ≡ None → nat_lt slot_limit (slot_count gs) ≡ true
    → refusal gs ≡ Some TooMany
too_many_slots gs none many = ap (λ (o : Option GroupInfoError). option_or o (cond (nat_lt slot_limit (slot_count gs)) (Some TooMany) None)) none
    ∙ ap (λ (b : Bool). cond b (Some TooMany) None) many

-- More patterns than identifiers, of which those with one are without fault, have too many slots.
pub too_many_patterns : (gs : List (List (Option (List ℕ)))) (i : ℕ) → i ≡ id_limit → i ≤ length gs → first_fault 0 (take i gs) ≡ None
    → refusal gs ≡ Some TooMany
too_many_patterns gs i limit below none =
    let len : length (take i gs) ≡ i = length-take-le i gs below in
    let many : slot_limit < slot_count gs = omega (arith, limit, len, group_count-least 0 (take i gs) none, group_count-front i gs) in
    too_many_slots gs (subst (λ (n : ℕ). first_fault 0 (take n gs) ≡ None) limit none) (is_above many)

-- no refusal
pub no_refusal : (gs : List (List (Option (List ℕ)))) → first_fault 0 (take id_limit gs) ≡ None → nat_lt slot_limit (slot_count gs) ≡ false → refusal gs ≡ None
no_refusal gs none few = ap (λ (o : Option GroupInfoError). option_or o (cond (nat_lt slot_limit (slot_count gs)) (Some TooMany) None)) none
    ∙ ap (λ (b : Bool). cond b (Some TooMany) None) few

-- the first fault is the refusal
pub fault_refusal : (gs : List (List (Option (List ℕ)))) (e : GroupInfoError) → first_fault 0 (take id_limit gs) ≡ Some e → refusal gs ≡ Some e
fault_refusal gs e fault = ap (λ (o : Option GroupInfoError). option_or o (cond (nat_lt slot_limit (slot_count gs)) (Some TooMany) None)) fault

-- the groups of a pattern by the bytes of their names
pub group_at : {A B : Type 0} (patterns : List (Vec (Option (String A)) B)) (i : ℕ) (v : Vec (Option (String A)) B) → i < length patterns
    → v ≡ get_or patterns i v → get_or (groups_of patterns) i [] ≡ names_of v.items
group_at {A} {B} patterns i v below is =
    let f : Vec (Option (String A)) B → List (Option (List ℕ)) = λ names. names_of names.items in
    get_or-map f patterns i v [] below ∙ ap f (sym is)

pub length-groups_of : {A B : Type 0} (patterns : List (Vec (Option (String A)) B)) → length (groups_of patterns) ≡ length patterns
length-groups_of {A} {B} patterns =
    let f : Vec (Option (String A)) B → List (Option (List ℕ)) = λ names. names_of names.items in
    length-map patterns f

pub length-names_of : {A : Type 0} (names : List (Option (String A))) → length (names_of names) ≡ length names
length-names_of names = length-map names (option_map string_bytes)

-- a fault of the next pattern is the refusal
pub fault_is_refusal : (gs : List (List (Option (List ℕ)))) (i : ℕ) (g : List (Option (List ℕ))) (e : GroupInfoError) → first_fault 0 (take i gs) ≡ None
    → get_or gs i [] ≡ g → i < length gs → i < id_limit → IsFault i g e → IsRefusal gs e
fault_is_refusal gs i g e none item below limit fault =
    let front : fault_of i g ≡ Some e → first_fault 0 (take (i + 1) gs) ≡ Some e =
    λ h. first_fault-more gs i [] below ∙ ap (λ (o : Option GroupInfoError). option_or o (fault_of i (get_or gs i []))) none ∙ ap (fault_of i) item ∙ h in
    ⊎_elim (λ h. inl (fault_refusal gs e (first_fault-stays gs (i + 1) id_limit e (omega arith) (front h)))) (λ h. inr h) fault

-- the next pattern has no fault
pub no_fault-more : (gs : List (List (Option (List ℕ)))) (i : ℕ) (g : List (Option (List ℕ))) → first_fault 0 (take i gs) ≡ None → get_or gs i [] ≡ g
    → i < length gs → fault_of i g ≡ None → first_fault 0 (take (i + 1) gs) ≡ None
no_fault-more gs i g none item below fault = first_fault-more gs i [] below ∙ ap (λ (o : Option GroupInfoError). option_or o (fault_of i (get_or gs i []))) none
    ∙ ap (fault_of i) item ∙ fault

-- all patterns have been seen
pub no_fault-all : (gs : List (List (Option (List ℕ)))) (i : ℕ) → length gs ≤ i → i ≤ id_limit → first_fault 0 (take i gs) ≡ None
    → first_fault 0 (take id_limit gs) ≡ None
no_fault-all gs i all limit none = ap (first_fault 0) (take_all id_limit gs (omega arith) ∙ sym (take_all i gs all)) ∙ none

-- What is known where nothing is refused.
pub record IsSound (gs : List (List (Option (List ℕ)))) : Type 0 where
  pub faultless : first_fault 0 gs ≡ None
  pub few : slot_count gs ≤ slot_limit

pub not_above : (n : ℕ) → cond (nat_lt slot_limit n) (Some TooMany) None ≡ None → n ≤ slot_limit
not_above n none = grind (arith, nat_tests)

pub short_list : (gs : List (List (Option (List ℕ)))) → first_fault 0 (take id_limit gs) ≡ None → slot_count gs ≤ slot_limit → length gs ≤ id_limit
short_list gs none few =
    let len : length (take id_limit gs) ≡ min id_limit (length gs) = length-take id_limit gs in
    omega (arith, len, few, group_count-least 0 (take id_limit gs) none, group_count-front id_limit gs)

pub refused_none : (gs : List (List (Option (List ℕ)))) → refusal gs ≡ None → IsSound gs
refused_none gs none =
    let both = or-none (first_fault 0 (take id_limit gs)) (cond (nat_lt slot_limit (slot_count gs)) (Some TooMany) None) none in
    let few : slot_count gs ≤ slot_limit = not_above (slot_count gs) both.1 in
    let short : length gs ≤ id_limit = short_list gs both.0 few in
    record { faultless = ap (first_fault 0) (sym (take_all id_limit gs short)) ∙ both.0; few = few }

-- the first group of a pattern without fault has no name
pub first_unnamed : (p : ℕ) (g : List (Option (List ℕ))) → fault_of p g ≡ None → g ≡ None ∷ drop 1 g
first_unnamed p [] none = absurd (cc)
first_unnamed p (None ∷ g) none = refl
first_unnamed p (Some name ∷ g) none = absurd (cc)

pub faultless_at : (p : ℕ) (gs : List (List (Option (List ℕ)))) (i : ℕ) → first_fault p gs ≡ None → i < length gs
    → get_or gs i [] ≡ None ∷ drop 1 (get_or gs i [])
faultless_at p [] i none below = absurd (omega arith)
faultless_at p (g ∷ gs) zero none below = first_unnamed p g (or-none (fault_of p g) (first_fault (p + 1) gs) none).0
faultless_at p (g ∷ gs) (suc i) none below = faultless_at (p + 1) gs i (or-none (fault_of p g) (first_fault (p + 1) gs) none).1 (omega arith)

-- this name, if there is one, stands among the groups
abbrev pub stands_in : Option (List ℕ) → List (Option (List ℕ)) → Bool
stands_in None groups = false
stands_in (Some name) groups = list_any (is_named name) groups

pub nat_eq-sym : (x y : ℕ) → nat_eq x y ≡ nat_eq y x
nat_eq-sym x y = grind (arith, nat_tests)

pub bytes_eq-sym : (xs ys : List ℕ) → bytes_eq xs ys ≡ bytes_eq ys xs
bytes_eq-sym [] [] = refl
bytes_eq-sym [] (y ∷ ys) = refl
bytes_eq-sym (x ∷ xs) [] = refl
bytes_eq-sym (x ∷ xs) (y ∷ ys) = rw (bytes_eq-sym xs ys, nat_eq-sym x y) refl

pub or_none : (a d : Bool) → ((a || false) || (d || false)) ≡ ((a || d) || false)
or_none true true = refl
or_none true false = refl
or_none false true = refl
or_none false false = refl

pub or_some : (a b d e : Bool) → ((a || (b || false)) || (d || e)) ≡ ((a || d) || (b || e))
or_some true b d e = refl
or_some false true true e = refl
or_some false true false e = refl
or_some false false d e = refl

-- one group more
pub has_duplicate-push : (xs : List (Option (List ℕ))) (g : Option (List ℕ)) → has_duplicate (xs ++ g ∷ []) ≡ (has_duplicate xs || stands_in g xs)
has_duplicate-push [] None = refl
has_duplicate-push [] (Some name) = refl
has_duplicate-push (None ∷ xs) None = has_duplicate-push xs None
has_duplicate-push (None ∷ xs) (Some name) = has_duplicate-push xs (Some name)
has_duplicate-push (Some first ∷ xs) None =
    ap (λ (b : Bool). b || has_duplicate (xs ++ None ∷ [])) (list_any-append (is_named first) xs (None ∷ []))
    ∙ ap (λ (b : Bool). (list_any (is_named first) xs || false) || b) (has_duplicate-push xs None)
    ∙ or_none (list_any (is_named first) xs) (has_duplicate xs)
has_duplicate-push (Some first ∷ xs) (Some name) =
    ap (λ (b : Bool). b || has_duplicate (xs ++ Some name ∷ [])) (list_any-append (is_named first) xs (Some name ∷ []))
    ∙ ap (λ (b : Bool). (list_any (is_named first) xs || (bytes_eq first name || false)) || b) (has_duplicate-push xs (Some name))
    ∙ ap (λ (b : Bool). (list_any (is_named first) xs || (b || false)) || (has_duplicate xs || list_any (is_named name) xs)) (bytes_eq-sym first name)
    ∙ or_some (list_any (is_named first) xs) (bytes_eq name first) (has_duplicate xs) (list_any (is_named name) xs)

-- a name that stands twice in a front stands twice
pub list_any-front : (p : Option (List ℕ) → Bool) (i : ℕ) (xs : List (Option (List ℕ))) → list_any p (take i xs) ≡ true → list_any p xs ≡ true
list_any-front p i xs some = ap (list_any p) (sym (take-append-drop i xs)) ∙ list_any-append p (take i xs) (drop i xs) ∙ or_left _ _ some

pub has_duplicate-front : (i : ℕ) (xs : List (Option (List ℕ))) → has_duplicate (take i xs) ≡ true → has_duplicate xs ≡ true
has_duplicate-front zero xs twice = absurd (cc)
has_duplicate-front (suc i) [] twice = absurd (cc)
has_duplicate-front (suc i) (None ∷ xs) twice = has_duplicate-front i xs twice
has_duplicate-front (suc i) (Some name ∷ xs) twice =
    ⊎_elim (λ h. or_left _ _ (list_any-front (is_named name) i xs h)) (λ h. or_right _ _ (has_duplicate-front i xs h))
    (or_cases (list_any (is_named name) (take i xs)) (has_duplicate (take i xs)) twice)

pub has_duplicate-more : (xs : List (Option (List ℕ))) (i : ℕ) (g : Option (List ℕ)) → get_or xs i None ≡ g → i < length xs
    → has_duplicate (take (i + 1) xs) ≡ (has_duplicate (take i xs) || stands_in g (take i xs))
has_duplicate-more xs i g item below = ap has_duplicate (take_more xs i None below ∙ ap (λ (y : Option (List ℕ)). take i xs ++ y ∷ []) item)
    ∙ has_duplicate-push (take i xs) g

pub list_any-more : (p : Option (List ℕ) → Bool) (xs : List (Option (List ℕ))) (i : ℕ) (g : Option (List ℕ)) → get_or xs i None ≡ g → i < length xs
    → list_any p (take (i + 1) xs) ≡ (list_any p (take i xs) || (p g || false))
list_any-more p xs i g item below = ap (list_any p) (take_more xs i None below ∙ ap (λ (y : Option (List ℕ)). take i xs ++ y ∷ []) item)
    ∙ list_any-append p (take i xs) (g ∷ [])

-- a group by the bytes of its name
pub name_of_item : {A : Type 0} (names : List (Option (String A))) (i : ℕ) (name : Option (String A)) → i < length names → name ≡ get_or names i name
    → get_or (names_of names) i None ≡ option_map string_bytes name
name_of_item names i name below is = get_or-map (option_map string_bytes) names i name None below ∙ ap (option_map string_bytes) (sym is)

-- a set with one name more
pub set_with : (name : Bor (List ℕ)) (s n : BTreeSet (Bor (List ℕ)))
    → UpdatesBy (λ x y. slice_cmp nat_cmp x.now y.now) (λ k. slice_cmp nat_cmp name.now k.now) s n true → (other : List ℕ)
    → contains_by (λ k. slice_cmp nat_cmp other k.now) n ≡ cond (bytes_eq name.now other) true (contains_by (λ k. slice_cmp nat_cmp other k.now) s)
set_with name s n updates other =
    let key : Bor (List ℕ) = record { ref_ptr = (0, 0); now = other } in
    updates.0 key ∙ ap (λ (b : Bool). cond b true (contains_by (λ k. slice_cmp nat_cmp other k.now) s)) (is_eq-slice_cmp name.now other)

pub cond_or : (a x : Bool) → cond a true x ≡ (x || (a || false))
cond_or true true = refl
cond_or true false = refl
cond_or false true = refl
cond_or false false = refl

pub not_false : (x y : Bool) → y ≡ not x → y ≡ false → x ≡ true
not_false true y e f = refl
not_false false y e f = absurd (cc)

pub not_true : (x y : Bool) → y ≡ not x → y ≡ true → x ≡ false
not_true true y e f = absurd (cc)
not_true false y e f = refl
