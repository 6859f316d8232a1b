-- Groups that get their names.
use Rattle.std.proofs.Common.{◌≡◌, ℕ, zero, suc, ◌+◌, ◌-◌, ◌<◌, ◌≤◌, true, false, ◌==◌, List, [], ◌∷◌, ◌++◌, length, get_or, drop, map, slice_set, Option, Some, None, option_map, String, Global, string_bytes, refl, sym, ap, ◌∙◌, arith}
use Rattle.std.specs.Prelude.{is_some}
use Rattle.std.proofs.Common.{true≢false}
use Rattle.std.specs.List.{range_with_len}
use Rattle.std.specs.Option.{option_or}
use Rattle.std.proofs.lemmas.Bool.{cond-true, cond-false}
use Rattle.std.proofs.lemmas.Bool.Decides.{nat_tests}
use Rattle.rx_model.specs.Expression.{Expression}
use Rattle.rx_model.specs.Search.{greatest_group, greatest_in}
use Rattle.rx_search.specs.GroupInfo.{names_of, unnamed_groups}
use Rattle.rx_hir.specs.Names.{name_in, name_among, only_at, filled}
use Rattle.rx_hir.specs.Normal.{expressions}
use Rattle.rx_hir.proofs.JoinedLemmas.{expressions-drop, drop-past}

or-none : (o : Option (List ℕ)) → option_or o None ≡ o
or-none None = refl
or-none (Some x) = refl

or-or : (a b c : Option (List ℕ)) → option_or (option_or a b) c ≡ option_or a (option_or b c)
or-or None b c = refl
or-or (Some x) b c = refl

pub filled-none : (f : ℕ → Option (List ℕ)) (g : ℕ) (xs : List (Option (List ℕ))) → ((k : ℕ) → f k ≡ None) → filled f g xs ≡ xs
filled-none f g [] none = refl
filled-none f g (x ∷ xs) none = λ i. (ap (option_or x) (none g) ∙ or-none x) i ∷ filled-none f (g + 1) xs none i

pub filled-twice : (f h : ℕ → Option (List ℕ)) (g : ℕ) (xs : List (Option (List ℕ))) → filled h g (filled f g xs) ≡ filled (λ k. option_or (f k) (h k)) g xs
filled-twice f h g [] = refl
filled-twice f h g (x ∷ xs) = λ i. or-or x (f g) (h g) i ∷ filled-twice f h (g + 1) xs i

pub filled-unnamed : (f : ℕ → Option (List ℕ)) (g n : ℕ) → filled f g (unnamed_groups n) ≡ map f (range_with_len g n)
filled-unnamed f g zero = refl
filled-unnamed f g (suc n) = λ i. f g ∷ filled-unnamed f (g + 1) n i

pub among-step : (hs : List Expression) (i : ℕ) (h : Expression) → i < length hs → h ≡ get_or hs i h → (xs ys : List (Option (List ℕ)))
    → ys ≡ filled (λ g. name_in g h) 1 xs
    → filled (λ g. name_among g (expressions (drop (i + 1) hs))) 1 ys ≡ filled (λ g. name_among g (expressions (drop i hs))) 1 xs
unfolding name_in
among-step hs i h lt at xs ys e =
    ap (filled (λ g. name_among g (expressions (drop (i + 1) hs))) 1) e
    ∙ filled-twice (λ g. name_in g h) (λ g. name_among g (expressions (drop (i + 1) hs))) 1 xs
    ∙ ap (λ es. filled (λ g. name_among g es) 1 xs) (sym (expressions-drop hs i h lt at))

pub among-past : (hs : List Expression) (i : ℕ) → length hs ≤ i → (xs : List (Option (List ℕ))) → filled (λ g. name_among g (expressions (drop i hs))) 1 xs ≡ xs
unfolding name_in
among-past hs i le xs = filled-none (λ g. name_among g (expressions (drop i hs))) 1 xs (λ k. ap (λ es. name_among k (expressions es)) (drop-past hs i le))

greatest-first : (hs : List Expression) (i : ℕ) (d : Expression) → i < length hs → greatest_group (get_or hs i d) ≤ greatest_in (expressions hs)
unfolding greatest_group
greatest-first [] i d lt = absurd (omega arith)
greatest-first (h ∷ hs) zero d lt = omega arith
greatest-first (h ∷ hs) (suc i) d lt = let later = greatest-first hs i d (omega arith) in omega arith

pub greatest-at : (hs : List Expression) (i : ℕ) (h : Expression) → i < length hs → h ≡ get_or hs i h → greatest_group h ≤ greatest_in (expressions hs)
greatest-at hs i h lt at = rw at (greatest-first hs i h lt)

-- A name at one group, in a list of groups from g on.

only-here : (group : ℕ) (name : Option (List ℕ)) (g : ℕ) → group ≡ g → only_at group name g ≡ name
only-here group name g e = cond-true (g == group) name None (grind (arith, nat_tests))

only-there : (group : ℕ) (name : Option (List ℕ)) (g : ℕ) → (g ≡ group → ⊥) → only_at group name g ≡ None
only-there group name g other = cond-false (g == group) name None (grind (arith, nat_tests))

only-past : (group : ℕ) (name : Option (List ℕ)) (g : ℕ) (xs : List (Option (List ℕ))) → group < g → filled (only_at group name) g xs ≡ xs
only-past group name g [] lt = refl
only-past group name g (x ∷ xs) lt = λ i. (ap (option_or x) (only-there group name g (λ e. omega arith)) ∙ or-none x) i ∷ only-past group name (g + 1) xs
    (omega arith) i

pub set-filled : (xs : List (Option (String Global))) (i g group : ℕ) (d new : Option (String Global)) → i < length xs → group ≡ g + i
    → option_map string_bytes (get_or xs i d) ≡ None
    → names_of (slice_set xs i new) ≡ filled (only_at group (option_map string_bytes new)) g (names_of xs)
set-filled [] i g group d new lt e none = absurd (omega arith)
set-filled (x ∷ xs) zero g group d new lt e none =
    let name = option_map string_bytes new in
    let is : group ≡ g = omega arith in
    let first : option_or (option_map string_bytes x) (only_at group name g) ≡ name =
    ap (λ o. option_or o (only_at group name g)) none ∙ only-here group name g is in
    let rest = only-past group name (g + 1) (names_of xs) (omega arith) in
    λ k. sym first k ∷ sym rest k
set-filled (x ∷ xs) (suc i) g group d new lt e none =
    let name = option_map string_bytes new in
    let first : option_or (option_map string_bytes x) (only_at group name g) ≡ option_map string_bytes x =
    ap (option_or (option_map string_bytes x)) (only-there group name g (λ is. omega arith)) ∙ or-none (option_map string_bytes x) in
    let rest = set-filled xs i (g + 1) group d new (omega arith) (omega arith) none in
    λ k. sym first k ∷ rest k

pub kept-filled : (xs : List (Option (String Global))) (i g group : ℕ) (d : Option (String Global)) (old : List ℕ) (name : Option (List ℕ)) → i < length xs
    → group ≡ g + i
    → option_map string_bytes (get_or xs i d) ≡ Some old
    → names_of xs ≡ filled (only_at group name) g (names_of xs)
kept-filled [] i g group d old name lt e some = absurd (omega arith)
kept-filled (x ∷ xs) zero g group d old name lt e some =
    let first : option_or (option_map string_bytes x) (only_at group name g) ≡ option_map string_bytes x =
    ap (λ o. option_or o (only_at group name g)) some ∙ sym some in
    let rest = only-past group name (g + 1) (names_of xs) (omega arith) in
    λ k. sym first k ∷ sym rest k
kept-filled (x ∷ xs) (suc i) g group d old name lt e some =
    let first : option_or (option_map string_bytes x) (only_at group name g) ≡ option_map string_bytes x =
    ap (option_or (option_map string_bytes x)) (only-there group name g (λ is. omega arith)) ∙ or-none (option_map string_bytes x) in
    let rest = kept-filled xs i (g + 1) group d old name (omega arith) (omega arith) some in
    λ k. sym first k ∷ rest k

is-none : (o : Option (String Global)) → is_some o ≡ false → option_map string_bytes o ≡ None
is-none None e = refl
is-none (Some x) e = absurd (true≢false e)

-- what a group is named that had no name
pub name-unnamed : (xs : List (Option (String Global))) (group : ℕ) (x new : Option (String Global)) → 0 < group → group ≤ length xs
    → x ≡ get_or xs (group - 1) x → is_some x ≡ false
    → names_of (slice_set xs (group - 1) new) ≡ filled (only_at group (option_map string_bytes new)) 1 (names_of xs)
name-unnamed xs group x new some within at none =
    set-filled xs (group - 1) 1 group x new (omega arith) (omega arith) (ap (option_map string_bytes) (sym at) ∙ is-none x none)

-- a group that has a name keeps it
pub name-kept : (xs : List (Option (String Global))) (group : ℕ) (x : Option (String Global)) (name : Option (List ℕ)) → 0 < group → group ≤ length xs
    → x ≡ get_or xs (group - 1) x → is_some x ≡ true
    → names_of xs ≡ filled (only_at group name) 1 (names_of xs)
name-kept xs group None name some within at e = absurd (true≢false (sym e))
name-kept xs group (Some x) name some within at e =
    kept-filled xs (group - 1) 1 group (Some x) (string_bytes x) name (omega arith) (omega arith) (ap (option_map string_bytes) (sym at))

pub names-append : (xs ys : List (Option (String Global))) → names_of (xs ++ ys) ≡ names_of xs ++ names_of ys
names-append [] ys = refl
names-append (x ∷ xs) ys = ap (λ zs. option_map string_bytes x ∷ zs) (names-append xs ys)
