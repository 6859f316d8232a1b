-- Parts in the order in which they are read.
use Rattle.std.proofs.Common.{◌≡◌, ℕ, zero, suc, ◌+◌, ◌-◌, ◌≤◌, ◌<◌, List, [], ◌∷◌, ◌++◌, refl, sym, ◌∙◌, ap, arith, length, get_or, drop, drop-cons}
use Rattle.std.specs.Prelude.{Bool, true, false, map, reverse, Option, if◌then◌else◌}
use Rattle.std.proofs.lemmas.List.{map-append, length-reverse, reverse-append, get_or-reverse}
use Rattle.rx_model.specs.Expression.{Expression, Expressions, empty, literal, class, look, repetition, capture, concat, alternation, nil, cons}
use Rattle.rx_model.specs.Graph as graph
use Rattle.rx_model.specs.Text.{byte_ranges}
use Rattle.rx_model.specs.Length.{minimum_len, is_positive}
use Rattle.rx_hir.specs.Cost.{accounted_in}
use Rattle.rx_hir.specs.Normal.{expressions}
use Rattle.rx_nfa.specs.Directed.{in_order, build_row, build_sides, build_directed, each_directed, build_class}

pub in_order-length : {A : Type 0} (backwards : Bool) (xs : List A) → length (in_order backwards xs) ≡ length xs
in_order-length false xs = refl
in_order-length true xs = length-reverse xs

in_order-at : {A : Type 0} (backwards : Bool) (xs : List A) (k : ℕ) (d : A) → k < length xs
    → get_or (in_order backwards xs) k d ≡ get_or xs (if backwards then length xs - 1 - k else k) d
in_order-at false xs k d lt = refl
in_order-at true xs k d lt = get_or-reverse xs k d lt

-- what stands at the place is read as this one
pub in_order-is : {A : Type 0} (backwards : Bool) (xs : List A) (len k place : ℕ) (x d : A) → len ≡ length xs → k < length xs
    → place ≡ (if backwards then len - 1 - k else k)
    → x ≡ get_or xs place d → x ≡ get_or (in_order backwards xs) k d
in_order-is backwards xs len k place x d long lt at is =
    is ∙ ap (λ n. get_or xs n d) (at ∙ ap (λ n. if backwards then n - 1 - k else k) long) ∙ sym (in_order-at backwards xs k d lt)

-- what is accounted does not depend on the order
accounted_in-append : (xs ys : List Expression) → accounted_in (expressions (xs ++ ys)) ≡ accounted_in (expressions xs) + accounted_in (expressions ys)
accounted_in-append [] ys = omega arith
accounted_in-append (x ∷ xs) ys = let later = accounted_in-append xs ys in omega arith

accounted_in-reverse : (xs : List Expression) → accounted_in (expressions (reverse xs)) ≡ accounted_in (expressions xs)
accounted_in-reverse [] = refl
accounted_in-reverse (x ∷ xs) =
    let turned : reverse (x ∷ xs) ≡ reverse xs ++ x ∷ [] = reverse-append (x ∷ []) xs in
    let same = ap (λ hs. accounted_in (expressions hs)) turned in
    let parts = accounted_in-append (reverse xs) (x ∷ []) in
    let later = accounted_in-reverse xs in
    omega arith

pub accounted-in_order : (backwards : Bool) (hs : List Expression) → accounted_in (expressions (in_order backwards hs)) ≡ accounted_in (expressions hs)
accounted-in_order false hs = refl
accounted-in_order true hs = accounted_in-reverse hs

-- one part more, from the back
pub row-more : (f : Expression → graph.Builder) (hs : List Expression) (k : ℕ) (h d : Expression) → 0 < k → k ≤ length hs → h ≡ get_or hs (k - 1) d
    → map f (drop (k - 1) hs) ≡ f h ∷ map f (drop k hs)
row-more f hs k h d some le is =
    let back : suc (k - 1) ≡ k = omega arith in
    ap (map f) (drop-cons hs (k - 1) d (omega arith)) ∙ (λ i. f (sym is i) ∷ map f (drop (back i) hs))

pub row-none : (f : Expression → graph.Builder) (hs : List Expression) (n : ℕ) → length hs ≤ n → map f (drop n hs) ≡ []
row-none f [] zero le = refl
row-none f [] (suc n) le = refl
row-none f (h ∷ hs) zero le = absurd (omega arith)
row-none f (h ∷ hs) (suc n) le = row-none f hs n (omega arith)

-- the parts of a list
pub each_directed-map : (backwards : Bool) (slot : ℕ → Option ℕ) (hs : List Expression)
    → each_directed backwards slot (expressions hs) ≡ map (build_directed backwards slot) hs
unfolding build_directed
each_directed-map backwards slot [] = refl
each_directed-map backwards slot (h ∷ hs) = ap (λ bs. build_directed backwards slot h ∷ bs) (each_directed-map backwards slot hs)

map-reverse : {A B : Type 0} (f : A → B) (xs : List A) → map f (reverse xs) ≡ reverse (map f xs)
map-reverse f [] = refl
map-reverse f (x ∷ xs) =
    ap (map f) (reverse-append (x ∷ []) xs)
    ∙ map-append f (reverse xs) (x ∷ [])
    ∙ ap (λ ys. ys ++ f x ∷ []) (map-reverse f xs)
    ∙ sym (reverse-append (f x ∷ []) (map f xs))

map-in_order : {A B : Type 0} (f : A → B) (backwards : Bool) (xs : List A) → map f (in_order backwards xs) ≡ in_order backwards (map f xs)
map-in_order f false xs = refl
map-in_order f true xs = map-reverse f xs

pub concat-directed : (backwards : Bool) (slot : ℕ → Option ℕ) (hs : List Expression)
    → build_row (map (build_directed backwards slot) (in_order backwards hs)) ≡ build_directed backwards slot (concat (expressions hs))
unfolding build_directed
concat-directed backwards slot hs =
    ap build_row (map-in_order (build_directed backwards slot) backwards hs ∙ ap (in_order backwards) (sym (each_directed-map backwards slot hs)))

pub alternation-directed : (backwards : Bool) (slot : ℕ → Option ℕ) (hs : List Expression)
    → graph.build_choice (build_sides (map (build_directed backwards slot) hs)) ≡ build_directed backwards slot (alternation (expressions hs))
unfolding build_directed
alternation-directed backwards slot hs = ap (λ bs. graph.build_choice (build_sides bs)) (sym (each_directed-map backwards slot hs))

-- a class of bytes is read alike in both directions
pub class-bytes : (backwards : Bool) (ranges : List (ℕ × ℕ)) → graph.build_state (graph.set (byte_ranges ranges)) ≡ build_class backwards (byte_ranges ranges)
class-bytes false ranges = refl
class-bytes true ranges = refl

-- Forwards, the parts are those of the graph.
module _ (slot : ℕ → Option ℕ) where
  mutual
    unfolding build_directed graph.build

    pub directed-forwards : (h : Expression) → build_directed false slot h ≡ graph.build slot h
    directed-forwards empty = refl
    directed-forwards (literal bytes) = refl
    directed-forwards (class members) = refl
    directed-forwards (look kind) = refl
    directed-forwards (repetition min max greedy sub) = ap (graph.build_repetition (is_positive (minimum_len sub)) min max greedy) (directed-forwards sub)
    directed-forwards (capture group name sub) = ap (graph.build_group (slot group)) (directed-forwards sub)
    directed-forwards (concat subs) = row-forwards subs
    directed-forwards (alternation subs) = ap graph.build_choice (sides-forwards subs)

    row-forwards : (subs : Expressions) → build_row (each_directed false slot subs) ≡ graph.build_in_turn slot subs
    row-forwards nil = refl
    row-forwards (cons sub subs) = λ i. graph.build_then (directed-forwards sub i) (row-forwards subs i)

    sides-forwards : (subs : Expressions) → build_sides (each_directed false slot subs) ≡ graph.build_each slot subs
    sides-forwards nil = refl
    sides-forwards (cons sub subs) = λ i. graph.build_beside (directed-forwards sub i) (sides-forwards subs i)
