-- The normal form of parts whose counts are in order has its counts in order.
use Rattle.std.proofs.Common.{ℕ, zero, suc, ◌≤◌, Bool, true, false, List, [], ◌∷◌, ◌++◌, flat_map, min, Option, Some, None, arith}
use Rattle.std.specs.Prelude.{if◌then◌else◌, IfSome}
use Rattle.rx_model.specs.Text.{Class, scalar_ranges, byte_ranges}
use Rattle.rx_model.specs.Expression.{Expression, Expressions, AreOrdered, AllOrdered, empty, literal, class, look, repetition, capture, concat, alternation, nil, cons}
use Rattle.rx_hir.specs.Length.{maximum_len}
use Rattle.rx_hir.specs.Normal.{literal_of, literal_or, set_of, only_encoding, class_of, is_zero, at_most_one, copies_of, repetition_of, list_of, expressions, parts_of, join_literals, joined, sequence_of, concat_of, alternatives_of, choice_of, alternation_of}

-- those of each of the list are in order
abbrev pub HaveOrder : List Expression → Type 0
HaveOrder hs = AllOrdered (expressions hs)

pub literal-ordered : (bytes : List ℕ) → AreOrdered (literal_of bytes)
unfolding AreOrdered
literal-ordered [] = tt
literal-ordered (b ∷ bytes) = tt

or-ordered : (h : Expression) → AreOrdered h → (o : Option (List ℕ)) → AreOrdered (literal_or h o)
unfolding AreOrdered
or-ordered h own None = own
or-ordered h own (Some bytes) = tt

set-ordered : (members : Class) → AreOrdered (set_of members)
unfolding AreOrdered
set-ordered (scalar_ranges []) = tt
set-ordered (scalar_ranges (r ∷ rs)) = tt
set-ordered (byte_ranges rs) = tt

pub class-ordered : (members : Class) → AreOrdered (class_of members)
class-ordered members = or-ordered (set_of members) (set-ordered members) (only_encoding members)

-- Repetitions.

copies-ordered : (least : ℕ) (greatest : Option ℕ) (greedy : Bool) (sub : Expression) → IfSome greatest (λ m. least ≤ m) → AreOrdered sub
    → AreOrdered (copies_of least greatest greedy sub)
unfolding AreOrdered
copies-ordered zero None greedy sub in_order own = (in_order, own)
copies-ordered zero (Some zero) greedy sub in_order own = tt
copies-ordered zero (Some (suc m)) greedy sub in_order own = (in_order, own)
copies-ordered (suc zero) None greedy sub in_order own = (in_order, own)
copies-ordered (suc zero) (Some zero) greedy sub in_order own = (in_order, own)
copies-ordered (suc zero) (Some (suc zero)) greedy sub in_order own = own
copies-ordered (suc zero) (Some (suc (suc m))) greedy sub in_order own = (in_order, own)
copies-ordered (suc (suc least)) greatest greedy sub in_order own = (in_order, own)

-- where no more than one copy counts
pub at-most-one : (least : ℕ) (greatest : Option ℕ) → IfSome greatest (λ m. least ≤ m) → min least 1 ≤ at_most_one greatest
at-most-one least None in_order = omega arith
at-most-one least (Some m) in_order = omega arith

either-ordered : (b : Bool) (x y : Expression) → AreOrdered x → AreOrdered y → AreOrdered (if b then x else y)
either-ordered true x y first other = first
either-ordered false x y first other = other

pub repetition-ordered : (least : ℕ) (greatest : Option ℕ) (greedy : Bool) (sub : Expression) → IfSome greatest (λ m. least ≤ m) → AreOrdered sub
    → AreOrdered (repetition_of least greatest greedy sub)
repetition-ordered least greatest greedy sub in_order own =
    either-ordered (is_zero (maximum_len sub)) _ _
    (copies-ordered (min least 1) (Some (at_most_one greatest)) greedy sub (at-most-one least greatest in_order) own)
    (copies-ordered least greatest greedy sub in_order own)

-- Lists.

append-ordered : (xs ys : List Expression) → HaveOrder xs → HaveOrder ys → HaveOrder (xs ++ ys)
unfolding AreOrdered
append-ordered [] ys one rest = rest
append-ordered (x ∷ xs) ys one rest = (one.0, append-ordered xs ys one.1 rest)

pub none-ordered : HaveOrder []
unfolding AreOrdered
none-ordered = tt

pub cons-ordered : (h : Expression) (hs : List Expression) → AreOrdered h → HaveOrder hs → HaveOrder (h ∷ hs)
unfolding AreOrdered
cons-ordered h hs one rest = (one, rest)

list-ordered : (subs : Expressions) → AllOrdered subs → HaveOrder (list_of subs)
unfolding AreOrdered
list-ordered nil own = tt
list-ordered (cons h hs) own = (own.0, list-ordered hs own.1)

only-ordered : (h : Expression) → AreOrdered h → HaveOrder (h ∷ [])
only-ordered h own = cons-ordered h [] own none-ordered

flat-ordered : (f : Expression → List Expression) → ((h : Expression) → AreOrdered h → HaveOrder (f h)) → (hs : List Expression) → HaveOrder hs
    → HaveOrder (flat_map f hs)
unfolding AreOrdered
flat-ordered f each [] own = tt
flat-ordered f each (h ∷ hs) own = append-ordered (f h) (flat_map f hs) (each h own.0) (flat-ordered f each hs own.1)

parts-ordered : (h : Expression) → AreOrdered h → HaveOrder (parts_of h)
unfolding AreOrdered
parts-ordered empty own = tt
parts-ordered (concat subs) own = list-ordered subs own
parts-ordered (literal bytes) own = only-ordered (literal bytes) own
parts-ordered (class members) own = only-ordered (class members) own
parts-ordered (look kind) own = only-ordered (look kind) own
parts-ordered (repetition least greatest greedy sub) own = only-ordered (repetition least greatest greedy sub) own
parts-ordered (capture group name sub) own = only-ordered (capture group name sub) own
parts-ordered (alternation subs) own = only-ordered (alternation subs) own

join-ordered : (h : Expression) (hs : List Expression) → AreOrdered h → HaveOrder hs → HaveOrder (join_literals h hs)
unfolding AreOrdered
join-ordered (literal a) (literal b ∷ hs) own rest = (tt, rest.1)
join-ordered h hs own rest = cons-ordered h hs own rest

joined-ordered : (hs : List Expression) → HaveOrder hs → HaveOrder (joined hs)
unfolding AreOrdered
joined-ordered [] own = tt
joined-ordered (h ∷ hs) own = join-ordered h (joined hs) own.0 (joined-ordered hs own.1)

sequence-ordered : (hs : List Expression) → HaveOrder hs → AreOrdered (sequence_of hs)
unfolding AreOrdered
sequence-ordered [] own = tt
sequence-ordered (h ∷ []) own = own.0
sequence-ordered (h ∷ i ∷ hs) own = own

pub concat-ordered : (hs : List Expression) → HaveOrder hs → AreOrdered (concat_of hs)
concat-ordered hs own =
    let parts = flat_map parts_of hs in sequence-ordered (joined parts) (joined-ordered parts (flat-ordered parts_of parts-ordered hs own))

alternatives-ordered : (h : Expression) → AreOrdered h → HaveOrder (alternatives_of h)
unfolding AreOrdered
alternatives-ordered (alternation subs) own = list-ordered subs own
alternatives-ordered empty own = only-ordered empty own
alternatives-ordered (literal bytes) own = only-ordered (literal bytes) own
alternatives-ordered (class members) own = only-ordered (class members) own
alternatives-ordered (look kind) own = only-ordered (look kind) own
alternatives-ordered (repetition least greatest greedy sub) own = only-ordered (repetition least greatest greedy sub) own
alternatives-ordered (capture group name sub) own = only-ordered (capture group name sub) own
alternatives-ordered (concat subs) own = only-ordered (concat subs) own

choice-ordered : (hs : List Expression) → HaveOrder hs → AreOrdered (choice_of hs)
unfolding AreOrdered
choice-ordered [] own = tt
choice-ordered (h ∷ []) own = own.0
choice-ordered (h ∷ i ∷ hs) own = own

pub alternation-ordered : (hs : List Expression) → HaveOrder hs → AreOrdered (alternation_of hs)
alternation-ordered hs own = choice-ordered (flat_map alternatives_of hs) (flat-ordered alternatives_of alternatives-ordered hs own)
