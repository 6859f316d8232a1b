-- The normal form of parts that are UTF-8 is UTF-8.
use Rattle.std.proofs.Common.{◌≡◌, ℕ, zero, suc, ◌==◌, Bool, true, false, List, [], ◌∷◌, ◌++◌, flat_map, min, Option, Some, None, option_map, refl, arith}
use Rattle.std.specs.Prelude.{nat_lt, nat_le, if◌then◌else◌, IfSome, IsUtf8, encode_utf8}
use Rattle.std.specs.Char.{IsScalar}
use Rattle.std.specs.Str.{is_utf8 as is_utf8_text}
use Rattle.std.proofs.lemmas.Bool.{and_parts, and_from}
use Rattle.std.proofs.lemmas.Bool.Decides.{nat_tests}
use Rattle.std.proofs.lemmas.Str.{IsUtf8-encode, IsUtf8-append, IsUtf8-from_is_utf8, is_utf8-from_IsUtf8}
use Rattle.rx_model.specs.Text.{scalar_ranges, byte_ranges}
use Rattle.rx_model.specs.Expression.{Expression, Expressions, empty, literal, class, look, repetition, capture, concat, alternation, nil, cons}
use Rattle.rx_class.specs.Ranges.{only_member, is_ascii, HaveScalarEnds}
use Rattle.rx_hir.specs.Length.{maximum_len}
use Rattle.rx_hir.specs.Normal.{literal_of, literal_or, set_of, only_encoding, class_of, is_zero, at_most_one, copies_of, repetition_of, list_of, expressions, parts_of, join_literals, joined, sequence_of, concat_of, alternatives_of, choice_of, alternation_of}
use Rattle.rx_hir.specs.Properties.{is_utf8, are_utf8, is_utf8_class}
use Rattle.rx_hir.proofs.Utf8Lemmas.{one-ascii}

abbrev pub HasUtf8 : Expression → Type 0
HasUtf8 h = is_utf8 h ≡ true

-- each of the list is UTF-8
abbrev pub HaveUtf8 : List Expression → Type 0
HaveUtf8 hs = are_utf8 (expressions hs) ≡ true

pub either-utf8 : (b : Bool) (x y : Expression) → (b ≡ true → HasUtf8 x) → (b ≡ false → HasUtf8 y) → HasUtf8 (if b then x else y)
either-utf8 true x y first other = first refl
either-utf8 false x y first other = other refl

pub literal-utf8 : (bytes : List ℕ) → IsUtf8 bytes → HasUtf8 (literal_of bytes)
literal-utf8 [] is = refl
literal-utf8 (b ∷ bytes) is = is_utf8-from_IsUtf8 (b ∷ bytes) is

-- Classes.

or-utf8 : (h : Expression) → HasUtf8 h → (o : Option (List ℕ)) → IfSome o IsUtf8 → HasUtf8 (literal_or h o)
or-utf8 h is None own = is
or-utf8 h is (Some bytes) own = is_utf8-from_IsUtf8 bytes own

set-utf8 : (rs : List (ℕ × ℕ)) → HasUtf8 (set_of (scalar_ranges rs))
set-utf8 [] = refl
set-utf8 (r ∷ rs) = refl

only-scalar : (rs : List (ℕ × ℕ)) → HaveScalarEnds rs → IfSome (option_map encode_utf8 (only_member rs)) IsUtf8
only-scalar [] ends = tt
only-scalar (r ∷ []) ends = if-one (r.0 == r.1) r.0 (ends 0 r (omega arith)).0
  where
    if-one : (b : Bool) (c : ℕ) → IsScalar c → IfSome (option_map encode_utf8 (if b then Some c else None)) IsUtf8
    if-one true c is = IsUtf8-encode c is
    if-one false c is = tt
only-scalar (r ∷ s ∷ rs) ends = tt

pub scalars-utf8 : (rs : List (ℕ × ℕ)) → HaveScalarEnds rs → HasUtf8 (class_of (scalar_ranges rs))
scalars-utf8 rs ends = or-utf8 (set_of (scalar_ranges rs)) (set-utf8 rs) (only_encoding (scalar_ranges rs)) (only-scalar rs ends)

only-byte : (rs : List (ℕ × ℕ)) → is_utf8_class (byte_ranges rs) ≡ true → IfSome (option_map (λ (b : ℕ). b ∷ []) (only_member rs)) IsUtf8
only-byte [] is = tt
only-byte (r ∷ []) is = if-one (r.0 == r.1) r.0 r.1 refl (and_parts (nat_lt r.1 0x80) true is).0
  where
    if-one : (b : Bool) (low high : ℕ) → (low == high) ≡ b → nat_lt high 0x80 ≡ true
        → IfSome (option_map (λ (b : ℕ). b ∷ []) (if b then Some low else None)) IsUtf8
    if-one true low high one small = one-ascii low (grind (arith, nat_tests))
    if-one false low high one small = tt
only-byte (r ∷ s ∷ rs) is = tt

ascii-utf8 : (rs : List (ℕ × ℕ)) → is_ascii rs ≡ true → is_utf8_class (byte_ranges rs) ≡ true
ascii-utf8 [] is = refl
ascii-utf8 (r ∷ rs) is =
    let both = and_parts (nat_le r.1 0x7F) (is_ascii rs) is in
    let small = both.0 in
    let own : nat_lt r.1 0x80 ≡ true = grind (arith, nat_tests) in
    and_from (nat_lt r.1 0x80) (is_utf8_class (byte_ranges rs)) own (ascii-utf8 rs both.1)

-- a class of bytes without one above 7F
pub bytes-utf8 : (rs : List (ℕ × ℕ)) → is_ascii rs ≡ true → HasUtf8 (class_of (byte_ranges rs))
bytes-utf8 rs is = let all = ascii-utf8 rs is in or-utf8 (class (byte_ranges rs)) all (only_encoding (byte_ranges rs)) (only-byte rs all)

-- Repetitions.

copies-utf8 : (least : ℕ) (greatest : Option ℕ) (greedy : Bool) (sub : Expression) → HasUtf8 sub → HasUtf8 (copies_of least greatest greedy sub)
copies-utf8 zero None greedy sub is = is
copies-utf8 zero (Some zero) greedy sub is = refl
copies-utf8 zero (Some (suc m)) greedy sub is = is
copies-utf8 (suc zero) None greedy sub is = is
copies-utf8 (suc zero) (Some zero) greedy sub is = is
copies-utf8 (suc zero) (Some (suc zero)) greedy sub is = is
copies-utf8 (suc zero) (Some (suc (suc m))) greedy sub is = is
copies-utf8 (suc (suc least)) greatest greedy sub is = is

pub repetition-utf8 : (least : ℕ) (greatest : Option ℕ) (greedy : Bool) (sub : Expression) → HasUtf8 sub → HasUtf8 (repetition_of least greatest greedy sub)
repetition-utf8 least greatest greedy sub is =
    either-utf8 (is_zero (maximum_len sub)) _ _
    (λ _. copies-utf8 (min least 1) (Some (at_most_one greatest)) greedy sub is) (λ _. copies-utf8 least greatest greedy sub is)

-- Lists.

append-utf8 : (xs ys : List Expression) → HaveUtf8 xs → HaveUtf8 ys → HaveUtf8 (xs ++ ys)
append-utf8 [] ys first rest = rest
append-utf8 (x ∷ xs) ys first rest =
    let both = and_parts (is_utf8 x) (are_utf8 (expressions xs)) first in
    and_from (is_utf8 x) (are_utf8 (expressions (xs ++ ys))) both.0 (append-utf8 xs ys both.1 rest)

pub cons-utf8 : (h : Expression) (hs : List Expression) → HasUtf8 h → HaveUtf8 hs → HaveUtf8 (h ∷ hs)
cons-utf8 h hs is are = and_from (is_utf8 h) (are_utf8 (expressions hs)) is are

list-utf8 : (subs : Expressions) → are_utf8 subs ≡ true → HaveUtf8 (list_of subs)
list-utf8 nil are = refl
list-utf8 (cons h hs) are = let both = and_parts (is_utf8 h) (are_utf8 hs) are in cons-utf8 h (list_of hs) both.0 (list-utf8 hs both.1)

only-utf8 : (h : Expression) → HasUtf8 h → HaveUtf8 (h ∷ [])
only-utf8 h is = cons-utf8 h [] is refl

parts-utf8 : (h : Expression) → HasUtf8 h → HaveUtf8 (parts_of h)
parts-utf8 empty is = refl
parts-utf8 (concat subs) is = list-utf8 subs is
parts-utf8 (literal bytes) is = only-utf8 (literal bytes) is
parts-utf8 (class members) is = only-utf8 (class members) is
parts-utf8 (look kind) is = only-utf8 (look kind) is
parts-utf8 (repetition least greatest greedy sub) is = only-utf8 (repetition least greatest greedy sub) is
parts-utf8 (capture group name sub) is = only-utf8 (capture group name sub) is
parts-utf8 (alternation subs) is = only-utf8 (alternation subs) is

flat-utf8 : (f : Expression → List Expression) → ((h : Expression) → HasUtf8 h → HaveUtf8 (f h)) → (hs : List Expression) → HaveUtf8 hs
    → HaveUtf8 (flat_map f hs)
flat-utf8 f each [] are = refl
flat-utf8 f each (h ∷ hs) are =
    let both = and_parts (is_utf8 h) (are_utf8 (expressions hs)) are in
    append-utf8 (f h) (flat_map f hs) (each h both.0) (flat-utf8 f each hs both.1)

join-utf8 : (h : Expression) (hs : List Expression) → HasUtf8 h → HaveUtf8 hs → HaveUtf8 (join_literals h hs)
join-utf8 (literal a) (literal b ∷ hs) is are =
    let both = and_parts (is_utf8_text b) (are_utf8 (expressions hs)) are in
    let whole = IsUtf8-append a b (IsUtf8-from_is_utf8 a is) (IsUtf8-from_is_utf8 b both.0) in
    cons-utf8 (literal (a ++ b)) hs (is_utf8-from_IsUtf8 (a ++ b) whole) both.1
join-utf8 h hs is are = cons-utf8 h hs is are

joined-utf8 : (hs : List Expression) → HaveUtf8 hs → HaveUtf8 (joined hs)
joined-utf8 [] are = refl
joined-utf8 (h ∷ hs) are =
    let both = and_parts (is_utf8 h) (are_utf8 (expressions hs)) are in join-utf8 h (joined hs) both.0 (joined-utf8 hs both.1)

sequence-utf8 : (hs : List Expression) → HaveUtf8 hs → HasUtf8 (sequence_of hs)
sequence-utf8 [] are = refl
sequence-utf8 (h ∷ []) are = (and_parts (is_utf8 h) true are).0
sequence-utf8 (h ∷ i ∷ hs) are = are

pub concat-utf8 : (hs : List Expression) → HaveUtf8 hs → HasUtf8 (concat_of hs)
concat-utf8 hs are =
    let parts = flat_map parts_of hs in sequence-utf8 (joined parts) (joined-utf8 parts (flat-utf8 parts_of parts-utf8 hs are))

alternatives-utf8 : (h : Expression) → HasUtf8 h → HaveUtf8 (alternatives_of h)
alternatives-utf8 (alternation subs) is = list-utf8 subs is
alternatives-utf8 empty is = refl
alternatives-utf8 (literal bytes) is = only-utf8 (literal bytes) is
alternatives-utf8 (class members) is = only-utf8 (class members) is
alternatives-utf8 (look kind) is = only-utf8 (look kind) is
alternatives-utf8 (repetition least greatest greedy sub) is = only-utf8 (repetition least greatest greedy sub) is
alternatives-utf8 (capture group name sub) is = only-utf8 (capture group name sub) is
alternatives-utf8 (concat subs) is = only-utf8 (concat subs) is

choice-utf8 : (hs : List Expression) → HaveUtf8 hs → HasUtf8 (choice_of hs)
choice-utf8 [] are = refl
choice-utf8 (h ∷ []) are = (and_parts (is_utf8 h) true are).0
choice-utf8 (h ∷ i ∷ hs) are = are

pub alternation-utf8 : (hs : List Expression) → HaveUtf8 hs → HasUtf8 (alternation_of hs)
alternation-utf8 hs are = choice-utf8 (flat_map alternatives_of hs) (flat-utf8 alternatives_of alternatives-utf8 hs are)
