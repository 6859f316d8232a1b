-- Where escapes and classes end.
use Rattle.std.proofs.Common.{◌≡◌, ℕ, zero, suc, ◌+◌, ◌<◌, ◌≤◌, ◌==◌, Bool, true, false, not, ◌&&◌, ◌||◌, List, ◌∷◌, length, Ok, refl, ◌∙◌, ap, arith, add-one}
use Rattle.std.specs.Prelude.{Option, Some, None, if◌then◌else◌, nat_lt}
use Rattle.std.specs.Char.{is_ascii_digit, is_digit}
use Rattle.std.specs.Str.Parse.{digits_value}
use lib.Utf8.{scalar}
use Rattle.rx_sets.specs.Ascii.{ascii_named}
use Rattle.rx_sets.specs.declared.ascii.ClassAsciiKind.{ClassAsciiKind}
use Rattle.rx_reader.specs.declared.assertion.AssertionKind.{AssertionKind}
use Rattle.rx_reader.specs.declared.escape.Escaped.{Escaped}
use Rattle.rx_reader.specs.declared.escape.Escaped.TheVariants.{Character, Assertion, Perl, Property}
use Rattle.rx_reader.specs.declared.escape.NameIn.TheVariants.{Braces, Brackets}
use Rattle.rx_reader.specs.declared.class.ClassMember.{ClassMember}
use Rattle.rx_reader.specs.declared.class.ClassMember.TheVariants.{One, Many}
use Rattle.rx_reader.specs.declared.class_item.ClassItem.{ClassItem}
use Rattle.rx_reader.specs.Reading.{Place, Read, ◌>>=◌, at_end, first, past, ◌∈◌, is_at, begins, passes, past_if, past_while, past_all, past_white}
use Rattle.rx_reader.specs.Ahead.{past_n}
use Rattle.rx_reader.specs.Escapes.{leading, in_name, digits, numbered, hex_digits, hex_in_braces, hex, octal_digits, property_in_braces, property, one_letter, boundary, known, lettered, escape}
use Rattle.rx_reader.specs.Classes.{escaped_member, posix_named, posix_name, posix, is_set_operator, range_of, member, begins_range, class_range, item_at, class_item, with_item, class_items, all_class_items, class}
use Rattle.rx_reader.proofs.lemmas.branches.EndLemmas.{EndsBelow, refused, reads, bind, test, same_bind, weaker, at_end_of, past_le, past_lt}

pub past_n-le : (n : ℕ) (p : Place) → length (past_n n p).text ≤ length p.text
unfolding past_n
past_n-le zero p = omega arith
past_n-le (suc n) p = omega (arith, past_n-le n (past p), past_le p)

past_if-le : (more : Place → Place) → ((q : Place) → length (more q).text ≤ length q.text) → (p : Place) (b : Bool)
    → length (past_if more p b).text ≤ length p.text
past_if-le more h p true = omega (arith, h (past p), past_le p)
past_if-le more h p false = omega arith

past_while-le : (goes : ℕ → Bool) (n : ℕ) (p : Place) → length (past_while goes n p).text ≤ length p.text
unfolding past_while
past_while-le goes zero p = omega arith
past_while-le goes (suc n) p = past_if-le (past_while goes n) (past_while-le goes n) p (passes goes p)

pub past_white-le : (skips : Bool) (p : Place) → length (past_white skips p).text ≤ length p.text
past_white-le true p = past_while-le _ (length p.text) p
past_white-le false p = omega arith

-- Escapes.

numbered-ends : (n : ℕ) (from : Place) (is_hex_byte : Bool) (code : ℕ) (q : Place) → length q.text < n → EndsBelow n (numbered from is_hex_byte code q)
numbered-ends n from is_hex_byte code q lt = test (scalar code) (λ _. reads lt) (λ _. refused _ _)

hex_digits-ends : (n : ℕ) (from : Place) (count : ℕ) (p : Place) → length p.text < n → EndsBelow n (hex_digits from count p)
unfolding hex_digits
hex_digits-ends n from count p lt =
    let many = length (digits 16 count p) in
    test (many == count) (λ _. numbered-ends n from (count == 2) (digits_value 16 (digits 16 count p)) (past_n many p) (omega (arith, lt, past_n-le many p)))
    (λ _. refused _ _)

hex_in_braces-ends : (n : ℕ) (from p : Place) → length p.text < n → EndsBelow n (hex_in_braces from p)
unfolding hex_in_braces
hex_in_braces-ends n from p lt =
    let many = length (digits 16 8 p) in
    let q = past_n many p in
    test (many == 0 || not (is_at "}" q)) (λ _. refused _ _) (λ _. numbered-ends n from false (digits_value 16 (digits 16 8 p)) (past q)
    (omega (arith, lt, past_n-le many p, past_le q)))

hex-ends : (n : ℕ) (from : Place) (count : ℕ) (p : Place) → length p.text < n → EndsBelow n (hex from count p)
unfolding hex
hex-ends n from count p lt =
    test (is_at "{" p) (λ _. hex_in_braces-ends n from (past p) (omega (arith, lt, past_le p))) (λ _. hex_digits-ends n from count p lt)

octal_digits-ends : (n : ℕ) (from p : Place) → length p.text < n → EndsBelow n (octal_digits from p)
unfolding octal_digits
octal_digits-ends n from p lt =
    let many = length (digits 8 3 p) in
    numbered-ends n from false (digits_value 8 (digits 8 3 p)) (past_n many p) (omega (arith, lt, past_n-le many p))

property_in_braces-ends : (n : ℕ) (from : Place) (negated : Bool) (p : Place) → length p.text < n → EndsBelow n (property_in_braces from negated p)
unfolding property_in_braces
property_in_braces-ends n from negated p lt =
    let q = past_all (in_name Braces) p in
    test (at_end q) (λ _. refused _ _) (λ _. reads (omega (arith, lt, past_while-le (in_name Braces) (length p.text) p, past_le q)))

property-ends : (n : ℕ) (from : Place) (negated : Bool) (p : Place) → length p.text < n → EndsBelow n (property from negated p)
unfolding property
property-ends n from negated p lt =
    let q = past p in
    let le = past_le p in
    test (at_end p) (λ _. refused _ _) (λ _. test (not (is_at "{" p)) (λ _. reads (omega (arith, lt, le))) (λ _.
    test (is_at "^" q) (λ _. property_in_braces-ends n from (not negated) (past q) (omega (arith, lt, le, past_le q))) (λ _.
    property_in_braces-ends n from negated q (omega (arith, lt, le)))))

either-le : (n : ℕ) (b : Bool) (x y : AssertionKind × Place) → length x.1.text ≤ n → length y.1.text ≤ n → length (if b then x else y).1.text ≤ n
either-le n true x y g h = g
either-le n false x y g h = h

boundary-le : (p : Place) → length (boundary p).1.text ≤ length p.text
unfolding boundary
boundary-le p =
    either-le _ (begins "{start}" p) _ _ (past_n-le 7 p) (either-le _ (begins "{end}" p) _ _ (past_n-le 5 p)
    (either-le _ (begins "{start-half}" p) _ _ (past_n-le 12 p) (either-le _ (begins "{end-half}" p) _ _ (past_n-le 10 p) (omega arith))))

known-ends : (n : ℕ) (p q : Place) (found : Option Escaped) → length q.text < n → EndsBelow n (known p q found)
known-ends n p q (Some e) lt = reads (omega (arith, lt, past_le q))
known-ends n p q None lt = refused _ _

lettered-ends : (n : ℕ) (p q : Place) → length q.text < n → EndsBelow n (lettered p q)
unfolding lettered
lettered-ends n p q lt =
    let c = first q in
    let r = past q in
    let le : length r.text < n = omega (arith, lt, past_le q) in
    test (c ∈ "x") (λ _. hex-ends n p 2 r le) (λ _. test (c ∈ "u") (λ _. hex-ends n p 4 r le) (λ _. test (c ∈ "U") (λ _. hex-ends n p 8 r le) (λ _.
    test (c ∈ "p") (λ _. property-ends n p false r le) (λ _. test (c ∈ "P") (λ _. property-ends n p true r le) (λ _.
    test (c ∈ "b") (λ _. reads (omega (arith, le, boundary-le r))) (λ _. known-ends n p q (one_letter c) lt))))))

pub escape-ends : (octal : Bool) (p : Place) → 0 < length p.text → EndsBelow (length p.text) (escape octal p)
unfolding escape
escape-ends octal p more =
    let q = past p in
    let n = length p.text in
    let lt : length q.text < n = past_lt p more in
    test (at_end q) (λ _. refused _ _) (λ _. test (octal && is_digit (first q) 8) (λ _. octal_digits-ends n p q lt) (λ _.
    test (not octal && is_ascii_digit (first q)) (λ _. refused _ _) (λ _. lettered-ends n p q lt)))

-- Classes.

escaped_member-ends : (n : ℕ) (p : Place) (e : Escaped) (q : Place) → length q.text < n → EndsBelow n (escaped_member p (e, q))
escaped_member-ends n p (Character c) q lt = reads lt
escaped_member-ends n p (Perl kind negated) q lt = reads lt
escaped_member-ends n p (Property name negated) q lt = reads lt
escaped_member-ends n p (Assertion kind) q lt = refused _ _

posix_named-ends : (n : ℕ) (p : Place) (negated : Bool) (kind : Option ClassAsciiKind) (q : Place) → length q.text < n
    → EndsBelow n (posix_named p negated kind q)
posix_named-ends n p negated (Some kind) q lt = reads (omega (arith, lt, past_n-le 2 q))
posix_named-ends n p negated None q lt = refused _ _

posix_name-ends : (n : ℕ) (from : Place) (negated : Bool) (p : Place) → length p.text < n → EndsBelow n (posix_name from negated p)
unfolding posix_name
posix_name-ends n from negated p lt =
    let q = past_all (in_name Brackets) p in
    test (begins ":]" q) (λ _. posix_named-ends n from negated (ascii_named (leading (in_name Brackets) p.text)) q
    (omega (arith, lt, past_while-le (in_name Brackets) (length p.text) p))) (λ _. refused _ _)

pub past_n-lt : (n : ℕ) (p : Place) → 0 < length p.text → length (past_n (suc n) p).text < length p.text
unfolding past_n
past_n-lt n p more = omega (arith, past_n-le n (past p), past_lt p more)

posix-ends : (p : Place) → 0 < length p.text → EndsBelow (length p.text) (posix p)
unfolding posix
posix-ends p more =
    let n = length p.text in
    test (begins "[:^" p) (λ _. posix_name-ends n p true (past_n 3 p) (past_n-lt 2 p more)) (λ _.
    test (begins "[:" p) (λ _. posix_name-ends n p false (past_n 2 p) (past_n-lt 1 p more)) (λ _. refused _ _))

range_of-ends : (n : ℕ) (from : Place) (low high : ClassMember) (q : Place) → length q.text < n → EndsBelow n (range_of from low high q)
range_of-ends n from (One low) (One high) q lt = test (nat_lt high.character low.character) (λ _. refused _ _) (λ _. reads lt)
range_of-ends n from (One low) (Many high) q lt = refused _ _
range_of-ends n from (Many low) high q lt = refused _ _

member-ends : (octal : Bool) (p : Place) → 0 < length p.text → EndsBelow (length p.text) (member octal p)
unfolding member
member-ends octal p more =
    test (is_at "\\" p) (λ _. bind _ (escape-ends octal p more) (λ e q lt. escaped_member-ends _ p e q lt)) (λ _.
    test (is_at "[" p) (λ _. bind _ (posix-ends p more) (λ item q lt. reads lt)) (λ _. reads (past_lt p more)))

class_range-ends : (octal skips : Bool) (from p : Place) (low : ClassMember) (q : Place)
    → EndsBelow (suc (length q.text)) (class_range octal skips from p low q)
unfolding class_range
class_range-ends octal skips from p low q =
    let r = past_white skips (past q) in
    let le = past_white-le skips (past q) in
    test (not (begins_range skips q)) (λ _. reads (omega arith)) (λ _. test (begins "--" q) (λ _. refused _ _) (λ _. test (at_end r) (λ _. refused _ _) (λ e.
    bind _ (member-ends octal r (at_end_of r e)) (λ high s lt. range_of-ends _ p low high s (omega (arith, lt, le, past_le q))))))

item_at-ends : (octal skips : Bool) (from p : Place) → 0 < length p.text → EndsBelow (length p.text) (item_at octal skips from p)
unfolding item_at
item_at-ends octal skips from p more =
    test (is_set_operator p) (λ _. refused _ _) (λ _. test (is_at "[" p) (λ _. posix-ends p more) (λ _.
    bind _ (member-ends octal p more) (λ low q lt. weaker (omega (arith, lt, past_white-le skips q))
    (class_range-ends octal skips from p low (past_white skips q)))))

class_item-ends : (octal skips : Bool) (from : Place) (comes_first : Bool) (p : Place) → EndsBelow (length p.text) (class_item octal skips from comes_first p)
unfolding class_item
class_item-ends octal skips from comes_first p =
    let q = past_white skips p in
    let le = past_white-le skips p in
    test (at_end q) (λ _. refused _ _) (λ e. test (is_at "]" q) (λ _. reads (omega (arith, le, past_lt q (at_end_of q e)))) (λ _.
    bind _ (item_at-ends octal skips from q (at_end_of q e)) (λ item r lt. reads (omega (arith, lt, le)))))

with_item-ends : (n : ℕ) (more : Place → Read (List ClassItem)) (item : Option ClassItem) (q : Place) → length q.text < n → EndsBelow (length q.text) (more q)
    → EndsBelow n (with_item more (item, q))
with_item-ends n more None q lt h = reads lt
with_item-ends n more (Some item) q lt h = bind _ h (λ items r le. reads (omega (arith, lt, le)))

class_items-ends : (octal skips : Bool) (n : ℕ) (from : Place) (comes_first : Bool) (p : Place)
    → EndsBelow (length p.text) (class_items octal skips n from comes_first p)
unfolding class_items
class_items-ends octal skips zero from comes_first p = refused _ _
class_items-ends octal skips (suc n) from comes_first p =
    bind _ (class_item-ends octal skips from comes_first p) (λ item q lt. with_item-ends _ _ item q lt (class_items-ends octal skips n from false q))

with_item-same : (f g : Place → Read (List ClassItem)) (item : Option ClassItem) (q : Place) → f q ≡ g q → with_item f (item, q) ≡ with_item g (item, q)
with_item-same f g None q h = refl
with_item-same f g (Some item) q h = ap (λ (reading : Read (List ClassItem)). reading >>= λ (items, r). Ok (item ∷ items, r)) h

-- the number of calls doesn't matter where it is above what is left to read
class_items-same : (octal skips : Bool) (n m : ℕ) (from : Place) (comes_first : Bool) (p : Place) → length p.text < n → length p.text < m
    → class_items octal skips n from comes_first p ≡ class_items octal skips m from comes_first p
unfolding class_items
class_items-same octal skips zero m from comes_first p a b = absurd (omega (arith, a))
class_items-same octal skips (suc n) zero from comes_first p a b = absurd (omega (arith, b))
class_items-same octal skips (suc n) (suc m) from comes_first p a b =
    same_bind (class_item octal skips from comes_first p) _ _ (class_item-ends octal skips from comes_first p) (λ item q lt.
    with_item-same _ _ item q (class_items-same octal skips n m from false q (omega (arith, lt, a)) (omega (arith, lt, b))))

class_items-suc : (octal skips : Bool) (n : ℕ) (from : Place) (comes_first : Bool) (p : Place)
    → class_items octal skips (n + 1) from comes_first p ≡ class_item octal skips from comes_first p >>= with_item (class_items octal skips n from false)
unfolding class_items
class_items-suc octal skips n from comes_first p = rw add-one refl

pub all_class_items-step : (octal skips : Bool) (from : Place) (comes_first : Bool) (p : Place)
    → all_class_items octal skips from comes_first p ≡ class_item octal skips from comes_first p >>= with_item (all_class_items octal skips from false)
all_class_items-step octal skips from comes_first p =
    class_items-suc octal skips (length p.text) from comes_first p
    ∙ same_bind (class_item octal skips from comes_first p) (with_item (class_items octal skips (length p.text) from false))
    (with_item (all_class_items octal skips from false)) (class_item-ends octal skips from comes_first p) (λ item q lt.
    with_item-same _ _ item q (class_items-same octal skips (length p.text) (length q.text + 1) from false q lt (omega arith)))

pub class-ends : (octal skips : Bool) (p : Place) → 0 < length p.text → EndsBelow (length p.text) (class octal skips p)
unfolding class
class-ends octal skips p more =
    let q = past_white skips (past p) in
    let inside = if is_at "^" q then past q else q in
    let within : length inside.text ≤ length q.text = inside-le (is_at "^" q) q in
    bind _ (class_items-ends octal skips (length inside.text + 1) p true inside)
    (λ items r lt. reads (omega (arith, lt, within, past_white-le skips (past p), past_lt p more)))
  where
    inside-le : (b : Bool) (q : Place) → length (if b then past q else q).text ≤ length q.text
    inside-le true q = past_le q
    inside-le false q = omega arith
