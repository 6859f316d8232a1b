-- What is so of a place is so after an escape and a class, and what it tells of a character is so of theirs.
use Rattle.std.proofs.Common.{ℕ, zero, suc, ◌+◌, ◌==◌, Bool, true, false, not, ◌&&◌, ◌||◌, List, length, refl}
use Rattle.std.specs.Prelude.{Option, Some, None, if◌then◌else◌, nat_lt}
use Rattle.std.specs.Char.{IsScalar, is_ascii_digit, is_digit}
use Rattle.std.specs.List.{All}
use Rattle.std.specs.Str.Parse.{digits_value}
use Rattle.std.proofs.lemmas.List.Elements.{All-nil, All-cons}
use lib.Utf8.{scalar}
use Rattle.rx_sets.specs.Ascii.{ascii_named}
use Rattle.rx_sets.specs.declared.ascii.ClassAsciiKind.{ClassAsciiKind}
use Rattle.rx_sets.specs.declared.perl.ClassPerlKind.{ClassPerlKind}
use Rattle.rx_reader.specs.declared.assertion.AssertionKind.{AssertionKind}
use Rattle.rx_reader.specs.declared.escape.Escaped.{Escaped}
use Rattle.rx_reader.specs.declared.escape.Escaped.TheVariants.{Character, Assertion, Perl, Property}
use Rattle.rx_reader.specs.declared.escape.NameIn.TheVariants.{Braces, Brackets}
use Rattle.rx_reader.specs.declared.class.ClassMember.{ClassMember}
use Rattle.rx_reader.specs.declared.class.ClassMember.TheVariants.{One, Many}
use Rattle.rx_reader.specs.declared.class_item.ClassItem.{ClassItem}
use Rattle.rx_reader.specs.Characters.{AllInItem, AllInAtom}
use Rattle.rx_reader.specs.Reading.{Place, Read, at_end, first, past, ◌∈◌, is_at, begins, passes, past_if, past_while, past_all, past_white}
use Rattle.rx_reader.specs.Ahead.{past_n}
use Rattle.rx_reader.specs.Escapes.{leading, in_name, digits, numbered, hex_digits, hex_in_braces, hex, octal_digits, property_in_braces, property, perl_class, assertion, is_escapable, escaped_character, by_letter, one_letter, boundary, known, lettered, escape}
use Rattle.rx_reader.specs.Classes.{plain, item_of, escaped_member, posix_named, posix_name, posix, is_set_operator, range_of, member, begins_range, class_range, item_at, class_item, with_item, class_items, class}
use Rattle.rx_reader.proofs.lemmas.places.GivesLemmas.{Gives, refused, reads, bind, test, Carries}

-- of the character that an escape stands for
abbrev pub AllInEscaped : (ℕ → Type 0) → Escaped → Type 0
AllInEscaped S (Character c) = S c.character
AllInEscaped S (Assertion kind) = Unit {0}
AllInEscaped S (Perl kind negated) = Unit {0}
AllInEscaped S (Property name negated) = Unit {0}

-- of those of a member of a class
abbrev AllInMember : (ℕ → Type 0) → ClassMember → Type 0
AllInMember S (One c) = S c.character
AllInMember S (Many item) = AllInItem S item

abbrev AllIf : {A : Type 0} → (A → Type 0) → Option A → Type 0
AllIf P None = Unit {0}
AllIf P (Some a) = P a

module _ (K : Place → Type 0) (S : ℕ → Type 0) (go : Carries K S) where
  pub past_n-keeps : (n : ℕ) (p : Place) → K p → K (past_n n p)
  unfolding past_n
  past_n-keeps zero p at = at
  past_n-keeps (suc n) p at = past_n-keeps n (past p) (go.on p at)

  past_if-keeps : (more : Place → Place) → ((q : Place) → K q → K (more q)) → (p : Place) (b : Bool) → K p → K (past_if more p b)
  past_if-keeps more h p true at = h (past p) (go.on p at)
  past_if-keeps more h p false at = at

  past_while-keeps : (goes : ℕ → Bool) (n : ℕ) (p : Place) → K p → K (past_while goes n p)
  unfolding past_while
  past_while-keeps goes zero p at = at
  past_while-keeps goes (suc n) p at = past_if-keeps (past_while goes n) (past_while-keeps goes n) p (passes goes p) at

  pub past_white-keeps : (skips : Bool) (p : Place) → K p → K (past_white skips p)
  past_white-keeps true p at = past_while-keeps _ (length p.text) p at
  past_white-keeps false p at = at

  -- Escapes.

  abbrev KeepsEscaped : Read Escaped → Type 0
  KeepsEscaped r = Gives (λ e q. AllInEscaped S e × K q) r

  numbered-keeps : (from : Place) (is_hex_byte : Bool) (code : ℕ) (q : Place) → K q → KeepsEscaped (numbered from is_hex_byte code q)
  numbered-keeps from is_hex_byte code q at = test (scalar code) (λ is. reads (go.scalars code is, at)) (λ _. refused)

  hex_digits-keeps : (from : Place) (count : ℕ) (p : Place) → K p → KeepsEscaped (hex_digits from count p)
  unfolding hex_digits
  hex_digits-keeps from count p at =
      let many = length (digits 16 count p) in
      test (many == count) (λ _. numbered-keeps from (count == 2) (digits_value 16 (digits 16 count p)) (past_n many p) (past_n-keeps many p at)) (λ _. refused)

  hex_in_braces-keeps : (from p : Place) → K p → KeepsEscaped (hex_in_braces from p)
  unfolding hex_in_braces
  hex_in_braces-keeps from p at =
      let many = length (digits 16 8 p) in
      let q = past_n many p in
      test (many == 0 || not (is_at "}" q)) (λ _. refused) (λ _. numbered-keeps from false (digits_value 16 (digits 16 8 p)) (past q)
      (go.on q (past_n-keeps many p at)))

  hex-keeps : (from : Place) (count : ℕ) (p : Place) → K p → KeepsEscaped (hex from count p)
  unfolding hex
  hex-keeps from count p at = test (is_at "{" p) (λ _. hex_in_braces-keeps from (past p) (go.on p at)) (λ _. hex_digits-keeps from count p at)

  octal_digits-keeps : (from p : Place) → K p → KeepsEscaped (octal_digits from p)
  unfolding octal_digits
  octal_digits-keeps from p at =
      let many = length (digits 8 3 p) in
      numbered-keeps from false (digits_value 8 (digits 8 3 p)) (past_n many p) (past_n-keeps many p at)

  property_in_braces-keeps : (from : Place) (negated : Bool) (p : Place) → K p → KeepsEscaped (property_in_braces from negated p)
  unfolding property_in_braces
  property_in_braces-keeps from negated p at =
      let q = past_all (in_name Braces) p in
      test (at_end q) (λ _. refused) (λ _. reads (tt, go.on q (past_while-keeps (in_name Braces) (length p.text) p at)))

  property-keeps : (from : Place) (negated : Bool) (p : Place) → K p → KeepsEscaped (property from negated p)
  unfolding property
  property-keeps from negated p at =
      let q = past p in
      let on = go.on p at in
      test (at_end p) (λ _. refused) (λ _. test (not (is_at "{" p)) (λ _. reads (tt, on)) (λ _.
      test (is_at "^" q) (λ _. property_in_braces-keeps from (not negated) (past q) (go.on q on)) (λ _. property_in_braces-keeps from negated q on)))

  either-keeps : (b : Bool) (x y : AssertionKind × Place) → K x.1 → K y.1 → K (if b then x else y).1
  either-keeps true x y a b = a
  either-keeps false x y a b = b

  boundary-keeps : (p : Place) → K p → K (boundary p).1
  unfolding boundary
  boundary-keeps p at =
      either-keeps (begins "{start}" p) _ _ (past_n-keeps 7 p at) (either-keeps (begins "{end}" p) _ _ (past_n-keeps 5 p at)
      (either-keeps (begins "{start-half}" p) _ _ (past_n-keeps 12 p at) (either-keeps (begins "{end-half}" p) _ _ (past_n-keeps 10 p at) at)))

  -- a letter stands for a scalar, or for itself
  listed-keeps : (c : ℕ) (b : Bool) (rest : Option ℕ) → IsScalar c → AllIf S rest → AllIf S (if b then Some c else rest)
  listed-keeps c true rest is h = go.scalars c is
  listed-keeps c false rest is h = h

  itself-keeps : (c : ℕ) (b : Bool) → S c → AllIf S (if b then Some c else None)
  itself-keeps c true own = own
  itself-keeps c false own = tt

  escaped_character-keeps : (c : ℕ) → S c → AllIf S (escaped_character c)
  escaped_character-keeps c own =
      listed-keeps 0x07 (c ∈ "a") _ refl (listed-keeps 0x0C (c ∈ "f") _ refl (listed-keeps 0x09 (c ∈ "t") _ refl (listed-keeps 0x0A (c ∈ "n") _ refl
      (listed-keeps 0x0D (c ∈ "r") _ refl (listed-keeps 0x0B (c ∈ "v") _ refl (itself-keeps c (is_escapable c) own))))))

  by_letter-keeps : (set : Option (ClassPerlKind × Bool)) (found : Option AssertionKind) (char : Option ℕ) → AllIf S char
      → AllIf (AllInEscaped S) (by_letter set found char)
  by_letter-keeps (Some set) found char h = tt
  by_letter-keeps None (Some kind) char h = tt
  by_letter-keeps None None (Some c) h = h
  by_letter-keeps None None None h = tt

  one_letter-keeps : (c : ℕ) → S c → AllIf (AllInEscaped S) (one_letter c)
  unfolding one_letter
  one_letter-keeps c own = by_letter-keeps (perl_class c) (assertion c) (escaped_character c) (escaped_character-keeps c own)

  known-keeps : (p q : Place) (found : Option Escaped) → AllIf (AllInEscaped S) found → K q → KeepsEscaped (known p q found)
  known-keeps p q (Some e) own at = reads (own, go.on q at)
  known-keeps p q None own at = refused

  lettered-keeps : (p q : Place) → K q → KeepsEscaped (lettered p q)
  unfolding lettered
  lettered-keeps p q at =
      let c = first q in
      let r = past q in
      let on = go.on q at in
      test (c ∈ "x") (λ _. hex-keeps p 2 r on) (λ _. test (c ∈ "u") (λ _. hex-keeps p 4 r on) (λ _. test (c ∈ "U") (λ _. hex-keeps p 8 r on) (λ _.
      test (c ∈ "p") (λ _. property-keeps p false r on) (λ _. test (c ∈ "P") (λ _. property-keeps p true r on) (λ _.
      test (c ∈ "b") (λ _. reads (tt, boundary-keeps r on)) (λ _. known-keeps p q (one_letter c) (one_letter-keeps c (go.first q at)) at))))))

  pub escape-keeps : (octal : Bool) (p : Place) → K p → KeepsEscaped (escape octal p)
  unfolding escape
  escape-keeps octal p at =
      let q = past p in
      let on = go.on p at in
      test (at_end q) (λ _. refused) (λ _. test (octal && is_digit (first q) 8) (λ _. octal_digits-keeps p q on) (λ _.
      test (not octal && is_ascii_digit (first q)) (λ _. refused) (λ _. lettered-keeps p q on)))

  -- Classes.

  abbrev KeepsMember : Read ClassMember → Type 0
  KeepsMember r = Gives (λ m q. AllInMember S m × K q) r

  abbrev KeepsItem : Read ClassItem → Type 0
  KeepsItem r = Gives (λ item q. AllInItem S item × K q) r

  abbrev KeepsItems : Read (List ClassItem) → Type 0
  KeepsItems r = Gives (λ items q. All (AllInItem S) items × K q) r

  escaped_member-keeps : (p : Place) (e : Escaped) (q : Place) → AllInEscaped S e → K q → KeepsMember (escaped_member p (e, q))
  escaped_member-keeps p (Character c) q own at = reads (own, at)
  escaped_member-keeps p (Perl kind negated) q own at = reads (tt, at)
  escaped_member-keeps p (Property name negated) q own at = reads (tt, at)
  escaped_member-keeps p (Assertion kind) q own at = refused

  posix_named-keeps : (p : Place) (negated : Bool) (kind : Option ClassAsciiKind) (q : Place) → K q → KeepsItem (posix_named p negated kind q)
  posix_named-keeps p negated (Some kind) q at = reads (tt, past_n-keeps 2 q at)
  posix_named-keeps p negated None q at = refused

  posix_name-keeps : (from : Place) (negated : Bool) (p : Place) → K p → KeepsItem (posix_name from negated p)
  unfolding posix_name
  posix_name-keeps from negated p at =
      let q = past_all (in_name Brackets) p in
      test (begins ":]" q) (λ _. posix_named-keeps from negated (ascii_named (leading (in_name Brackets) p.text)) q
      (past_while-keeps (in_name Brackets) (length p.text) p at)) (λ _. refused)

  posix-keeps : (p : Place) → K p → KeepsItem (posix p)
  unfolding posix
  posix-keeps p at =
      test (begins "[:^" p) (λ _. posix_name-keeps p true (past_n 3 p) (past_n-keeps 3 p at)) (λ _.
      test (begins "[:" p) (λ _. posix_name-keeps p false (past_n 2 p) (past_n-keeps 2 p at)) (λ _. refused))

  range_of-keeps : (from : Place) (low high : ClassMember) (q : Place) → AllInMember S low → AllInMember S high → K q → KeepsItem (range_of from low high q)
  range_of-keeps from (One low) (One high) q own other at = test (nat_lt high.character low.character) (λ _. refused) (λ _. reads ((own, other), at))
  range_of-keeps from (One low) (Many high) q own other at = refused
  range_of-keeps from (Many low) high q own other at = refused

  member-keeps : (octal : Bool) (p : Place) → K p → KeepsMember (member octal p)
  unfolding member
  member-keeps octal p at =
      test (is_at "\\" p) (λ _. bind _ (escape-keeps octal p at) (λ e q here. escaped_member-keeps p e q here.0 here.1)) (λ _.
      test (is_at "[" p) (λ _. bind _ (posix-keeps p at) (λ item q here. reads here)) (λ _. reads (go.first p at, go.on p at)))

  item_of-keeps : (m : ClassMember) → AllInMember S m → AllInItem S (item_of m)
  item_of-keeps (One c) own = (own, own)
  item_of-keeps (Many item) own = own

  class_range-keeps : (octal skips : Bool) (from p : Place) (low : ClassMember) (q : Place) → AllInMember S low → K q
      → KeepsItem (class_range octal skips from p low q)
  unfolding class_range
  class_range-keeps octal skips from p low q own at =
      let r = past_white skips (past q) in
      test (not (begins_range skips q)) (λ _. reads (item_of-keeps low own, at))
      (λ _. test (begins "--" q) (λ _. refused) (λ _. test (at_end r) (λ _. refused) (λ _.
      bind _ (member-keeps octal r (past_white-keeps skips (past q) (go.on q at))) (λ high s here. range_of-keeps p low high s own here.0 here.1))))

  item_at-keeps : (octal skips : Bool) (from p : Place) → K p → KeepsItem (item_at octal skips from p)
  unfolding item_at
  item_at-keeps octal skips from p at =
      test (is_set_operator p) (λ _. refused) (λ _. test (is_at "[" p) (λ _. posix-keeps p at) (λ _.
      bind _ (member-keeps octal p at) (λ low q here. class_range-keeps octal skips from p low (past_white skips q) here.0 (past_white-keeps skips q here.1))))

  abbrev KeepsNext : Read (Option ClassItem) → Type 0
  KeepsNext r = Gives (λ item q. AllIf (AllInItem S) item × K q) r

  bracket-keeps : (comes_first : Bool) (c : ℕ) → S c → AllIf (AllInItem S) (if comes_first then Some (item_of (plain c)) else None)
  bracket-keeps true c own = (own, own)
  bracket-keeps false c own = tt

  class_item-keeps : (octal skips : Bool) (from : Place) (comes_first : Bool) (p : Place) → K p → KeepsNext (class_item octal skips from comes_first p)
  unfolding class_item
  class_item-keeps octal skips from comes_first p at =
      let q = past_white skips p in
      let here = past_white-keeps skips p at in
      test (at_end q) (λ _. refused) (λ _. test (is_at "]" q) (λ _. reads (bracket-keeps comes_first (first q) (go.first q here), go.on q here)) (λ _.
      bind _ (item_at-keeps octal skips from q here) (λ item r there. reads there)))

  with_item-keeps : (more : Place → Read (List ClassItem)) (item : Option ClassItem) (q : Place) → AllIf (AllInItem S) item → K q → KeepsItems (more q)
      → KeepsItems (with_item more (item, q))
  with_item-keeps more None q own at h = reads (All-nil (AllInItem S), at)
  with_item-keeps more (Some item) q own at h = bind _ h (λ items r there. reads (All-cons (AllInItem S) item items own there.0, there.1))

  class_items-keeps : (octal skips : Bool) (n : ℕ) (from : Place) (comes_first : Bool) (p : Place) → K p
      → KeepsItems (class_items octal skips n from comes_first p)
  unfolding class_items
  class_items-keeps octal skips zero from comes_first p at = refused
  class_items-keeps octal skips (suc n) from comes_first p at =
      bind _ (class_item-keeps octal skips from comes_first p at)
      (λ item q here. with_item-keeps _ item q here.0 here.1 (class_items-keeps octal skips n from false q here.1))

  pub class-keeps : (octal skips : Bool) (p : Place) → K p → Gives (λ a q. AllInAtom S a × K q) (class octal skips p)
  unfolding class
  class-keeps octal skips p at =
      let q = past_white skips (past p) in
      let inside = if is_at "^" q then past q else q in
      let here : K inside = inside-keeps (is_at "^" q) q (past_white-keeps skips (past p) (go.on p at)) in
      bind _ (class_items-keeps octal skips (length inside.text + 1) p true inside here) (λ items r there. reads there)
    where
      inside-keeps : (b : Bool) (q : Place) → K q → K (if b then past q else q)
      inside-keeps true q at = go.on q at
      inside-keeps false q at = at
