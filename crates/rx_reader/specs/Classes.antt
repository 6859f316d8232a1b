-- What stands between brackets.
use Rattle.std.specs.Prelude.{ℕ, zero, suc, ◌+◌, Bool, true, false, not, ◌&&◌, ◌||◌, nat_eq, nat_lt, List, [], ◌∷◌, length, drop, codes, Option, Some, None, Ok, if◌then◌else◌}
use Rattle.std.specs.List.{prefix_len, starts_with}
use Rattle.std.specs.Char.{is_whitespace}
use Rattle.rx_sets.specs.Ascii.{ascii_named}
use Rattle.rx_sets.specs.declared.ascii.ClassAsciiKind.{ClassAsciiKind}
use Rattle.rx_reader.specs.declared.error.SyntaxErrorKind.TheVariants.{UnclosedClass, ClassRange, Escape, Unsupported}
use Rattle.rx_reader.specs.declared.atom.Atom.{Atom}
use Rattle.rx_reader.specs.declared.atom.Atom.TheVariants.{Bracketed}
use Rattle.rx_reader.specs.declared.class.ClassMember.{ClassMember}
use Rattle.rx_reader.specs.declared.class.ClassMember.TheVariants.{One, Many}
use Rattle.rx_reader.specs.declared.class_item.ClassItem.{ClassItem}
use Rattle.rx_reader.specs.declared.class_item.ClassItem.TheVariants.{Range, Perl, Posix, Property}
use Rattle.rx_reader.specs.declared.escape.NameIn.TheVariants.{Brackets}
use Rattle.rx_reader.specs.declared.escape.Escaped.{Escaped}
use Rattle.rx_reader.specs.declared.escape.Escaped.TheVariants.{Character, Assertion, Perl as EscapedPerl, Property as EscapedProperty}
use Rattle.rx_reader.specs.Ahead.{past_n}
use Rattle.rx_reader.specs.Reading.{Place, Read, ◌>>=◌, refuse, at_end, piece_of, first, past, is_at, begins, past_all, past_white}
use Rattle.rx_reader.specs.Escapes.{leading, in_name, escape}

-- a character that stands for itself
abbrev pub plain : ℕ → ClassMember
plain c = One (record { character = c; is_hex_byte = false })

-- a member as an item
abbrev pub item_of : ClassMember → ClassItem
item_of (One c) = Range c c
item_of (Many item) = item

-- what the escape from p to q stands for in a class, where no assertion stands
abbrev pub escaped_member : (p : Place) → Escaped × Place → Read ClassMember
escaped_member p (Character c, q) = Ok (One c, q)
escaped_member p (EscapedPerl kind negated, q) = Ok (Many (Perl kind negated), q)
escaped_member p (EscapedProperty name negated, q) = Ok (Many (Property negated (piece_of p q) name), q)
escaped_member p (Assertion kind, q) = refuse Escape p q

-- the set of that name, which ends before the place q; where there is none the bracket at p is refused
abbrev pub posix_named : (p : Place) → (negated : Bool) → Option ClassAsciiKind → (q : Place) → Read ClassItem
posix_named p negated (Some kind) q = Ok (Posix kind negated, past_n 2 q)
posix_named p negated None q = refuse Unsupported p (past p)

-- `name:]`, in brackets that were opened at `from`
unfoldable pub posix_name : (from : Place) → (negated : Bool) → Place → Read ClassItem
posix_name from negated p =
    let name = leading (in_name Brackets) p.text in
    let q = past_all (in_name Brackets) p in
    if begins ":]" q then posix_named from negated (ascii_named name) q else refuse Unsupported from (past from)

-- `[:name:]` or `[:^name:]`; any other bracket is refused
unfoldable pub posix : Place → Read ClassItem
posix p =
    if begins "[:^" p then posix_name p true (past_n 3 p)
    else if begins "[:" p then posix_name p false (past_n 2 p)
    else refuse Unsupported p (past p)

-- `&&`, `--` or `~~`
abbrev pub is_set_operator : Place → Bool
is_set_operator p = begins "&&" p || begins "--" p || begins "~~" p

-- the range of two members, which were read from the place `from` to the place q
abbrev pub range_of : (from : Place) → ClassMember → ClassMember → (q : Place) → Read ClassItem
range_of from (One low) (One high) q = if nat_lt high.character low.character then refuse ClassRange from q else Ok (Range low high, q)
range_of from (One low) (Many high) q = refuse ClassRange from q
range_of from (Many low) high q = refuse ClassRange from q

-- the member at the place, which isn't the end
unfoldable pub member : (octal : Bool) → Place → Read ClassMember
member octal p =
    if is_at "\\" p then escape octal p >>= escaped_member p
    else if is_at "[" p then (posix p >>= λ (item, q). Ok (Many item, q))
    else Ok (plain (first p), past p)

-- the text, past its white space where that is skipped
abbrev pub next_text : (skips : Bool) → List ℕ → List ℕ
next_text true text = drop (prefix_len is_whitespace text) text
next_text false text = text

-- a hyphen, and not one before the closing bracket
abbrev pub begins_range : (skips : Bool) → Place → Bool
begins_range skips p = is_at "-" p && not (starts_with nat_eq (next_text skips (drop 1 p.text)) (codes "]"))

-- the item before the others, or none at the end
abbrev pub with_item : (more : Place → Read (List ClassItem)) → Option ClassItem × Place → Read (List ClassItem)
with_item more (None, q) = Ok ([], q)
with_item more (Some item, q) = more q >>= λ (items, r). Ok (item ∷ items, r)

-- Digits of base 8 are read in escapes where `octal` is set; where `skips` is set, white space is skipped.
module _ (octal skips : Bool) where
  -- The item that begins with the member `low` at p; q is the place after that member, and `from` the place of the
  -- bracket that opened the class.
  unfoldable pub class_range : (from p : Place) → (low : ClassMember) → (q : Place) → Read ClassItem
  class_range from p low q =
      let r = past_white skips (past q) in
      if not (begins_range skips q) then Ok (item_of low, q)
      else if begins "--" q then refuse Unsupported q (past_n 2 q)
      else if at_end r then refuse UnclosedClass from (past from)
      else member octal r >>= λ (high, s). range_of p low high s

  -- The item at the place, where the class neither ends nor closes. No range begins with a set of a POSIX name.
  unfoldable pub item_at : (from : Place) → Place → Read ClassItem
  item_at from p =
      if is_set_operator p then refuse Unsupported p (past_n 2 p)
      else if is_at "[" p then posix p
      else member octal p >>= λ (low, q). class_range from p low (past_white skips q)

  -- The next item; None at the bracket that closes the class. A bracket that comes first is itself, and begins no range.
  unfoldable pub class_item : (from : Place) → (comes_first : Bool) → Place → Read (Option ClassItem)
  class_item from comes_first p =
      let q = past_white skips p in
      let bracket = item_of (plain (first q)) in
      if at_end q then refuse UnclosedClass from (past from)
      else if is_at "]" q then Ok (if comes_first then Some bracket else None, past q)
      else item_at from q >>= λ (item, r). Ok (Some item, r)

  -- the items up to the closing bracket; each call reads an item, and the number bounds the calls
  unfoldable pub class_items : ℕ → (from : Place) → (comes_first : Bool) → Place → Read (List ClassItem)
  class_items zero from comes_first p = refuse UnclosedClass from (past from)
  class_items (suc n) from comes_first p = class_item from comes_first p >>= with_item (class_items n from false)

  abbrev pub all_class_items : (from : Place) → (comes_first : Bool) → Place → Read (List ClassItem)
  all_class_items from comes_first p = class_items (length p.text + 1) from comes_first p

  -- from the opening bracket to the closing one
  unfoldable pub class : Place → Read Atom
  class p = do
    let inside = past_white skips (past p)
    let negated = is_at "^" inside
    (items, q) ← all_class_items p true (if negated then past inside else inside)
    Ok (Bracketed negated items, q)
