-- The text of a class in brackets reads as it.
use Rattle.std.proofs.Common.{◌≡◌, ℕ, ◌<◌, ◌≤◌, ◌==◌, Bool, true, false, not, ◌&&◌, List, [], ◌∷◌, ◌++◌, length, Ok, refl, ◌∙◌, ap, sym, subst, append_assoc, arith}
use Rattle.std.proofs.lemmas.Bool.Decides.{nat_tests}
use Rattle.std.specs.Prelude.{codes, nat_eq, nat_lt, flat_map, Option, Some, None, if◌then◌else◌}
use Rattle.std.specs.List.{AllByRecursion, starts_with}
use Rattle.rx_sets.specs.declared.perl.ClassPerlKind.{ClassPerlKind}
use Rattle.rx_sets.specs.declared.perl.ClassPerlKind.TheVariants.{Digit, Space, Word}
use Rattle.rx_reader.specs.declared.config.Config.{Config}
use Rattle.rx_reader.specs.declared.flags.Flags.{Flags}
use Rattle.rx_reader.specs.declared.atom.Atom.{Atom}
use Rattle.rx_reader.specs.declared.atom.Atom.TheVariants.{Bracketed}
use Rattle.rx_reader.specs.declared.class_item.ClassItem.{ClassItem}
use Rattle.rx_reader.specs.declared.class_item.ClassItem.TheVariants.{Range, Perl, Posix, Property}
use Rattle.rx_reader.specs.declared.class_item.ClassCharacter.{ClassCharacter}
use Rattle.rx_reader.specs.declared.class.ClassMember.{ClassMember}
use Rattle.rx_reader.specs.declared.class.ClassMember.TheVariants.{One, Many}
use Rattle.rx_reader.specs.declared.error.SyntaxErrorKind.TheVariants.{UnclosedClass, ClassRange, Unsupported}
use Rattle.rx_reader.specs.declared.escape.Escaped.{Escaped}
use Rattle.rx_reader.specs.declared.token.Token.TheVariants as tokens
use Rattle.rx_reader.specs.Config.{octal_of}
use Rattle.rx_reader.specs.Reading.{Place, Read, ◌>>=◌, refuse, piece_of, at_end, first, past, is_at, begins}
use Rattle.rx_reader.specs.Ahead.{past_n}
use Rattle.rx_reader.specs.Escapes.{escape}
use Rattle.rx_reader.specs.Classes.{plain, item_of, escaped_member, posix, is_set_operator, range_of, member, class_range, item_at, class_item, with_item, all_class_items, class}
use Rattle.rx_reader.specs.Syntax.{atom}
use Rattle.rx_reader.specs.Grammar.{is_operator, bracketed}
use Rattle.rx_reader.specs.Plain.{is_meta, escaped_one}
use Rattle.rx_reader.specs.Printable.{HasItemText}
use Rattle.rx_reader.specs.Printed.{perl_text, class_item_text, class_text}
use Rattle.rx_reader.proofs.lemmas.patterns.PlainLemmas.{apart, escape-itself}
use Rattle.rx_reader.proofs.lemmas.printed.TextLemmas.{onto, goes-on, here, same-number, turned}
use Rattle.rx_reader.proofs.lemmas.printed.AtomTexts.{perl-escapes, Atoms}
use Rattle.rx_reader.proofs.lemmas.tokens.EscapeEnds.{all_class_items-step}
use Rattle.rx_reader.proofs.lemmas.tokens.TokenLemmas.{token-some, begins-class}

-- The character is none of those that mean something in a class; it may be the backslash.
abbrev Bold : ℕ → Type 0
Bold c = (d : ℕ) → is_meta d ≡ true → (92 == d) ≡ false → (c == d) ≡ false

-- with such a character this text begins
abbrev Begins : List ℕ → Type 0
Begins text = (c : ℕ) × (more : List ℕ) × (text ≡ c ∷ more) × Bold c

-- no hyphen stands first
abbrev NoHyphen : List ℕ → Type 0
NoHyphen text = (c : ℕ) × (more : List ℕ) × (text ≡ c ∷ more) × ((c == 45) ≡ false)

one-begins : (c : ℕ) (more : List ℕ) → Begins (escaped_one c ++ more)
one-begins c more = by (is_meta c) refl
  where
    by : (b : Bool) → is_meta c ≡ b → Begins ((if b then codes "\\" ++ c ∷ [] else c ∷ []) ++ more)
    by true is = (92, c ∷ more, refl, λ d meta other. other)
    by false is = (c, more, refl, λ d meta other. apart c d is meta)

perl-begins : (kind : ClassPerlKind) (negated : Bool) (more : List ℕ) → Begins (perl_text kind negated ++ more)
perl-begins Digit false more = (92, 100 ∷ more, refl, λ d meta other. other)
perl-begins Digit true more = (92, 68 ∷ more, refl, λ d meta other. other)
perl-begins Space false more = (92, 115 ∷ more, refl, λ d meta other. other)
perl-begins Space true more = (92, 83 ∷ more, refl, λ d meta other. other)
perl-begins Word false more = (92, 119 ∷ more, refl, λ d meta other. other)
perl-begins Word true more = (92, 87 ∷ more, refl, λ d meta other. other)

item-begins : (item : ClassItem) (more : List ℕ) → HasItemText item → Begins (class_item_text item ++ more)
item-begins (Range low high) more has =
    let l : ℕ = low.character in
    let h : ℕ = high.character in
    let tail : List ℕ = if l == h then [] else codes "-" ++ escaped_one h in
    let found = one-begins l (tail ++ more) in
    (found.0, found.1, append_assoc (escaped_one l) tail more ∙ found.2, found.3)
item-begins (Perl kind negated) more has = perl-begins kind negated more
item-begins (Posix kind negated) more has = absurd has
item-begins (Property negated piece name) more has = absurd has

first-other : (d c : ℕ) (cs : List ℕ) → (c == d) ≡ false → starts_with nat_eq (c ∷ cs) (d ∷ []) ≡ false
first-other d c cs other = rw (turned d c other) refl

second-other : (d c : ℕ) (cs : List ℕ) → (c == d) ≡ false → starts_with nat_eq (d ∷ c ∷ cs) (d ∷ d ∷ []) ≡ false
second-other d c cs other = rw (turned d c other) (grind (arith, nat_tests))

module _ (octal : Bool) where
  -- Members.

  abbrev Members : (text : List ℕ) (m : ClassMember) (rest : List ℕ) (p : Place) → Type 0
  Members text m rest p = (q : Place) × (member octal (onto (text ++ rest) p) ≡ Ok (m, onto rest q))

  member_if : Place → (escapes brackets : Bool) → Read ClassMember
  member_if p escapes brackets =
      if escapes then escape octal p >>= escaped_member p
      else if brackets then (posix p >>= λ (item, q). Ok (Many item, q))
      else Ok (plain (first p), past p)

  after-backslash : (more : List ℕ) (p : Place) (reading : Read Escaped) → escape octal (onto (92 ∷ more) p) ≡ reading
      → member octal (onto (92 ∷ more) p) ≡ reading >>= escaped_member (onto (92 ∷ more) p)
  unfolding member member_if
  after-backslash more p reading is =
      let start : Place = onto (92 ∷ more) p in
      ap (λ (b : Bool). member_if start b (is_at "[" start)) (here "\\" 92 more p) ∙ ap (λ (r : Read Escaped). r >>= escaped_member start) is

  one-reads : (c : ℕ) (rest : List ℕ) (p : Place) → Members (escaped_one c) (plain c) rest p
  unfolding member member_if
  one-reads c rest p = by (is_meta c) refl
    where
      by : (b : Bool) → is_meta c ≡ b → Members (if b then codes "\\" ++ c ∷ [] else c ∷ []) (plain c) rest p
      by true is =
          let start : Place = onto (92 ∷ c ∷ rest) p in
          (past (past start), after-backslash (c ∷ rest) p _ (escape-itself p.groups p.names octal c rest p.at is))
      by false is =
          let start : Place = onto (c ∷ rest) p in (
            past start,
            ap (λ (b : Bool). member_if start b (is_at "[" start)) (here "\\" c rest p ∙ apart c 92 is refl)
                ∙ ap (member_if start false) (here "[" c rest p ∙ apart c 91 is refl),
          )

  perl-at : (d : ℕ) (kind : ClassPerlKind) (negated : Bool) (rest : List ℕ) (p : Place) → perl_text kind negated ≡ 92 ∷ d ∷ []
      → Members (perl_text kind negated) (Many (Perl kind negated)) rest p
  perl-at d kind negated rest p text =
      let found = perl-escapes octal kind negated rest p in
      let is : escape octal (onto (92 ∷ d ∷ rest) p) ≡ Ok (_, onto rest found.0) = ap (λ (t : List ℕ). escape octal (onto (t ++ rest) p)) (sym text)
      ∙ found.1 in
      (found.0, ap (λ (t : List ℕ). member octal (onto (t ++ rest) p)) text ∙ after-backslash (d ∷ rest) p _ is)

  perl-reads : (kind : ClassPerlKind) (negated : Bool) (rest : List ℕ) (p : Place) → Members (perl_text kind negated) (Many (Perl kind negated)) rest p
  perl-reads Digit false rest p = perl-at 100 Digit false rest p refl
  perl-reads Digit true rest p = perl-at 68 Digit true rest p refl
  perl-reads Space false rest p = perl-at 115 Space false rest p refl
  perl-reads Space true rest p = perl-at 83 Space true rest p refl
  perl-reads Word false rest p = perl-at 119 Word false rest p refl
  perl-reads Word true rest p = perl-at 87 Word true rest p refl

  -- Items, where no white space is skipped.

  module _ (from : Place) where
    range_if : Place → ClassMember → Place → (ranges set ends : Bool) → Read ClassItem
    range_if p low q ranges set ends =
        if not ranges then Ok (item_of low, q)
        else if set then refuse Unsupported q (past_n 2 q)
        else if ends then refuse UnclosedClass from (past from)
        else member octal (past q) >>= λ (high, s). range_of p low high s

    -- no hyphen after the member
    alone : (p q : Place) (low : ClassMember) (text : List ℕ) → NoHyphen text → class_range octal false from p low (onto text q) ≡ Ok (item_of low, onto text q)
    unfolding class_range range_if
    alone p q low text (c, more, is, other) =
        subst (λ (t : List ℕ). class_range octal false from p low (onto t q) ≡ Ok (item_of low, onto t q)) (sym is) (
        let start : Place = onto (c ∷ more) q in
        ap (λ (b : Bool). range_if p low start (b && not (starts_with nat_eq more (codes "]"))) (begins "--" start) (at_end (past start)))
        (here "-" c more q ∙ other)
        )

    -- a hyphen, and another member after it
    ranges-to : (p q : Place) (low high : ClassCharacter) (more : List ℕ) (text : List ℕ) (s : Place) → Begins more → text ≡ 45 ∷ more
        → nat_lt high.character low.character ≡ false
        → member octal (onto more (past (onto (45 ∷ more) q))) ≡ Ok (One high, s)
        → class_range octal false from p (One low) (onto text q) ≡ Ok (Range low high, s)
    unfolding class_range range_if
    ranges-to p q low high more text s (c, cs, is, bold) goes order read =
        let start : Place = onto (45 ∷ more) q in
        let closes : starts_with nat_eq more (codes "]") ≡ false = ap (λ (t : List ℕ). starts_with nat_eq t (codes "]")) is
        ∙ first-other 93 c cs (bold 93 refl refl) in
        let twice : begins "--" start ≡ false = ap (λ (t : List ℕ). starts_with nat_eq (45 ∷ t) (codes "--")) is ∙ second-other 45 c cs (bold 45 refl refl) in
        let more_left : at_end (past start) ≡ false = ap (λ (t : List ℕ). at_end (onto t (past start))) is ∙ goes-on c cs (past start) in
        ap (λ (t : List ℕ). class_range octal false from p (One low) (onto t q)) goes
        ∙ ap (λ (b : Bool). range_if p (One low) start (b && not (starts_with nat_eq more (codes "]"))) (begins "--" start) (at_end (past start)))
        (here "-" 45 more q)
        ∙ ap (λ (b : Bool). range_if p (One low) start (not b) (begins "--" start) (at_end (past start))) closes
        ∙ ap (λ (b : Bool). range_if p (One low) start true b (at_end (past start))) twice
        ∙ ap (range_if p (One low) start true false) more_left
        ∙ ap (λ (r : Read ClassMember). r >>= λ (high, s). range_of p (One low) high s) read
        ∙ ap (λ (b : Bool). if b then refuse ClassRange p s else Ok (Range low high, s)) order

    item_if : Place → (set opens : Bool) → Read ClassItem
    item_if p set opens =
        if set then refuse Unsupported p (past_n 2 p)
        else if opens then posix p
        else member octal p >>= λ (low, q). class_range octal false from p low q

    -- where the item begins with no sign of its own
    item-goes : (text : List ℕ) (p : Place) → Begins text
        → item_at octal false from (onto text p) ≡ member octal (onto text p) >>= λ (low, q). class_range octal false from (onto text p) low q
    unfolding item_at item_if
    item-goes text p (c, more, is, bold) =
        subst (λ (t : List ℕ). item_at octal false from (onto t p) ≡ member octal (onto t p) >>= λ (low, q). class_range octal false from (onto t p) low q)
        (sym is) (
        let start : Place = onto (c ∷ more) p in
        let none : is_set_operator start ≡ false = grind (arith, nat_tests, bold 38 refl refl, bold 45 refl refl, bold 126 refl refl) in
        ap (λ (b : Bool). item_if start b (is_at "[" start)) none ∙ ap (item_if start false) (here "[" c more p ∙ bold 91 refl refl)
        )

    abbrev ItemReads : (text : List ℕ) (item : ClassItem) (rest : List ℕ) (p : Place) → Type 0
    ItemReads text item rest p = (q : Place) × (item_at octal false from (onto text p) ≡ Ok (item, onto rest q))

    single : (c : ℕ) (rest : List ℕ) (p : Place) → NoHyphen rest → ItemReads (escaped_one c ++ rest) (item_of (plain c)) rest p
    single c rest p next =
        let start : Place = onto (escaped_one c ++ rest) p in
        let read = one-reads c rest p in (
          read.0,
          item-goes (escaped_one c ++ rest) p (one-begins c rest)
              ∙ ap (λ (r : Read ClassMember). r >>= λ (low, q). class_range octal false from start low q) read.1
              ∙ alone start read.0 (plain c) rest next,
        )

    abbrev itself : ℕ → ClassCharacter
    itself c = record { character = c; is_hex_byte = false }

    ranged : (l h : ℕ) (rest : List ℕ) (p : Place) → l ≤ h → ItemReads (escaped_one l ++ (45 ∷ escaped_one h ++ rest)) (Range (itself l) (itself h)) rest p
    ranged l h rest p le =
        let tail : List ℕ = 45 ∷ escaped_one h ++ rest in
        let start : Place = onto (escaped_one l ++ tail) p in
        let low = one-reads l tail p in
        let high = one-reads h rest (past (onto tail low.0)) in
        let order : nat_lt h l ≡ false = grind (arith, nat_tests) in (
          high.0,
          item-goes (escaped_one l ++ tail) p (one-begins l tail)
              ∙ ap (λ (r : Read ClassMember). r >>= λ (low, q). class_range octal false from start low q) low.1
              ∙ ranges-to start low.0 (itself l) (itself h) (escaped_one h ++ rest) tail (onto rest high.0) (one-begins h rest) refl order high.1,
        )

    item-at-reads : (item : ClassItem) (rest : List ℕ) (p : Place) → HasItemText item → NoHyphen rest → ItemReads (class_item_text item ++ rest) item rest p
    item-at-reads (Range low high) rest p has next = by (low.character == high.character) refl
      where
        written : Range (itself low.character) (itself high.character) ≡ Range low high
        written = λ i. Range (record { character = low.character; is_hex_byte = sym has.0 i })
            (record { character = high.character; is_hex_byte = sym has.1 i })

        by : (b : Bool) → (low.character == high.character) ≡ b
            → ItemReads ((escaped_one low.character ++ (if b then [] else codes "-" ++ escaped_one high.character)) ++ rest) (Range low high) rest p
        by true is =
            let found = single low.character rest p next in
            let same : low.character ≡ high.character = same-number low.character high.character is in (
              found.0,
              ap (λ (t : List ℕ). item_at octal false from (onto t p)) (append_assoc (escaped_one low.character) [] rest)
                  ∙ found.1 ∙ ap (λ (c : ℕ). Ok (Range (itself low.character) (itself c), onto rest found.0)) same
                  ∙ ap (λ (x : ClassItem). Ok (x, onto rest found.0)) written,
            )
        by false is =
            let found = ranged low.character high.character rest p has.2 in (
              found.0,
              ap (λ (t : List ℕ). item_at octal false from (onto t p)) (append_assoc (escaped_one low.character) (45 ∷ escaped_one high.character) rest)
                  ∙ found.1 ∙ ap (λ (x : ClassItem). Ok (x, onto rest found.0)) written,
            )
    item-at-reads (Perl kind negated) rest p has next =
        let text : List ℕ = perl_text kind negated ++ rest in
        let read = perl-reads kind negated rest p in (
          read.0,
          item-goes text p (perl-begins kind negated rest)
              ∙ ap (λ (r : Read ClassMember). r >>= λ (low, q). class_range octal false from (onto text p) low q) read.1
              ∙ alone (onto text p) read.0 (Many (Perl kind negated)) rest next,
        )
    item-at-reads (Posix kind negated) rest p has next = absurd has
    item-at-reads (Property negated piece name) rest p has next = absurd has

    next_if : (leads : Bool) → Place → (ends closes : Bool) → Read (Option ClassItem)
    next_if leads p ends closes =
        if ends then refuse UnclosedClass from (past from)
        else if closes then Ok (if leads then Some (item_of (plain (first p))) else None, past p)
        else item_at octal false from p >>= λ (item, r). Ok (Some item, r)

    item-reads : (leads : Bool) (item : ClassItem) (rest : List ℕ) (p : Place) → HasItemText item → NoHyphen rest
        → (q : Place) × (class_item octal false from leads (onto (class_item_text item ++ rest) p) ≡ Ok (Some item, onto rest q))
    unfolding class_item next_if
    item-reads leads item rest p has next =
        let text : List ℕ = class_item_text item ++ rest in
        let start : Place = onto text p in
        let (c, more, is, bold) = item-begins item rest has in
        let goes : at_end start ≡ false = ap (λ (t : List ℕ). at_end (onto t p)) is ∙ goes-on c more p in
        let unclosed : is_at "]" start ≡ false = ap (λ (t : List ℕ). is_at "]" (onto t p)) is ∙ here "]" c more p ∙ bold 93 refl refl in
        let read = item-at-reads item rest p has next in (
          read.0,
          ap (λ (b : Bool). next_if leads start b (is_at "]" start)) goes ∙ ap (next_if leads start false) unclosed
              ∙ ap (λ (r : Read ClassItem). r >>= λ (item, r). Ok (Some item, r)) read.1,
        )

    closing : (rest : List ℕ) (p : Place) → class_item octal false from false (onto (93 ∷ rest) p) ≡ Ok (None, past (onto (93 ∷ rest) p))
    unfolding class_item next_if
    closing rest p =
        let start : Place = onto (93 ∷ rest) p in
        ap (λ (b : Bool). next_if false start b (is_at "]" start)) (goes-on 93 rest p) ∙ ap (next_if false start false) (here "]" 93 rest p)

    abbrev ItemsRead : (leads : Bool) (items : List ClassItem) (rest : List ℕ) (p : Place) → Type 0
    ItemsRead leads items rest p =
        (q : Place) × (all_class_items octal false from leads (onto (flat_map class_item_text items ++ 93 ∷ rest) p) ≡ Ok (items, onto rest q))

    no-hyphen : (items : List ClassItem) (rest : List ℕ) → AllByRecursion HasItemText items → NoHyphen (flat_map class_item_text items ++ 93 ∷ rest)
    no-hyphen [] rest has = (93, rest, refl, refl)
    no-hyphen (item ∷ items) rest has =
        let (c, more, is, bold) = item-begins item (flat_map class_item_text items ++ 93 ∷ rest) has.0 in
        (c, more, append_assoc (class_item_text item) (flat_map class_item_text items) (93 ∷ rest) ∙ is, bold 45 refl refl)

    then-items : (leads : Bool) (item : ClassItem) (items : List ClassItem) (rest : List ℕ) (p : Place) → HasItemText item → AllByRecursion HasItemText items
        → ((q : Place) → ItemsRead false items rest q) → ItemsRead leads (item ∷ items) rest p
    then-items leads item items rest p has all later =
        let tail : List ℕ = flat_map class_item_text items ++ 93 ∷ rest in
        let one = item-reads leads item tail p has (no-hyphen items rest all) in
        let others = later one.0 in (
          others.0,
          ap (λ (t : List ℕ). all_class_items octal false from leads (onto t p))
              (append_assoc (class_item_text item) (flat_map class_item_text items) (93 ∷ rest))
              ∙ all_class_items-step octal false from leads (onto (class_item_text item ++ tail) p)
              ∙ ap (λ (r : Read (Option ClassItem)). r >>= with_item (all_class_items octal false from false)) one.1
              ∙ ap (λ (r : Read (List ClassItem)). r >>= λ (items, r). Ok (item ∷ items, r)) others.1,
        )

    items-read : (items : List ClassItem) (rest : List ℕ) (p : Place) → AllByRecursion HasItemText items → ItemsRead false items rest p
    items-read [] rest p has =
        let start : Place = onto (93 ∷ rest) p in (
          past start,
          all_class_items-step octal false from false start
              ∙ ap (λ (r : Read (Option ClassItem)). r >>= with_item (all_class_items octal false from false)) (closing rest p),
        )
    items-read (item ∷ items) rest p has = then-items false item items rest p has.0 has.1 (λ q. items-read items rest q has.1)

    first-items-read : (items : List ClassItem) (rest : List ℕ) (p : Place) → 0 < length items → AllByRecursion HasItemText items → ItemsRead true items rest p
    first-items-read [] rest p some has = absurd (omega arith)
    first-items-read (item ∷ items) rest p some has = then-items true item items rest p has.0 has.1 (λ q. items-read items rest q has.1)

    -- the first item isn't `^`
    no-caret : (items : List ClassItem) (rest : List ℕ) (p : Place) → 0 < length items → AllByRecursion HasItemText items
        → is_at "^" (onto (flat_map class_item_text items ++ 93 ∷ rest) p) ≡ false
    no-caret [] rest p some has = absurd (omega arith)
    no-caret (item ∷ items) rest p some has =
        let tail : List ℕ = flat_map class_item_text items ++ 93 ∷ rest in
        let (c, more, is, bold) = item-begins item tail has.0 in
        ap (λ (t : List ℕ). is_at "^" (onto t p)) (append_assoc (class_item_text item) (flat_map class_item_text items) (93 ∷ rest) ∙ is)
        ∙ here "^" c more p ∙ bold 94 refl refl

  class_if : (from inside : Place) → (negated : Bool) → Read Atom
  class_if from inside negated =
      all_class_items octal false from true (if negated then past inside else inside) >>= λ (items, q). Ok (Bracketed negated items, q)

  class-reads : (negated : Bool) (items : List ClassItem) (rest : List ℕ) (p : Place) → 0 < length items → AllByRecursion HasItemText items
      → (q : Place) × (class octal false (onto (class_text negated items ++ rest) p) ≡ Ok (Bracketed negated items, onto rest q))
  unfolding class class_if
  class-reads true items rest p some has =
      let inner : List ℕ = flat_map class_item_text items ++ 93 ∷ rest in
      let start : Place = onto (91 ∷ 94 ∷ inner) p in
      let found = first-items-read start items rest (past (past start)) some has in (
        found.0,
        ap (λ (t : List ℕ). class octal false (onto (91 ∷ 94 ∷ t) p)) (append_assoc (flat_map class_item_text items) (codes "]") rest)
            ∙ ap (class_if start (past start)) (here "^" 94 inner (past start))
            ∙ ap (λ (r : Read (List ClassItem)). r >>= λ (items, q). Ok (Bracketed true items, q)) found.1,
      )
  class-reads false items rest p some has =
      let inner : List ℕ = flat_map class_item_text items ++ 93 ∷ rest in
      let start : Place = onto (91 ∷ inner) p in
      let found = first-items-read start items rest (past start) some has in (
        found.0,
        ap (λ (t : List ℕ). class octal false (onto (91 ∷ t) p)) (append_assoc (flat_map class_item_text items) (codes "]") rest)
            ∙ ap (class_if start (past start)) (no-caret start items rest (past start) some has)
            ∙ ap (λ (r : Read (List ClassItem)). r >>= λ (items, q). Ok (Bracketed false items, q)) found.1,
      )

module _ (config : Config) (flags : Flags) (solid : flags.ignore_whitespace ≡ false) where
  opens-bracket : (negated : Bool) (items : List ClassItem) → (more : List ℕ) × (class_text negated items ≡ 91 ∷ more)
  opens-bracket true items = (94 ∷ flat_map class_item_text items ++ codes "]", refl)
  opens-bracket false items = (flat_map class_item_text items ++ codes "]", refl)

  pub bracketed-reads : (negated : Bool) (items : List ClassItem) (rest : List ℕ) (p : Place) → 0 < length items → AllByRecursion HasItemText items
      → Atoms config flags (class_text negated items) (Bracketed negated items) rest p
  unfolding bracketed
  bracketed-reads negated items rest p some has =
      let text : List ℕ = class_text negated items ++ rest in
      let start : Place = onto text p in
      let found = class-reads (octal_of config) negated items rest p some has in
      let (more, is) = opens-bracket negated items in
      let begun : text ≡ 91 ∷ more ++ rest = ap (λ (t : List ℕ). t ++ rest) is in
      let goes : at_end start ≡ false = ap (λ (t : List ℕ). at_end (onto t p)) begun ∙ goes-on 91 (more ++ rest) p in
      let none : is_operator start ≡ false = ap (λ (t : List ℕ). is_operator (onto t p)) begun ∙ here "*+?{" 91 (more ++ rest) p in
      let char : first start ≡ 91 = ap (λ (t : List ℕ). first (onto t p)) begun in
      let read : class (octal_of config) flags.ignore_whitespace start ≡ Ok (Bracketed negated items, onto rest found.0) =
      ap (λ (b : Bool). class (octal_of config) b start) solid ∙ found.1 in (
        piece_of start (onto rest found.0),
        (
          found.0,
          token-some config flags start goes none ∙ begins-class config (first start) flags start char
              ∙ ap (λ (r : Read Atom). r >>= λ (a, q). Ok (tokens.Atom (atom flags (piece_of start q) a), q)) read,
        ),
      )
