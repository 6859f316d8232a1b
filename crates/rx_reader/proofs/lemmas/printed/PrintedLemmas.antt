-- The text of a syntax reads as it.
use Rattle.std.proofs.Common.{◌≡◌, ℕ, ◌+◌, ◌≤◌, Bool, true, false, List, [], ◌∷◌, ◌++◌, Ok, Err, refl, ◌∙◌, ap, sym, true≢false, append_assoc, arith}
use Rattle.std.proofs.lemmas.Bool.Decides.{nat_tests}
use Rattle.std.proofs.lemmas.List.{append-nil}
use Rattle.std.specs.Prelude.{codes, max, nat_eq, nat_lt, Option, if◌then◌else◌}
use Rattle.std.specs.List.{starts_with}
use Rattle.rx_sets.specs.declared.perl.ClassPerlKind.{ClassPerlKind}
use Rattle.rx_sets.specs.declared.perl.ClassPerlKind.TheVariants.{Digit, Space, Word}
use Rattle.rx_reader.specs.declared.assertion.AssertionKind.{AssertionKind}
use Rattle.rx_reader.specs.declared.assertion.AssertionKind.TheVariants.{StartLine, EndLine, StartText, EndText, WordBoundary, NotWordBoundary, WordBoundaryStart, WordBoundaryEnd, WordBoundaryStartHalf, WordBoundaryEndHalf}
use Rattle.rx_reader.specs.declared.atom.Atom.{Atom}
use Rattle.rx_reader.specs.declared.atom.Atom.TheVariants.{HexByte, Dot, Assertion, Perl, Property, Bracketed}
use Rattle.rx_reader.specs.declared.config.Config.{Config}
use Rattle.rx_reader.specs.declared.error.SyntaxErrorKind.TheVariants.{UnclosedGroup, NestLimit}
use Rattle.rx_reader.specs.declared.flags.Flags.{Flags}
use Rattle.rx_reader.specs.declared.group_kind.GroupKind.{GroupKind}
use Rattle.rx_reader.specs.declared.group_kind.GroupKind.TheVariants.{NonCapturing, CaptureIndex, CaptureName}
use Rattle.rx_reader.specs.declared.operator.Operator.{Operator}
use Rattle.rx_reader.specs.declared.token.Token.{Token}
use Rattle.rx_reader.specs.declared.token.Token.TheVariants.{End, Bar, Close, Opens, Atom as One}
use Rattle.rx_reader.specs.Config.{flags_of, limit_of}
use Rattle.rx_reader.specs.Reading.{Place, Read, ◌>>=◌, refuse, past}
use Rattle.rx_reader.specs.Counts.{operator}
use Rattle.rx_reader.specs.Syntax.{Syntax, Syntaxes, literal, atom, repeated, group, cat, alt, nil, cons, syntaxes, depth, deepest}
use Rattle.rx_reader.specs.Grammar.{is_operator, token, repeated_by, within_limit, all_repetitions, Branches, no_items, add_item, add_branch, whole, close_group, item_then, group_then, branches_at, token_then, all_branches, to_end, read}
use Rattle.rx_reader.specs.Plain.{is_meta, escaped_one}
use Rattle.rx_reader.specs.Printable.{bare, each_bare, bare_atom, nowhere, HasAtomText, HasCountsText, IsUnnamed, IsItem, IsBranch, IsPattern, AreItems, AreBranches}
use Rattle.rx_reader.specs.Printed.{perl_text, assertion_text, atom_text, counts_text, sign_text, is_repeated, operator_text, opening_text, printed, printed_row, printed_branches}
use Rattle.rx_reader.proofs.lemmas.branches.BranchLemmas.{token-end, all_repetitions-step, all_branches-step}
use Rattle.rx_reader.proofs.lemmas.branches.RepeatLemmas.{repeated_from, repeat_stops, repeat_goes}
use Rattle.rx_reader.proofs.lemmas.patterns.PlainLemmas.{apart}
use Rattle.rx_reader.proofs.lemmas.places.AheadLemmas.{skip_none}
use Rattle.rx_reader.proofs.lemmas.printed.AtomTexts.{Atoms, literal-reads, dot-reads, assertion-reads, perl-reads, property-reads}
use Rattle.rx_reader.proofs.lemmas.printed.ClassTexts.{bracketed-reads}
use Rattle.rx_reader.proofs.lemmas.printed.CountTexts.{mark, Operates, counts-say, sign-says, counts-calm, sign-calm}
use Rattle.rx_reader.proofs.lemmas.printed.OpeningTexts.{opening-reads}
use Rattle.rx_reader.proofs.lemmas.printed.TextLemmas.{onto, goes-on, here, quiet, quiet-place, quiet-question, calm, quiet-calm}
use Rattle.rx_reader.proofs.lemmas.tokens.TokenLemmas.{token-some, begins-bar, begins-close}

-- Depth is no matter of places.

mutual
  unfolding bare

  depth-bare : (s : Syntax) → depth (bare s) ≡ depth s
  depth-bare (literal flags c) = refl
  depth-bare (atom flags piece a) = refl
  depth-bare (repeated min max greedy body) = ap (λ (n : ℕ). n + 1) (depth-bare body)
  depth-bare (group kind body) = ap (λ (n : ℕ). n + 1) (depth-bare body)
  depth-bare (cat items) = deepest-bare items
  depth-bare (alt branches) = deepest-bare branches

  deepest-bare : (ss : Syntaxes) → deepest (each_bare ss) ≡ deepest ss
  deepest-bare nil = refl
  deepest-bare (cons s ss) = λ i. max (depth-bare s i) (deepest-bare ss i)

alike-depth : (t s : Syntax) → bare t ≡ bare s → depth t ≡ depth s
alike-depth t s alike = sym (depth-bare t) ∙ ap depth alike ∙ depth-bare s

-- No operator begins the text of a pattern.

quiet-one : (c : ℕ) (more : List ℕ) → quiet (escaped_one c ++ more) ≡ true
quiet-one c more = by (is_meta c) refl
  where
    by : (b : Bool) → is_meta c ≡ b → quiet ((if b then codes "\\" ++ c ∷ [] else c ∷ []) ++ more) ≡ true
    by true is = refl
    by false is = rw (apart c 42 is refl, apart c 43 is refl, apart c 63 is refl, apart c 123 is refl) refl

quiet-perl : (kind : ClassPerlKind) (negated : Bool) (more : List ℕ) → quiet (perl_text kind negated ++ more) ≡ true
quiet-perl Digit false more = refl
quiet-perl Digit true more = refl
quiet-perl Space false more = refl
quiet-perl Space true more = refl
quiet-perl Word false more = refl
quiet-perl Word true more = refl

quiet-assertion : (kind : AssertionKind) (more : List ℕ) → quiet (assertion_text kind ++ more) ≡ true
quiet-assertion StartLine more = refl
quiet-assertion EndLine more = refl
quiet-assertion StartText more = refl
quiet-assertion EndText more = refl
quiet-assertion WordBoundary more = refl
quiet-assertion NotWordBoundary more = refl
quiet-assertion WordBoundaryStart more = refl
quiet-assertion WordBoundaryEnd more = refl
quiet-assertion WordBoundaryStartHalf more = refl
quiet-assertion WordBoundaryEndHalf more = refl

quiet-atom : (a : Atom) (more : List ℕ) → HasAtomText a → quiet (atom_text a ++ more) ≡ true
quiet-atom (HexByte c) more has = absurd has
quiet-atom Dot more has = refl
quiet-atom (Assertion kind) more has = quiet-assertion kind more
quiet-atom (Perl kind negated) more has = quiet-perl kind negated more
quiet-atom (Property name true) more has = refl
quiet-atom (Property name false) more has = refl
quiet-atom (Bracketed true items) more has = refl
quiet-atom (Bracketed false items) more has = refl

quiet-opening : (kind : GroupKind) (body more : List ℕ) → quiet ((opening_text kind ++ body) ++ more) ≡ true
quiet-opening NonCapturing body more = refl
quiet-opening (CaptureIndex number) body more = refl
quiet-opening (CaptureName number name) body more = refl

module _ (config : Config) (flags : Flags) (solid : flags.ignore_whitespace ≡ false) where
  abbrev swaps : Bool
  swaps = flags.swap_greed

  mutual
    unfolding IsItem

    quiet-item : (s : Syntax) (more : List ℕ) → IsItem flags s → quiet (printed swaps s ++ more) ≡ true
    quiet-item (literal own c) more has = quiet-one c more
    quiet-item (atom own piece a) more has = quiet-atom a more has.1
    quiet-item (repeated min max greedy body) more has =
        let op : List ℕ = operator_text swaps body min max greedy in
        ap quiet (append_assoc (printed swaps body) op more) ∙ quiet-item body (op ++ more) has.1
    quiet-item (group kind body) more has = quiet-opening kind (printed swaps body ++ codes ")") more
    quiet-item (cat items) more has = absurd has
    quiet-item (alt branches) more has = absurd has

    quiet-row : (ss : Syntaxes) (more : List ℕ) → AreItems flags ss → quiet more ≡ true → quiet (printed_row swaps ss ++ more) ≡ true
    quiet-row nil more has h = h
    quiet-row (cons s ss) more has h = ap quiet (append_assoc (printed swaps s) (printed_row swaps ss) more) ∙ quiet-item s (printed_row swaps ss ++ more) has.0

  quiet-branch : (s : Syntax) (more : List ℕ) → IsBranch flags s → quiet more ≡ true → quiet (printed swaps s ++ more) ≡ true
  unfolding IsBranch
  quiet-branch (literal own c) more has h = absurd has
  quiet-branch (atom own piece a) more has h = absurd has
  quiet-branch (repeated min max greedy body) more has h = absurd has
  quiet-branch (group kind body) more has h = absurd has
  quiet-branch (cat items) more has h = quiet-row items more has h
  quiet-branch (alt branches) more has h = absurd has

  quiet-branches : (ss : Syntaxes) (more : List ℕ) → AreBranches flags ss → quiet more ≡ true → quiet (printed_branches swaps ss ++ more) ≡ true
  unfolding AreBranches
  quiet-branches nil more has h = h
  quiet-branches (cons s nil) more has h = quiet-branch s more has.0 h
  quiet-branches (cons s (cons t ss)) more has h =
      let tail : List ℕ = printed_branches swaps (cons t ss) in
      ap quiet (append_assoc (printed swaps s) (124 ∷ tail) more) ∙ quiet-branch s (124 ∷ tail ++ more) has.0 refl

  quiet-pattern : (s : Syntax) (more : List ℕ) → IsPattern flags s → quiet more ≡ true → quiet (printed swaps s ++ more) ≡ true
  unfolding IsPattern AreBranches
  quiet-pattern (literal own c) more has h = absurd has
  quiet-pattern (atom own piece a) more has h = absurd has
  quiet-pattern (repeated min max greedy body) more has h = absurd has
  quiet-pattern (group kind body) more has h = absurd has
  quiet-pattern (cat items) more has h = absurd has
  quiet-pattern (alt nil) more has h = absurd has
  quiet-pattern (alt (cons s ss)) more has h = quiet-branches (cons s ss) more has h

  -- One step.

  at-token : (opened : ℕ) (p q : Place) (t : Token) → token config flags p ≡ Ok (t, q)
      → all_branches config flags opened p ≡ branches_at config (all_branches config) flags opened p (t, q)
  at-token opened p q t is =
      all_branches-step config flags opened p
      ∙ ap (λ (r : Place). token_then config (all_branches config) flags opened r) (skip_none flags p solid)
      ∙ ap (λ (r : Read Token). r >>= branches_at config (all_branches config) flags opened p) is

  operator-goes : (item : Syntax) (p q : Place) (o : Operator) → is_operator p ≡ true → operator flags p ≡ Ok (o, q)
      → nat_lt (limit_of config) (depth (repeated_by o item)) ≡ false
      → all_repetitions config flags item p ≡ all_repetitions config flags (repeated_by o item) q
  operator-goes item p q o any is fits =
      all_repetitions-step config flags item p
      ∙ ap (λ (r : Place). repeated_from config flags item r) (skip_none flags p solid)
      ∙ repeat_goes config flags item p o q any is fits
      ∙ sym (all_repetitions-step config flags (repeated_by o item) q)

  stays : (item : Syntax) (p : Place) → is_operator p ≡ false → all_repetitions config flags item p ≡ Ok (item, p)
  stays item p none =
      all_repetitions-step config flags item p
      ∙ ap (λ (r : Place). repeated_from config flags item r) (skip_none flags p solid)
      ∙ repeat_stops config flags item p none

  in-limit : (n : ℕ) → n ≤ limit_of config → nat_lt (limit_of config) n ≡ false
  in-limit n le = grind (arith, nat_tests)

  -- what a group or the pattern ends with
  abbrev IsEnd : List ℕ → Type 0
  IsEnd rest = (opened : ℕ) (p : Place) → all_branches config flags opened (onto rest p) ≡ Ok (no_items, onto rest p)

  at-the-end : IsEnd []
  at-the-end opened p = at-token opened (onto [] p) (onto [] p) End (token-end config flags (onto [] p) refl)

  at-bracket : (rest : List ℕ) → IsEnd (41 ∷ rest)
  at-bracket rest opened p =
      let start : Place = onto (41 ∷ rest) p in
      at-token opened start (past start) Close
      (token-some config flags start (goes-on 41 rest p) (here "*+?{" 41 rest p) ∙ begins-close config 41 flags start refl)

  bar-reads : (rest : List ℕ) (p : Place) → token config flags (onto (124 ∷ rest) p) ≡ Ok (Bar, past (onto (124 ∷ rest) p))
  bar-reads rest p =
      let start : Place = onto (124 ∷ rest) p in
      token-some config flags start (goes-on 124 rest p) (here "*+?{" 124 rest p) ∙ begins-bar config 124 flags start refl

  -- What is read of the parts: the same as the syntax but for places.

  abbrev ItemAt : (opened : ℕ) (s : Syntax) (text rest : List ℕ) (p : Place) → Type 0
  ItemAt opened s text rest p =
      (item : Syntax) × (after : Place) × (bare item ≡ bare s)
      × (all_branches config flags opened (onto text p) ≡ item_then config (all_branches config flags opened) flags item (onto rest after))

  -- with these items before the first branch
  abbrev add_items : List Syntax → Branches → Branches
  add_items found b = record { items = found ++ b.items; others = b.others }

  with_items : List Syntax → Read Branches → Read Branches
  with_items found reading = reading >>= λ (b, r). Ok (add_items found b, r)

  abbrev RowAt : (opened : ℕ) (ss : Syntaxes) (text rest : List ℕ) (p : Place) → Type 0
  RowAt opened ss text rest p =
      (found : List Syntax) × (after : Place) × (each_bare (syntaxes found) ≡ each_bare ss)
      × (all_branches config flags opened (onto text p) ≡ with_items found (all_branches config flags opened (onto rest after)))

  abbrev BranchesAt : (opened : ℕ) (ss : Syntaxes) (text rest : List ℕ) (p : Place) → Type 0
  BranchesAt opened ss text rest p =
      (found : Branches) × (after : Place) × (bare (whole found) ≡ alt (each_bare ss))
      × (all_branches config flags opened (onto text p) ≡ Ok (found, onto rest after))

  abbrev PatternAt : (opened : ℕ) (s : Syntax) (text rest : List ℕ) (p : Place) → Type 0
  PatternAt opened s text rest p =
      (found : Branches) × (after : Place) × (bare (whole found) ≡ bare s)
      × (all_branches config flags opened (onto text p) ≡ Ok (found, onto rest after))

  -- Atoms.

  atom-reads : (a : Atom) (rest : List ℕ) (p : Place) → HasAtomText a → calm rest ≡ true → Atoms config flags (atom_text a) a rest p
  atom-reads (HexByte c) rest p has h = absurd has
  atom-reads Dot rest p has h = dot-reads config flags rest p
  atom-reads (Assertion kind) rest p has h = assertion-reads config flags kind rest p h
  atom-reads (Perl kind negated) rest p has h = perl-reads config flags kind negated rest p
  atom-reads (Property name negated) rest p has h = property-reads config flags name negated rest p has.0 has.1
  atom-reads (Bracketed negated items) rest p has h = bracketed-reads config flags solid negated items rest p has.0 has.1

  item-of-token : (opened : ℕ) (s item : Syntax) (text own rest : List ℕ) (p q : Place) → text ≡ own ++ rest → bare item ≡ bare s
      → token config flags (onto (own ++ rest) p) ≡ Ok (One item, onto rest q) → ItemAt opened s text rest p
  item-of-token opened s item text own rest p q is alike tok = (
    item,
    q,
    alike,
    ap (λ (t : List ℕ). all_branches config flags opened (onto t p)) is
        ∙ at-token opened (onto (own ++ rest) p) (onto rest q) (One item) tok,
  )

  -- Operators.

  op-question : (min : ℕ) (max : Option ℕ) (m rest : List ℕ) (b : Bool) → b ≡ true
      → starts_with nat_eq (((if b then counts_text min max else sign_text min max) ++ m) ++ rest) (codes "?") ≡ false
  op-question min max m rest true is = refl
  op-question min max m rest false is = absurd (true≢false (sym is))

  op-calm : (min : ℕ) (max : Option ℕ) (m rest : List ℕ) (b : Bool) → HasCountsText min max
      → calm (((if b then counts_text min max else sign_text min max) ++ m) ++ rest) ≡ true
  op-calm min max m rest true has = counts-calm min max m rest has
  op-calm min max m rest false has = sign-calm min max m rest has

  op-says : (min : ℕ) (max : Option ℕ) (greedy : Bool) (rest : List ℕ) (p : Place) (b : Bool) → starts_with nat_eq rest (codes "?") ≡ false
      → HasCountsText min max
      → Operates flags solid (((if b then counts_text min max else sign_text min max) ++ mark flags solid greedy) ++ rest) min max greedy rest p
  op-says min max greedy rest p true none has = counts-say flags solid min max greedy rest p none has
  op-says min max greedy rest p false none has = sign-says flags solid min max greedy rest p none has

  repeat-item : (opened min : ℕ) (max : Option ℕ) (greedy : Bool) (body : Syntax) (text rest : List ℕ) (p : Place) → opened + (depth body + 1) ≤ limit_of config
      → HasCountsText min max → starts_with nat_eq rest (codes "?") ≡ false → ItemAt opened body text (operator_text swaps body min max greedy ++ rest) p
      → ItemAt opened (repeated min max greedy body) text rest p
  unfolding bare
  repeat-item opened min max greedy body text rest p room has none inner =
      let op : List ℕ = operator_text swaps body min max greedy in
      let o : Operator = record { min = min; max = max; greedy = greedy } in
      let says = op-says min max greedy rest inner.1 (is_repeated body) none has in
      let deep : depth inner.0 ≡ depth body = alike-depth inner.0 body inner.2 in
      let fits : nat_lt (limit_of config) (depth (repeated_by o inner.0)) ≡ false = in-limit (depth inner.0 + 1) (omega (arith, deep, room)) in (
        repeated min max greedy inner.0,
        says.0,
        ap (repeated min max greedy) inner.2,
        inner.3
            ∙ ap (λ (r : Read Syntax). r >>= λ (s, q). all_branches config flags opened q >>= λ (b, r). Ok (add_item s b, r))
            (operator-goes inner.0 (onto (op ++ rest) inner.1) (onto rest says.0) o says.2 says.1 fits),
      )

  -- Groups.

  closes : (kind : GroupKind) (p : Place) (body : Syntax) (rest : List ℕ) (r : Place) → depth body + 1 ≤ limit_of config
      → close_group config kind p body (onto (41 ∷ rest) r) ≡ Ok (group kind body, past (onto (41 ∷ rest) r))
  closes kind p body rest r room =
      let here : Place = onto (41 ∷ rest) r in
      let s : Syntax = group kind body in
      let fits : nat_lt (limit_of config) (depth s) ≡ false = in-limit (depth body + 1) room in
      ap (λ (b : Bool). if b then refuse UnclosedGroup p (past p) else within_limit config s here (past here)) (goes-on 41 rest r)
      ∙ ap (λ (b : Bool). if b then refuse NestLimit here (past here) else Ok (s, past here)) fits

  group-item : (opened : ℕ) (kind : GroupKind) (body : Syntax) (rest : List ℕ) (p : Place) → opened + (depth body + 1) ≤ limit_of config → IsUnnamed kind
      → quiet (printed swaps body ++ 41 ∷ rest) ≡ true
      → ((q : Place) → PatternAt (opened + 1) body (printed swaps body ++ 41 ∷ rest) (41 ∷ rest) q)
      → ItemAt opened (group kind body) (opening_text kind ++ (printed swaps body ++ 41 ∷ rest)) rest p
  unfolding bare
  group-item opened kind body rest p room has begun inside =
      let inner : List ℕ = printed swaps body ++ 41 ∷ rest in
      let start : Place = onto (opening_text kind ++ inner) p in
      let (own, q, tok, kinds) = opening-reads config flags kind inner p has begun in
      let (found, after, alike, reads) = inside q in
      let deep : depth (whole found) ≡ depth body = alike-depth (whole found) body alike in (
        group own (whole found),
        past (onto (41 ∷ rest) after),
        (λ i. group (kinds i) (alike i)),
        at-token opened start (onto inner q) (Opens own flags) tok
            ∙ ap (group_then config (all_branches config) flags opened start own flags (onto inner q)) (in-limit (opened + 1) (omega (arith, room)))
            ∙ ap (λ (r : Read Branches). r >>= λ (body, r). close_group config own start (whole body) r >>= λ (item, after). item_then config
            (all_branches config flags opened) flags item after) reads
            ∙ ap (λ (r : Read Syntax). r >>= λ (item, after). item_then config (all_branches config flags opened) flags item after)
            (closes own start (whole found) rest after (omega (arith, room, deep))),
      )

  -- Rows and branches.

  none-more : (reading : Read Branches) → reading ≡ with_items [] reading
  unfolding with_items
  none-more (Ok (b, q)) = refl
  none-more (Err e) = refl

  one-more : (item : Syntax) (found : List Syntax) (reading : Read Branches)
      → (with_items found reading >>= λ (b, r). Ok (add_item item b, r)) ≡ with_items (item ∷ found) reading
  unfolding with_items
  one-more item found (Ok (b, q)) = refl
  one-more item found (Err e) = refl

  then-row : (opened : ℕ) (s : Syntax) (ss : Syntaxes) (text tail rest : List ℕ) (p : Place) → quiet tail ≡ true → ItemAt opened s text tail p
      → ((q : Place) → RowAt opened ss tail rest q) → RowAt opened (cons s ss) text rest p
  unfolding each_bare
  then-row opened s ss text tail rest p h one later =
      let (item, after, alike, goes) = one in
      let (found, end, same, on) = later after in (
        item ∷ found,
        end,
        (λ i. cons (alike i) (same i)),
        goes
            ∙ ap (λ (r : Read Syntax). r >>= λ (s, q). all_branches config flags opened q >>= λ (b, r). Ok (add_item s b, r))
            (stays item (onto tail after) (quiet-place tail after h))
            ∙ ap (λ (r : Read Branches). r >>= λ (b, r). Ok (add_item item b, r)) on
            ∙ one-more item found (all_branches config flags opened (onto rest end)),
      )

  last-branch : (opened : ℕ) (ss : Syntaxes) (text rest : List ℕ) (p : Place) → IsEnd rest → RowAt opened ss text rest p
      → BranchesAt opened (cons (cat ss) nil) text rest p
  unfolding bare each_bare with_items
  last-branch opened ss text rest p ends (found, after, alike, goes) = (
    record { items = found ++ []; others = [] },
    after,
    ap (λ (xs : List Syntax). alt (cons (cat (each_bare (syntaxes xs))) nil)) (append-nil found) ∙ ap (λ (x : Syntaxes). alt (cons (cat x) nil)) alike,
    goes ∙ ap (with_items found) (ends opened after),
  )

  then-branches : (opened : ℕ) (ss others : Syntaxes) (text tail rest : List ℕ) (p : Place) → RowAt opened ss text (124 ∷ tail) p
      → ((q : Place) → BranchesAt opened others tail rest q) → BranchesAt opened (cons (cat ss) others) text rest p
  unfolding bare each_bare with_items
  then-branches opened ss others text tail rest p (row, after, alike, goes) later =
      let start : Place = onto (124 ∷ tail) after in
      let (found, end, same, on) = later (past start) in (
        record { items = row ++ []; others = cat (syntaxes found.items) ∷ found.others },
        end,
        ap (λ (xs : List Syntax). alt (cons (cat (each_bare (syntaxes xs))) (each_bare (syntaxes (cat (syntaxes found.items) ∷ found.others)))))
            (append-nil row)
            ∙ ap (λ (x : Syntaxes). alt (cons (cat x) (each_bare (syntaxes (cat (syntaxes found.items) ∷ found.others))))) alike
            ∙ ap (λ (x : Syntax). alt (cons (cat (each_bare ss)) (branches_of x))) same,
        goes
            ∙ ap (with_items row) (at-token opened start (past start) Bar (bar-reads tail after)
            ∙ ap (λ (r : Read Branches). r >>= λ (b, r). Ok (add_branch b, r)) on),
      )
    where
      branches_of : Syntax → Syntaxes
      branches_of (alt xs) = xs
      branches_of (cat xs) = xs
      branches_of (literal f c) = nil
      branches_of (atom f piece a) = nil
      branches_of (repeated lo hi g body) = nil
      branches_of (group kind body) = nil

  -- The whole.

  mutual
    unfolding IsItem bare

    item-at : (s : Syntax) (opened : ℕ) (text rest : List ℕ) (p : Place) → IsItem flags s → opened + depth s ≤ limit_of config → text ≡ printed swaps s ++ rest
        → (is_repeated s ≡ true → starts_with nat_eq rest (codes "?") ≡ false) → calm rest ≡ true → ItemAt opened s text rest p
    item-at (literal own c) opened text rest p has room is none after =
        let found = literal-reads config flags c rest p in
        item-of-token opened (literal own c) (literal flags c) text (escaped_one c) rest p found.0 is (ap (λ (f : Flags). literal f c) (sym has)) found.1
    item-at (atom own piece a) opened text rest p has room is none after =
        let found = atom-reads a rest p has.1 after in
        item-of-token opened (atom own piece a) (atom flags found.0 a) text (atom_text a) rest p found.1.0 is
        (ap (λ (f : Flags). atom f nowhere (bare_atom a)) (sym has.0)) found.1.1
    item-at (repeated min max greedy body) opened text rest p has room is none after =
        let op : List ℕ = operator_text swaps body min max greedy in
        let fits : opened + (depth body + 1) ≤ limit_of config = room in
        let inner : ItemAt opened body text (op ++ rest) p =
        item-at body opened text (op ++ rest) p has.1 (omega (arith, fits)) (is ∙ append_assoc (printed swaps body) op rest)
        (op-question min max (mark flags solid greedy) rest (is_repeated body)) (op-calm min max (mark flags solid greedy) rest (is_repeated body) has.0) in
        repeat-item opened min max greedy body text rest p fits has.0 (none refl) inner
    item-at (group kind body) opened text rest p has room is none after =
        let inner : List ℕ = printed swaps body ++ 41 ∷ rest in
        let fits : opened + (depth body + 1) ≤ limit_of config = room in
        let grouped : text ≡ opening_text kind ++ inner =
        is ∙ append_assoc (opening_text kind) (printed swaps body ++ codes ")") rest
        ∙ ap (λ (t : List ℕ). opening_text kind ++ t) (append_assoc (printed swaps body) (codes ")") rest) in
        let found = group-item opened kind body rest p fits has.0 (quiet-pattern body (41 ∷ rest) has.1 refl) (λ q.
        pattern-at body (opened + 1) inner (41 ∷ rest) q has.1 (omega (arith, fits)) refl (at-bracket rest) refl) in
        (found.0, found.1, found.2, ap (λ (t : List ℕ). all_branches config flags opened (onto t p)) grouped ∙ found.3)
    item-at (cat items) opened text rest p has room is none after = absurd has
    item-at (alt branches) opened text rest p has room is none after = absurd has

    row-at : (ss : Syntaxes) (opened : ℕ) (text rest : List ℕ) (p : Place) → AreItems flags ss → opened + deepest ss ≤ limit_of config
        → text ≡ printed_row swaps ss ++ rest
        → quiet rest ≡ true → RowAt opened ss text rest p
    row-at nil opened text rest p has room is h =
        ([], p, refl, ap (λ (t : List ℕ). all_branches config flags opened (onto t p)) is ∙ none-more (all_branches config flags opened (onto rest p)))
    row-at (cons s ss) opened text rest p has room is h =
        let tail : List ℕ = printed_row swaps ss ++ rest in
        let still : quiet tail ≡ true = quiet-row ss rest has.1 h in
        then-row opened s ss text tail rest p still
        (item-at s opened text tail p has.0 (omega (arith, room)) (is ∙ append_assoc (printed swaps s) (printed_row swaps ss) rest)
        (λ any. quiet-question tail still) (quiet-calm tail still))
        (λ q. row-at ss opened tail rest q has.1 (omega (arith, room)) refl h)

    pattern-at : (s : Syntax) (opened : ℕ) (text rest : List ℕ) (p : Place) → IsPattern flags s → opened + depth s ≤ limit_of config
        → text ≡ printed swaps s ++ rest
        → IsEnd rest → quiet rest ≡ true → PatternAt opened s text rest p
    pattern-at (literal own c) opened text rest p has room is ends h = absurd has
    pattern-at (atom own piece a) opened text rest p has room is ends h = absurd has
    pattern-at (repeated min max greedy body) opened text rest p has room is ends h = absurd has
    pattern-at (group kind body) opened text rest p has room is ends h = absurd has
    pattern-at (cat items) opened text rest p has room is ends h = absurd has
    pattern-at (alt nil) opened text rest p has room is ends h = absurd has
    pattern-at (alt (cons s ss)) opened text rest p has room is ends h = branches-at (cons s ss) opened text rest p has room is ends h

    branches-at : (ss : Syntaxes) (opened : ℕ) (text rest : List ℕ) (p : Place) → IsPattern flags (alt ss) → opened + deepest ss ≤ limit_of config
        → text ≡ printed_branches swaps ss ++ rest
        → IsEnd rest → quiet rest ≡ true → BranchesAt opened ss text rest p
    branches-at nil opened text rest p has room is ends h = absurd has
    branches-at (cons (literal own c) ss) opened text rest p has room is ends h = absurd has.0
    branches-at (cons (atom own piece a) ss) opened text rest p has room is ends h = absurd has.0
    branches-at (cons (repeated min max greedy body) ss) opened text rest p has room is ends h = absurd has.0
    branches-at (cons (group kind body) ss) opened text rest p has room is ends h = absurd has.0
    branches-at (cons (alt branches) ss) opened text rest p has room is ends h = absurd has.0
    branches-at (cons (cat items) nil) opened text rest p has room is ends h =
        last-branch opened items text rest p ends (row-at items opened text rest p has.0 (omega (arith, room)) is h)
    branches-at (cons (cat items) (cons t ss)) opened text rest p has room is ends h =
        let after_bar : List ℕ = printed_branches swaps (cons t ss) in
        let tail : List ℕ = after_bar ++ rest in
        then-branches opened items (cons t ss) text tail rest p
        (row-at items opened text (124 ∷ tail) p has.0 (omega (arith, room)) (is ∙ append_assoc (printed_row swaps items) (124 ∷ after_bar) rest) refl)
        (λ q. branches-at (cons t ss) opened tail rest q has.1 (omega (arith, room)) refl ends h)

pub printed-reads : (config : Config) → (s : Syntax) → IsPattern (flags_of config) s → (flags_of config).ignore_whitespace ≡ false
    → depth s ≤ limit_of config → (t : Syntax) × (bare t ≡ bare s) × (read config (printed (flags_of config).swap_greed s) ≡ Ok t)
unfolding read
printed-reads config s is solid within =
    let flags : Flags = flags_of config in
    let text : List ℕ = printed flags.swap_greed s in
    let found = pattern-at config flags solid s 0 text [] (record { text = text; at = 0; groups = 0; names = [] }) is (omega (arith, within))
    (sym (append-nil text)) (at-the-end config flags solid) refl in
    (whole found.0, found.2, ap (λ (r : Read Branches). r >>= to_end config) found.3)
