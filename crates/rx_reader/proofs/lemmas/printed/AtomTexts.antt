-- The text of an atom reads as it.
use Rattle.std.proofs.Common.{◌≡◌, ℕ, ◌==◌, Bool, true, false, not, ◌&&◌, List, [], ◌∷◌, ◌++◌, Ok, refl, ◌∙◌, ap, true≢false, append_assoc}
use Rattle.std.specs.Prelude.{codes, nat_eq, if◌then◌else◌}
use Rattle.std.specs.List.{list_all, starts_with}
use Rattle.std.specs.Char.{is_digit, is_ascii_digit}
use Rattle.rx_sets.specs.declared.perl.ClassPerlKind.{ClassPerlKind}
use Rattle.rx_sets.specs.declared.perl.ClassPerlKind.TheVariants.{Digit, Space, Word}
use Rattle.rx_reader.specs.declared.config.Config.{Config}
use Rattle.rx_reader.specs.declared.flags.Flags.{Flags}
use Rattle.rx_reader.specs.declared.piece.Piece.{Piece}
use Rattle.rx_reader.specs.declared.assertion.AssertionKind.{AssertionKind}
use Rattle.rx_reader.specs.declared.assertion.AssertionKind.TheVariants.{StartLine, EndLine, StartText, EndText, WordBoundary, NotWordBoundary, WordBoundaryStart, WordBoundaryEnd, WordBoundaryStartHalf, WordBoundaryEndHalf}
use Rattle.rx_reader.specs.declared.atom.Atom.{Atom}
use Rattle.rx_reader.specs.declared.atom.Atom.TheVariants as atoms
use Rattle.rx_reader.specs.declared.escape.Escaped.{Escaped}
use Rattle.rx_reader.specs.declared.escape.Escaped.TheVariants.{Assertion, Perl, Property}
use Rattle.rx_reader.specs.declared.escape.NameIn.TheVariants.{Braces}
use Rattle.rx_reader.specs.declared.error.SyntaxErrorKind.TheVariants.{Escape}
use Rattle.rx_reader.specs.declared.token.Token.{Token}
use Rattle.rx_reader.specs.declared.token.Token.TheVariants.{Atom as One}
use Rattle.rx_reader.specs.Config.{octal_of}
use Rattle.rx_reader.specs.Reading.{Place, Read, ◌>>=◌, refuse, piece_of, at_end, first, past, is_at}
use Rattle.rx_reader.specs.Ahead.{past_n}
use Rattle.rx_reader.specs.Escapes.{leading, in_name, property_in_braces, property, boundary, one_letter, lettered, escape}
use Rattle.rx_reader.specs.Syntax.{Syntax, literal, atom}
use Rattle.rx_reader.specs.Grammar.{escaped_atom, escaped, token}
use Rattle.rx_reader.specs.Plain.{is_meta, escaped_one}
use Rattle.rx_reader.specs.Printed.{perl_text, assertion_text, atom_text}
use Rattle.rx_reader.proofs.lemmas.patterns.PlainLemmas.{escape_if, escape-goes, IsNext, next-escaped, next-plain}
use Rattle.rx_reader.proofs.lemmas.printed.TextLemmas.{onto, goes-on, here, while-front, past-front, turned, calm, no-word}
use Rattle.rx_reader.proofs.lemmas.tokens.TokenLemmas.{token-some, begins-escape, begins-dot, begins-start, begins-end}

-- Escapes.

-- a letter after the backslash
letter-goes : (octal : Bool) (p q : Place) → is_digit (first q) 8 ≡ false → is_ascii_digit (first q) ≡ false → escape_if false octal p q ≡ lettered p q
unfolding escape_if
letter-goes true p q small digit = rw small refl
letter-goes false p q small digit = rw digit refl

-- from the backslash on, this is read
abbrev pub Escapes : (octal : Bool) (text : List ℕ) (e : Escaped) (rest : List ℕ) (p : Place) → Type 0
Escapes octal text e rest p = (q : Place) × (escape octal (onto (text ++ rest) p) ≡ Ok (e, onto rest q))

module _ (octal : Bool) where
  letter-escapes : (d : ℕ) (more : List ℕ) (p : Place) → is_digit d 8 ≡ false → is_ascii_digit d ≡ false
      → escape octal (onto (92 ∷ d ∷ more) p) ≡ lettered (onto (92 ∷ d ∷ more) p) (past (onto (92 ∷ d ∷ more) p))
  letter-escapes d more p small digit =
      let start : Place = onto (92 ∷ d ∷ more) p in
      escape-goes octal start (goes-on d more (past start)) ∙ letter-goes octal start (past start) small digit

  pub perl-escapes : (kind : ClassPerlKind) (negated : Bool) (rest : List ℕ) (p : Place) → Escapes octal (perl_text kind negated) (Perl kind negated) rest p
  unfolding lettered one_letter
  perl-escapes Digit false rest p = (past (past (onto (92 ∷ 100 ∷ rest) p)), letter-escapes 100 rest p refl refl)
  perl-escapes Digit true rest p = (past (past (onto (92 ∷ 68 ∷ rest) p)), letter-escapes 68 rest p refl refl)
  perl-escapes Space false rest p = (past (past (onto (92 ∷ 115 ∷ rest) p)), letter-escapes 115 rest p refl refl)
  perl-escapes Space true rest p = (past (past (onto (92 ∷ 83 ∷ rest) p)), letter-escapes 83 rest p refl refl)
  perl-escapes Word false rest p = (past (past (onto (92 ∷ 119 ∷ rest) p)), letter-escapes 119 rest p refl refl)
  perl-escapes Word true rest p = (past (past (onto (92 ∷ 87 ∷ rest) p)), letter-escapes 87 rest p refl refl)

-- what stands after `\p`, by the tests of its definition
property_if : (from : Place) → (negated : Bool) → Place → (ends braces caret : Bool) → Read Escaped
property_if from negated p ends braces caret =
    let q = past p in
    if ends then refuse Escape from p
    else if not braces then Ok (Property (first p ∷ []) negated, q)
    else if caret then property_in_braces from (not negated) (past q)
    else property_in_braces from negated q

-- the name that begins at p and ends before q
braces_if : (from : Place) → (negated : Bool) → (p q : Place) → (ends : Bool) → Read Escaped
braces_if from negated p q ends = if ends then refuse Escape from q else Ok (Property (leading (in_name Braces) p.text) negated, past q)

-- Tokens.

module _ (config : Config) (flags : Flags) where
  -- the token at the place, which this text is
  abbrev pub Tokens : (text : List ℕ) (t : Token) (rest : List ℕ) (p : Place) → Type 0
  Tokens text t rest p = (q : Place) × (token config flags (onto (text ++ rest) p) ≡ Ok (t, onto rest q))

  pub literal-reads : (c : ℕ) (rest : List ℕ) (p : Place) → Tokens (escaped_one c) (One (literal flags c)) rest p
  unfolding IsNext
  literal-reads c rest p = by (is_meta c) refl
    where
      by : (b : Bool) → is_meta c ≡ b → Tokens (if b then codes "\\" ++ c ∷ [] else c ∷ []) (One (literal flags c)) rest p
      by true is = let found = next-escaped p.groups p.names config flags c rest p.at is in
          (record { text = rest; at = found.0; groups = p.groups; names = p.names }, found.1)
      by false is = let found = next-plain p.groups p.names config flags c rest p.at is in
          (record { text = rest; at = found.0; groups = p.groups; names = p.names }, found.1)

  -- an atom of this kind, with the piece that it has there
  abbrev pub Atoms : (text : List ℕ) (a : Atom) (rest : List ℕ) (p : Place) → Type 0
  Atoms text a rest p = (piece : Piece) × Tokens text (One (atom flags piece a)) rest p

  pub dot-reads : (rest : List ℕ) (p : Place) → Atoms (codes ".") atoms.Dot rest p
  dot-reads rest p =
      let start : Place = onto (46 ∷ rest) p in (
        piece_of start (past start),
        (
          past start,
          token-some config flags start (goes-on 46 rest p) (here "*+?{" 46 rest p)
              ∙ begins-dot config 46 flags start refl,
        ),
      )

  escape-reads : (d : ℕ) (more rest : List ℕ) (p q : Place) (e : Escaped) (a : Atom) → escape (octal_of config) (onto (92 ∷ d ∷ more) p) ≡ Ok (e, onto rest q)
      → ((piece : Piece) → escaped_atom flags piece e ≡ atom flags piece a)
      → (piece : Piece) × (token config flags (onto (92 ∷ d ∷ more) p) ≡ Ok (One (atom flags piece a), onto rest q))
  unfolding escaped
  escape-reads d more rest p q e a is same =
      let start : Place = onto (92 ∷ d ∷ more) p in
      let piece : Piece = piece_of start (onto rest q) in (
        piece,
        token-some config flags start (goes-on 92 (d ∷ more) p) (here "*+?{" 92 (d ∷ more) p)
            ∙ begins-escape config 92 flags start refl
            ∙ ap (λ (r : Read Escaped). r >>= λ (e, q). Ok (One (escaped_atom flags (piece_of start q) e), q)) is
            ∙ ap (λ (s : Syntax). Ok (One s, onto rest q)) (same piece),
      )

  perl-at : (d : ℕ) (kind : ClassPerlKind) (negated : Bool) (rest : List ℕ) (p : Place) → Escapes (octal_of config) (92 ∷ d ∷ []) (Perl kind negated) rest p
      → Atoms (92 ∷ d ∷ []) (atoms.Perl kind negated) rest p
  perl-at d kind negated rest p (q, is) =
      let read = escape-reads d rest rest p q (Perl kind negated) (atoms.Perl kind negated) is (λ piece. refl) in (read.0, (q, read.1))

  pub perl-reads : (kind : ClassPerlKind) (negated : Bool) (rest : List ℕ) (p : Place) → Atoms (perl_text kind negated) (atoms.Perl kind negated) rest p
  perl-reads Digit false rest p = perl-at 100 Digit false rest p (perl-escapes (octal_of config) Digit false rest p)
  perl-reads Digit true rest p = perl-at 68 Digit true rest p (perl-escapes (octal_of config) Digit true rest p)
  perl-reads Space false rest p = perl-at 115 Space false rest p (perl-escapes (octal_of config) Space false rest p)
  perl-reads Space true rest p = perl-at 83 Space true rest p (perl-escapes (octal_of config) Space true rest p)
  perl-reads Word false rest p = perl-at 119 Word false rest p (perl-escapes (octal_of config) Word false rest p)
  perl-reads Word true rest p = perl-at 87 Word true rest p (perl-escapes (octal_of config) Word true rest p)

  -- a named set, from the brace on
  in-braces : (from : Place) (negated : Bool) (name rest : List ℕ) (p : Place) → list_all (in_name Braces) name ≡ true
      → starts_with nat_eq name (codes "^") ≡ false
      → (q : Place) × (property from negated (onto (123 ∷ name ++ 125 ∷ rest) p) ≡ Ok (Property name negated, onto rest q))
  unfolding property property_in_braces property_if braces_if
  in-braces from negated name rest p all plain =
      let start : Place = onto (123 ∷ name ++ 125 ∷ rest) p in
      let inner : Place = past start in
      let end = past-front (in_name Braces) name 125 rest inner all refl in
      let bracket : Place = onto (125 ∷ rest) end.0 in (
        past bracket,
        ap (λ (b : Bool). property_if from negated start b (is_at "{" start) (is_at "^" inner)) (goes-on 123 (name ++ 125 ∷ rest) p)
            ∙ ap (λ (b : Bool). property_if from negated start false b (is_at "^" inner)) (here "{" 123 (name ++ 125 ∷ rest) p)
            ∙ ap (property_if from negated start false true) (no-caret name rest inner plain)
            ∙ ap (λ (q : Place). braces_if from negated inner q (at_end q)) end.1
            ∙ ap (braces_if from negated inner bracket) (goes-on 125 rest end.0)
            ∙ ap (λ (xs : List ℕ). Ok (Property xs negated, past bracket)) (while-front (in_name Braces) name 125 rest all refl),
      )
    where
      no-caret : (name rest : List ℕ) (p : Place) → starts_with nat_eq name (codes "^") ≡ false → is_at "^" (onto (name ++ 125 ∷ rest) p) ≡ false
      no-caret [] rest p h = here "^" 125 rest p
      no-caret (c ∷ cs) rest p h = here "^" c (cs ++ 125 ∷ rest) p ∙ turned c 94 (by (94 == c) refl h)
        where
          by : (b : Bool) → (94 == c) ≡ b → (b && true) ≡ false → (94 == c) ≡ false
          by true is g = absurd (true≢false g)
          by false is g = is

  pub property-reads : (name : List ℕ) (negated : Bool) (rest : List ℕ) (p : Place) → list_all (in_name Braces) name ≡ true
      → starts_with nat_eq name (codes "^") ≡ false
      → Atoms (atom_text (atoms.Property name negated)) (atoms.Property name negated) rest p
  unfolding lettered
  property-reads name true rest p all plain =
      let more : List ℕ = 123 ∷ name ++ 125 ∷ rest in
      let start : Place = onto (92 ∷ 80 ∷ more) p in
      let found = in-braces start true name rest (past (past start)) all plain in
      let read = escape-reads 80 more rest p found.0 (Property name true) (atoms.Property name true)
      (letter-escapes (octal_of config) 80 more p refl refl ∙ found.1) (λ piece. refl) in
      (read.0, (found.0, ap (λ (t : List ℕ). token config flags (onto (92 ∷ 80 ∷ 123 ∷ t) p)) (append_assoc name (codes "}") rest) ∙ read.1))
  property-reads name false rest p all plain =
      let more : List ℕ = 123 ∷ name ++ 125 ∷ rest in
      let start : Place = onto (92 ∷ 112 ∷ more) p in
      let found = in-braces start false name rest (past (past start)) all plain in
      let read = escape-reads 112 more rest p found.0 (Property name false) (atoms.Property name false)
      (letter-escapes (octal_of config) 112 more p refl refl ∙ found.1) (λ piece. refl) in
      (read.0, (found.0, ap (λ (t : List ℕ). token config flags (onto (92 ∷ 112 ∷ 123 ∷ t) p)) (append_assoc name (codes "}") rest) ∙ read.1))

  -- an assertion after a backslash
  stands-at : (d : ℕ) (more rest : List ℕ) (p q : Place) (kind : AssertionKind) → is_digit d 8 ≡ false → is_ascii_digit d ≡ false
      → lettered (onto (92 ∷ d ∷ more) p) (past (onto (92 ∷ d ∷ more) p)) ≡ Ok (Assertion kind, onto rest q)
      → (piece : Piece) × (q : Place) × (token config flags (onto (92 ∷ d ∷ more) p) ≡ Ok (One (atom flags piece (atoms.Assertion kind)), onto rest q))
  stands-at d more rest p q kind small digit is =
      let read = escape-reads d more rest p q (Assertion kind) (atoms.Assertion kind) (letter-escapes (octal_of config) d more p small digit ∙ is)
      (λ piece. refl) in
      (read.0, q, read.1)

  boundary_if : Place → (a b c d : Bool) → AssertionKind × Place
  boundary_if p a b c d =
      if a then (WordBoundaryStart, past_n 7 p)
      else if b then (WordBoundaryEnd, past_n 5 p)
      else if c then (WordBoundaryStartHalf, past_n 12 p)
      else if d then (WordBoundaryEndHalf, past_n 10 p)
      else (WordBoundary, p)

  pub assertion-reads : (kind : AssertionKind) (rest : List ℕ) (p : Place) → calm rest ≡ true → Atoms (assertion_text kind) (atoms.Assertion kind) rest p
  unfolding lettered one_letter boundary past_n boundary_if
  assertion-reads StartLine rest p h =
      let start : Place = onto (94 ∷ rest) p in (
        piece_of start (past start),
        (
          past start,
          token-some config flags start (goes-on 94 rest p) (here "*+?{" 94 rest p)
              ∙ begins-start config 94 flags start refl,
        ),
      )
  assertion-reads EndLine rest p h =
      let start : Place = onto (36 ∷ rest) p in (
        piece_of start (past start),
        (
          past start,
          token-some config flags start (goes-on 36 rest p) (here "*+?{" 36 rest p)
              ∙ begins-end config 36 flags start refl,
        ),
      )
  assertion-reads StartText rest p h = let found = stands-at 65 rest rest p (past_n 2 (onto (codes "\\A" ++ rest) p)) StartText refl refl refl in
      (found.0, (found.1, found.2))
  assertion-reads EndText rest p h = let found = stands-at 122 rest rest p (past_n 2 (onto (codes "\\z" ++ rest) p)) EndText refl refl refl in
      (found.0, (found.1, found.2))
  assertion-reads WordBoundary rest p h =
      let start : Place = onto (codes "\\b" ++ rest) p in
      let q : Place = past_n 2 start in
      let goes : boundary q ≡ (WordBoundary, q) =
      (λ i. boundary_if q (no-word rest 115 (codes "tart}") h refl i) (no-word rest 101 (codes "nd}") h refl i)
      (no-word rest 115 (codes "tart-half}") h refl i) (no-word rest 101 (codes "nd-half}") h refl i)) in
      let found = stands-at 98 rest rest p q WordBoundary refl refl (ap (λ (x : AssertionKind × Place). Ok (Assertion x.0, x.1)) goes) in
      (found.0, (found.1, found.2))
  assertion-reads NotWordBoundary rest p h = let found = stands-at 66 rest rest p
      (past_n 2 (onto (codes "\\B" ++ rest) p)) NotWordBoundary refl refl refl in (found.0, (found.1, found.2))
  assertion-reads WordBoundaryStart rest p h =
      let found = stands-at 98 (codes "{start}" ++ rest) rest p (past_n 9 (onto (codes "\\b{start}" ++ rest) p)) WordBoundaryStart refl refl refl in
      (found.0, (found.1, found.2))
  assertion-reads WordBoundaryEnd rest p h =
      let found = stands-at 98 (codes "{end}" ++ rest) rest p (past_n 7 (onto (codes "\\b{end}" ++ rest) p)) WordBoundaryEnd refl refl refl in
      (found.0, (found.1, found.2))
  assertion-reads WordBoundaryStartHalf rest p h =
      let found = stands-at 98 (codes "{start-half}" ++ rest) rest p
      (past_n 14 (onto (codes "\\b{start-half}" ++ rest) p)) WordBoundaryStartHalf refl refl refl in (found.0, (found.1, found.2))
  assertion-reads WordBoundaryEndHalf rest p h =
      let found = stands-at 98 (codes "{end-half}" ++ rest) rest p
      (past_n 12 (onto (codes "\\b{end-half}" ++ rest) p)) WordBoundaryEndHalf refl refl refl in (found.0, (found.1, found.2))
