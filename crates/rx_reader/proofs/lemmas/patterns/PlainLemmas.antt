-- An escaped text reads as its characters.
use Rattle.std.proofs.Common.{◌≡◌, ℕ, Bool, true, false, not, ◌&&◌, ◌||◌, ◌==◌, List, [], ◌∷◌, ◌++◌, Ok, refl, ap, sym, subst, ◌∙◌, true≢false, arith}
use Rattle.std.specs.Prelude.{codes, map, if◌then◌else◌}
use Rattle.std.specs.List.{list_any}
use Rattle.std.specs.Char.{is_whitespace, is_digit, is_ascii_digit}
use Rattle.rx_reader.specs.declared.config.Config.{Config}
use Rattle.rx_reader.specs.declared.flags.Flags.{Flags}
use Rattle.rx_reader.specs.declared.escape.Escaped.{Escaped}
use Rattle.rx_reader.specs.declared.error.SyntaxErrorKind.TheVariants.{UnopenedGroup, Escape, Unsupported}
use Rattle.rx_reader.specs.declared.token.Token.{Token}
use Rattle.rx_reader.specs.declared.token.Token.TheVariants.{Atom as One}
use Rattle.rx_reader.specs.Config.{flags_of, octal_of}
use Rattle.rx_reader.specs.Reading.{Place, Read, ◌>>=◌, refuse, piece_of, at_end, first, past, is_among}
use Rattle.rx_reader.specs.Ahead.{past_n, blank_len, skipped_len, skip}
use Rattle.rx_reader.specs.Escapes.{character, octal_digits, one_letter, lettered, escape}
use Rattle.rx_reader.specs.Syntax.{Syntax, literal}
use Rattle.rx_reader.specs.Plain.{is_meta, escaped_text, has_skipped, characters}
use Rattle.rx_reader.specs.Grammar.{escaped_atom, escaped, is_operator, token_of, token, all_repetitions, Branches, add_item, whole, branches_at, token_then, all_branches, to_end, read}
use Rattle.rx_reader.proofs.lemmas.branches.BranchLemmas.{token-end, all_repetitions-step, all_branches-step}
use Rattle.rx_reader.proofs.lemmas.places.PlaceLemmas.{not_at_end}
use Rattle.rx_reader.proofs.lemmas.printed.TextLemmas.{same-number, differ}
use Rattle.rx_reader.proofs.lemmas.branches.RepeatLemmas.{repeated_from, repeat_stops}
use Rattle.rx_reader.proofs.lemmas.tokens.TokenLemmas.{token-some, begins-escape}
use Rattle.std.proofs.lemmas.Bool.{or_parts}

-- Which character it is.

abbrev metas : List ℕ
metas = codes "\\.+*?()|[]{}^$#&-~"

abbrev Each : (ℕ → Type 0) → List ℕ → Type 0
Each P [] = Unit {0}
Each P (d ∷ ds) = P d × Each P ds

among-each : (P : ℕ → Type 0) (c : ℕ) (s : List ℕ) → is_among c s ≡ true → Each P s → P c
among-each P c [] h each = cc
among-each P c (d ∷ []) h each = subst P (sym (same-number c d h)) each.0
among-each P c (d ∷ e ∷ rest) h each = by (c == d) refl h (λ g. among-each P c (e ∷ rest) g each.1)
  where
    by : (b : Bool) → (c == d) ≡ b → (b || is_among c (e ∷ rest)) ≡ true → (is_among c (e ∷ rest) ≡ true → P c) → P c
    by true is g later = subst P (sym (same-number c d is)) each.0
    by false is g later = later g

-- a character that isn't among them is none of them
pub apart : (c d : ℕ) → is_meta c ≡ false → is_meta d ≡ true → (c == d) ≡ false
apart c d plain meta = differ is_meta false c d plain meta

-- an escape, by whether the pattern ends after its backslash
unfoldable pub escape_if : (ends octal : Bool) → (p q : Place) → Read Escaped
escape_if ends octal p q =
    if ends then refuse Escape p q
    else if octal && is_digit (first q) 8 then octal_digits p q
    else if not octal && is_ascii_digit (first q) then refuse Unsupported p (past q)
    else lettered p q

pub escape-goes : (octal : Bool) (p : Place) → at_end (past p) ≡ false → escape octal p ≡ escape_if false octal p (past p)
unfolding escape escape_if
escape-goes octal p more = ap (λ ends. escape_if ends octal p (past p)) more

skip-none : (flags : Flags) (p : Place) → skipped_len flags p.text ≡ 0 → skip flags p ≡ p
unfolding past_n
skip-none flags p none = ap (λ n. past_n n p) none

-- White space.

-- nothing that is skipped stands before an escaped text without white space
blank-none : (cs : List ℕ) → list_any is_whitespace cs ≡ false → blank_len false (escaped_text cs) ≡ 0
unfolding blank_len
blank-none [] h = refl
blank-none (c ∷ cs) h = by (is_meta c) refl
  where
    by : (b : Bool) → is_meta c ≡ b → blank_len false ((if b then codes "\\" ++ c ∷ [] else c ∷ []) ++ escaped_text cs) ≡ 0
    by true is = refl
    by false is = rw ((or_parts (is_whitespace c) (list_any is_whitespace cs) h).0, apart c 35 is refl) refl

skips-nothing : (flags : Flags) (cs : List ℕ) → has_skipped flags cs ≡ false → skipped_len flags (escaped_text cs) ≡ 0
skips-nothing flags cs h = by flags.ignore_whitespace h
  where
    by : (b : Bool) → (b && list_any is_whitespace cs) ≡ false → (if b then blank_len false (escaped_text cs) else 0) ≡ 0
    by true g = blank-none cs g
    by false g = refl

later-none : (flags : Flags) (c : ℕ) (cs : List ℕ) → has_skipped flags (c ∷ cs) ≡ false → has_skipped flags cs ≡ false
later-none flags c cs h = by flags.ignore_whitespace (is_whitespace c) h
  where
    by : (b d : Bool) → (b && (d || list_any is_whitespace cs)) ≡ false → (b && list_any is_whitespace cs) ≡ false
    by true true g = absurd (true≢false g)
    by true false g = g
    by false d g = refl

-- A place after which these characters stand.
module _ (g : ℕ) (ns : List (List ℕ)) where
  abbrev spot : List ℕ → ℕ → Place
  spot text a = record { text = text; at = a; groups = g; names = ns }

  -- more characters stand there
  goes-on : (c : ℕ) (rest : List ℕ) (a : ℕ) → at_end (spot (c ∷ rest) a) ≡ false
  goes-on c rest a = not_at_end (spot (c ∷ rest) a) (omega arith)

  -- after a backslash the character is itself
  abbrev IsEscape : Bool → List ℕ → ℕ → ℕ → Type 0
  IsEscape octal rest a d =
      let p = spot (92 ∷ d ∷ rest) a in escape_if false octal p (past p) ≡ Ok (character false d, past (past p))

  escapes : (octal : Bool) (rest : List ℕ) (a : ℕ) → Each (IsEscape octal rest a) metas
  unfolding escape_if lettered one_letter
  escapes true rest a = (
    refl,
    (
      refl,
      (refl, (refl, (refl, (refl, (refl, (refl, (refl, (refl, (refl, (refl, (refl, (refl, (refl, (refl, (refl, (refl, tt)))))))))))))))),
    ),
  )
  escapes false rest a = (
    refl,
    (
      refl,
      (refl, (refl, (refl, (refl, (refl, (refl, (refl, (refl, (refl, (refl, (refl, (refl, (refl, (refl, (refl, (refl, tt)))))))))))))))),
    ),
  )

  pub escape-itself : (octal : Bool) (c : ℕ) (rest : List ℕ) (a : ℕ) → is_meta c ≡ true
      → escape octal (spot (92 ∷ c ∷ rest) a) ≡ Ok (character false c, past (past (spot (92 ∷ c ∷ rest) a)))
  escape-itself octal c rest a meta =
      let p : Place = spot (92 ∷ c ∷ rest) a in
      escape-goes octal p (goes-on c rest (past p).at) ∙ among-each (IsEscape octal rest a) c metas meta (escapes octal rest a)

  no-operator : (cs : List ℕ) (a : ℕ) → is_operator (spot (escaped_text cs) a) ≡ false
  no-operator [] a = refl
  no-operator (c ∷ cs) a = by (is_meta c) refl
    where
      by : (b : Bool) → is_meta c ≡ b → is_operator (spot ((if b then codes "\\" ++ c ∷ [] else c ∷ []) ++ escaped_text cs) a) ≡ false
      by true is = rw (goes-on 92 (c ∷ escaped_text cs) a) refl
      by false is = rw (goes-on c (escaped_text cs) a, apart c 42 is refl, apart c 43 is refl, apart c 63 is refl, apart c 123 is refl) refl

  module _ (config : Config) (flags : Flags) where
    -- the next token is the character c, and these stand after it
    unfoldable pub IsNext : ℕ → List ℕ → Place → Type 0
    IsNext c rest p = (b : ℕ) × (token config flags p ≡ Ok (One (literal flags c), spot rest b))

    pub next-escaped : (c : ℕ) (rest : List ℕ) (a : ℕ) → is_meta c ≡ true → IsNext c rest (spot (92 ∷ c ∷ rest) a)
    unfolding IsNext escaped
    next-escaped c rest a meta =
        let p : Place = spot (92 ∷ c ∷ rest) a in
        let is : escape (octal_of config) p ≡ Ok (character false c, past (past p)) = escape-itself (octal_of config) c rest a meta in
        let alone : is_operator p ≡ false = rw (goes-on 92 (c ∷ rest) a) refl in (
          (past (past p)).at,
          token-some config flags p (goes-on 92 (c ∷ rest) a) alone ∙ begins-escape config 92 flags p refl
              ∙ ap (λ (r : Read Escaped). r >>= λ (e, q). Ok (One (escaped_atom flags (piece_of p q) e), q)) is,
        )

    pub next-plain : (c : ℕ) (rest : List ℕ) (a : ℕ) → is_meta c ≡ false → IsNext c rest (spot (c ∷ rest) a)
    unfolding IsNext token_of
    next-plain c rest a plain =
        let p : Place = spot (c ∷ rest) a in
        let alone : is_operator p ≡ false = rw
        (goes-on c rest a, apart c 42 plain refl, apart c 43 plain refl, apart c 63 plain refl, apart c 123 plain refl) refl in
        let is : token_of config c flags p ≡ Ok (One (literal flags c), past p) =
        rw (
          apart c 124 plain refl,
          apart c 41 plain refl,
          apart c 40 plain refl,
          apart c 91 plain refl,
          apart c 92 plain refl,
          apart c 46 plain refl,
          apart c 94 plain refl,
          apart c 36 plain refl,
        ) refl in
        ((past p).at, token-some config flags p (goes-on c rest a) alone ∙ is)

    next : (c : ℕ) (cs : List ℕ) (a : ℕ) → IsNext c (escaped_text cs) (spot (escaped_text (c ∷ cs)) a)
    next c cs a = by (is_meta c) refl
      where
        by : (b : Bool) → is_meta c ≡ b → IsNext c (escaped_text cs) (spot ((if b then codes "\\" ++ c ∷ [] else c ∷ []) ++ escaped_text cs) a)
        by true is = next-escaped c (escaped_text cs) a is
        by false is = next-plain c (escaped_text cs) a is

    -- these characters are read, up to the end of the text
    IsRow : List ℕ → Read Branches → Type 0
    IsRow cs reading = (q : Place) × (at_end q ≡ true) × (reading ≡ Ok (record { items = map (literal flags) cs; others = [] }, q))

    add-row : (c : ℕ) (cs : List ℕ) (reading : Read Branches) → IsRow cs reading → IsRow (c ∷ cs) (reading >>= λ (b, r). Ok (add_item (literal flags c) b, r))
    unfolding IsRow
    add-row c cs reading (q, ends, is) = (q, ends, ap (λ (r : Read Branches). r >>= λ (b, r). Ok (add_item (literal flags c) b, r)) is)

    -- nothing is skipped before the escaped text
    stands : (cs : List ℕ) (a : ℕ) → has_skipped flags cs ≡ false → skip flags (spot (escaped_text cs) a) ≡ spot (escaped_text cs) a
    stands cs a solid = skip-none flags (spot (escaped_text cs) a) (skips-nothing flags cs solid)

    -- no operator follows an item there
    stays : (item : Syntax) (cs : List ℕ) (a : ℕ) → has_skipped flags cs ≡ false
        → all_repetitions config flags item (spot (escaped_text cs) a) ≡ Ok (item, spot (escaped_text cs) a)
    stays item cs a solid =
        let p : Place = spot (escaped_text cs) a in
        all_repetitions-step config flags item p
        ∙ ap (λ (q : Place). repeated_from config flags item q) (stands cs a solid)
        ∙ repeat_stops config flags item p (no-operator cs a)

    rows : (opened : ℕ) (cs : List ℕ) (a : ℕ) → has_skipped flags cs ≡ false → IsRow cs (all_branches config flags opened (spot (escaped_text cs) a))
    unfolding IsRow IsNext
    rows opened [] a solid =
        let p : Place = spot [] a in (
          p,
          refl,
          all_branches-step config flags opened p
              ∙ ap (λ (q : Place). token_then config (all_branches config) flags opened q) (stands [] a solid)
              ∙ ap (λ (r : Read Token). r >>= branches_at config (all_branches config) flags opened p) (token-end config flags p refl),
        )
    rows opened (c ∷ cs) a solid =
        let p : Place = spot (escaped_text (c ∷ cs)) a in
        let (b, is) = next c cs a in
        let q : Place = spot (escaped_text cs) b in
        let later : has_skipped flags cs ≡ false = later-none flags c cs solid in
        let same : all_branches config flags opened p ≡ (all_branches config flags opened q >>= λ (b, r). Ok (add_item (literal flags c) b, r)) =
        all_branches-step config flags opened p
        ∙ ap (λ (q : Place). token_then config (all_branches config) flags opened q) (stands (c ∷ cs) a solid)
        ∙ ap (λ (r : Read Token). r >>= branches_at config (all_branches config) flags opened p) is
        ∙ ap (λ (r : Read Syntax). r >>= λ (item, q). all_branches config flags opened q >>= λ (b, r). Ok (add_item item b, r))
        (stays (literal flags c) cs b later) in
        subst (IsRow (c ∷ cs)) (sym same) (add-row c cs (all_branches config flags opened q) (rows opened cs b later))

pub escaped-reads : (config : Config) (cs : List ℕ) → has_skipped (flags_of config) cs ≡ false
    → read config (escaped_text cs) ≡ Ok (characters (flags_of config) cs)
unfolding read IsRow
escaped-reads config cs solid =
    let (q, ends, is) = rows 0 [] config (flags_of config) 0 cs 0 solid in
    let whole_row : Branches = record { items = map (literal (flags_of config)) cs; others = [] } in
    ap (λ (r : Read Branches). r >>= to_end config) is
    ∙ ap (λ (b : Bool). if b then Ok (whole whole_row) else refuse UnopenedGroup q (past q)) ends

-- a text without such characters is its own escaped text
plain-same : (cs : List ℕ) → list_any is_meta cs ≡ false → escaped_text cs ≡ cs
plain-same [] h = refl
plain-same (c ∷ cs) h = by (is_meta c) h (λ g. plain-same cs g)
  where
    by : (b : Bool) → (b || list_any is_meta cs) ≡ false → (list_any is_meta cs ≡ false → escaped_text cs ≡ cs)
        → (if b then codes "\\" ++ c ∷ [] else c ∷ []) ++ escaped_text cs ≡ c ∷ cs
    by true g more = absurd (true≢false g)
    by false g more = ap (λ rest. c ∷ rest) (more g)

pub plain-reads : (config : Config) (cs : List ℕ) → has_skipped (flags_of config) cs ≡ false → list_any is_meta cs ≡ false
    → read config cs ≡ Ok (characters (flags_of config) cs)
plain-reads config cs solid plain = ap (read config) (sym (plain-same cs plain)) ∙ escaped-reads config cs solid
