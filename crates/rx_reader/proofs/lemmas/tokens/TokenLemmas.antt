-- What a token is, by how it begins.
use Rattle.std.proofs.Common.{◌≡◌, ℕ, Bool, true, false, Ok, Err, refl, ◌∙◌, ap, sym}
use Rattle.std.specs.Prelude.{if◌then◌else◌}
use Rattle.rx_reader.specs.declared.config.Config.{Config}
use Rattle.rx_reader.specs.declared.flags.Flags.{Flags}
use Rattle.rx_reader.specs.declared.piece.Piece.{Piece}
use Rattle.rx_reader.specs.declared.error.SyntaxError.{SyntaxError}
use Rattle.rx_reader.specs.declared.assertion.AssertionKind.TheVariants.{StartLine, EndLine}
use Rattle.rx_reader.specs.declared.atom.Atom.{Atom}
use Rattle.rx_reader.specs.declared.atom.Atom.TheVariants as atoms
use Rattle.rx_reader.specs.declared.escape.Escaped.{Escaped}
use Rattle.rx_reader.specs.declared.opening.Opening.{Opening}
use Rattle.rx_reader.specs.declared.token.Token.{Token}
use Rattle.rx_reader.specs.declared.token.Token.TheVariants.{End, Bar, Close, Atom as One}
use Rattle.rx_reader.specs.Config.{octal_of}
use Rattle.rx_reader.specs.Reading.{Place, Read, ◌>>=◌, piece_of, at_end, first, past}
use Rattle.rx_reader.specs.Escapes.{escape}
use Rattle.rx_reader.specs.Classes.{class}
use Rattle.rx_reader.specs.Openings.{opening}
use Rattle.rx_reader.specs.Syntax.{Syntax, atom}
use Rattle.rx_reader.specs.Grammar.{opened, opens, single, escaped_atom, escaped, bracketed, is_operator, stray_operator, token_of, token}

-- the piece between two places
pub piece_between : (s : ℕ) (p q : Place) (piece : Piece) → piece ≡ record { start = s; end = q.at } → s ≡ p.at → piece ≡ piece_of p q
piece_between s p q piece is start = is ∙ ap (λ (n : ℕ). record { start = n; end = q.at }) start

-- openings

pub opens-err : (flags : Flags) (p : Place) (e : SyntaxError) → opening flags p ≡ Err e → opens flags p ≡ Err e
unfolding opens
opens-err flags p e h = ap (λ (r : Read Opening). r >>= λ (o, q). Ok (opened o, q)) h

pub opens-ok : (flags : Flags) (p : Place) (o : Opening) (q : Place) (t : Token) → opening flags p ≡ Ok (o, q) → t ≡ opened o → opens flags p ≡ Ok (t, q)
unfolding opens
opens-ok flags p o q t h is = ap (λ (r : Read Opening). r >>= λ (o, q). Ok (opened o, q)) h ∙ ap (λ (x : Token). Ok (x, q)) (sym is)

module _ (config : Config) where
  pub escaped-err : (octal : Bool) (flags : Flags) (p : Place) (e : SyntaxError) → octal ≡ octal_of config → escape octal p ≡ Err e
      → escaped config flags p ≡ Err e
  unfolding escaped
  escaped-err octal flags p e same h =
      ap (λ (r : Read Escaped). r >>= λ (x, q). Ok (One (escaped_atom flags (piece_of p q) x), q)) (ap (λ (b : Bool). escape b p) (sym same) ∙ h)

  pub escaped-ok : (octal : Bool) (flags : Flags) (p : Place) (x : Escaped) (q : Place) (piece : Piece) (s : Syntax) → octal ≡ octal_of config
      → escape octal p ≡ Ok (x, q) → piece ≡ piece_of p q → s ≡ escaped_atom flags piece x → escaped config flags p ≡ Ok (One s, q)
  unfolding escaped
  escaped-ok octal flags p x q piece s same h at is =
      ap (λ (r : Read Escaped). r >>= λ (x, q). Ok (One (escaped_atom flags (piece_of p q) x), q)) (ap (λ (b : Bool). escape b p) (sym same) ∙ h)
      ∙ ap (λ (k : Piece). Ok (One (escaped_atom flags k x), q)) (sym at) ∙ ap (λ (t : Syntax). Ok (One t, q)) (sym is)

  pub bracketed-err : (octal : Bool) (flags : Flags) (p : Place) (e : SyntaxError) → octal ≡ octal_of config → class octal flags.ignore_whitespace p ≡ Err e
      → bracketed config flags p ≡ Err e
  unfolding bracketed
  bracketed-err octal flags p e same h =
      ap (λ (r : Read Atom). r >>= λ (a, q). Ok (One (atom flags (piece_of p q) a), q)) (ap (λ (b : Bool). class b flags.ignore_whitespace p) (sym same) ∙ h)

  pub bracketed-ok : (octal : Bool) (flags : Flags) (p : Place) (a : Atom) (q : Place) (piece : Piece) (s : Syntax) → octal ≡ octal_of config
      → class octal flags.ignore_whitespace p ≡ Ok (a, q) → piece ≡ piece_of p q → s ≡ atom flags piece a → bracketed config flags p ≡ Ok (One s, q)
  unfolding bracketed
  bracketed-ok octal flags p a q piece s same h at is =
      ap (λ (r : Read Atom). r >>= λ (a, q). Ok (One (atom flags (piece_of p q) a), q)) (ap (λ (b : Bool). class b flags.ignore_whitespace p) (sym same) ∙ h)
      ∙ ap (λ (k : Piece). Ok (One (atom flags k a), q)) (sym at) ∙ ap (λ (t : Syntax). Ok (One t, q)) (sym is)

  -- by the first character

  pub begins-bar : (c : ℕ) (flags : Flags) (p : Place) → c ≡ 124 → token_of config c flags p ≡ Ok (Bar, past p)
  unfolding token_of
  begins-bar c flags p is = rw is refl

  pub begins-close : (c : ℕ) (flags : Flags) (p : Place) → c ≡ 41 → token_of config c flags p ≡ Ok (Close, past p)
  unfolding token_of
  begins-close c flags p is = rw is refl

  pub begins-opens : (c : ℕ) (flags : Flags) (p : Place) → c ≡ 40 → token_of config c flags p ≡ opens flags p
  unfolding token_of
  begins-opens c flags p is = rw is refl

  pub begins-class : (c : ℕ) (flags : Flags) (p : Place) → c ≡ 91 → token_of config c flags p ≡ bracketed config flags p
  unfolding token_of
  begins-class c flags p is = rw is refl

  pub begins-escape : (c : ℕ) (flags : Flags) (p : Place) → c ≡ 92 → token_of config c flags p ≡ escaped config flags p
  unfolding token_of
  begins-escape c flags p is = rw is refl

  pub begins-dot : (c : ℕ) (flags : Flags) (p : Place) → c ≡ 46 → token_of config c flags p ≡ single flags atoms.Dot p
  unfolding token_of
  begins-dot c flags p is = rw is refl

  pub begins-start : (c : ℕ) (flags : Flags) (p : Place) → c ≡ 94 → token_of config c flags p ≡ single flags (atoms.Assertion StartLine) p
  unfolding token_of
  begins-start c flags p is = rw is refl

  pub begins-end : (c : ℕ) (flags : Flags) (p : Place) → c ≡ 36 → token_of config c flags p ≡ single flags (atoms.Assertion EndLine) p
  unfolding token_of
  begins-end c flags p is = rw is refl

  -- an operator, and what is none
  token_if : Flags → Place → (ends stray : Bool) → Read Token
  token_if flags p ends stray = if ends then Ok (End, p) else if stray then stray_operator p else token_of config (first p) flags p

  pub token-stray : (flags : Flags) (p : Place) → at_end p ≡ false → is_operator p ≡ true → token config flags p ≡ stray_operator p
  unfolding token token_if
  token-stray flags p more is = ap (λ (b : Bool). token_if flags p b (is_operator p)) more ∙ ap (token_if flags p false) is

  pub token-some : (flags : Flags) (p : Place) → at_end p ≡ false → is_operator p ≡ false → token config flags p ≡ token_of config (first p) flags p
  unfolding token token_if
  token-some flags p more is = ap (λ (b : Bool). token_if flags p b (is_operator p)) more ∙ ap (token_if flags p false) is
