-- What a pattern reads as: its syntax, or the first refusal.
use Rattle.std.specs.Prelude.{ℕ, zero, suc, ◌+◌, Bool, true, false, nat_lt, List, [], ◌∷◌, length, Result, Ok, if◌then◌else◌}
use Rattle.rx_reader.specs.declared.error.SyntaxError.{SyntaxError}
use Rattle.rx_reader.specs.declared.error.SyntaxErrorKind.TheVariants.{UnclosedGroup, UnopenedGroup, RepeatNothing, NestLimit, Unsupported}
use Rattle.rx_reader.specs.declared.config.Config.{Config}
use Rattle.rx_reader.specs.declared.flags.Flags.{Flags}
use Rattle.rx_reader.specs.declared.piece.Piece.{Piece}
use Rattle.rx_reader.specs.declared.assertion.AssertionKind.TheVariants.{StartLine, EndLine}
use Rattle.rx_reader.specs.declared.atom.Atom.TheVariants as atoms
use Rattle.rx_reader.specs.declared.atom.Atom.{Atom}
use Rattle.rx_reader.specs.declared.escape.Escaped.{Escaped}
use Rattle.rx_reader.specs.declared.escape.Escaped.TheVariants as escapes
use Rattle.rx_reader.specs.declared.group_kind.GroupKind.{GroupKind}
use Rattle.rx_reader.specs.declared.opening.Opening.{Opening}
use Rattle.rx_reader.specs.declared.opening.Opening.TheVariants as openings
use Rattle.rx_reader.specs.declared.operator.Operator.{Operator}
use Rattle.rx_reader.specs.declared.token.Token.{Token}
use Rattle.rx_reader.specs.declared.token.Token.TheVariants.{End, Bar, Close, Opens, Directive, Atom as One}
use Rattle.rx_reader.specs.Config.{flags_of, limit_of, octal_of}
use Rattle.rx_reader.specs.Reading.{Place, Read, ◌>>=◌, refuse, piece_of, at_end, first, past, ◌∈◌, is_at, begins}
use Rattle.rx_reader.specs.Ahead.{past_n, skip}
use Rattle.rx_reader.specs.Escapes.{escape}
use Rattle.rx_reader.specs.Classes.{class}
use Rattle.rx_reader.specs.Counts.{operator}
use Rattle.rx_reader.specs.Openings.{opening}
use Rattle.rx_reader.specs.Syntax.{Syntax, literal, atom, repeated, group, cat, alt, syntaxes, depth}

-- Tokens.

-- what an opening parenthesis begins
abbrev pub opened : Opening → Token
opened (openings.Group kind inside) = Opens kind inside
opened (openings.Directive next) = Directive next

unfoldable pub opens : Flags → Place → Read Token
opens flags p = opening flags p >>= λ (o, q). Ok (opened o, q)

-- an atom of one character
abbrev pub single : Flags → Atom → Place → Read Token
single flags a p = Ok (One (atom flags (piece_of p (past p)) a), past p)

-- an escape as an atom
abbrev pub escaped_atom : Flags → Piece → Escaped → Syntax
escaped_atom flags piece (escapes.Character c) = if c.is_hex_byte then atom flags piece (atoms.HexByte c.character) else literal flags c.character
escaped_atom flags piece (escapes.Assertion kind) = atom flags piece (atoms.Assertion kind)
escaped_atom flags piece (escapes.Perl kind negated) = atom flags piece (atoms.Perl kind negated)
escaped_atom flags piece (escapes.Property name negated) = atom flags piece (atoms.Property name negated)

-- an operator of repetition begins at the place
abbrev pub is_operator : Place → Bool
is_operator p = is_at "*+?{" p

-- such an operator that has nothing before it to repeat
abbrev pub stray_operator : Place → Read Token
stray_operator p = if begins "{," p then refuse Unsupported p (past_n 2 p) else refuse RepeatNothing p (past p)

module _ (config : Config) where
  unfoldable pub escaped : Flags → Place → Read Token
  escaped flags p = escape (octal_of config) p >>= λ (e, q). Ok (One (escaped_atom flags (piece_of p q) e), q)

  -- a class in brackets
  unfoldable pub bracketed : Flags → Place → Read Token
  bracketed flags p = class (octal_of config) flags.ignore_whitespace p >>= λ (a, q). Ok (One (atom flags (piece_of p q) a), q)

  -- the token at the place, where c stands, which begins no operator
  unfoldable pub token_of : (c : ℕ) → Flags → Place → Read Token
  token_of c flags p =
      if c ∈ "|" then Ok (Bar, past p)
      else if c ∈ ")" then Ok (Close, past p)
      else if c ∈ "(" then opens flags p
      else if c ∈ "[" then bracketed flags p
      else if c ∈ "\\" then escaped flags p
      else if c ∈ "." then single flags atoms.Dot p
      else if c ∈ "^" then single flags (atoms.Assertion StartLine) p
      else if c ∈ "$" then single flags (atoms.Assertion EndLine) p
      else Ok (One (literal flags c), past p)

  -- the token at the place
  unfoldable pub token : Flags → Place → Read Token
  token flags p =
      if at_end p then Ok (End, p)
      else if is_operator p then stray_operator p
      else token_of (first p) flags p

-- Items, branches and groups, where nothing passes the limit.

abbrev pub repeated_by : Operator → Syntax → Syntax
repeated_by o item = repeated o.min o.max o.greedy item

-- what is read of a group or of the pattern: the items of its first branch, and the branches after it
pub record Branches : Type 0 where
  pub items : List Syntax
  pub others : List Syntax

abbrev pub no_items : Branches
no_items = record { items = []; others = [] }

-- an item before the first branch
abbrev pub add_item : Syntax → Branches → Branches
add_item item b = record { items = item ∷ b.items; others = b.others }

-- a branch without items before them
abbrev pub add_branch : Branches → Branches
add_branch b = record { items = []; others = cat (syntaxes b.items) ∷ b.others }

abbrev pub whole : Branches → Syntax
whole b = alt (syntaxes (cat (syntaxes b.items) ∷ b.others))

module _ (config : Config) where
  -- the syntax, if its depth is within the limit; the token from p to q makes it so deep
  abbrev pub within_limit : Syntax → Place → Place → Read Syntax
  within_limit s p q = if nat_lt (limit_of config) (depth s) then refuse NestLimit p q else Ok (s, q)

  -- the item itself, or under the operator at the place and those that follow
  abbrev pub repeat_if : (more : Syntax → Place → Read Syntax) → Flags → Syntax → Place → Bool → Read Syntax
  repeat_if more flags item p false = Ok (item, p)
  repeat_if more flags item p true = do
    (o, q) ← operator flags p
    (s, r) ← within_limit (repeated_by o item) p q
    more s r

  -- An item under each operator that follows it, with what is skipped between them; each call reads an operator,
  -- and the number bounds the calls.
  unfoldable pub repetitions : ℕ → Flags → Syntax → Place → Read Syntax
  repetitions zero flags item p = Ok (item, p)
  repetitions (suc n) flags item p =
      let q = skip flags p in repeat_if (repetitions n flags) flags item q (is_operator q)

  -- the item that ends at the place, under each operator that follows it
  abbrev pub all_repetitions : Flags → Syntax → Place → Read Syntax
  all_repetitions flags item p = repetitions (length p.text + 1) flags item p

  -- the group whose body was read up to r; it was opened at p
  abbrev pub close_group : GroupKind → Place → Syntax → Place → Read Syntax
  close_group kind p body r =
      if at_end r then refuse UnclosedGroup p (past p)
      else within_limit (group kind body) r (past r)

  -- an item, and the branches after it
  abbrev pub item_then : (more : Place → Read Branches) → Flags → Syntax → Place → Read Branches
  item_then more flags item p = do
    (whole_item, q) ← all_repetitions flags item p
    (b, r) ← more q
    Ok (add_item whole_item b, r)

  -- A group that was opened at p, with the flags `inside` in it, and the branches after it, where the flags are again as
  -- before it; or too many open groups.
  abbrev pub group_then : (more : Flags → ℕ → Place → Read Branches) → Flags → (opened : ℕ) → (p : Place) → GroupKind → (inside : Flags) → Place
      → (too_many : Bool) → Read Branches
  group_then more flags opened p kind inside q true = refuse NestLimit p q
  group_then more flags opened p kind inside q false = do
    (body, r) ← more inside (opened + 1) q
    (item, after) ← close_group kind p (whole body) r
    item_then (more flags opened) flags item after

  -- the branches that begin with the token from p to q
  abbrev pub branches_at : (more : Flags → ℕ → Place → Read Branches) → Flags → (opened : ℕ) → (p : Place) → Token × Place → Read Branches
  branches_at more flags opened p (End, q) = Ok (no_items, p)
  branches_at more flags opened p (Close, q) = Ok (no_items, p)
  branches_at more flags opened p (Bar, q) = more flags opened q >>= λ (b, r). Ok (add_branch b, r)
  branches_at more flags opened p (Directive next, q) = more next opened q
  branches_at more flags opened p (One item, q) = item_then (more flags opened) flags item q
  branches_at more flags opened p (Opens kind inside, q) = group_then more flags opened p kind inside q (nat_lt (limit_of config) (opened + 1))

  -- the branches that begin with the token at the place
  abbrev pub token_then : (more : Flags → ℕ → Place → Read Branches) → Flags → (opened : ℕ) → Place → Read Branches
  token_then more flags opened p = token config flags p >>= branches_at more flags opened p

  -- The branches up to the end of the group, or of the pattern, with so many groups open. Each call reads a
  -- token, and what is skipped before it, and the number bounds the calls.
  unfoldable pub branches : ℕ → Flags → (opened : ℕ) → Place → Read Branches
  branches zero flags opened p = Ok (no_items, p)
  branches (suc n) flags opened p = token_then (branches n) flags opened (skip flags p)

  abbrev pub all_branches : Flags → (opened : ℕ) → Place → Read Branches
  all_branches flags opened p = branches (length p.text + 1) flags opened p

  abbrev pub to_end : Branches × Place → Result Syntax SyntaxError
  to_end (b, p) = if at_end p then Ok (whole b) else refuse UnopenedGroup p (past p)

  -- what the text reads as
  unfoldable pub read : List ℕ → Result Syntax SyntaxError
  read text = all_branches (flags_of config) 0 (record { text = text; at = 0; groups = 0; names = [] }) >>= to_end
