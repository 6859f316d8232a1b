-- The text before a group's body reads as its opening.
use Rattle.std.proofs.Common.{◌≡◌, ℕ, Bool, true, not, ◌&&◌, ◌||◌, ◌==◌, List, [], ◌∷◌, ◌++◌, Ok, refl, ◌∙◌, ap}
use Rattle.std.specs.Prelude.{codes, if◌then◌else◌}
use Rattle.rx_reader.specs.declared.config.Config.{Config}
use Rattle.rx_reader.specs.declared.flags.Flags.{Flags}
use Rattle.rx_reader.specs.declared.error.SyntaxErrorKind.TheVariants.{UnclosedGroup, Flag}
use Rattle.rx_reader.specs.declared.group_kind.GroupKind.{GroupKind}
use Rattle.rx_reader.specs.declared.group_kind.GroupKind.TheVariants.{NonCapturing, CaptureIndex, CaptureName}
use Rattle.rx_reader.specs.declared.opening.Opening.TheVariants.{Group, Directive}
use Rattle.rx_reader.specs.declared.token.Token.TheVariants.{Opens}
use Rattle.rx_reader.specs.Reading.{Place, Read, ◌>>=◌, refuse, past, ◌∈◌, is_at, count_group}
use Rattle.rx_reader.specs.Ahead.{past_n}
use Rattle.rx_reader.specs.Flags.{letters_after, changed, ends_with_hyphen, read_flags}
use Rattle.rx_reader.specs.Openings.{flagged, plain, opening}
use Rattle.rx_reader.specs.Groups.{number_after}
use Rattle.rx_reader.specs.Grammar.{token}
use Rattle.rx_reader.specs.Printable.{IsUnnamed, bare_kind}
use Rattle.rx_reader.specs.Printed.{opening_text}
use Rattle.rx_reader.proofs.lemmas.printed.TextLemmas.{onto, goes-on, here, quiet, no-question}
use Rattle.rx_reader.proofs.lemmas.tokens.TokenLemmas.{token-some, begins-opens, opens-ok}
use Rattle.std.proofs.Math.Bool.{and-true}

-- no letter changes no flag
unchanged : (flags : Flags) → changed [] flags ≡ flags
unchanged flags = λ i. record {
  case_insensitive = and-true flags.case_insensitive i;
  multi_line = and-true flags.multi_line i;
  dot_matches_new_line = and-true flags.dot_matches_new_line i;
  swap_greed = and-true flags.swap_greed i;
  unicode = and-true flags.unicode i;
  crlf = and-true flags.crlf i;
  ignore_whitespace = and-true flags.ignore_whitespace i;
}

flags_if : (from q : Place) (flags : Flags) (ends : Bool) → Read Flags
flags_if from q flags ends =
    if ends then refuse UnclosedGroup from (past from)
    else if not (ends_with_hyphen []) && ((not ends && 58 ∈ ":") || ((not ends && 58 ∈ ")") && not (0 == 0))) then Ok (changed [] flags, q)
    else refuse Flag q (past q)

-- `(?:`
flags-read : (from p : Place) (flags : Flags) (rest : List ℕ) → read_flags from flags (onto (58 ∷ rest) p) ≡ Ok (flags, onto (58 ∷ rest) p)
unfolding read_flags letters_after past_n flags_if
flags-read from p flags rest =
    let q : Place = onto (58 ∷ rest) p in
    ap (flags_if from q flags) (goes-on 58 rest p) ∙ ap (λ (f : Flags). Ok (f, q)) (unchanged flags)

uncaptured : (flags : Flags) (rest : List ℕ) (p : Place)
    → (q : Place) × (opening flags (onto (codes "(?:" ++ rest) p) ≡ Ok (Group NonCapturing flags, onto rest q))
unfolding opening flagged past_n
uncaptured flags rest p =
    let start : Place = onto (codes "(?:" ++ rest) p in
    let q : Place = past_n 2 start in (
      past q,
      ap (λ (r : Read Flags). r >>= λ (changed, q). Ok (if is_at ":" q then Group NonCapturing changed else Directive changed, past q))
          (flags-read start q flags rest)
          ∙ ap (λ (b : Bool). Ok (if b then Group NonCapturing flags else Directive flags, past q)) (here ":" 58 rest q),
    )

-- `(`, where no `?` comes after it
captured : (flags : Flags) (rest : List ℕ) (p : Place) → quiet rest ≡ true → opening flags (onto (40 ∷ rest) p) ≡ Ok (plain flags (onto (40 ∷ rest) p))
unfolding opening
captured flags [] p h = refl
captured flags (c ∷ cs) p h = rw (no-question c h) refl

module _ (config : Config) (flags : Flags) where
  -- the token is the opening of a group of such a kind, with the same flags in it, and this text stands after it
  abbrev pub OpensAs : (kind : GroupKind) (text rest : List ℕ) (p : Place) → Type 0
  OpensAs kind text rest p =
      (own : GroupKind) × (q : Place) × (token config flags (onto (text ++ rest) p) ≡ Ok (Opens own flags, onto rest q)) × (bare_kind own ≡ bare_kind kind)

  opens-at : (more : List ℕ) (p : Place) (kind : GroupKind) (q : Place) → opening flags (onto (40 ∷ more) p) ≡ Ok (Group kind flags, q)
      → token config flags (onto (40 ∷ more) p) ≡ Ok (Opens kind flags, q)
  opens-at more p kind q is =
      let start : Place = onto (40 ∷ more) p in
      token-some config flags start (goes-on 40 more p) (here "*+?{" 40 more p) ∙ begins-opens config 40 flags start refl
      ∙ opens-ok flags start (Group kind flags) q (Opens kind flags) is refl

  pub opening-reads : (kind : GroupKind) (rest : List ℕ) (p : Place) → IsUnnamed kind → quiet rest ≡ true → OpensAs kind (opening_text kind) rest p
  opening-reads NonCapturing rest p has h =
      let found = uncaptured flags rest p in
      (NonCapturing, found.0, opens-at (codes "?:" ++ rest) p NonCapturing (onto rest found.0) found.1, refl)
  opening-reads (CaptureIndex number) rest p has h =
      let start : Place = onto (40 ∷ rest) p in
      let own : GroupKind = CaptureIndex (number_after start.groups) in
      (own, count_group (past start), opens-at rest p own (count_group (past start)) (captured flags rest p h), refl)
  opening-reads (CaptureName number name) rest p has h = absurd has
