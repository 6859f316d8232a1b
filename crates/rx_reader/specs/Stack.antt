-- What the groups that are open, and what was gathered in them, make of what is read next.
use Rattle.std.specs.Prelude.{ℕ, ◌+◌, ◌≡◌, nat_lt, List, [], ◌∷◌, ◌++◌, length, Result, Ok, Err, MatchResult, if◌then◌else◌}
use Rattle.rx_reader.specs.declared.error.ParseError.{ParseError}
use Rattle.rx_reader.specs.declared.error.SyntaxError.{SyntaxError}
use Rattle.rx_reader.specs.declared.error.SyntaxErrorKind.TheVariants.{UnclosedGroup, UnopenedGroup}
use Rattle.rx_reader.specs.declared.config.Config.{Config}
use Rattle.rx_reader.specs.declared.flags.Flags.{Flags}
use Rattle.rx_reader.specs.declared.group_kind.GroupKind.{GroupKind}
use Rattle.rx_reader.specs.declared.parser.Frame.{Frame}
use Rattle.rx_reader.specs.declared.parser.Parser.{Parser}
use Rattle.rx_reader.specs.Reading.{Place, Read, ◌>>=◌, refuse, at_end, past}
use Rattle.rx_reader.specs.Syntax.{Syntax, group, cat, alt, syntaxes}
use Rattle.rx_reader.specs.Grammar.{Branches, within_limit, all_repetitions, item_then, group_then, token_then, all_branches}
use Rattle.rx_reader.specs.Config.{limit_of}
use Rattle.rx_reader.specs.Input.{place, Refuses}
pub use Rattle.rx_reader.specs.Gathered.{Gathered, nothing, push_item, push_branch, gathered_whole, gathered}

-- what was gathered, and these after it
abbrev pub merged : Gathered → Branches → Syntax
merged g b = alt (syntaxes (g.branches ++ cat (syntaxes (g.items ++ b.items)) ∷ b.others))

-- what stands around an open group: what was gathered there, the piece of its parenthesis, its kind, and the flags
-- around it
pub record Around : Type 0 where
  pub gathered : Gathered
  pub start : ℕ
  pub end : ℕ
  pub kind : GroupKind
  pub flags : Flags

abbrev pub around : Frame → Around
around f = record { gathered = gathered f.level; start = f.opening.start; end = f.opening.end; kind = f.kind; flags = f.flags }

-- the innermost first
abbrev pub innermost : List Frame → List Around
innermost [] = []
innermost (f ∷ fs) = innermost fs ++ around f ∷ []

module _ (config : Config) where
  abbrev pub close_at : Around → Syntax → Place → Read Syntax
  close_at f body q =
      if at_end q then Err (record { kind = UnclosedGroup; start = f.start; end = f.end })
      else within_limit config (group f.kind body) q (past q)

  -- the answer, where this is read in the innermost group
  unfoldable pub resume : List Around → Gathered → Read Branches → Result Syntax SyntaxError
  resume [] g (Err e) = Err e
  resume [] g (Ok (b, q)) = if at_end q then Ok (merged g b) else refuse UnopenedGroup q (past q)
  resume (f ∷ fs) g (Err e) = Err e
  resume (f ∷ fs) g (Ok (b, q)) =
      close_at f (merged g b) q >>= λ (s, after). all_repetitions config f.flags s after >>= λ (item, r). resume fs (push_item f.gathered item)
      (all_branches config f.flags (length fs) r)

-- the answer, where this is read next
abbrev pub answer_with : Parser → Read Branches → Result Syntax SyntaxError
answer_with s reading = resume s.config (innermost s.frames.items) (gathered s.level) reading

abbrev pub opened_in : Parser → ℕ
opened_in s = length (innermost s.frames.items)

-- what is read from the place on, under these flags
abbrev pub reads_on : Parser → Flags → Place → Read Branches
reads_on s flags p = all_branches s.config flags (opened_in s) p

-- the answer that the parser is to give
abbrev pub answer : Parser → Result Syntax SyntaxError
answer s = answer_with s (reads_on s s.flags (place s.cursor))

-- the same, where the next token stands at the place
abbrev pub answer_at_token : Parser → Place → Result Syntax SyntaxError
answer_at_token s p = answer_with s (token_then s.config (all_branches s.config) s.flags (opened_in s) p)

-- the same, where the item was read up to the place
abbrev pub answer_at_item : Parser → Syntax → Place → Result Syntax SyntaxError
answer_at_item s item p = answer_with s (item_then s.config (reads_on s s.flags) s.flags item p)

-- the same, where the opening of a group at p was read up to q: its kind, and the flags in it
abbrev pub answer_at_group : Parser → (p : Place) → GroupKind → (inside : Flags) → (q : Place) → Result Syntax SyntaxError
answer_at_group s p kind inside q =
    answer_with s (group_then s.config (all_branches s.config) s.flags (opened_in s) p kind inside q (nat_lt (limit_of s.config) (opened_in s + 1)))

-- the parser is still to give this answer, or the error is its refusal
abbrev pub Continues : {A : Type 0} → Result A ParseError → Parser → Result Syntax SyntaxError → Type 0
Continues result s whole = MatchResult result (λ _. answer s ≡ whole) (λ e. Refuses e whole)
