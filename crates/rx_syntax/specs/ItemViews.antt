-- What the program makes of the items of a concatenation, and how large an item is.
use Rattle.std.specs.Prelude.{ℕ, suc, List, [], ◌∷◌, map, Result, Ok, if◌then◌else◌}
use lib.Utf8.{encodes}
use Rattle.rx_model.specs.Expression.{Expression}
use Rattle.rx_hir.specs.Normal.{literal_of, concat_of, alternation_of}
use Rattle.rx_reader.specs.Reading.{◌>>=◌}
use Rattle.rx_reader.specs.Syntax.{Syntax}
use Rattle.rx_reader.specs.Coded.{syntax_size}
use Rattle.rx_reader.specs.declared.config.Config.{Config}
use Rattle.rx_reader.specs.declared.flags.Flags.{Flags}
use Rattle.rx_reader.specs.declared.error.SyntaxError.{SyntaxError}
use Rattle.rx_reader.specs.declared.ast.Item.{Item}
use Rattle.rx_reader.specs.declared.ast.Item.TheVariants.{Literals, One}
use Rattle.rx_syntax.specs.Literals.{in_either_case}
use Rattle.rx_syntax.specs.Refused.{gathered}
use Rattle.rx_syntax.specs.Translation.{translated}

-- a run of characters is one literal where `i` is off
abbrev pub run_parts : Flags → List ℕ → List Expression
run_parts flags run = if flags.case_insensitive then map (in_either_case flags) run else literal_of (encodes run) ∷ []

abbrev pub item_parts : Config → Item → Result (List Expression) SyntaxError
item_parts config (Literals flags run) = Ok (run_parts flags run.items)
item_parts config (One item) = translated config item >>= λ e. Ok (e ∷ [])

-- those of all items
abbrev pub all_parts : Config → List Item → Result (List Expression) SyntaxError
all_parts config items = gathered (item_parts config) items

-- the expression of a branch, as a list of one
abbrev pub branch_parts : Config → Syntax → Result (List Expression) SyntaxError
branch_parts config branch = translated config branch >>= λ e. Ok (e ∷ [])

-- the expression of the items, one after another
abbrev pub row_of : Config → List Item → Result Expression SyntaxError
row_of config items = all_parts config items >>= λ es. Ok (concat_of es)

-- the expression of one of the branches
abbrev pub choice_of : Config → List Syntax → Result Expression SyntaxError
choice_of config branches = gathered (branch_parts config) branches >>= λ es. Ok (alternation_of es)

-- these one after another, as the only branch
abbrev pub only_branch : List Expression → Expression
only_branch es = alternation_of (concat_of es ∷ [])

-- one more than that of its syntax; a run of characters has none
abbrev pub item_size : Item → ℕ
item_size (Literals flags run) = 0
item_size (One item) = suc (syntax_size item)
