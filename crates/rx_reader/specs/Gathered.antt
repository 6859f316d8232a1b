-- What was gathered of a group.
use Rattle.std.specs.Prelude.{List, [], ◌∷◌, ◌++◌}
use Rattle.rx_reader.specs.declared.level.Level.{Level}
use Rattle.rx_reader.specs.Syntax.{Syntax, cat, alt, syntaxes}
use Rattle.rx_reader.specs.AstViews.{with_run}

-- branches that are done, and the items of the one being read
pub record Gathered : Type 0 where
  pub branches : List Syntax
  pub items : List Syntax

abbrev pub nothing : Gathered
nothing = record { branches = []; items = [] }

abbrev pub push_item : Gathered → Syntax → Gathered
push_item g item = record { branches = g.branches; items = g.items ++ item ∷ [] }

abbrev pub push_branch : Gathered → Gathered
push_branch g = record { branches = g.branches ++ cat (syntaxes g.items) ∷ []; items = [] }

-- all that was gathered
abbrev pub gathered_whole : Gathered → Syntax
gathered_whole g = alt (syntaxes (g.branches ++ cat (syntaxes g.items) ∷ []))

abbrev pub gathered : Level → Gathered
gathered l = record { branches = l.branches.items; items = with_run l.items.items l.flags l.run.items }
