-- What a concatenation has gathered.
use Rattle.std.specs.Prelude.{List}
use Rattle.rx_model.specs.Expression.{Expression}
use Rattle.rx_hir.specs.Joined.{AreApart}
use Rattle.rx_hir.specs.declared.hir.concat.Row.{Row}

-- these are the parts of the row, joined
abbrev pub Holds : Row → List Expression → Type 0
Holds row hs = AreApart row.parts.items row.bytes.items hs
