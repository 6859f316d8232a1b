-- What the escapes `\pX` and `\p{name}` stand for.
use Rattle.std.specs.Prelude.{ℕ, List, Option, option_map}
use Rattle.unicode.specs.Lookup.{by_name}
use Rattle.unicode.specs.Loose.{normalize}
use Rattle.unicode.specs.Sets.{in_set}
use Rattle.rx_sets.specs.declared.named.PropertySet.{PropertySet}
use Rattle.rx_sets.specs.Members.{scalars_where}

-- the set that Unicode names so, if it names one: a binary property, else a general category, else a script, by
-- its name in a loose comparison
abbrev pub set_named : (name : List ℕ) → Option PropertySet
set_named name = option_map (λ set. record { set = set }) (by_name (normalize name))

-- the scalars of a set
abbrev pub set_scalars : PropertySet → List (ℕ × ℕ)
set_scalars named = scalars_where (in_set named.set)

-- the scalars of the set that Unicode names so
abbrev pub property : (name : List ℕ) → Option (List (ℕ × ℕ))
property name = option_map set_scalars (set_named name)
