-- The characters of a text, wherever they are kept.
use Rattle.std.specs.Prelude.{ℕ, List, [], ◌∷◌}
use Rattle.rx_reader.specs.declared.text.Characters.{Characters}
use Rattle.rx_reader.specs.declared.text.Characters.TheVariants.{One, Many}

abbrev pub characters : Characters → List ℕ
characters (One c) = c ∷ []
characters (Many chars) = chars.value.items
