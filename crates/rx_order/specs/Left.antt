-- What the program tells of an expression without its suffix.
use Rattle.std.specs.Prelude.{◌≡◌, ℕ, ◌≤◌, List, length, take, Option, Some, None, option_map, IfSome, if◌then◌else◌, nat_eq}
use Rattle.rx_model.specs.Expression.{Expression}
use Rattle.rx_order.specs.Strip.{Left}
use Rattle.rx_order.specs.declared.strip.Left.{Left as Told}

-- it tells what is left of the expression, and how many of the suffix's first bytes are left
abbrev pub IsLeft : List ℕ → Left → Option Told → Type 0
IsLeft s left told = (option_map (λ (t : Told). (t.rest, take t.count s)) told ≡ left) × IfSome told (λ t. t.count ≤ length s)

-- the expression that is left, where no suffix is
abbrev pub whole : Expression → ℕ → Option Expression
whole h count = if nat_eq count 0 then Some h else None
