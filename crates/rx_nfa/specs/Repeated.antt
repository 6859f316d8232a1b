-- A repetition, taken apart: copies that must be there, and what may follow them.
use Rattle.std.specs.Prelude.{ℕ, zero, suc, ◌+◌, ◌-◌, ◌*◌, Bool, Option, Some, None, if◌then◌else◌}
use Rattle.rx_model.specs.Graph.{Builder, loop, loop_once, build_optional, options}

-- x*, where `consumes` says that each match of x takes a byte
abbrev pub star : (consumes greedy : Bool) → Builder → Builder
star consumes greedy body = if consumes then loop greedy body else build_optional greedy (loop_once greedy body)

-- what follows the copies of x{min,max}
abbrev pub tail : (consumes : Bool) → (min : ℕ) → (max : Option ℕ) → (greedy : Bool) → Builder → Builder
tail consumes zero None greedy body = star consumes greedy body
tail consumes (suc n) None greedy body = loop_once greedy body
tail consumes min (Some max) greedy body = options greedy (max - min) body

-- the states that it has, where the body has n
abbrev pub states_of_tail : (min : ℕ) → (max : Option ℕ) → (n : ℕ) → ℕ
states_of_tail zero None n = n + 2
states_of_tail (suc least) None n = n + 1
states_of_tail min (Some max) n = (max - min) * (n + 1)

-- how many copies come before it
abbrev pub leading : (min : ℕ) → (max : Option ℕ) → ℕ
leading zero None = 0
leading (suc n) None = n
leading min (Some max) = min
