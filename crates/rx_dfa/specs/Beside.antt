-- What is known of look-around at a place, by the bytes beside it.
use Rattle.std.specs.Prelude.{ℕ, Bool, false}
use Rattle.rx_model.specs.Look as model
use Rattle.rx_determinize.specs.Sight.{holds_between}
use Rattle.rx_dfa.specs.declared.beside.Beside.{Beside}
use Rattle.rx_dfa.specs.declared.beside.Beside.TheVariants.{Unknown, Known}

-- the look-around is known to hold
abbrev pub known : (terminator : ℕ) → Beside → model.Look → Bool
known terminator Unknown kind = false
known terminator (Known before after) kind = holds_between terminator before after kind
