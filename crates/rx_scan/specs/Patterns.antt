-- The patterns of an input: how they are searched for, and their size.
use Rattle.std.specs.Prelude.{◌≡◌, ℕ, ◌*◌, Bool, true, ◌&&◌, nat_le, List, length, IsUtf8, Ok}
use Rattle.rx_model.specs.Expression.{Expression}
use Rattle.rx_model.specs.Search.{Patterns, all}
use Rattle.rx_model.specs.Utf8.{MeansUtf8}
use Rattle.rx_hir.specs.Cost.{nfa_states, slots_of, state_size}
use Rattle.rx_search.specs.Limits.{id_limit, slot_limit}
use Rattle.rx_reader.specs.Config.{default}
use Rattle.rx_reader.specs.Syntax.{Syntax}
use Rattle.rx_syntax.specs.Patterns.{all_translated}

-- how they are searched for
abbrev pub patterns_of : List Expression → Patterns
patterns_of hs = record { expressions = hs; utf8_empty = true; terminator = 10; which_captures = all }

-- all that they mean in a text that is UTF-8 is UTF-8 too
abbrev pub MeanUtf8 : List Expression → Type 0
MeanUtf8 hs = (text : List ℕ) → IsUtf8 text → MeansUtf8 (patterns_of hs) text

-- No count passes its limit: the patterns, the slots, the states that are accounted for an NFA, and its cost, which is
-- `state_size` for each of these states.
abbrev pub fit : (patterns slots states : ℕ) → Bool
fit patterns slots states =
    (nat_le patterns id_limit && nat_le slots slot_limit) && (nat_le states id_limit && nat_le (state_size * states) 10485760)

abbrev pub are_small : List Expression → Bool
are_small hs = fit (length hs) (slots_of hs) (nfa_states hs)

-- what these syntaxes stand for, where none is refused, means UTF-8 too
abbrev pub StandForUtf8 : List Syntax → Type 0
StandForUtf8 ss = (hs : List Expression) → all_translated default ss ≡ Ok hs → MeanUtf8 hs
