-- What captures end as, once their slots were lent.
use Rattle.std.specs.Prelude.{ℕ, List, Option, length}
use Rattle.std.specs.List.{refill}
use Rattle.std.specs.Borrow.{Lends, MutBor, Fml, Array}
use Rattle.std.specs.contracts.option.Option.{the_row as OptionOf}
use Rattle.rx_search.specs.Captures.{CapturesValue}
use Rattle.rx_search.specs.contracts.primitives.NonMaxUsize.{the_row as place}
use Rattle.rx_search.specs.contracts.captures.Captures.{the_row}

-- the captures with these slots, of which there are as many as before
abbrev pub with_slots : CapturesValue → List (Option ℕ) → CapturesValue
with_slots c slots = record c { slots = refill (length c.slots) c.slots slots }

-- once the borrow r ends, the slots are those that r shows last
abbrev pub LendsSlots : MutBor CapturesValue → MutBor (List (Option ℕ)) → Fml
LendsSlots c r = Lends the_row (Array (OptionOf place) 0) c r (with_slots c.now)
