-- The lock of a stack, and who holds it.
use Rattle.std.specs.Prelude.{◌≡◌, []}
use Rattle.atomic_table.specs.declared.shared.Seat.{Seat}
use Rattle.rx_util.specs.declared.lock.Lock.{Lock}
use Rattle.rx_util.specs.Lock.{HasStack}
use Rattle.rx_util.specs.Stack.{StackValue}

module _ {T M : Type 0} where
  -- the maker for whose values the lock is
  abbrev pub maker_of : Lock T M → M
  maker_of lock = lock.table.shared.key

  -- the seat holds the lock, and has its stack
  pub record IsHeld (made : T → Type 0) (lock : Lock T M) (seat : Seat (StackValue T) M) : Type 0 where
    pub same : seat.table_id ≡ lock.table.shared.table_id
    pub maker : seat.me.0 ≡ maker_of lock
    pub stack : HasStack made seat.me

  -- the seat has nothing, and may get the lock
  pub record IsWaiting (lock : Lock T M) (seat : Seat (StackValue T) M) : Type 0 where
    pub same : seat.table_id ≡ lock.table.shared.table_id
    pub maker : seat.me.0 ≡ maker_of lock
    pub none : seat.me.1 ≡ []
