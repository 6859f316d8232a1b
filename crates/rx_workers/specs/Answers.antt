-- The answers to the works of a task, as they are found.
use Rattle.std.specs.Prelude.{ℕ, ◌+◌, ◌<◌, ◌≤◌, List}
use Rattle.std.specs.List.{All}
use Rattle.rx_workers.specs.declared.found.Found.{Found}

module _ {V : Type 0} (size : ℕ) (Is : (first count : ℕ) → V → Type 0) where
  -- it has the answers to the numbers that it names, at least one
  abbrev pub IsFound : Found V → Type 0
  IsFound f = (0 < f.count) × (f.index + f.count ≤ size) × Is f.index f.count f.value

  -- .. each of them
  abbrev pub AreFound : List (Found V) → Type 0
  AreFound found = All IsFound found
