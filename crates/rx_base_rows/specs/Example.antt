-- What the tests search for.
use Rattle.std.specs.Prelude.{ℕ, ◌+◌, ◌&&◌, ◌==◌, nat_lt, if◌then◌else◌, [], Option, Some, None, slice_index}
use Rattle.rx_model.specs.Search.{Match}
use Rattle.rx_search.specs.Input.{InputValue}

-- the byte where the span begins, or nothing there
abbrev pub optional_byte : ℕ → InputValue → Option Match
optional_byte byte v =
    let end = if nat_lt v.start v.end && (slice_index v.haystack v.start == byte) then v.start + 1 else v.start in
    if nat_lt v.end v.start then None else Some (record { start = v.start; trace = record { pattern = 0; end = end; writes = [] } })
