-- How a call of `run` ends.
use Rattle.std.specs.Prelude.{ℕ, Bool, true, false}
use Rattle.rx_scan.specs.declared.status.Status.{Status}
use Rattle.rx_scan.specs.declared.status.Status.TheVariants.{Rows, Generated, Pattern, Usage, NotUtf8, TooLong, TooBig, SourceFailed, SinkFailed, OutOfMemory}

-- the number of a status
abbrev pub code : Status → ℕ
code Rows = 0
code Generated = 0
code Pattern = 1
code Usage = 2
code NotUtf8 = 3
code TooLong = 4
code TooBig = 5
code SourceFailed = 6
code SinkFailed = 7
code OutOfMemory = 8

-- the answer depends on the whole input
abbrev pub needs_all : Status → Bool
needs_all Rows = true
needs_all Generated = false
needs_all Pattern = true
needs_all Usage = false
needs_all NotUtf8 = true
needs_all TooLong = false
needs_all TooBig = true
needs_all SourceFailed = false
needs_all SinkFailed = false
needs_all OutOfMemory = false
