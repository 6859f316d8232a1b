-- The needles that the prefixes of expressions give.
use Rattle.std.specs.Prelude.{ℕ, List, map, Option, None}
use Rattle.rx_literal.specs.Literals.{Seq, infinite, finite, bytes_of}
use Rattle.rx_literal.specs.Trim.{trimmed_by_preference, trimmed_for_all}
use Rattle.rx_search.specs.declared.anchored.MatchKind.{MatchKind}
use Rattle.rx_search.specs.declared.anchored.MatchKind.TheVariants.{All as all_matches, LeftmostFirst as leftmost_first}
use Rattle.rx_prefilter.specs.Choices.{served}

-- the sequence as a search of this kind takes it
abbrev pub trimmed : MatchKind → Seq → Seq
trimmed all_matches seq = trimmed_for_all seq
trimmed leftmost_first seq = trimmed_by_preference seq

-- the needles of a sequence, where they fit a kind of search
abbrev pub served_by : Seq → Option (List (List ℕ))
served_by infinite = None
served_by (finite literals) = served (map bytes_of literals)
