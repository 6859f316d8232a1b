-- What a configuration asks for.
use Rattle.std.specs.Prelude.{ℕ, Bool, true, false, Option, None as Absent, unwrap_or}
use Rattle.std.specs.Option.{option_or}
use Rattle.rx_search.specs.declared.anchored.MatchKind.{MatchKind}
use Rattle.rx_search.specs.declared.anchored.MatchKind.TheVariants.{LeftmostFirst}
use Rattle.rx_onepass_build.specs.declared.config.Config.{Config}

-- which of the matches that begin at one place is reported
abbrev pub kind_of : Config → MatchKind
kind_of c = unwrap_or c.match_kind LeftmostFirst

-- one pattern alone can be searched for
abbrev pub each_of : Config → Bool
each_of c = unwrap_or c.starts_for_each_pattern false

-- bytes that the NFA does not tell apart share a column
abbrev pub shares_of : Config → Bool
shares_of c = unwrap_or c.byte_classes true

-- the most bytes that may be accounted for the table, if there is a limit
abbrev pub size_limit_of : Config → Option ℕ
size_limit_of c = unwrap_or c.size_limit Absent

-- the new configuration, with what it leaves open as in the old one
abbrev pub overwritten : (old new : Config) → Config
overwritten old new = record {
  match_kind = option_or new.match_kind old.match_kind;
  starts_for_each_pattern = option_or new.starts_for_each_pattern old.starts_for_each_pattern;
  byte_classes = option_or new.byte_classes old.byte_classes;
  size_limit = option_or new.size_limit old.size_limit;
}

-- nothing is set
abbrev pub nothing_set : Config
nothing_set = record { match_kind = Absent; starts_for_each_pattern = Absent; byte_classes = Absent; size_limit = Absent }
