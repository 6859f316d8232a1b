-- What a configuration asks for.
use Rattle.std.specs.Prelude.{ℕ, Bool, true, false, Option, None as Absent, unwrap_or}
use Rattle.std.specs.Option.{option_or}
use Rattle.rx_model.specs.Search as kinds
use Rattle.rx_nfa.specs.declared.compiler.config.Config.{Config}
use Rattle.rx_nfa.specs.declared.compiler.config.WhichCaptures.{WhichCaptures}
use Rattle.rx_nfa.specs.declared.compiler.config.WhichCaptures.TheVariants.{All, Implicit, None}

-- no match is to start inside a character
abbrev pub utf8_of : Config → Bool
utf8_of c = unwrap_or c.utf8 true

-- it reads texts backwards
abbrev pub reverse_of : Config → Bool
reverse_of c = unwrap_or c.reverse false

-- the most bytes that may be accounted for an NFA, if there is a limit
abbrev pub size_limit_of : Config → Option ℕ
size_limit_of c = unwrap_or c.nfa_size_limit Absent

-- the byte that ends lines
abbrev pub terminator_of : Config → ℕ
terminator_of c = unwrap_or c.look_matcher 10

-- the kind of captures, as the model names it
abbrev pub captures_kind : WhichCaptures → kinds.WhichCaptures
captures_kind All = kinds.all
captures_kind Implicit = kinds.implicit
captures_kind None = kinds.none

-- which groups are told, if any
abbrev pub which_of : Config → WhichCaptures
which_of c = unwrap_or c.which_captures All

abbrev pub captures_of : Config → kinds.WhichCaptures
captures_of c = captures_kind (which_of c)

-- the slots that an automaton writes: one that reads backwards writes none
abbrev pub written_in : (reverse : Bool) → kinds.WhichCaptures → kinds.WhichCaptures
written_in true which = kinds.none
written_in false which = which

-- the new configuration, with what it leaves open as in the old one
abbrev pub overwritten : (old new : Config) → Config
overwritten old new = record {
  utf8 = option_or new.utf8 old.utf8;
  reverse = option_or new.reverse old.reverse;
  nfa_size_limit = option_or new.nfa_size_limit old.nfa_size_limit;
  which_captures = option_or new.which_captures old.which_captures;
  look_matcher = option_or new.look_matcher old.look_matcher;
}

-- nothing is set
abbrev pub nothing_set : Config
nothing_set = record { utf8 = Absent; reverse = Absent; nfa_size_limit = Absent; which_captures = Absent; look_matcher = Absent }
