-- What an opening parenthesis begins.
use Rattle.std.specs.Prelude.{Bool, ◌||◌, Ok, if◌then◌else◌}
use Rattle.rx_reader.specs.declared.error.SyntaxErrorKind.TheVariants.{Unsupported}
use Rattle.rx_reader.specs.declared.flags.Flags.{Flags}
use Rattle.rx_reader.specs.declared.group_kind.GroupKind.TheVariants.{NonCapturing, CaptureIndex, CaptureName}
use Rattle.rx_reader.specs.declared.opening.Opening.{Opening}
use Rattle.rx_reader.specs.declared.opening.Opening.TheVariants.{Group, Directive}
use Rattle.rx_reader.specs.Reading.{Place, Read, ◌>>=◌, refuse, past, is_at, begins, count_group}
use Rattle.rx_reader.specs.Groups.{number_after}
use Rattle.rx_reader.specs.Ahead.{past_n}
use Rattle.rx_reader.specs.Flags.{read_flags}
use Rattle.rx_reader.specs.Names.{read_name}

-- looking ahead and behind, and references to a group
abbrev pub is_look_ahead : Place → Bool
is_look_ahead p = begins "(?=" p || begins "(?!" p

abbrev pub is_look_behind : Place → Bool
is_look_behind p = begins "(?<=" p || begins "(?<!" p

abbrev pub is_reference : Place → Bool
is_reference p = begins "(?P=" p || begins "(?P>" p

-- a group with a name, which begins at p
unfoldable pub named : Flags → (p : Place) → Read Opening
named flags p = read_name p >>= λ (name, q). Ok (Group (CaptureName (number_after q.groups) name) flags, count_group q)

-- a group that doesn't capture, or a directive
unfoldable pub flagged : Flags → Place → Read Opening
flagged flags p =
    read_flags p flags (past_n 2 p) >>= λ (changed, q). Ok (if is_at ":" q then Group NonCapturing changed else Directive changed, past q)

-- a group without anything else
abbrev pub plain : Flags → Place → Opening × Place
plain flags p = (Group (CaptureIndex (number_after p.groups)) flags, count_group (past p))

-- What the parenthesis at the place begins, and the place after it: a group, with its kind and the flags in its
-- body, or a directive, with the flags up to the end of the group around.
unfoldable pub opening : Flags → Place → Read Opening
opening flags p =
    if is_look_ahead p then refuse Unsupported p (past_n 3 p)
    else if is_look_behind p then refuse Unsupported p (past_n 4 p)
    else if is_reference p then refuse Unsupported p (past_n 4 p)
    else if begins "(?P<" p then named flags (past_n 4 p)
    else if begins "(?<" p then named flags (past_n 3 p)
    else if begins "(?" p then flagged flags p
    else Ok (plain flags p)
