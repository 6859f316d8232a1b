-- On the names of sets in classes.
use Rattle.std.proofs.Common.{◌≡◌, Bool, true, sym, ap, ◌∙◌}
use Rattle.std.specs.Prelude.{Option, if◌then◌else◌}
use Rattle.rx_sets.specs.Ascii.{ascii_named}
use Rattle.rx_sets.specs.declared.ascii.ClassAsciiKind.{ClassAsciiKind}
use Rattle.rx_reader.specs.declared.error.SyntaxErrorKind.TheVariants.{Unsupported}
use Rattle.rx_reader.specs.declared.escape.NameIn.TheVariants.{Brackets}
use Rattle.rx_reader.specs.Reading.{Place, refuse, past, begins, past_all}
use Rattle.rx_reader.specs.Escapes.{leading, in_name}
use Rattle.rx_reader.specs.Classes.{posix_named, posix_name}

-- a name that was read up to q, and the set of that name
pub by_name : (from p q : Place) (negated : Bool) (found : Option ClassAsciiKind) → q ≡ past_all (in_name Brackets) p → begins ":]" q ≡ true
    → found ≡ ascii_named (leading (in_name Brackets) p.text)
    → posix_name from negated p ≡ posix_named from negated found q
unfolding posix_name
by_name from p q negated found next closes named =
    let name = ascii_named (leading (in_name Brackets) p.text) in
    ap (λ (r : Place). if begins ":]" r then posix_named from negated name r else refuse Unsupported from (past from)) (sym next)
    ∙ ap (λ (b : Bool). if b then posix_named from negated name q else refuse Unsupported from (past from)) closes
    ∙ ap (λ (set : Option ClassAsciiKind). posix_named from negated set q) (sym named)
