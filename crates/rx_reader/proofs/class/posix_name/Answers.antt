use Rattle.std.proofs.Common.{arith, ◌∙◌, ap, sym, Bool, Ok}
use Rattle.std.proofs.lemmas.Grind.{common_steps}
use Rattle.rx_reader.specs.Input.{place}
use Rattle.std.specs.Prelude.{Some, None}
use Rattle.rx_sets.specs.Ascii.{ascii_named}
use Rattle.rx_sets.specs.declared.ascii.ClassAsciiKind.{ClassAsciiKind}
use Rattle.rx_reader.specs.Classes.{posix_name}
use Rattle.rx_reader.specs.declared.error.SyntaxErrorKind.TheVariants.{Unsupported}
use Rattle.rx_reader.specs.declared.class_item.ClassItem.{ClassItem}
use Rattle.rx_reader.specs.declared.class_item.ClassItem.TheVariants.{Posix}
use Rattle.rx_reader.specs.Reading.{Place, Read, past}
use Rattle.rx_reader.proofs.lemmas.places.ReadsLemmas.{refuse_at}
use Rattle.rx_reader.proofs.lemmas.tokens.ClassLemmas.{by_name}
use Rattle.rx_reader.proofs.class.posix_name.Goals as goal

abbrev found : ClassAsciiKind → Bool → Place → Read ClassItem
found kind negated q = Ok (Posix kind negated, q)

pub returns-then-not-begins-clause-value : goal.returns-then-not-begins-clause-value
unfolding posix_name
returns-then-not-begins-clause-value c from piece = rw c.refuse.ensures (grind (arith, common_steps))

pub returns-in-Some-clause-value : goal.returns-in-Some-clause-value
returns-in-Some-clause-value c from piece =
    let q = place c.read_name.new.cursor in
    let named = sym c.in-Some.is ∙ c.from_name.ensures ∙ ap ascii_named (c.deref.ensures.value ∙ c.in_ok-name.ensures.name) in
    let read = by_name from (place c.args.cursor.now) q c.args.negated (Some c.in-Some.kind) c.in_ok-name.ensures.value
    (sym c.begins.ensures ∙ c.if-not-begins.false) named in
    read ∙ ap (λ (r : Place). found c.in-Some.kind c.args.negated r) (sym c.bump_by.ensures.value)

pub returns-clause-value : goal.returns-clause-value
returns-clause-value c from piece =
    let q = place c.read_name.new.cursor in
    let named = sym c.in-None.is ∙ c.from_name.ensures ∙ ap ascii_named (c.deref.ensures.value ∙ c.in_ok-name.ensures.name) in
    let read = by_name from (place c.args.cursor.now) q c.args.negated None c.in_ok-name.ensures.value (sym c.begins.ensures ∙ c.if-not-begins.false) named in
    rw c.refuse-in-None.ensures (read ∙ refuse_at Unsupported from (past from) _ _ piece.0 piece.1)
