use Rattle.std.proofs.Common.{◌≡◌, ◌∙◌, ap, sym, subst, false, Ok}
use Rattle.rx_reader.specs.declared.opening.Opening.TheVariants.{Group}
use Rattle.rx_reader.specs.declared.group_kind.GroupKind.TheVariants.{CaptureIndex}
use Rattle.rx_reader.specs.Input.{place, Reads}
use Rattle.rx_reader.specs.Reading.{Place, begins, past, count_group}
use Rattle.rx_reader.specs.Groups.{number_after}
use Rattle.rx_reader.specs.Openings.{is_look_ahead, is_look_behind, is_reference}
use Rattle.rx_reader.proofs.lemmas.tokens.PartLemmas.{opens_ahead, opens_behind, opens_reference, opens_named, opens_short, opens_flagged, opens_plain}
use Rattle.rx_reader.proofs.opening.read_opening.Goals as goal

pub returns-then-is_look_ahead-clause-value : goal.returns-then-is_look_ahead-clause-value
returns-then-is_look_ahead-clause-value c =
    rw c.unsupported.ensures.value (opens_ahead (place c.args.cursor.now) c.args.flags (sym c.is_look_ahead.ensures ∙ c.if-is_look_ahead.true))

pub returns-then-is_look_behind-clause-value : goal.returns-then-is_look_behind-clause-value
returns-then-is_look_behind-clause-value c =
    let p = place c.args.cursor.now in
    let ahead : is_look_ahead p ≡ false = sym c.is_look_ahead.ensures ∙ c.if-is_look_ahead.false in
    rw c.unsupported-then-is_look_behind.ensures.value (opens_behind p c.args.flags ahead (sym c.is_look_behind.ensures ∙ c.if-is_look_behind.true))

pub returns-then-is_reference-clause-value : goal.returns-then-is_reference-clause-value
returns-then-is_reference-clause-value c =
    let p = place c.args.cursor.now in
    let ahead : is_look_ahead p ≡ false = sym c.is_look_ahead.ensures ∙ c.if-is_look_ahead.false in
    let behind : is_look_behind p ≡ false = sym c.is_look_behind.ensures ∙ c.if-is_look_behind.false in
    rw c.unsupported-then-is_reference.ensures.value (opens_reference p c.args.flags ahead behind (sym c.is_reference.ensures ∙ c.if-is_reference.true))

pub returns-then-begins-clause-value : goal.returns-then-begins-clause-value
returns-then-begins-clause-value c =
    let p = place c.args.cursor.now in
    let ahead : is_look_ahead p ≡ false = sym c.is_look_ahead.ensures ∙ c.if-is_look_ahead.false in
    let behind : is_look_behind p ≡ false = sym c.is_look_behind.ensures ∙ c.if-is_look_behind.false in
    let back : is_reference p ≡ false = sym c.is_reference.ensures ∙ c.if-is_reference.false in
    let same = opens_named p c.args.flags ahead behind back (sym c.begins.ensures ∙ c.if-begins.true) in
    subst (λ reading. Reads c.named.result reading (place c.named.new.cursor)) (sym same) c.named.ensures.value

pub returns-then-begins-2-clause-value : goal.returns-then-begins-2-clause-value
returns-then-begins-2-clause-value c =
    let p = place c.args.cursor.now in
    let ahead : is_look_ahead p ≡ false = sym c.is_look_ahead.ensures ∙ c.if-is_look_ahead.false in
    let behind : is_look_behind p ≡ false = sym c.is_look_behind.ensures ∙ c.if-is_look_behind.false in
    let back : is_reference p ≡ false = sym c.is_reference.ensures ∙ c.if-is_reference.false in
    let long : begins "(?P<" p ≡ false = sym c.begins.ensures ∙ c.if-begins.false in
    let same = opens_short p c.args.flags ahead behind back long (sym c.begins-2.ensures ∙ c.if-begins-2.true) in
    subst (λ reading. Reads c.named-then-begins-2.result reading (place c.named-then-begins-2.new.cursor)) (sym same) c.named-then-begins-2.ensures.value

pub returns-then-begins-3-clause-value : goal.returns-then-begins-3-clause-value
returns-then-begins-3-clause-value c =
    let p = place c.args.cursor.now in
    let ahead : is_look_ahead p ≡ false = sym c.is_look_ahead.ensures ∙ c.if-is_look_ahead.false in
    let behind : is_look_behind p ≡ false = sym c.is_look_behind.ensures ∙ c.if-is_look_behind.false in
    let back : is_reference p ≡ false = sym c.is_reference.ensures ∙ c.if-is_reference.false in
    let long : begins "(?P<" p ≡ false = sym c.begins.ensures ∙ c.if-begins.false in
    let short : begins "(?<" p ≡ false = sym c.begins-2.ensures ∙ c.if-begins-2.false in
    let same = opens_flagged p c.args.flags ahead behind back long short (sym c.begins-3.ensures ∙ c.if-begins-3.true) in
    subst (λ reading. Reads c.flagged.result reading (place c.flagged.new.cursor)) (sym same) c.flagged.ensures.value

pub returns-clause-value : goal.returns-clause-value
returns-clause-value c =
    let p = place c.args.cursor.now in
    let ahead : is_look_ahead p ≡ false = sym c.is_look_ahead.ensures ∙ c.if-is_look_ahead.false in
    let behind : is_look_behind p ≡ false = sym c.is_look_behind.ensures ∙ c.if-is_look_behind.false in
    let back : is_reference p ≡ false = sym c.is_reference.ensures ∙ c.if-is_reference.false in
    let long : begins "(?P<" p ≡ false = sym c.begins.ensures ∙ c.if-begins.false in
    let short : begins "(?<" p ≡ false = sym c.begins-2.ensures ∙ c.if-begins-2.false in
    let none : begins "(?" p ≡ false = sym c.begins-3.ensures ∙ c.if-begins-3.false in
    let counted : place c.count_group-index.new.self ≡ count_group (past p) = c.count_group-index.ensures.place ∙ ap count_group c.bump.ensures.value in
    let index : c.count_group-index.result ≡ number_after p.groups =
    c.count_group-index.ensures.number ∙ ap (λ (x : Place). number_after x.groups) c.bump.ensures.value in
    opens_plain p c.args.flags ahead behind back long short none ∙ (λ i. Ok (Group (CaptureIndex (sym index i)) c.args.flags, sym counted i))
