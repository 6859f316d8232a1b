use Rattle.std.proofs.Common.{◌≡◌, ◌∙◌, ap, sym, Bool, Ok}
use Rattle.std.specs.Prelude.{if◌then◌else◌}
use Rattle.std.proofs.lemmas.Result.{err_from_is_err_and, IfOk-from_err}
use Rattle.rx_reader.specs.declared.opening.Opening.TheVariants.{Group, Directive}
use Rattle.rx_reader.specs.declared.group_kind.GroupKind.TheVariants.{NonCapturing}
use Rattle.rx_reader.specs.Input.{place}
use Rattle.rx_reader.specs.Reading.{is_at}
use Rattle.rx_reader.specs.Flags.{read_flags}
use Rattle.rx_reader.proofs.lemmas.places.ReadsLemmas.{refuses_from, refuses}
use Rattle.rx_reader.proofs.lemmas.tokens.PartLemmas.{flagged_refused, flagged_read}
use Rattle.rx_reader.proofs.opening.flagged.Goals as goal

pub returns-in_err-flags-clause-value : goal.returns-in_err-flags-clause-value
returns-in_err-flags-clause-value c =
    let e = err_from_is_err_and c.from_residual.result c.from_residual.ensures.1 in
    let p = place c.args.cursor.now in
    let begun = place c.bump_by.new.self in
    rw (e.1, e.2) (refuses_from _ _ (λ x is.
    let stops = refuses _ (read_flags p c.args.flags begun) (c.in_err-flags.ensures.value p c.here-opening.ensures) x is in
    flagged_refused p begun c.args.flags x c.bump_by.ensures.value stops))

pub returns-clause-value : goal.returns-clause-value
returns-clause-value c =
    let p = place c.args.cursor.now in
    let begun = place c.bump_by.new.self in
    let q = place c.read_flags.new.cursor in
    let inside = c.in_ok-flags.flags in
    let opened : c.opening_of.result ≡ (if is_at ":" q then Group NonCapturing inside else Directive inside) =
    c.opening_of.ensures ∙ ap (λ (b : Bool). if b then Group NonCapturing inside else Directive inside) c.is_at-is_group.ensures.value in
    flagged_read p begun q c.args.flags inside c.bump_by.ensures.value (c.in_ok-flags.ensures.value p c.here-opening.ensures)
    ∙ (λ i. Ok (sym opened i, sym c.bump.ensures.value i))

pub returns-in_err-flags-clause-progress : goal.returns-in_err-flags-clause-progress
returns-in_err-flags-clause-progress c = IfOk-from_err c.from_residual.result _ c.from_residual.ensures.0
