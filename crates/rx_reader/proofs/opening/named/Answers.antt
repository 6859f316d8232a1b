use Rattle.std.proofs.Common.{◌∙◌, ap, sym, Ok}
use Rattle.std.proofs.lemmas.Result.{err_from_is_err_and, IfOk-from_err}
use Rattle.rx_reader.specs.declared.opening.Opening.TheVariants.{Group}
use Rattle.rx_reader.specs.declared.group_kind.GroupKind.TheVariants.{CaptureName}
use Rattle.rx_reader.specs.Input.{place}
use Rattle.rx_reader.specs.Names.{read_name}
use Rattle.rx_reader.specs.Openings.{named}
use Rattle.rx_reader.proofs.lemmas.places.ReadsLemmas.{refuses_from, refuses}
use Rattle.rx_reader.proofs.lemmas.tokens.PartLemmas.{named_refused, named_read}
use Rattle.rx_reader.proofs.opening.named.Goals as goal

pub returns-in_err-name-clause-value : goal.returns-in_err-name-clause-value
returns-in_err-name-clause-value c =
    let e = err_from_is_err_and c.from_residual.result c.from_residual.ensures.1 in
    let p = place c.bump_by.new.self in
    rw (e.1, e.2) (refuses_from _ _ (λ x is.
    let stops = refuses _ (read_name p) c.in_err-name.ensures.value x is in
    ap (named c.args.flags) (sym c.bump_by.ensures.value) ∙ named_refused p c.args.flags x stops))

pub returns-clause-value : goal.returns-clause-value
returns-clause-value c =
    let p = place c.bump_by.new.self in
    let q = place c.read_name.new.cursor in
    ap (named c.args.flags) (sym c.bump_by.ensures.value) ∙ named_read p q c.args.flags c.in_ok-name.name c.in_ok-name.ensures.value
    ∙ (λ i. Ok (Group (CaptureName (sym c.count_group-index.ensures.number i) c.in_ok-name.name) c.args.flags, sym c.count_group-index.ensures.place i))

pub returns-in_err-name-clause-progress : goal.returns-in_err-name-clause-progress
returns-in_err-name-clause-progress c = IfOk-from_err c.from_residual.result _ c.from_residual.ensures.0
