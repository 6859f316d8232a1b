use Rattle.std.proofs.Math.Nat.{lt_of_lt_of_le}
use Rattle.std.proofs.Common.{◌≡◌, ◌<◌, ◌∙◌, ap, sym, refl, subst, true, not, ◌||◌, ◌==◌, ℕ, List, length, Ok}
use Rattle.std.proofs.lemmas.Result.{IfOk-from_err}
use Rattle.rx_reader.specs.declared.error.SyntaxErrorKind.TheVariants.{GroupName, GroupNameTwice}
use Rattle.rx_reader.specs.declared.piece.Piece.{Piece}
use Rattle.rx_reader.specs.Input.{place, unread}
use Rattle.rx_reader.specs.Reading.{Place, is_at, past, add_name}
use Rattle.rx_reader.specs.Names.{name_of}
use Rattle.rx_reader.proofs.lemmas.places.ReadsLemmas.{refuse_at}
use Rattle.rx_reader.proofs.lemmas.tokens.PartLemmas.{name_fails, name_taken, name_read}
use Rattle.rx_reader.proofs.lemmas.tokens.GroupNameLemmas.{counted, fails_empty, fails_open, passes_closed, had_before, not_before}
use Rattle.rx_reader.proofs.name.read_name.Goals as goal
use Rattle.rx_reader.proofs.name.read_name.Goals.{then-count-eq0-via-then-count-eq0, then-count-eq0-via-else-count-eq0+then-not-is_at}

pub returns-then-count-eq0-clause-value : goal.returns-then-count-eq0-clause-value
returns-then-count-eq0-clause-value c =
    let p = place c.args.cursor.now in
    let q = place c.bump_by.new.self in
    let n = c.len-count.result in
    let len = counted c.in_ok-name.name (name_of p.text) n c.len-count.ensures (c.in_ok-name.ensures ∙ ap name_of c.rest.ensures) in
    let fails : ((n == 0) || not (is_at ">" q)) ≡ true =
    elim c.then-count-eq0.branch as (λ _. ((n == 0) || not (is_at ">" q)) ≡ true) [
      | then-count-eq0-via-then-count-eq0 w ↦ fails_empty n _ w.if-count-eq0.true
      | then-count-eq0-via-else-count-eq0+then-not-is_at w ↦ fails_open n _ (sym w.is_at.ensures.value ∙ w.if-not-is_at.true)
    ] in
    rw c.refuse_from.ensures (name_fails p q n len c.bump_by.ensures.value fails ∙ refuse_at GroupName p q c.at-start.result q.at c.at-start.ensures refl)

pub returns-in-Ok-false-clause-value : goal.returns-in-Ok-false-clause-value
returns-in-Ok-false-clause-value c =
    let p = place c.args.cursor.now in
    let q = place c.bump_by.new.self in
    let n = c.len-count.result in
    let read = c.in_ok-name.ensures ∙ ap name_of c.rest.ensures in
    let len = counted c.in_ok-name.name (name_of p.text) n c.len-count.ensures read in
    let passes = passes_closed n (is_at ">" q) c.if-count-eq0.false (sym c.is_at.ensures.value ∙ c.if-not-is_at.false) in
    let taken = had_before (name_of p.text) c.deref.result.now q (place c.bump.new.self) c.in-Ok-false.field-0 c.in-Ok-false.ensures.fresh
    (c.deref.ensures.value ∙ read) c.bump.ensures.value c.in-Ok-false.field-0-test in
    let piece = c.piece_from-piece in
    rw c.refuse.ensures (name_taken p q n len c.bump_by.ensures.value passes taken
    ∙ refuse_at GroupNameTwice p q piece.result.start piece.result.end (ap (λ (x : Piece). x.start) piece.ensures ∙ c.at-start.ensures)
    (ap (λ (x : Piece). x.end) piece.ensures))

pub returns-in_ok-new-in-Ok-true-clause-value : goal.returns-in_ok-new-in-Ok-true-clause-value
returns-in_ok-new-in-Ok-true-clause-value c =
    let p = place c.args.cursor.now in
    let q = place c.bump_by.new.self in
    let n = c.len-count.result in
    let read = c.in_ok-name.ensures ∙ ap name_of c.rest.ensures in
    let len = counted c.in_ok-name.name (name_of p.text) n c.len-count.ensures read in
    let passes = passes_closed n (is_at ">" q) c.if-count-eq0.false (sym c.is_at.ensures.value ∙ c.if-not-is_at.false) in
    let name : c.deref.result.now ≡ name_of p.text = c.deref.ensures.value ∙ read in
    let new = not_before (name_of p.text) c.deref.result.now q (place c.bump.new.self) c.in-Ok-true.field-0 c.in-Ok-true.ensures.fresh
    name c.bump.ensures.value c.in-Ok-true.field-0-test in
    let known : c.in_ok-new-in-Ok-true.field-0 ≡ name_of p.text = c.in_ok-new-in-Ok-true.ensures ∙ sym c.deref.ensures.value ∙ name in
    let added : place c.add_name.new.self ≡ add_name (name_of p.text) (past q) =
    c.in-Ok-true.ensures.value ∙ ap (λ (cs : List ℕ). add_name cs (place c.bump.new.self)) name ∙ ap (add_name (name_of p.text)) c.bump.ensures.value in
    name_read p q n len c.bump_by.ensures.value passes new ∙ ap (λ (cs : List ℕ). Ok (cs, add_name (name_of p.text) (past q))) (sym known)
    ∙ ap (λ (x : Place). Ok (c.in_ok-new-in-Ok-true.field-0, x)) (sym added)

pub returns-in_ok-new-in-Ok-true-clause-progress : goal.returns-in_ok-new-in-Ok-true-clause-progress
returns-in_ok-new-in-Ok-true-clause-progress c =
    let same : unread c.add_name.new.self ≡ unread c.bump.new.self = ap (λ (x : Place). length x.text) c.in-Ok-true.ensures.value in
    let more = c.is_at.ensures.more c.if-not-is_at.false in
    subst (λ (k : ℕ). k < unread c.args.cursor.now) (sym same) (lt_of_lt_of_le (c.bump.ensures.progress more) c.bump_by.ensures.progress)

pub returns-in_ok-new-in-Ok-true-clause-kept : goal.returns-in_ok-new-in-Ok-true-clause-kept
returns-in_ok-new-in-Ok-true-clause-kept c h = c.add_name.ensures.kept (c.bump.ensures.kept (c.bump_by.ensures.kept h))

pub returns-in_err-new-in-Ok-true-clause-progress : goal.returns-in_err-new-in-Ok-true-clause-progress
returns-in_err-new-in-Ok-true-clause-progress c =
    IfOk-from_err c.from_residual-in_err-new-in-Ok-true.result _ c.from_residual-in_err-new-in-Ok-true.ensures.0

pub returns-in_err-new-in-Ok-true-clause-kept : goal.returns-in_err-new-in-Ok-true-clause-kept
returns-in_err-new-in-Ok-true-clause-kept c h = c.add_name.ensures.kept (c.bump.ensures.kept (c.bump_by.ensures.kept h))

pub returns-in_err-name-clause-progress : goal.returns-in_err-name-clause-progress
returns-in_err-name-clause-progress c = IfOk-from_err c.from_residual.result _ c.from_residual.ensures.0

pub returns-in-Ok-false-clause-kept : goal.returns-in-Ok-false-clause-kept
returns-in-Ok-false-clause-kept c h = c.add_name.ensures.kept (c.bump.ensures.kept (c.bump_by.ensures.kept h))

pub returns-in-Err-clause-kept : goal.returns-in-Err-clause-kept
returns-in-Err-clause-kept c h = c.add_name.ensures.kept (c.bump.ensures.kept (c.bump_by.ensures.kept h))
