use Rattle.std.proofs.Common.{◌≡◌, true, ap, sym, ◌∙◌}
use Rattle.std.specs.Prelude.{not, chars, ◌&&◌}
use Rattle.std.specs.List.{list_all}
use Rattle.std.specs.Str.{is_utf8}
use Rattle.std.proofs.lemmas.Str.{is_utf8-from_IsUtf8, IsUtf8-from_is_utf8}
use Rattle.rx_model.specs.Text.{is_member}
use Rattle.rx_model.proofs.lemmas.runs.RunLemmas.{by_test}
use Rattle.rx_order.proofs.members.is_text_without.Goals as goal

pub returns-in-Ok : goal.returns-in-Ok
returns-in-Ok c =
    let bytes = c.args.bytes.now in
    let rs = c.args.ranges.now in
    let utf8 : is_utf8 bytes ≡ true = is_utf8-from_IsUtf8 bytes c.in-Ok.ensures.cases.1 in
    c.has_no_scalar.ensures ∙ ap (λ bs. list_all (λ d. not (is_member rs d)) (chars bs)) c.in-Ok.ensures.cases.0
    ∙ sym (ap (λ b. b && list_all (λ d. not (is_member rs d)) (chars bytes)) utf8)

pub returns-in-Err : goal.returns-in-Err
returns-in-Err c =
    let bytes = c.args.bytes.now in
    let rs = c.args.ranges.now in
    by_test (is_utf8 bytes)
    (λ e. absurd (c.in-Err.ensures.cases.0 (IsUtf8-from_is_utf8 bytes e)))
    (λ e. sym (ap (λ b. b && list_all (λ d. not (is_member rs d)) (chars bytes)) e))
