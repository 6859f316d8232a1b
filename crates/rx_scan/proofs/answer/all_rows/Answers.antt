use Rattle.std.proofs.Common.{refl, ap, ◌∙◌, arith}
use Rattle.std.specs.Prelude.{map}
use Rattle.std.proofs.lemmas.List.{length-map}
use Rattle.rx_scan.specs.Arguments.{config_without}
use Rattle.rx_scan.specs.Lines.{cut_at}
use Rattle.rx_scan.specs.Patterns.{patterns_of}
use Rattle.rx_scan.specs.Row.{scan_rows, rows_text}
use Rattle.rx_scan.specs.declared.status.Status.TheVariants.{Rows}
use Rattle.rx_scan.proofs.LineLemmas.{cut-length}
use Rattle.rx_scan.proofs.answer.all_rows.Goals as goal

pub returns : goal.returns
returns g c = λ hs built utf8.
    let rows = scan_rows (patterns_of hs) in
    let found = c.in_ok-haystacks.haystacks in
    let given = cut_at found.text.now 0 found.ends.items in
    let text = c.in_ok-pieces.ensures (config_without c.args.asked.now.off) hs built refl tt (λ _ k d below. utf8 _ (c.in_ok-haystacks.ensures.utf8 k d below)) in
    let few = c.in_ok-haystacks.ensures.room in
    let many = cut-length found.text.now 0 found.ends.items in
    let told = text (omega (arith, length-map given rows, many, few)) ∙ ap (λ ls. rows_text 1 (map rows ls)) c.in_ok-haystacks.ensures.lines in
    λ i. record { status = Rows; text = told i }
