use Rattle.std.proofs.Common.{sym, ap, subst, ◌∙◌}
use Rattle.std.specs.List.{All}
use Rattle.std.specs.Str.{IsUtf8}
use Rattle.rx_scan.specs.Input.{lines}
use Rattle.rx_scan.proofs.NewlineLemmas.{lines-utf8}
use Rattle.rx_scan.proofs.lines.Lines.new.Goals as goal

pub returns-clause-lines : goal.returns-clause-lines
returns-clause-lines g c = c.in_ok-line_ends.ensures.1 ∙ ap lines c.as_bytes-text.ensures.value

pub returns-clause-utf8 : goal.returns-clause-utf8
returns-clause-utf8 g c =
    let told = c.in_ok-line_ends.ensures.1 ∙ ap lines c.as_bytes-text.ensures.value in
    subst (All IsUtf8) (sym told) (lines-utf8 c.args.text.now c.utf8.text)
