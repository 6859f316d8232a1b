use Rattle.std.proofs.Common.{◌≡◌, ◌+◌, ◌++◌, length, sym, ap, ◌∙◌, take-append-drop}
use Rattle.std.proofs.lemmas.Result.{IfOk-at_ok}
use Rattle.rx_scan.specs.Lines.{newlines}
use Rattle.rx_scan.proofs.NewlineLemmas.{newlines-append}
use Rattle.rx_scan.proofs.newlines.+newlines.Goals as goal

pub returns : goal.returns
returns g t c =
    let text = c.args.text.now in
    let front = c.split_at.result.0.now in
    let back = c.split_at.result.1.now in
    let low = IfOk-at_ok (λ v. v.items ≡ newlines c.args.at front) c.in_ok-all.was c.join-low.ensures.first in
    let high = IfOk-at_ok (λ v. v.items ≡ newlines (c.args.at + length front) back) c.in_ok-rest.was c.join-low.ensures.second in
    let whole : front ++ back ≡ text = (λ k. c.split_at.ensures.front k ++ c.split_at.ensures.back k) ∙ take-append-drop _ text in
    c.in_ok-append.ensures.items ∙ (λ k. low k ++ high k) ∙ sym (newlines-append c.args.at front back) ∙ ap (newlines c.args.at) whole
