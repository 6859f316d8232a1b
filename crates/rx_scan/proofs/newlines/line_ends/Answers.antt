use Rattle.std.proofs.Common.{◌≡◌, ◌≢◌, ◌-◌, length, get_or, sym, ap, subst, ◌∙◌}
use Rattle.std.specs.Option.{unwrap_or}
use Rattle.std.proofs.lemmas.Option.{unwrap_or-slice_get}
use Rattle.rx_scan.proofs.NewlineLemmas.{ends-closed, ends-left}
use Rattle.rx_scan.proofs.newlines.line_ends.Goals as goal

pub returns-then-unwrap_or-eq10 : goal.returns-then-unwrap_or-eq10
returns-then-unwrap_or-eq10 g c =
    let text = c.args.text.now in
    let last : c.unwrap_or.result ≡ get_or text (length text - 1) 10 =
    c.unwrap_or.ensures ∙ ap (λ o. unwrap_or o 10) (c.copied.ensures ∙ c.last.ensures.value) ∙ unwrap_or-slice_get text (length text - 1) 10 in
    ends-closed text _ c.in_ok-ends.ensures (sym last ∙ c.if-unwrap_or-eq10.true)

pub returns : goal.returns
returns g c =
    let text = c.args.text.now in
    let last : c.unwrap_or.result ≡ get_or text (length text - 1) 10 =
    c.unwrap_or.ensures ∙ ap (λ o. unwrap_or o 10) (c.copied.ensures ∙ c.last.ensures.value) ∙ unwrap_or-slice_get text (length text - 1) 10 in
    ends-left text _ _ c.in_ok-ends.ensures (subst (λ b. b ≢ 10) last c.if-unwrap_or-eq10.false) c.in_ok-push.ensures.items
