use Rattle.std.proofs.Common.{[], ◌∷◌, ◌++◌, ap, sym, ◌∙◌, append-nil}
use Rattle.std.specs.Prelude.{if◌then◌else◌}
use Rattle.rx_literal.proofs.trim.keep.Goals as goal

pub returns-then-not-is_kept : goal.returns-then-not-is_kept
returns-then-not-is_kept g c =
    sym (append-nil c.args.kept.now.items)
    ∙ ap (λ b. c.args.kept.now.items ++ (if b then c.args.item ∷ [] else [])) (sym c.if-not-is_kept.true)

pub returns : goal.returns
returns g c =
    c.in_ok-push.ensures.items
    ∙ ap (λ b. c.args.kept.now.items ++ (if b then c.args.item ∷ [] else [])) (sym c.if-not-is_kept.false)
