use Rattle.std.proofs.Common.{ℕ, List, [], ◌∷◌, ◌++◌, ◌∙◌, sym, ap, subst}
use Rattle.rx_model.specs.Expression.{Expression}
use Rattle.rx_hir.specs.Joined.{and_then, AreApart}
use Rattle.rx_hir.proofs.JoinedLemmas.{apart-other}
use Rattle.rx_hir.proofs.hir.concat.with_other.Goals as goal

pub returns : goal.returns
returns c = λ hs h.
    let all = c.push.new.self.items in
    let part = c.args.part in
    let grown = c.in_ok-push.ensures.items ∙ ap (λ (gs : List Expression). gs ++ part ∷ []) c.in_ok-parts.ensures in
    subst (λ (bytes : List ℕ). AreApart all bytes (and_then hs part)) (sym c.new-bytes.ensures.items)
    (apart-other c.args.row.parts.items hs all c.args.row.bytes.items part h c.requires grown)
