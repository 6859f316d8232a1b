use Rattle.std.proofs.Common.{◌≡◌, ◌∷◌, ◌++◌, true, false, take, drop, ap, sym, subst, ◌∙◌}
use Rattle.std.specs.Prelude.{not}
use Rattle.std.specs.List.{list_all, list_any}
use lib.ListN.{set}
use Rattle.rx_literal.specs.declared.order.Order.TheVariants.{Bytes as by_bytes}
use Rattle.rx_literal.specs.Order.{follows}
use Rattle.rx_literal.proofs.lemmas.trimming.InsertLemmas.{insert-new, insert-exact, insert-inexact}
use Rattle.rx_literal.proofs.trim.insert.Goals as goal

pub returns-then-not-stands_at : goal.returns-then-not-stands_at
returns-then-not-stands_at c =
    let ms = c.args.found.now.items in
    let l = c.args.literal.now in
    let k = c.position-at.result in
    let front = subst (λ ys. list_all (follows by_bytes l) (take k ys) ≡ true) c.deref.ensures.value c.position-at.ensures.before in
    let back = subst (λ ys. list_any (follows by_bytes l) (drop k ys) ≡ false) c.deref.ensures.value c.position-at.ensures.after in
    let none = ap (λ ys. list_any (λ m. not (follows by_bytes m l)) (take 1 (drop k ys))) (sym c.deref-2.ensures.value)
    ∙ sym c.stands_at.ensures.value ∙ c.if-not-stands_at.true in
    c.in_ok-insert.ensures.items ∙ ap (λ y. take k ms ++ y ∷ drop k ms) c.lent.ensures ∙ sym (insert-new l ms k front back none)

pub returns-then-not-is_exact : goal.returns-then-not-is_exact
returns-then-not-is_exact c =
    let ms = c.args.found.now.items in
    let l = c.args.literal.now in
    let k = c.position-at.result in
    let front = subst (λ ys. list_all (follows by_bytes l) (take k ys) ≡ true) c.deref.ensures.value c.position-at.ensures.before in
    let back = subst (λ ys. list_any (follows by_bytes l) (drop k ys) ≡ false) c.deref.ensures.value c.position-at.ensures.after in
    let some = ap (λ ys. list_any (λ m. not (follows by_bytes m l)) (take 1 (drop k ys))) (sym c.deref-2.ensures.value)
    ∙ sym c.stands_at.ensures.value ∙ c.if-not-stands_at.false in
    ap (set ms k) c.lent-then-not-is_exact.ensures ∙ insert-inexact l ms k front back some (sym c.is_exact.ensures ∙ c.if-not-is_exact.true)

pub returns-else-not-is_exact : goal.returns-else-not-is_exact
returns-else-not-is_exact c =
    let ms = c.args.found.now.items in
    let l = c.args.literal.now in
    let k = c.position-at.result in
    let front = subst (λ ys. list_all (follows by_bytes l) (take k ys) ≡ true) c.deref.ensures.value c.position-at.ensures.before in
    let back = subst (λ ys. list_any (follows by_bytes l) (drop k ys) ≡ false) c.deref.ensures.value c.position-at.ensures.after in
    let some = ap (λ ys. list_any (λ m. not (follows by_bytes m l)) (take 1 (drop k ys))) (sym c.deref-2.ensures.value)
    ∙ sym c.stands_at.ensures.value ∙ c.if-not-stands_at.false in
    insert-exact l ms k front back some (sym c.is_exact.ensures ∙ c.if-not-is_exact.false)
