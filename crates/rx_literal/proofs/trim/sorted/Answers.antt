use Rattle.std.proofs.Common.{◌<◌, ◌≤◌, ◌+◌, ℕ, [], map, take, length, sym, subst, ◌∙◌, arith}
use Rattle.std.specs.List.Sorted.{IsPermutation}
use Rattle.std.proofs.lemmas.List.{length-map, take_all}
use Rattle.std.proofs.lemmas.Result.{IfOk-weaker}
use Rattle.rx_literal.specs.Literals.{Literal}
use Rattle.rx_literal.specs.declared.order.Order.TheVariants.{Bytes as by_bytes}
use Rattle.rx_literal.specs.Order.{InOrder}
use Rattle.rx_literal.proofs.lemmas.trimming.InsertLemmas.{insert-ordered}
use Rattle.rx_literal.proofs.lemmas.trimming.AlikeLemmas.{Alike, alike-none, alike-more, sorted-alike, pair-at}
use Rattle.rx_literal.proofs.trim.sorted.Goals as goal

abbrev second : ℕ × Literal → Literal
second p = p.1

pub loop-pair-init : goal.loop-pair-init
loop-pair-init c = record {
  order = subst (InOrder by_bytes) (sym c.in_ok-found.ensures.items) tt;
  alike = subst (λ found. Alike found []) (sym c.in_ok-found.ensures.items) alike-none;
}

pub loop-pair-preserved : goal.loop-pair-preserved
loop-pair-preserved c =
    let ps = c.deref-pair-items.result.now in
    let found = c.loop-pair.found.items in
    let i = c.loop-pair.pair-index in
    let p = c.pair-item.result in
    let lt : i < length ps = omega arith in
    let long = length-map ps second in
    record {
      order = subst (InOrder by_bytes) (sym c.in_ok-insert.ensures) (insert-ordered p.1 found c.loop-pair.invariant.order);
      alike = subst (λ ys. Alike ys (take (i + 1) (map second ps))) (sym c.in_ok-insert.ensures)
          (alike-more found (map second ps) i p.1 (omega (arith, long)) (pair-at ps i p lt c.pair-item.is) c.loop-pair.invariant.alike);
    }

pub returns : goal.returns
returns c =
    let ls = c.args.literals.now in
    let ps = c.deref-pair-items.result.now in
    let found = c.loop-pair.found.items in
    let i = c.loop-pair.pair-index in
    let long = length-map ps second in
    let over : length (map second ps) ≤ i = omega (arith, long) in
    let moved : IsPermutation ls (map second ps) =
    subst (λ qs. IsPermutation ls (map second qs)) (sym c.deref-pair-items.ensures.value) c.in_ok-headed.ensures in
    let alike = subst (Alike found) (take_all i (map second ps) over) c.loop-pair.invariant.alike in
    let is = c.deref.ensures.value ∙ sorted-alike ls (map second ps) found moved c.loop-pair.invariant.order alike in
    IfOk-weaker c.owned.result _ _ (λ v same. same ∙ is) c.owned.ensures
