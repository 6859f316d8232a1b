use Rattle.std.proofs.Common.{◌≡◌, ◌++◌, ◌∷◌, [], List, true, ℕ, length, map, take, get_or, arith, sym, ap, ◌∙◌}
use Rattle.std.specs.Vec.{vec_items}
use Rattle.std.proofs.lemmas.Bool.{eqb-true}
use Rattle.std.proofs.lemmas.Result.{IfOk-from_err}
use Rattle.rx_prefilter.specs.Bytes.{single}
use Rattle.rx_prefilter.specs.Choices.{is_single}
use Rattle.rx_prefilter.proofs.ListLemmas.{list_all-at, map-take_more, map-push, one_element}
use Rattle.rx_prefilter.proofs.ShownLemmas.{shown-end}
use Rattle.rx_prefilter.proofs.needles.first_bytes.Goals as goal

pub loop-needle-init : goal.loop-needle-init
loop-needle-init c = ap (map single) c.new-bytes.ensures.items

pub returns-in_err-push : goal.returns-in_err-push
returns-in_err-push c = IfOk-from_err c.from_residual.result _ c.from_residual.ensures.0

pub returns : goal.returns
returns c =
    shown-end single vec_items c.args.needles.now c.loop-needle.needle-index c.loop-needle.bytes.items c.loop-needle-test.false c.loop-needle.invariant

pub index-requires : goal.index-requires
index-requires c =
    let x = c.needle-item.result in
    let one : is_single x.items ≡ true =
    list_all-at is_single vec_items c.args.needles.now c.loop-needle.needle-index x (omega arith) c.needle-item.is c.requires in
    let long = eqb-true (length x.items) 1 one in
    omega (arith, x.ok.0, long)

pub loop-needle-preserved : goal.loop-needle-preserved
loop-needle-preserved c =
    let x = c.needle-item.result in
    let one : is_single x.items ≡ true =
    list_all-at is_single vec_items c.args.needles.now c.loop-needle.needle-index x (omega arith) c.needle-item.is c.requires in
    let long = eqb-true (length x.items) 1 one in
    let more = map-take_more vec_items c.args.needles.now c.loop-needle.needle-index x (omega arith) c.needle-item.is in
    let whole = one_element x.items long in
    let v = c.index.result.now in
    let read : v ≡ get_or x.items 0 0 = grind (arith, c.index.ensures) in
    let old = c.loop-needle.bytes.items in
    let before = map vec_items (take c.loop-needle.needle-index c.args.needles.now) in
    let element : single v ≡ x.items = ap single read ∙ sym whole in
    ap (map single) c.in_ok-push.ensures.items ∙ map-push single old v ∙ ap (λ (l : List (List ℕ)). l ++ single v ∷ []) c.loop-needle.invariant
    ∙ ap (λ (n : List ℕ). before ++ n ∷ []) element ∙ sym more
