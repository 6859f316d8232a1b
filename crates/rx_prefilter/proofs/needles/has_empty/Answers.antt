use Rattle.std.proofs.Common.{◌≡◌, ◌+◌, true, false, map, drop, sym, ◌∙◌, arith}
use Rattle.std.proofs.lemmas.Bool.Decides.{nat_tests}
use Rattle.std.specs.List.{list_any}
use Rattle.std.specs.Vec.{vec_items}
use Rattle.rx_prefilter.specs.Choices.{is_empty}
use Rattle.rx_prefilter.proofs.ListLemmas.{at_next, list_any-here, list_any-next}
use Rattle.rx_prefilter.proofs.needles.has_empty.Goals as goal

pub returns-then-is_empty : goal.returns-then-is_empty
returns-then-is_empty c =
    let x = c.needle-item.result in
    let long = x.ok.0 in
    let test : is_empty x.items ≡ true = grind (arith, nat_tests, long, c.is_empty.ensures, c.if-is_empty.true) in
    sym (at_next vec_items (list_any is_empty) c.args.needles.now c.loop-needle.needle-index x (omega arith) c.needle-item.is c.loop-needle.invariant
    ∙ list_any-here is_empty x.items (drop (c.loop-needle.needle-index + 1) (map vec_items c.args.needles.now)) test)

pub loop-needle-preserved : goal.loop-needle-preserved
loop-needle-preserved c =
    let x = c.needle-item.result in
    let long = x.ok.0 in
    let test : is_empty x.items ≡ false = grind (arith, nat_tests, long, c.is_empty.ensures, c.if-is_empty.false) in
    at_next vec_items (list_any is_empty) c.args.needles.now c.loop-needle.needle-index x (omega arith) c.needle-item.is c.loop-needle.invariant
    ∙ list_any-next is_empty x.items (drop (c.loop-needle.needle-index + 1) (map vec_items c.args.needles.now)) test
