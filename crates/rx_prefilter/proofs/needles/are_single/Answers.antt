use Rattle.std.proofs.Common.{◌≡◌, ◌+◌, true, false, map, drop, sym, ◌∙◌, arith}
use Rattle.std.proofs.lemmas.Bool.Decides.{nat_tests}
use Rattle.std.specs.List.{list_all}
use Rattle.std.specs.Vec.{vec_items}
use Rattle.rx_prefilter.specs.Choices.{is_single}
use Rattle.rx_prefilter.proofs.ListLemmas.{at_next, list_all-here, list_all-next}
use Rattle.rx_prefilter.proofs.needles.are_single.Goals as goal

pub returns-then-len-ne1 : goal.returns-then-len-ne1
returns-then-len-ne1 c =
    let x = c.needle-item.result in
    let long = x.ok.0 in
    let test : is_single x.items ≡ false = grind (arith, nat_tests, long, c.len.ensures, c.if-len-ne1.true) in
    sym (at_next vec_items (list_all is_single) c.args.needles.now c.loop-needle.needle-index x (omega arith) c.needle-item.is c.loop-needle.invariant
    ∙ list_all-here is_single x.items (drop (c.loop-needle.needle-index + 1) (map vec_items c.args.needles.now)) test)

pub loop-needle-preserved : goal.loop-needle-preserved
loop-needle-preserved c =
    let x = c.needle-item.result in
    let long = x.ok.0 in
    let test : is_single x.items ≡ true = grind (arith, nat_tests, long, c.len.ensures, c.if-len-ne1.false) in
    at_next vec_items (list_all is_single) c.args.needles.now c.loop-needle.needle-index x (omega arith) c.needle-item.is c.loop-needle.invariant
    ∙ list_all-next is_single x.items (drop (c.loop-needle.needle-index + 1) (map vec_items c.args.needles.now)) test
