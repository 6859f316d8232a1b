use Rattle.std.proofs.Common.{◌≡◌, ◌+◌, true, false, map, drop, sym, ◌∙◌, arith}
use Rattle.std.proofs.lemmas.Bool.Decides.{nat_tests}
use Rattle.std.specs.List.{list_all}
use Rattle.std.specs.Vec.{vec_items}
use Rattle.rx_prefilter.specs.Choices.{has_bytes}
use Rattle.rx_prefilter.proofs.ListLemmas.{at_next, list_all-here, list_all-next}
use Rattle.rx_prefilter.proofs.needles.have_bytes.Goals as goal

pub returns-then-len-least : goal.returns-then-len-least
returns-then-len-least c =
    let x = c.needle-item.result in
    let long = x.ok.0 in
    let test : (has_bytes c.args.least) x.items ≡ false = grind (arith, nat_tests, long, c.len.ensures, c.if-len-least.true) in
    sym (at_next vec_items (list_all (has_bytes c.args.least)) c.args.needles.now c.loop-needle.needle-index x (omega arith) c.needle-item.is
    c.loop-needle.invariant
    ∙ list_all-here (has_bytes c.args.least) x.items (drop (c.loop-needle.needle-index + 1) (map vec_items c.args.needles.now)) test)

pub loop-needle-preserved : goal.loop-needle-preserved
loop-needle-preserved c =
    let x = c.needle-item.result in
    let long = x.ok.0 in
    let test : (has_bytes c.args.least) x.items ≡ true = grind (arith, nat_tests, long, c.len.ensures, c.if-len-least.false) in
    at_next vec_items (list_all (has_bytes c.args.least)) c.args.needles.now c.loop-needle.needle-index x (omega arith) c.needle-item.is c.loop-needle.invariant
    ∙ list_all-next (has_bytes c.args.least) x.items (drop (c.loop-needle.needle-index + 1) (map vec_items c.args.needles.now)) test
