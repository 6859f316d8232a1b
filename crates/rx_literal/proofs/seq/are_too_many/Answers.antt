use Rattle.std.proofs.Common.{length}
use Rattle.std.specs.List.{flat_map}
use Rattle.rx_literal.specs.Literals.{extended_by_each}
use Rattle.rx_literal.proofs.lemmas.prefixes.WalkedLemmas.{length-more, length-past, length-end}
use Rattle.rx_literal.proofs.seq.are_too_many.Goals as goal

pub returns-then-count-gt-MOST : goal.returns-then-count-gt-MOST
returns-then-count-gt-MOST c =
    let each = extended_by_each c.args.side c.args.others.now in
    let ls = c.args.literals.now in
    length-past each ls c.loop-literal.literal-index c.literal-item.result c.loop-literal.count c.extensions.result c.saturating_add-count.result
    (length (flat_map each ls)) c.loop-literal-test.true c.literal-item.is c.extensions.ensures c.saturating_add-count.ensures c.if-count-gt-MOST.true
    c.loop-literal.invariant.so_far

pub loop-literal-preserved : goal.loop-literal-preserved
loop-literal-preserved c =
    let each = extended_by_each c.args.side c.args.others.now in
    let ls = c.args.literals.now in
    record {
      so_far = length-more each ls c.loop-literal.literal-index c.literal-item.result c.loop-literal.count c.extensions.result c.saturating_add-count.result
          (length (flat_map each ls)) c.loop-literal-test.true c.literal-item.is c.extensions.ensures c.saturating_add-count.ensures c.if-count-gt-MOST.false
          c.loop-literal.invariant.so_far;
      few = c.if-count-gt-MOST.false;
    }

pub returns : goal.returns
returns c =
    let each = extended_by_each c.args.side c.args.others.now in
    let ls = c.args.literals.now in
    length-end each ls c.loop-literal.literal-index c.loop-literal.count (length (flat_map each ls)) c.loop-literal-test.false c.loop-literal.invariant.few
    c.loop-literal.invariant.so_far
