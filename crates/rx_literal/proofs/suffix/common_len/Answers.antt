use Rattle.std.proofs.Common.{length, take, inr, arith}
use Rattle.std.specs.Prelude.{reverse}
use Rattle.rx_literal.specs.Trim.{common_prefix}
use Rattle.rx_literal.proofs.lemmas.suffixes.BehindLemmas.{len-more, len-differ, len-over}
use Rattle.rx_literal.proofs.suffix.common_len.Goals as goal

pub returns-then-first-len-clause-value : goal.returns-then-first-len-clause-value
returns-then-first-len-clause-value c =
    let whole = length (common_prefix (take c.args.most (reverse c.args.first.now)) (reverse c.args.second.now)) in
    len-differ c.args.first.now c.args.second.now c.args.most c.loop-len.len whole c.requires c.loop-len.invariant.so_far c.loop-len-test.true
    c.if-len-second.true c.if-first-len.true

pub loop-len-preserved : goal.loop-len-preserved
loop-len-preserved c =
    let whole = length (common_prefix (take c.args.most (reverse c.args.first.now)) (reverse c.args.second.now)) in
    record {
      so_far = len-more c.args.first.now c.args.second.now c.args.most c.loop-len.len whole c.requires c.loop-len.invariant.so_far c.loop-len-test.true
          c.if-len-second.true c.if-first-len.false;
      bound = omega (arith, c.loop-len-test.true);
    }

pub returns-else-len-second-clause-value : goal.returns-else-len-second-clause-value
returns-else-len-second-clause-value c =
    let whole = length (common_prefix (take c.args.most (reverse c.args.first.now)) (reverse c.args.second.now)) in
    len-over c.args.first.now c.args.second.now c.args.most c.loop-len.len whole c.requires c.loop-len.invariant.so_far (inr c.if-len-second.false)
