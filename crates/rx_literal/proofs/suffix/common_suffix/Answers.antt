use Rattle.std.proofs.Common.{◌-◌, length, ap, sym, ◌∙◌, arith}
use Rattle.std.specs.Prelude.{reverse}
use Rattle.rx_literal.specs.Trim.{common_from_behind}
use Rattle.rx_literal.proofs.lemmas.suffixes.BehindLemmas.{behind-step, behind-end, last-bytes, take-rest, whole-behind}
use Rattle.rx_literal.proofs.suffix.common_suffix.Goals as goal

pub loop-other-init : goal.loop-other-init
loop-other-init c = record {
  so_far = ap (λ r. common_from_behind r c.args.others.now) (whole-behind c.args.first.now);
  bound = omega arith;
}

pub loop-other-preserved : goal.loop-other-preserved
loop-other-preserved c = record {
  so_far = sym (behind-step (reverse c.args.first.now) c.args.others.now c.loop-other.other-index c.loop-other.len c.common_len-len.result c.other-item.result
      c.as_bytes.result.now
      c.loop-other-test.true c.other-item.is c.as_bytes.ensures c.common_len-len.ensures.value c.common_len-len.ensures.bound)
      ∙ c.loop-other.invariant.so_far;
  bound = omega (arith, c.common_len-len.ensures.bound, c.loop-other.invariant.bound);
}

pub returns : goal.returns
returns c =
    let first = c.args.first.now in
    let len = c.loop-other.len in
    take-rest first (length first - len) ∙ last-bytes first len c.loop-other.invariant.bound
    ∙ ap reverse (sym (behind-end (reverse first) c.args.others.now c.loop-other.other-index len c.loop-other-test.false) ∙ c.loop-other.invariant.so_far)
