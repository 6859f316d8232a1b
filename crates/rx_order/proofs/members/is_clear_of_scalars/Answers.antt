use Rattle.std.proofs.Common.{◌≡◌, ℕ, suc, ◌+◌, ◌-◌, ◌/◌, ◌<◌, length, take, drop, sym, ◌∙◌, ap, arith}
use Rattle.rx_class.specs.Ranges.{next_scalar}
use Rattle.rx_class.proofs.SuccessorLemmas.{scalars-succeed}
use Rattle.rx_order.specs.Tests.{is_clear}
use Rattle.rx_order.proofs.lemmas.HalvingLemmas.{touched, clear-up_to, clear-from, clear-both}
use Rattle.rx_order.proofs.members.is_clear_of_scalars.Goals as goal

pub scalars-preserved-then-last-low : goal.scalars-preserved-then-last-low
scalars-preserved-then-last-low c =
    let rs = c.args.ranges.now in
    let q : ℕ × ℕ = (c.args.low, c.args.high) in
    let middle = c.scalars.from + (c.scalars.to - c.scalars.from) / 2 in
    let lt : c.scalars.from + (c.scalars.to - c.scalars.from) / 2 < c.scalars.to = omega (arith, c.scalars-test.true) in
    let inside : c.scalars.from + (c.scalars.to - c.scalars.from) / 2 < length c.args.ranges.now = omega (arith, lt, c.scalars.invariant.within) in
    let more : suc (c.scalars.from + (c.scalars.to - c.scalars.from) / 2) ≡ c.scalars.from + (c.scalars.to - c.scalars.from) / 2 + 1 = omega arith in
    record {
      bounds = omega (arith, lt);
      within = c.scalars.invariant.within;
      before = ap (λ n. is_clear (take n rs) q) (sym more)
          ∙ clear-up_to next_scalar scalars-succeed.above rs middle _ q c.requires.0 inside c.if-last-low.true;
      after = c.scalars.invariant.after;
    }

pub scalars-preserved : goal.scalars-preserved
scalars-preserved c =
    let rs = c.args.ranges.now in
    let q : ℕ × ℕ = (c.args.low, c.args.high) in
    let middle = c.scalars.from + (c.scalars.to - c.scalars.from) / 2 in
    let lt : c.scalars.from + (c.scalars.to - c.scalars.from) / 2 < c.scalars.to = omega (arith, c.scalars-test.true) in
    let inside : c.scalars.from + (c.scalars.to - c.scalars.from) / 2 < length c.args.ranges.now = omega (arith, lt, c.scalars.invariant.within) in
    record {
      bounds = omega arith;
      within = omega (arith, inside);
      before = c.scalars.invariant.before;
      after = clear-from next_scalar scalars-succeed.above rs middle _ q c.requires.0 inside c.if-high-first.true;
    }

pub returns-else-high-first : goal.returns-else-high-first
returns-else-high-first c =
    let rs = c.args.ranges.now in
    let q : ℕ × ℕ = (c.args.low, c.args.high) in
    let middle = c.scalars.from + (c.scalars.to - c.scalars.from) / 2 in
    let lt : c.scalars.from + (c.scalars.to - c.scalars.from) / 2 < c.scalars.to = omega (arith, c.scalars-test.true) in
    let inside : c.scalars.from + (c.scalars.to - c.scalars.from) / 2 < length c.args.ranges.now = omega (arith, lt, c.scalars.invariant.within) in
    sym (touched rs middle (0, 0) q inside c.if-last-low.false c.if-high-first.false)

pub returns : goal.returns
returns c =
    let rs = c.args.ranges.now in
    let q : ℕ × ℕ = (c.args.low, c.args.high) in
    let done = c.scalars-test.false in
    let same : c.scalars.to ≡ c.scalars.from = (let le = c.scalars.invariant.bounds in omega arith) in
    sym (clear-both rs c.scalars.from q c.scalars.invariant.before (ap (λ n. is_clear (drop n rs) q) (sym same) ∙ c.scalars.invariant.after))
