use Rattle.std.proofs.Common.{◌≡◌, ℕ, suc, ◌+◌, ◌-◌, ◌/◌, ◌<◌, length, take, drop, sym, ◌∙◌, ap, arith}
use Rattle.rx_class.specs.Ranges.{next_byte}
use Rattle.rx_class.proofs.SuccessorLemmas.{bytes-succeed}
use Rattle.rx_order.specs.Tests.{is_clear}
use Rattle.rx_order.proofs.lemmas.HalvingLemmas.{touched, clear-up_to, clear-from, clear-both}
use Rattle.rx_order.proofs.members.is_clear_of_bytes.Goals as goal

pub bytes-preserved-then-last-low : goal.bytes-preserved-then-last-low
bytes-preserved-then-last-low c =
    let rs = c.args.ranges.now in
    let q : ℕ × ℕ = (c.args.low, c.args.high) in
    let middle = c.bytes.from + (c.bytes.to - c.bytes.from) / 2 in
    let lt : c.bytes.from + (c.bytes.to - c.bytes.from) / 2 < c.bytes.to = omega (arith, c.bytes-test.true) in
    let inside : c.bytes.from + (c.bytes.to - c.bytes.from) / 2 < length c.args.ranges.now = omega (arith, lt, c.bytes.invariant.within) in
    let more : suc (c.bytes.from + (c.bytes.to - c.bytes.from) / 2) ≡ c.bytes.from + (c.bytes.to - c.bytes.from) / 2 + 1 = omega arith in
    record {
      bounds = omega (arith, lt);
      within = c.bytes.invariant.within;
      before = ap (λ n. is_clear (take n rs) q) (sym more)
          ∙ clear-up_to next_byte bytes-succeed.above rs middle _ q c.requires inside c.if-last-low.true;
      after = c.bytes.invariant.after;
    }

pub bytes-preserved : goal.bytes-preserved
bytes-preserved c =
    let rs = c.args.ranges.now in
    let q : ℕ × ℕ = (c.args.low, c.args.high) in
    let middle = c.bytes.from + (c.bytes.to - c.bytes.from) / 2 in
    let lt : c.bytes.from + (c.bytes.to - c.bytes.from) / 2 < c.bytes.to = omega (arith, c.bytes-test.true) in
    let inside : c.bytes.from + (c.bytes.to - c.bytes.from) / 2 < length c.args.ranges.now = omega (arith, lt, c.bytes.invariant.within) in
    record {
      bounds = omega arith;
      within = omega (arith, inside);
      before = c.bytes.invariant.before;
      after = clear-from next_byte bytes-succeed.above rs middle _ q c.requires inside c.if-high-first.true;
    }

pub returns-else-high-first : goal.returns-else-high-first
returns-else-high-first c =
    let rs = c.args.ranges.now in
    let q : ℕ × ℕ = (c.args.low, c.args.high) in
    let middle = c.bytes.from + (c.bytes.to - c.bytes.from) / 2 in
    let lt : c.bytes.from + (c.bytes.to - c.bytes.from) / 2 < c.bytes.to = omega (arith, c.bytes-test.true) in
    let inside : c.bytes.from + (c.bytes.to - c.bytes.from) / 2 < length c.args.ranges.now = omega (arith, lt, c.bytes.invariant.within) in
    sym (touched rs middle (0, 0) q inside c.if-last-low.false c.if-high-first.false)

pub returns : goal.returns
returns c =
    let rs = c.args.ranges.now in
    let q : ℕ × ℕ = (c.args.low, c.args.high) in
    let done = c.bytes-test.false in
    let same : c.bytes.to ≡ c.bytes.from = (let le = c.bytes.invariant.bounds in omega arith) in
    sym (clear-both rs c.bytes.from q c.bytes.invariant.before (ap (λ n. is_clear (drop n rs) q) (sym same) ∙ c.bytes.invariant.after))
