use Rattle.std.proofs.Common.{◌≡◌, ◌<◌, ◌≤◌, ◌++◌, true, false, length, take, drop, ap, sym, ◌∙◌, arith}
use Rattle.std.specs.Prelude.{nat_eq}
use Rattle.std.specs.List.{starts_with}
use Rattle.rx_literal.specs.Literals.{bytes_of}
use Rattle.rx_literal.specs.Trim.{past_longer}
use Rattle.rx_literal.proofs.lemmas.trimming.PartedLemmas.{longer-removed, longer-done, longer-over}
use Rattle.rx_literal.proofs.trim.drop_longer.Goals as goal

pub loop-literals-preserved : goal.loop-literals-preserved
loop-literals-preserved c =
    let l = c.args.literal.now in
    let rs = c.loop-literals.literals.items in
    let at = c.args.at in
    let m = c.index.result.now in
    let lt : c.args.at < length c.loop-literals.literals.items = omega (arith, c.loop-literals-test.true, c.len.ensures, c.loop-literals.literals.ok.0) in
    let longer : starts_with nat_eq (bytes_of m) (bytes_of l) ≡ true
    = (λ k. starts_with nat_eq (sym c.as_bytes.ensures k) (sym c.as_bytes-in-loop-literals.ensures k))
    ∙ sym c.starts_with.ensures.value ∙ c.if-not-starts_with.false in
    record {
      so_far = ap (λ ys. take at ys ++ past_longer l (drop at ys)) c.remove.ensures.items
          ∙ longer-removed l rs at m lt c.index.ensures longer ∙ c.loop-literals.invariant.so_far;
      within = omega (arith, lt, c.remove.ensures.len, c.remove.new.self.ok.0, c.loop-literals.literals.ok.0);
    }

pub returns-then-not-starts_with : goal.returns-then-not-starts_with
returns-then-not-starts_with c =
    let l = c.args.literal.now in
    let rs = c.loop-literals.literals.items in
    let m = c.index.result.now in
    let lt : c.args.at < length c.loop-literals.literals.items = omega (arith, c.loop-literals-test.true, c.len.ensures, c.loop-literals.literals.ok.0) in
    let not : starts_with nat_eq (bytes_of m) (bytes_of l) ≡ false
    = (λ k. starts_with nat_eq (sym c.as_bytes.ensures k) (sym c.as_bytes-in-loop-literals.ensures k))
    ∙ sym c.starts_with.ensures.value ∙ c.if-not-starts_with.true in
    longer-done l rs c.args.at m lt c.index.ensures not ∙ c.loop-literals.invariant.so_far

pub returns : goal.returns
returns c =
    let rs = c.loop-literals.literals.items in
    let over : length c.loop-literals.literals.items ≤ c.args.at = omega (arith, c.loop-literals-test.false, c.len.ensures, c.loop-literals.literals.ok.0) in
    longer-over c.args.literal.now rs c.args.at over ∙ c.loop-literals.invariant.so_far
