use Rattle.std.proofs.Common.{◌≡◌, ◌+◌, ◌<◌, ◌≤◌, false, true, [], length, map, take, ap, subst, sym, ◌∙◌, get_or, arith}
use Rattle.std.specs.Prelude.{not}
use Rattle.std.proofs.lemmas.List.{length-replicate, length-set}
use Rattle.rx_literal.specs.Slots.{slot_of, slot}
use Rattle.rx_literal.specs.Trim.{preferred}
use Rattle.rx_literal.proofs.lemmas.trimming.SlotLemmas.{have-fewer}
use Rattle.rx_literal.proofs.lemmas.trimming.DistinctLemmas.{short, seen-none, seen-more, one-fits, distinct-more, distinct-all}
use Rattle.rx_literal.proofs.slots.are_more_than.Goals as goal

pub loop-literal-init : goal.loop-literal-init
loop-literal-init c = record {
  long = length-replicate 4096 false;
  seen = seen-none c.min-count.result c.args.literals.now _;
  fits = omega arith;
  few = omega arith;
}

pub returns-then-found-most : goal.returns-then-found-most
returns-then-found-most c yes_is =
    let n = c.min-count.result in
    let ls = c.args.literals.now in
    let i = c.loop-literal.literal-index in
    let seen = c.loop-literal.seen in
    let found = c.loop-literal.found in
    let l = c.literal-item.result in
    let s = c.slot_of-slot.result in
    let invariant = c.loop-literal.invariant in
    let le : n ≤ 3 = omega (arith, c.min-count.ensures) in
    let all = have-fewer c.bytes_to_look_at.result n ls c.bytes_to_look_at.ensures (omega (arith, c.min-count.ensures)) in
    let is : s ≡ slot n l = c.slot_of-slot.ensures.value ∙ ap (λ bs. slot_of 0 (take n bs)) c.as_bytes.ensures in
    let more = distinct-more n ls seen i l s le all c.loop-literal-test.true c.literal-item.is is invariant.seen found invariant.few (not (get_or seen s false))
    (λ _. not (get_or seen s false)) in
    let few : c.one_more_if-found.result ≤ length (preferred [] (map short (take (i + 1) ls))) =
    subst (λ k. k ≤ length (preferred [] (map short (take (i + 1) ls)))) (sym c.one_more_if-found.ensures) more in
    distinct-all ls (i + 1) c.args.most (omega (arith, few, c.if-found-most.true))

pub loop-literal-preserved : goal.loop-literal-preserved
loop-literal-preserved c =
    let n = c.min-count.result in
    let ls = c.args.literals.now in
    let i = c.loop-literal.literal-index in
    let seen = c.loop-literal.seen in
    let found = c.loop-literal.found in
    let l = c.literal-item.result in
    let s = c.slot_of-slot.result in
    let invariant = c.loop-literal.invariant in
    let le : n ≤ 3 = omega (arith, c.min-count.ensures) in
    let all = have-fewer c.bytes_to_look_at.result n ls c.bytes_to_look_at.ensures (omega (arith, c.min-count.ensures)) in
    let is : s ≡ slot n l = c.slot_of-slot.ensures.value ∙ ap (λ bs. slot_of 0 (take n bs)) c.as_bytes.ensures in
    let within : s < length seen = omega (arith, c.slot_of-slot.ensures.bound, invariant.long) in
    let b = not (get_or seen s false) in
    record {
      long = length-set seen s true ∙ invariant.long;
      seen = seen-more n ls seen i l s c.loop-literal-test.true c.literal-item.is is within invariant.seen;
      fits = subst (λ k. k ≤ i + 1) (sym c.one_more_if-found.ensures) (one-fits b found i invariant.fits);
      few = subst (λ k. k ≤ length (preferred [] (map short (take (i + 1) ls)))) (sym c.one_more_if-found.ensures)
          (distinct-more n ls seen i l s le all c.loop-literal-test.true c.literal-item.is is invariant.seen found invariant.few b (λ _. b));
    }
