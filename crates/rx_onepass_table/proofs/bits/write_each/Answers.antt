use Rattle.std.proofs.Common.{◌≡◌, ◌≢◌, ◌<◌, ◌^◌, ◌==◌, sym, ◌∙◌, ap, arith, get_or-set_other, get_or-set_same, if◌then◌else◌}
use Rattle.std.specs.Prelude.{Some, None, slice_index_or, slice_set}
use Rattle.std.specs.Int.{bit_at}
use Rattle.std.proofs.lemmas.Bool.Decides.{nat_tests}
use Rattle.std.proofs.Math.ListN.{length-set}
use Rattle.rx_model.proofs.lemmas.runs.RunLemmas.{by_test}
use Rattle.rx_onepass_table.proofs.lemmas.BitLemmas.{least, least-in, none-below, others-same, others-fewer, others-apart}
use Rattle.rx_onepass_table.proofs.bits.write_each.Goals as goal

pub returns-then-k-places-clause-value : goal.returns-then-k-places-clause-value
returns-then-k-places-clause-value c k lt =
    let past = c.if-k-places.true in
    let fits = c.loop-left.auto.left-fits in
    c.loop-left.invariant.done k (none-below c.loop-left.left c.loop-left-test.true (omega arith) k (omega arith))

pub loop-left-smaller : goal.loop-left-smaller
loop-left-smaller c = let fits = c.loop-left.auto.left-fits in others-fewer c.loop-left.left c.loop-left-test.true (omega arith)

pub loop-left-preserved : goal.loop-left-preserved
loop-left-preserved c =
    let kept = c.loop-left.invariant in
    let places = c.loop-left.places in
    let left = c.loop-left.left in
    let some = c.loop-left-test.true in
    let word = c.loop-left.auto.left-fits in
    let fits : left < 2 ^ 32 = omega arith in
    let here = least left some fits in
    let value = c.place_of.result in
    let inside = c.if-k-places.false in
    record {
      same = length-set places here value ∙ kept.same;
      members = λ k bit. kept.members k (sym (others-same left some fits k (others-apart left some fits k bit)) ∙ bit);
      kept = λ k bit.
          get_or-set_other places here k value None (others-apart left some fits k bit)
          ∙ kept.kept k (sym (others-same left some fits k (others-apart left some fits k bit)) ∙ bit);
      done = λ k bit.
          by_test (k == here)
          (λ e.
          let same : here ≡ k = grind (arith, nat_tests) in
          ap (λ n. slice_index_or (slice_set places here value) n None) (sym same)
          ∙ get_or-set_same places here value None inside
          ∙ c.place_of.ensures
          ∙ sym (ap (λ b. if b == 1 then Some c.args.at else slice_index_or c.args.places.now k None)
          (ap (bit_at c.args.set) (sym same) ∙ kept.members here (least-in left some fits))))
          (λ e.
          let other : k ≢ here = grind (arith, nat_tests) in
          get_or-set_other places here k value None other
          ∙ kept.done k (sym (others-same left some fits k other) ∙ bit));
    }
