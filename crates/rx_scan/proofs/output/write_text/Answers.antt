use Rattle.std.proofs.Common.{length, arith, length-drop, length-take, ◌≤◌, ◌-◌}
use Rattle.rx_scan.proofs.EndLemmas.{Gains-more}
use Rattle.rx_scan.proofs.output.write_text.Goals as goal

pub loop-done-preserved : goal.loop-done-preserved
loop-done-preserved g c =
    let w = c.in_ok-done.ensures.bytes in
    let fits : c.in_ok-done.field-0 ≤ length c.args.text.now - c.loop-done.done = (let h = simp (length-take, length-drop) at w.0 in omega (arith, h)) in
    record {
      within = omega arith;
      gained = Gains-more _ _ _ c.args.text.now c.loop-done.done c.in_ok-done.field-0 fits c.loop-done.invariant.gained w.2;
      counts = omega (arith, c.write.ensures.counts, c.loop-done.invariant.counts);
    }
