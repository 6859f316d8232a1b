use Rattle.std.proofs.Common.{◌++◌, ◌≤◌, length, drop, ap, sym, ◌∙◌, append-nil, length-drop, arith}
use Rattle.rx_scan.proofs.TextLemmas.{groups_text-end, told-more}
use Rattle.rx_scan.proofs.output.push_groups.Goals as goal

pub loop-at-preserved : goal.loop-at-preserved
loop-at-preserved c = record {
  told = told-more c.args.slots.now c.loop-at.at c.loop-at.group _ _ _ _ _ (omega arith) c.index-slots-at.is c.index-slots-at-in-loop-at.is
      c.in_ok-push_group.ensures c.loop-at.invariant.told;
  within = omega arith;
  few = omega arith;
}

pub returns : goal.returns
returns c =
    let few : length (drop c.loop-at.at c.args.slots.now) ≤ 1 = omega (arith, length-drop c.loop-at.at c.args.slots.now) in
    sym (append-nil c.loop-at.text.items) ∙ ap (λ l. c.loop-at.text.items ++ l) (sym (groups_text-end _ c.loop-at.group few)) ∙ c.loop-at.invariant.told
