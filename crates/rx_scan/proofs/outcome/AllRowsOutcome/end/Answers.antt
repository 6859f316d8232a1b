use Rattle.std.proofs.Common.{ap, ◌∙◌}
use Rattle.std.specs.Vec.{vec_items}
use Rattle.rx_scan.proofs.OutcomeLemmas.{rows-kept}
use Rattle.rx_scan.proofs.outcome.AllRowsOutcome.end.Goals as goal

pub returns : goal.returns
returns c = λ i all rows holds. (
  rows-kept vec_items all rows c.args.kept.now.done.items c.push.new.self.items c.replace-rows.result c.in_ok-push.ensures.items holds.0
      (ap vec_items c.replace-rows.ensures.value ∙ holds.1),
  ap vec_items c.replace-rows.ensures.after ∙ c.new.ensures.items,
)
