use Rattle.std.proofs.Common.{sym, ◌∙◌}
use Rattle.std.proofs.lemmas.Bool.{and_parts}
use Rattle.std.specs.Prelude.{◌&&◌, not}
use Rattle.rx_strategy.specs.Impossible.{is_always_anchored_start, is_always_anchored_end}
use Rattle.rx_strategy.specs.Strategy.{has_dfas}
use Rattle.rx_strategies.proofs.anchored.ReverseAnchored.new.Goals as goal

pub invariant_of-result : goal.invariant_of-result
invariant_of-result c = record {
  ends = λ h of.
      let ends = is_always_anchored_end h in
      let begins = is_always_anchored_start h in
      let both = and_parts (has_dfas c.args.core) (ends && not begins) (sym (c.applies.ensures h of) ∙ c.if-applies.true) in
      (and_parts ends (not begins) both.1).0;
}
