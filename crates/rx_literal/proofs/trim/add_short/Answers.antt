use Rattle.rx_literal.specs.Literals.{cut}
use Rattle.rx_literal.specs.declared.side.Side.TheVariants.{Front as front}
use Rattle.rx_literal.proofs.lemmas.trimming.PickedLemmas.{added-step}
use Rattle.rx_literal.proofs.trim.add_short.Goals as goal

pub returns-clause-added : goal.returns-clause-added
returns-clause-added c rest =
    added-step c.args.least.now.items c.is_new.new.least.items rest (cut front 3 c.args.literal.now) c.first_bytes-short.result
    c.first_bytes-short.ensures c.in_ok-is_new.ensures.covered c.args.kept.now.items c.keep.new.kept.items c.in_ok-is_new.is_new c.in_ok-is_new.ensures.value
    c.in_ok-keep.ensures
