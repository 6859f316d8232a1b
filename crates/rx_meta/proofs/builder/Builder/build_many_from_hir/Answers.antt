use Rattle.rx_meta.proofs.BuildLemmas.{built}
use Rattle.rx_meta.proofs.builder.Builder.build_many_from_hir.Goals as goal

pub returns-in_ok-from_parts-in-Ok-clause-built : goal.returns-in_ok-from_parts-in-Ok-clause-built
returns-in_ok-from_parts-in-Ok-clause-built c =
    built c.args.self.now.config c.args.exprs.now c.in-Ok.strategy _ c.in-Ok.ensures.made c.in-Ok.ensures.allowed c.in_ok-from_parts-in-Ok.ensures
