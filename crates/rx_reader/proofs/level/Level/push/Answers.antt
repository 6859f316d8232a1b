use Rattle.rx_reader.specs.Gathered.{gathered}
use Rattle.rx_reader.proofs.lemmas.branches.ItemLemmas.{gathered-item}
use Rattle.rx_reader.proofs.level.Level.push.Goals as goal

pub returns : goal.returns
returns c =
    let s = c.end_run.new.self in
    gathered-item (gathered c.args.self.now) s.branches.items s.items.items c.push.new.self.items c.args.item s.flags s.run.items c.in_default-end_run.ensures.same
    c.in_ok-push.ensures.items c.in_default-end_run.ensures.ended
