use Rattle.std.proofs.Common.{◌≡◌, [], arith}
use Rattle.std.proofs.lemmas.Grind.{common_steps}
use Rattle.rx_reader.specs.Gathered.{gathered}
use Rattle.rx_reader.proofs.lemmas.branches.ItemLemmas.{whole-branch}
use Rattle.rx_reader.proofs.level.Level.whole.Goals as goal

pub returns-then-is_empty : goal.returns-then-is_empty
returns-then-is_empty c =
    let s = c.end_run.new.self in
    let none : c.args.self.branches.items ≡ [] = grind (arith, common_steps) in
    rw c.branch-level.ensures (whole-branch (gathered c.args.self) s.branches.items s.items.items s.flags s.run.items c.in_ok-end_run.ensures.same none
    c.in_ok-end_run.ensures.ended)
