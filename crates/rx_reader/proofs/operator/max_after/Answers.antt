use Rattle.std.proofs.lemmas.Result.{on_ok_weaker}
use Rattle.std.proofs.Math.Nat.{le_trans}
use Rattle.rx_reader.proofs.operator.max_after.Goals as goal

pub returns-clause-progress : goal.returns-clause-progress
returns-clause-progress c = on_ok_weaker c.read_max.result (λ le. le_trans le c.bump_over.ensures.progress) c.read_max.ensures.progress

pub returns-clause-kept : goal.returns-clause-kept
returns-clause-kept c h = c.read_max.ensures.kept (c.bump_over.ensures.kept h)
