use Rattle.std.proofs.Math.Nat.{le_of_lt}
use Rattle.std.proofs.Common.{◌∙◌, sym, refl, true≢false}
use Rattle.rx_reader.proofs.cursor.Cursor.bump_over.Goals as goal

pub returns-then-found-clause-place : goal.returns-then-found-clause-place
returns-then-found-clause-place c = rw c.if-found.true c.bump.ensures.value

pub returns-then-found-clause-progress : goal.returns-then-found-clause-progress
returns-then-found-clause-progress c = le_of_lt (c.bump.ensures.progress (c.is_at-found.ensures.more c.if-found.true))

pub returns-then-found-clause-passed : goal.returns-then-found-clause-passed
returns-then-found-clause-passed c h = c.bump.ensures.progress (c.is_at-found.ensures.more c.if-found.true)

pub returns-else-found-clause-place : goal.returns-else-found-clause-place
returns-else-found-clause-place c = rw c.if-found.false refl

pub returns-else-found-clause-passed : goal.returns-else-found-clause-passed
returns-else-found-clause-passed c h = absurd (true≢false (sym h ∙ c.if-found.false))
