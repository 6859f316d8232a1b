use Rattle.std.proofs.Common.{List, ℕ, ap, ◌∙◌}
use Rattle.std.specs.Prelude.{chars, slice_get}
use Rattle.rx_reader.proofs.cursor.ahead.skipped_gap.Goals as goal

pub returns-else-flags-clause-next : goal.returns-else-flags-clause-next
returns-else-flags-clause-next c = c.next.ensures.steps.2 ∙ ap (λ (bs : List ℕ). slice_get (chars bs) 0) c.chars.ensures.rest
