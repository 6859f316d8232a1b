use Rattle.std.proofs.Common.{◌∙◌}
use Rattle.rx_reader.specs.Input.{place}
use Rattle.rx_reader.proofs.lemmas.places.AheadLemmas.{lazy_at}
use Rattle.rx_reader.proofs.cursor.Cursor.bump_over_lazy.Goals as goal

pub returns-then-lazy-clause-value : goal.returns-then-lazy-clause-value
returns-then-lazy-clause-value c =
    c.eq-lazy.ensures ∙ lazy_at (place c.args.self.now) c.args.flags _ _ c.skipped_gap-gap.ensures.len c.skipped_gap-gap.ensures.next

pub returns-else-lazy-clause-value : goal.returns-else-lazy-clause-value
returns-else-lazy-clause-value c =
    c.eq-lazy.ensures ∙ lazy_at (place c.args.self.now) c.args.flags _ _ c.skipped_gap-gap.ensures.len c.skipped_gap-gap.ensures.next
