use Rattle.rx_pre.proofs.NeedleLemmas.{find-within}
use Rattle.rx_pre.proofs.pre.Pre.first.Goals as goal

pub returns-clause-within : goal.returns-clause-within
returns-clause-within c =
    find-within c.self.inside.pre c.args.input.now c.haystack.ensures.spanned.end c.get_span.result c.get_span.ensures.start c.get_span.ensures.end
    c.find.result (rw c.haystack.ensures.value at c.find.ensures)
