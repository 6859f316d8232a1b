use Rattle.rx_pre.proofs.NeedleLemmas.{prefix-within}
use Rattle.rx_pre.proofs.pre.Pre.prefix.Goals as goal

pub returns-clause-within : goal.returns-clause-within
returns-clause-within c =
    prefix-within c.self.inside.pre c.args.input.now c.haystack.ensures.spanned.end c.get_span.result c.get_span.ensures.start c.get_span.ensures.end
    c.prefix.result (rw c.haystack.ensures.value at c.prefix.ensures)
