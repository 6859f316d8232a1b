use Rattle.std.proofs.Common.{◌∙◌, sym, arith}
use Rattle.rx_dfa.proofs.lemmas.ThreadLemmas.{pattern-there, pattern-before, pattern-end}
use Rattle.rx_dfa.proofs.step_parts.insert_pattern.Goals as goal

pub returns-then-eq : goal.returns-then-eq
returns-then-eq c =
    pattern-there c.args.pattern c.loop-place.list.items c.loop-place.place c.index.result.now _ (omega arith) c.index.ensures (sym c.eq.ensures ∙ c.if-eq.true)
    c.loop-place.invariant.rest

pub returns-then-lt : goal.returns-then-lt
returns-then-lt c =
    c.in_ok-insert.ensures.items
    ∙ pattern-before c.args.pattern c.loop-place.list.items c.loop-place.place c.index-in-loop-place.result.now _ (omega arith) c.index-in-loop-place.ensures
    (sym c.lt.ensures ∙ c.if-lt.true) c.loop-place.invariant.rest

pub returns : goal.returns
returns c =
    c.in_ok-push.ensures.items ∙ pattern-end c.args.pattern c.loop-place.list.items c.loop-place.place _ (omega arith) c.loop-place.invariant.rest
