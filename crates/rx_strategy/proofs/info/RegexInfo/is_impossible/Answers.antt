use Rattle.std.proofs.Common.{List, sym, ◌∙◌}
use Rattle.rx_model.specs.Expression.{Expression, alternation}
use Rattle.rx_hir.specs.Normal.{expressions}
use Rattle.rx_strategy.specs.Impossible.{begins_too_late, ends_too_early, is_too_short, is_too_long}
use Rattle.rx_strategy.proofs.InfoLemmas.{by-first, by-second, by-third, by-last}
use Rattle.rx_strategy.proofs.info.RegexInfo.is_impossible.Goals as goal

abbrev all : List Expression → Expression
all hs = alternation (expressions hs)

pub returns-then-begins_too_late-clause-value : goal.returns-then-begins_too_late-clause-value
returns-then-begins_too_late-clause-value c hs are =
    let v = c.args.input.now in
    by-first (begins_too_late (all hs) v) (ends_too_early (all hs) v) (is_too_short (all hs) v) (is_too_long (all hs) v)
    (sym (c.begins_too_late.ensures.value (all hs) are) ∙ c.if-begins_too_late.true)

pub returns-then-ends_too_early-clause-value : goal.returns-then-ends_too_early-clause-value
returns-then-ends_too_early-clause-value c hs are =
    let v = c.args.input.now in
    by-second (begins_too_late (all hs) v) (ends_too_early (all hs) v) (is_too_short (all hs) v) (is_too_long (all hs) v)
    (sym (c.begins_too_late.ensures.value (all hs) are) ∙ c.if-begins_too_late.false)
    (sym (c.ends_too_early.ensures (all hs) are) ∙ c.if-ends_too_early.true)

pub returns-then-is_too_short-clause-value : goal.returns-then-is_too_short-clause-value
returns-then-is_too_short-clause-value c hs are =
    let v = c.args.input.now in
    by-third (begins_too_late (all hs) v) (ends_too_early (all hs) v) (is_too_short (all hs) v) (is_too_long (all hs) v)
    (sym (c.begins_too_late.ensures.value (all hs) are) ∙ c.if-begins_too_late.false)
    (sym (c.ends_too_early.ensures (all hs) are) ∙ c.if-ends_too_early.false)
    (sym (c.is_too_short.ensures (all hs) are) ∙ c.if-is_too_short.true)

pub returns-clause-value : goal.returns-clause-value
returns-clause-value c hs are =
    let v = c.args.input.now in
    c.is_too_long.ensures (all hs) are
    ∙ by-last (begins_too_late (all hs) v) (ends_too_early (all hs) v) (is_too_short (all hs) v) (is_too_long (all hs) v)
    (sym (c.begins_too_late.ensures.value (all hs) are) ∙ c.if-begins_too_late.false)
    (sym (c.ends_too_early.ensures (all hs) are) ∙ c.if-ends_too_early.false)
    (sym (c.is_too_short.ensures (all hs) are) ∙ c.if-is_too_short.false)
