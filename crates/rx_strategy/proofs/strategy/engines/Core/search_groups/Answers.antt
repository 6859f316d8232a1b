use Rattle.rx_strategy.proofs.AnswerLemmas.{engine-told}
use Rattle.rx_strategy.proofs.strategy.engines.Core.search_groups.Goals as goal

pub returns-in-Ok-clause-told : goal.returns-in-Ok-clause-told
returns-in-Ok-clause-told c r p = c.search_found.ensures.told r p.is_for (c.in-Ok.ensures.answer r p)

pub returns-then-is_some-clause-told : goal.returns-then-is_some-clause-told
returns-then-is_some-clause-told c =
    let core = c.args.self.now in
    engine-told core c.args.input.now core.kind c.search_nofail.new.slots c.search_nofail.result c.requires.spanned.end c.search_nofail.ensures.told

pub returns-in-Err-clause-told : goal.returns-in-Err-clause-told
returns-in-Err-clause-told c =
    let core = c.args.self.now in
    engine-told core c.args.input.now core.kind c.search_nofail-in-Err.new.slots c.search_nofail-in-Err.result c.requires.spanned.end
    c.search_nofail-in-Err.ensures.told
