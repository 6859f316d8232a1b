use Rattle.std.proofs.Common.{◌∙◌}
use Rattle.rx_onepass.proofs.lemmas.AgreeLemmas.{exists-told}
use Rattle.rx_strategy.proofs.onepass.meets_in_one_pass.Goals as goal

pub is_match-requires-clause-each : goal.is_match-requires-clause-each
is_match-requires-clause-each c p is = c.requires.each

pub returns-clause-value : goal.returns-clause-value
returns-clause-value c r of =
    c.is_match.ensures.value ∙ exists-told c.args.engine.now r c.args.input.now of c.requires.spanned.end
