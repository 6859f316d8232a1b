use Rattle.std.proofs.Common.{rules, ◌∙◌}
use Rattle.rx_scan.proofs.NameLemmas.{built-name}
use Rattle.rx_scan.proofs.answer.explained.Goals as goal

pub returns : goal.returns
returns c = λ hs built.
    let name = c.strategy_name.ensures ∙ built-name hs c.args.regex.now built in
    search rules
