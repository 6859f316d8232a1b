use Rattle.std.proofs.Common.{sym, ap, ◌∙◌}
use Rattle.std.specs.Option.{option_map}
use Rattle.rx_pre.specs.Found.{match_of}
use Rattle.rx_pre.proofs.FoundLemmas.{next-found}
use Rattle.rx_pre.proofs.pre.Pre.find.Goals as goal

pub returns-clause-next : goal.returns-clause-next
returns-clause-next c = λ r x.
    c.whole_match.ensures ∙ ap (option_map match_of) c.find_span.ensures.value
    ∙ sym (next-found c.args.self.now r c.args.input.now x.is_for c.find_span.ensures.spanned.end x.utf8)
