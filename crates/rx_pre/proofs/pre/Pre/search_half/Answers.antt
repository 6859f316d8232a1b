use Rattle.std.specs.Prelude.{None}
use Rattle.rx_search.specs.Answer.{half_of}
use Rattle.rx_search.specs.Matches.{match_value}
use Rattle.rx_search.specs.declared.anchored.MatchKind.TheVariants.{LeftmostFirst}
use Rattle.rx_pre.specs.Pre.{IsPreFor}
use Rattle.rx_pre.proofs.AnswerLemmas.{part-answers}
use Rattle.rx_pre.proofs.pre.Pre.search_half.Goals as goal

pub returns-clause-answer : goal.returns-clause-answer
returns-clause-answer c =
    part-answers (λ r. IsPreFor c.args.self.now r) None LeftmostFirst c.args.input.now match_value half_of c.search.result c.half_match.result
    c.half_match.ensures c.search.ensures.answer
