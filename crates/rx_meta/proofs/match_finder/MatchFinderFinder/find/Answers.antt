use Rattle.std.proofs.lemmas.Result.{IfOk-weaker}
use Rattle.rx_meta.proofs.FinderLemmas.{finds-searched, fails-unless}
use Rattle.rx_meta.proofs.IteratorLemmas.{found-by}
use Rattle.rx_meta.proofs.match_finder.MatchFinderFinder.find.Goals as goal

pub returns-clause-answer : goal.returns-clause-answer
returns-clause-answer c promised =
    let end = c.haystack-haystack.ensures.spanned.end in
    IfOk-weaker c.search_with.result _ _
    (λ found is. finds-searched c.args.self.now.regex.now c.args.input.now end promised.0 promised.1 found is) c.search_with.ensures.answer

pub returns-clause-err : goal.returns-clause-err
returns-clause-err c = fails-unless c.search_with.result c.search_with.ensures.sure

pub returns-clause-any : goal.returns-clause-any
returns-clause-any c =
    found-by c.args.self.now.regex.now c.args.input.now c.search_with.result c.search_with.ensures.answer c.search_with.ensures.in_range
