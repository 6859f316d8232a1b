use Rattle.std.proofs.lemmas.Result.{IfOk-weaker}
use Rattle.rx_meta.proofs.FinderLemmas.{finds-searched, fails-unless}
use Rattle.rx_meta.proofs.IteratorLemmas.{captures-told, captures-none, captures-silent}
use Rattle.rx_meta.proofs.captures_finder.CapturesFinderFinder.find.Goals as goal

pub returns-clause-answer : goal.returns-clause-answer
returns-clause-answer c promised =
    let end = c.haystack-haystack.ensures.spanned.end in
    IfOk-weaker c.find_captures_with.result _ _
    (λ found is. finds-searched c.args.self.now.regex.now c.args.input.now end promised.0 promised.1 found is.answer)
    c.find_captures_with.ensures.told

pub returns-clause-err : goal.returns-clause-err
returns-clause-err c = fails-unless c.find_captures_with.result c.find_captures_with.ensures.sure

pub returns-clause-told : goal.returns-clause-told
returns-clause-told c promised =
    captures-told c.args.self.now.regex.now c.args.input.now c.haystack-haystack.ensures.spanned.end promised.0 promised.1
    c.find_captures_with.new.captures c.find_captures_with.result c.find_captures_with.ensures.told

pub returns-clause-none : goal.returns-clause-none
returns-clause-none c =
    captures-none c.args.self.now.regex.now c.args.input.now c.find_captures_with.new.captures c.find_captures_with.result
    c.find_captures_with.ensures.told

pub returns-clause-silent : goal.returns-clause-silent
returns-clause-silent c =
    captures-silent c.args.self.now.captures c.find_captures_with.new.captures c.find_captures_with.result c.find_captures_with.ensures.room
    c.find_captures_with.ensures.err
