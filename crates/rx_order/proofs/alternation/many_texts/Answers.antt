use Rattle.std.proofs.Common.{◌∙◌, ◌<◌, ◌≤◌, length, arith}
use Rattle.std.proofs.lemmas.Result.{IfOk-weaker}
use Rattle.rx_order.proofs.lemmas.AlternationLemmas.{many-few, many-is}
use Rattle.rx_order.proofs.alternation.many_texts.Goals as goal

pub returns-then-subs-lt-FEWEST : goal.returns-then-subs-lt-FEWEST
returns-then-subs-lt-FEWEST c = many-few 3000 c.args.subs.now (let few : length c.args.subs.now < 3000 = omega arith in few)

pub returns : goal.returns
returns c =
    let many : 3000 ≤ length c.args.subs.now = omega arith in
    IfOk-weaker c.texts.result _ _ (λ literals e. e ∙ many-is 3000 c.args.subs.now many) c.texts.ensures
