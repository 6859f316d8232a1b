use Rattle.rx_reader.specs.Tokens.{IsOneMore}
use Rattle.std.proofs.lemmas.Result.{IfOk-weaker}
use Rattle.std.proofs.Common.{arith, ◌≡◌, ◌∙◌, sym, true≢false}
use Rattle.std.proofs.lemmas.Grind.{common_steps}
use Rattle.std.proofs.lemmas.Bool.Decides.{nat_tests}
use Rattle.rx_reader.specs.Input.{place}
use Rattle.rx_reader.specs.Reading.{first}
use Rattle.rx_reader.specs.Grammar.{token_of}
use Rattle.rx_reader.proofs.lemmas.tokens.TokenLemmas.{begins-bar, begins-close, begins-opens, begins-class, begins-escape, begins-dot, begins-start, begins-end}
use Rattle.rx_reader.proofs.token.read_some_token.Goals as goal

pub returns-in-124-clause-value : goal.returns-in-124-clause-value
returns-in-124-clause-value c =
    let p = place c.args.cursor.now in
    let is : first p ≡ 124 = grind (arith, common_steps) in
    rw (begins-bar c.args.config (first p) c.args.flags p is) (grind (arith, common_steps))

pub returns-in-41-clause-value : goal.returns-in-41-clause-value
returns-in-41-clause-value c =
    let p = place c.args.cursor.now in
    let is : first p ≡ 41 = grind (arith, common_steps) in
    rw (begins-close c.args.config (first p) c.args.flags p is) (grind (arith, common_steps))

pub returns-in-40-clause-value : goal.returns-in-40-clause-value
returns-in-40-clause-value c =
    let p = place c.args.cursor.now in
    let is : first p ≡ 40 = grind (arith, common_steps) in
    rw (begins-opens c.args.config (first p) c.args.flags p is) c.read_opens.ensures.value

pub returns-in-91-clause-value : goal.returns-in-91-clause-value
returns-in-91-clause-value c =
    let p = place c.args.cursor.now in
    let is : first p ≡ 91 = grind (arith, common_steps) in
    rw (begins-class c.args.config (first p) c.args.flags p is) c.read_class.ensures.value

pub returns-in-92-clause-value : goal.returns-in-92-clause-value
returns-in-92-clause-value c =
    let p = place c.args.cursor.now in
    let is : first p ≡ 92 = grind (arith, common_steps) in
    rw (begins-escape c.args.config (first p) c.args.flags p is) c.read_escape.ensures.value

pub returns-in-46-clause-value : goal.returns-in-46-clause-value
returns-in-46-clause-value c =
    let p = place c.args.cursor.now in
    let is : first p ≡ 46 = grind (arith, common_steps) in
    begins-dot c.args.config (first p) c.args.flags p is ∙ c.read_single.ensures.value

pub returns-in-94-clause-value : goal.returns-in-94-clause-value
returns-in-94-clause-value c =
    let p = place c.args.cursor.now in
    let is : first p ≡ 94 = grind (arith, common_steps) in
    begins-start c.args.config (first p) c.args.flags p is ∙ c.read_single-in-94.ensures.value

pub returns-in-36-clause-value : goal.returns-in-36-clause-value
returns-in-36-clause-value c =
    let p = place c.args.cursor.now in
    let is : first p ≡ 36 = grind (arith, common_steps) in
    begins-end c.args.config (first p) c.args.flags p is ∙ c.read_single-in-36.ensures.value

pub returns-in_default-clause-value : goal.returns-in_default-clause-value
unfolding token_of
returns-in_default-clause-value c = grind (arith, common_steps, nat_tests)

pub returns-in-40-clause-more : goal.returns-in-40-clause-more
returns-in-40-clause-more c = IfOk-weaker c.read_opens.result IsOneMore _ (λ t k. k.0) c.read_opens.ensures.kind

pub returns-in-40-clause-close : goal.returns-in-40-clause-close
returns-in-40-clause-close c = IfOk-weaker c.read_opens.result IsOneMore _ (λ t k h. absurd (true≢false (sym h ∙ k.1))) c.read_opens.ensures.kind

pub returns-in-91-clause-more : goal.returns-in-91-clause-more
returns-in-91-clause-more c = IfOk-weaker c.read_class.result IsOneMore _ (λ t k. k.0) c.read_class.ensures.kind

pub returns-in-91-clause-close : goal.returns-in-91-clause-close
returns-in-91-clause-close c = IfOk-weaker c.read_class.result IsOneMore _ (λ t k h. absurd (true≢false (sym h ∙ k.1))) c.read_class.ensures.kind

pub returns-in-92-clause-more : goal.returns-in-92-clause-more
returns-in-92-clause-more c = IfOk-weaker c.read_escape.result IsOneMore _ (λ t k. k.0) c.read_escape.ensures.kind

pub returns-in-92-clause-close : goal.returns-in-92-clause-close
returns-in-92-clause-close c = IfOk-weaker c.read_escape.result IsOneMore _ (λ t k h. absurd (true≢false (sym h ∙ k.1))) c.read_escape.ensures.kind

pub returns-in-46-clause-more : goal.returns-in-46-clause-more
returns-in-46-clause-more c = c.read_single.ensures.kind.0

pub returns-in-46-clause-close : goal.returns-in-46-clause-close
returns-in-46-clause-close c h = absurd (true≢false (sym h ∙ c.read_single.ensures.kind.1))

pub returns-in-94-clause-more : goal.returns-in-94-clause-more
returns-in-94-clause-more c = c.read_single-in-94.ensures.kind.0

pub returns-in-94-clause-close : goal.returns-in-94-clause-close
returns-in-94-clause-close c h = absurd (true≢false (sym h ∙ c.read_single-in-94.ensures.kind.1))

pub returns-in-36-clause-more : goal.returns-in-36-clause-more
returns-in-36-clause-more c = c.read_single-in-36.ensures.kind.0

pub returns-in-36-clause-close : goal.returns-in-36-clause-close
returns-in-36-clause-close c h = absurd (true≢false (sym h ∙ c.read_single-in-36.ensures.kind.1))
