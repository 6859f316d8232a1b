use Rattle.std.proofs.lemmas.Result.{IfOk-weaker, on_ok_weaker}
use Rattle.std.proofs.Math.Nat.{le_of_lt}
use Rattle.std.proofs.Common.{◌≡◌, ◌∙◌, sym, true, false, inr, true≢false}
use Rattle.rx_reader.specs.Input.{place}
use Rattle.rx_reader.specs.Reading.{at_end}
use Rattle.rx_reader.specs.Grammar.{is_operator}
use Rattle.rx_reader.proofs.lemmas.branches.BranchLemmas.{token-end}
use Rattle.rx_reader.proofs.lemmas.tokens.TokenLemmas.{token-stray, token-some}
use Rattle.rx_reader.proofs.token.read_token.Goals as goal

pub returns-then-is_at_end-clause-value : goal.returns-then-is_at_end-clause-value
returns-then-is_at_end-clause-value c =
    let p = place c.args.cursor.now in
    let ends : at_end p ≡ true = sym c.is_at_end.ensures.value ∙ c.if-is_at_end.true in
    token-end c.args.config c.args.flags p ends

pub returns-then-is_at-clause-value : goal.returns-then-is_at-clause-value
returns-then-is_at-clause-value c =
    let p = place c.args.cursor.now in
    let more : at_end p ≡ false = sym c.is_at_end.ensures.value ∙ c.if-is_at_end.false in
    let stray : is_operator p ≡ true = sym c.is_at.ensures.value ∙ c.if-is_at.true in
    rw (token-stray c.args.config c.args.flags p more stray) c.stray_operator.ensures

pub returns-clause-value : goal.returns-clause-value
returns-clause-value c =
    let p = place c.args.cursor.now in
    let more : at_end p ≡ false = sym c.is_at_end.ensures.value ∙ c.if-is_at_end.false in
    let none : is_operator p ≡ false = sym c.is_at.ensures.value ∙ c.if-is_at.false in
    rw (token-some c.args.config c.args.flags p more none) c.read_some_token.ensures.value

pub returns-clause-progress : goal.returns-clause-progress
returns-clause-progress c = IfOk-weaker c.read_some_token.result _ _ (λ t lt. inr lt) c.read_some_token.ensures.progress

pub returns-clause-moves : goal.returns-clause-moves
returns-clause-moves c = on_ok_weaker c.read_some_token.result le_of_lt c.read_some_token.ensures.progress

pub returns-clause-end : goal.returns-clause-end
returns-clause-end c =
    let more : at_end (place c.args.cursor.now) ≡ false = sym c.is_at_end.ensures.value ∙ c.if-is_at_end.false in
    IfOk-weaker c.read_some_token.result _ _ (λ t m. m ∙ sym more) c.read_some_token.ensures.more

pub returns-clause-stays : goal.returns-clause-stays
returns-clause-stays c = IfOk-weaker c.read_some_token.result _ _ (λ t m h. absurd (true≢false (sym h ∙ m))) c.read_some_token.ensures.more
