use Rattle.std.proofs.Common.{◌≡◌, List, Ok, subst}
use Rattle.std.specs.Prelude.{Result, MatchResult}
use Rattle.rx_model.specs.Expression.{Expression}
use Rattle.rx_reader.specs.Config.{default}
use Rattle.rx_syntax.specs.Patterns.{Refusal, RefusesAll, all_translated}
use Rattle.rx_scan.proofs.answer.translate_last.Goals as goal

pub returns : goal.returns
returns c =
    let same : all_translated c.new.result c.deref.result.now ≡ all_translated default c.args.asts.items =
    λ i. all_translated (c.new.ensures i) (c.deref.ensures.value i) in
    subst (λ (r : Result (List Expression) Refusal). MatchResult c.translate_all.result (λ exprs. r ≡ Ok exprs.items) (λ e. RefusesAll e r)) same
    c.translate_all.ensures.value
