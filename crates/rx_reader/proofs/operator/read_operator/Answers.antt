use Rattle.std.proofs.Math.Nat.{lt_of_le_of_lt}
use Rattle.std.proofs.Common.{◌≡◌, ◌∙◌, ap, sym, refl, true, false}
use Rattle.std.proofs.lemmas.Result.{err_from_is_err_and, IfOk-from_err}
use Rattle.rx_reader.specs.declared.error.SyntaxErrorKind.TheVariants.{Unsupported}
use Rattle.rx_reader.specs.Input.{place}
use Rattle.rx_reader.specs.Reading.{Place, first, is_at, begins}
use Rattle.rx_reader.specs.Ahead.{past_n, skip}
use Rattle.rx_reader.specs.Counts.{counts_of, read_counts}
use Rattle.rx_reader.proofs.lemmas.places.ReadsLemmas.{refuses_from, refuses, refuse_at}
use Rattle.rx_reader.proofs.lemmas.tokens.PartLemmas.{operator_simple, operator_without_min, operator_refused, operator_counted, operator_is}
use Rattle.rx_reader.proofs.operator.read_operator.Goals as goal

pub returns-then-is_at-clause-value : goal.returns-then-is_at-clause-value
returns-then-is_at-clause-value c =
    let p = place c.args.cursor.now in
    let q = place c.bump.new.self in
    let simple : is_at "*+?" p ≡ true = sym c.is_at.ensures.value ∙ c.if-is_at.true in
    let same : c.counts_of-counts.result ≡ counts_of (first p) = c.counts_of-counts.ensures.value ∙ ap counts_of c.first.ensures in
    operator_simple p q c.args.flags c.bump.ensures.value simple
    ∙ operator_is c.args.flags c.counts_of-counts.result (counts_of (first p)) q q (place c.bump_over_question-lazy.new.self) c.bump_over_question-lazy.result
    c.with_greed.result same c.bump_over_question-lazy.ensures.value c.with_greed.ensures c.bump_over_question-lazy.ensures.place

pub returns-then-begins-clause-value : goal.returns-then-begins-clause-value
returns-then-begins-clause-value c =
    let p = place c.args.cursor.now in
    let simple : is_at "*+?" p ≡ false = sym c.is_at.ensures.value ∙ c.if-is_at.false in
    let without : begins "{," p ≡ true = sym c.begins.ensures ∙ c.if-begins.true in
    let end : (place c.bump_by.new.self).at ≡ (past_n 2 p).at = ap (λ (x : Place). x.at) c.bump_by.ensures.value in
    rw c.refuse_from.ensures (operator_without_min p c.args.flags simple without
    ∙ refuse_at Unsupported p (past_n 2 p) c.at-start.result (place c.bump_by.new.self).at c.at-start.ensures end)

pub returns-in_err-counts-clause-value : goal.returns-in_err-counts-clause-value
returns-in_err-counts-clause-value c =
    let e = err_from_is_err_and c.from_residual.result c.from_residual.ensures.1 in
    let p = place c.args.cursor.now in
    let simple : is_at "*+?" p ≡ false = sym c.is_at.ensures.value ∙ c.if-is_at.false in
    let without : begins "{," p ≡ false = sym c.begins.ensures ∙ c.if-begins.false in
    rw (e.1, e.2) (refuses_from _ _ (λ x is.
    let stops = refuses _ (read_counts c.args.flags p) c.in_err-counts.ensures.value x is in
    operator_refused p c.args.flags x simple without stops))

pub returns-clause-value : goal.returns-clause-value
returns-clause-value c =
    let p = place c.args.cursor.now in
    let q = place c.read_counts.new.cursor in
    let counts = c.in_ok-counts.counts in
    let simple : is_at "*+?" p ≡ false = sym c.is_at.ensures.value ∙ c.if-is_at.false in
    let without : begins "{," p ≡ false = sym c.begins.ensures ∙ c.if-begins.false in
    operator_counted p q c.args.flags counts simple without c.in_ok-counts.ensures.value
    ∙ operator_is c.args.flags counts counts q (skip c.args.flags q) (place c.bump_over_lazy-lazy.new.self) c.bump_over_lazy-lazy.result c.with_greed-2.result
    refl c.bump_over_lazy-lazy.ensures.value c.with_greed-2.ensures c.bump_over_lazy-lazy.ensures.place

pub returns-then-is_at-clause-in_order : goal.returns-then-is_at-clause-in_order
returns-then-is_at-clause-in_order c = rw c.with_greed.ensures c.counts_of-counts.ensures.in_order

pub returns-then-is_at-clause-progress : goal.returns-then-is_at-clause-progress
returns-then-is_at-clause-progress c = lt_of_le_of_lt c.bump_over_question-lazy.ensures.progress (c.bump.ensures.progress c.requires)

pub returns-then-is_at-clause-kept : goal.returns-then-is_at-clause-kept
returns-then-is_at-clause-kept c h = c.bump_over_question-lazy.ensures.kept (c.bump.ensures.kept h)

pub returns-in_err-counts-clause-in_order : goal.returns-in_err-counts-clause-in_order
returns-in_err-counts-clause-in_order c = IfOk-from_err c.from_residual.result _ c.from_residual.ensures.0

pub returns-in_err-counts-clause-progress : goal.returns-in_err-counts-clause-progress
returns-in_err-counts-clause-progress c = IfOk-from_err c.from_residual.result _ c.from_residual.ensures.0

pub returns-clause-in_order : goal.returns-clause-in_order
returns-clause-in_order c = rw c.with_greed-2.ensures c.in_ok-counts.ensures.in_order

pub returns-clause-progress : goal.returns-clause-progress
returns-clause-progress c = lt_of_le_of_lt c.bump_over_lazy-lazy.ensures.progress c.in_ok-counts.ensures.progress

pub returns-clause-kept : goal.returns-clause-kept
returns-clause-kept c h = c.bump_over_lazy-lazy.ensures.kept (c.read_counts.ensures.kept h)
