use Rattle.std.proofs.Common.{◌≡◌, ℕ, refl, ◌∙◌, ap}
use Rattle.std.specs.Prelude.{Option}
use Rattle.rx_dfa.specs.Clearing.{one_more}
use Rattle.rx_dfa.proofs.lemmas.RowsLemmas.{rows-same}
use Rattle.rx_dfa.proofs.lazy.rows.Rows.clear.Goals as goal

pub returns-clause-rows : goal.returns-clause-rows
returns-clause-rows c l = rows-same l c.empty.new.self _ (c.empty.ensures.rows l) refl refl refl refl

pub returns-clause-counts : goal.returns-clause-counts
returns-clause-counts c =
    let same : c.empty.new.self.clears ≡ c.args.self.now.clears = ap (λ (p : ℕ × Option ℕ). p.0) c.empty.ensures.counts in
    ap (λ (n : ℕ). (n, c.args.taken)) (c.saturating_add-self.ensures ∙ ap one_more same)
