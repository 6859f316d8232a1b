use Rattle.std.proofs.Common.{◌+◌, ◌*◌, ◌∙◌, sym, ap₂}
use Rattle.rx_onepass.proofs.lemmas.SizeLemmas.{accounted-within}
use Rattle.rx_onepass.proofs.dfa.DFA.memory_usage.Goals as goal

pub returns-clause-cells : goal.returns-clause-cells
returns-clause-cells c = sym c.cells.ensures.value ∙ c.cells.ensures.rows

pub returns-clause-within : goal.returns-clause-within
returns-clause-within c =
    accounted-within c.args.self.now c.cells.ensures.sound _
    (ap₂ (λ cells starts. 8 * cells + 4 * starts) c.cells.ensures.rows c.start_len.ensures.value)
