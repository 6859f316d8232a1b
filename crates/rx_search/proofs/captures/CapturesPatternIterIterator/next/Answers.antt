use Rattle.std.proofs.Common.{◌+◌, ◌-◌, ◌<◌, ◌∷◌, length, sym, ap, ◌∙◌, subst, arith}
use Rattle.rx_search.specs.Captures.{spans_from}
use Rattle.rx_search.proofs.CaptureLemmas.{spans_from-next}
use Rattle.rx_search.proofs.captures.CapturesPatternIterIterator.next.Goals as goal

pub returns-clause-steps : goal.returns-clause-steps
returns-clause-steps c =
    let it = c.self.inside in
    sym c.self.view_is
    ∙ spans_from-next it.captures.now it.next it.end (omega arith)
    ∙ ap (λ s. s ∷ spans_from it.captures.now (it.next + 1) (it.end - (it.next + 1))) (sym c.get_group-span.ensures)

pub returns-clause-goes : goal.returns-clause-goes
returns-clause-goes c =
    let it = c.self.inside in
    record {
      on = λ _. (
        tt,
        tt,
        subst (λ ss. length (spans_from it.captures.now (it.next + 1) (it.end - (it.next + 1))) < length ss) (sym (returns-clause-steps c))
            (omega arith),
      );
      keeps = tt;
      rests = λ _. tt;
    }
