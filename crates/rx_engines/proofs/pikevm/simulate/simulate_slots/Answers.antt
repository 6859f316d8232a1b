use Rattle.std.proofs.Common.{◌≡◌, length, sym, ◌∙◌, ap, subst}
use Rattle.std.specs.Prelude.{min, replicate, None}
use Rattle.rx_engines.specs.Buffers.{IsReady}
use Rattle.rx_engines.proofs.lemmas.threads.StartLemmas.{reported-value, reported-slots, reported-none}
use Rattle.rx_engines.proofs.pikevm.simulate.simulate_slots.Goals as goal

pub simulate-found-requires-clause-cleared : goal.simulate-found-requires-clause-cleared
simulate-found-requires-clause-cleared c = c.requires.cleared ∙ ap (λ n. replicate n None) (sym c.requires.ready.best)

pub simulate-found-requires-clause-ready : goal.simulate-found-requires-clause-ready
simulate-found-requires-clause-ready c = subst (λ n. IsReady c.args.search.now.states.now n c.args.buffers.now) (sym c.requires.ready.best) c.requires.ready

pub returns-clause-answer : goal.returns-clause-answer
returns-clause-answer c =
    let answer = c.simulate-found.ensures.answer in
    let fits : length c.args.buffers.now.best.items ≡ min (length c.report.new.to) c.args.search.now.slots =
    c.requires.ready.best ∙ ap (λ n. min n c.args.search.now.slots) (sym c.report.auto.to) in
    record {
      offered = answer.offered;
      offers = answer.offers;
      value = reported-value _ _ _ _ answer.value;
      any = answer.any;
      slots_are = reported-slots _ _ _ _ _ _ answer.value fits (rw c.as_slice.ensures at c.report.ensures);
    }

pub returns-clause-cleared : goal.returns-clause-cleared
returns-clause-cleared c =
    reported-none _ _ _ _ _ c.simulate-found.ensures.cleared c.report.auto.to (rw c.as_slice.ensures at c.report.ensures)
