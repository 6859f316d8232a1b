use Rattle.std.proofs.Common.{◌∙◌, ap}
use Rattle.rx_engines.specs.Threads.{Frames}
use Rattle.rx_engines.proofs.lemmas.threads.BufferLemmas.{keeps-twice, alike-kept, room-kept}
use Rattle.rx_engines.proofs.pikevm.cache.Cache.find.Goals as goal

pub invariant_of-self : goal.invariant_of-self
invariant_of-self c = (
  alike-kept c.self.invariant.0 (keeps-twice (keeps-twice c.reset.ensures.room c.simulate_slots-found.ensures.room) c.clear.ensures.room)
      (ap (λ (s : Frames). s.items) c.clear.ensures.stack ∙ c.simulate_slots-found.ensures.empty),
  c.clear.ensures.held,
)

pub returns-clause-room : goal.returns-clause-room
returns-clause-room c =
    room-kept c.self.inside.memory (keeps-twice (keeps-twice c.reset.ensures.room c.simulate_slots-found.ensures.room) c.clear.ensures.room)
    c.self.invariant.1 c.clear.ensures.held
    ∙ c.self.view_is
