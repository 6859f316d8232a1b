use Rattle.std.proofs.Common.{refl, ◌∙◌}
use Rattle.rx_engines.proofs.pikevm.step.step.Goals as goal

pub returns-then-buffers-clause-stepped : goal.returns-then-buffers-clause-stepped
returns-then-buffers-clause-stepped c end later goal le byte stable value = c.step_over.ensures.stepped end later goal le byte stable
    (rw c.if-buffers.true at value)

pub returns-then-buffers-clause-accepted : goal.returns-then-buffers-clause-accepted
returns-then-buffers-clause-accepted c = rw c.if-buffers.true c.step_over.ensures.accepted

pub returns-then-buffers-clause-ready : goal.returns-then-buffers-clause-ready
returns-then-buffers-clause-ready c =
    let ready = c.requires.ready in
    record {
      odd = ready.odd;
      even = record {
        set = c.step_over.ensures.set ∙ ready.even.set;
        rows = c.step_over.ensures.table ∙ ready.even.rows;
        wide = c.step_over.ensures.width ∙ ready.even.wide;
      };
      slots = c.step_over.ensures.slots.0 ∙ ready.slots;
      best = c.step_over.ensures.best.0;
      stack = rw c.step_over.ensures.stack ready.stack;
      empty = c.step_over.ensures.empty;
    }

pub returns-then-buffers-clause-room : goal.returns-then-buffers-clause-room
returns-then-buffers-clause-room c = record {
  odd = refl;
  even = c.step_over.ensures.capacity;
  slots = c.step_over.ensures.slots.1;
  stack = c.step_over.ensures.stack;
  best = c.step_over.ensures.best.1;
}

pub returns-clause-stepped : goal.returns-clause-stepped
returns-clause-stepped c end later goal le byte stable value = c.step_over-2.ensures.stepped end later goal le byte stable (rw c.if-buffers.false at value)

pub returns-clause-accepted : goal.returns-clause-accepted
returns-clause-accepted c = rw c.if-buffers.false c.step_over-2.ensures.accepted

pub returns-clause-ready : goal.returns-clause-ready
returns-clause-ready c =
    let ready = c.requires.ready in
    record {
      even = ready.even;
      odd = record {
        set = c.step_over-2.ensures.set ∙ ready.odd.set;
        rows = c.step_over-2.ensures.table ∙ ready.odd.rows;
        wide = c.step_over-2.ensures.width ∙ ready.odd.wide;
      };
      slots = c.step_over-2.ensures.slots.0 ∙ ready.slots;
      best = c.step_over-2.ensures.best.0;
      stack = rw c.step_over-2.ensures.stack ready.stack;
      empty = c.step_over-2.ensures.empty;
    }

pub returns-clause-room : goal.returns-clause-room
returns-clause-room c = record {
  even = refl;
  odd = c.step_over-2.ensures.capacity;
  slots = c.step_over-2.ensures.slots.1;
  stack = c.step_over-2.ensures.stack;
  best = c.step_over-2.ensures.best.1;
}
