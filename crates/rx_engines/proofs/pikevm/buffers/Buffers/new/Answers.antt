use Rattle.std.proofs.Common.{refl, sym, ◌∙◌, ap}
use Rattle.std.proofs.lemmas.Result.{IfOk-from_err}
use Rattle.rx_engines.specs.Threads.{Frames, Cells}
use Rattle.rx_engines.proofs.pikevm.buffers.Buffers.new.Goals as goal

pub new-requires : goal.new-requires
new-requires c = tt

pub new-requires-2 : goal.new-requires-2
new-requires-2 c = tt

pub new-requires-3 : goal.new-requires-3
new-requires-3 c = tt

pub new-requires-4 : goal.new-requires-4
new-requires-4 c = c.requires

pub new-requires-5 : goal.new-requires-5
new-requires-5 c = c.requires

pub returns-in_err-best-clause-alike : goal.returns-in_err-best-clause-alike
returns-in_err-best-clause-alike c = IfOk-from_err c.from_residual-in_err-best.result _ c.from_residual-in_err-best.ensures.0

pub returns-in_err-best-clause-cells : goal.returns-in_err-best-clause-cells
returns-in_err-best-clause-cells c = IfOk-from_err c.from_residual-in_err-best.result _ c.from_residual-in_err-best.ensures.0

pub returns-in_err-best-clause-held : goal.returns-in_err-best-clause-held
returns-in_err-best-clause-held c = IfOk-from_err c.from_residual-in_err-best.result _ c.from_residual-in_err-best.ensures.0

pub returns-in_err-best-clause-slots : goal.returns-in_err-best-clause-slots
returns-in_err-best-clause-slots c = IfOk-from_err c.from_residual-in_err-best.result _ c.from_residual-in_err-best.ensures.0

pub returns-in_err-best-clause-stack : goal.returns-in_err-best-clause-stack
returns-in_err-best-clause-stack c = IfOk-from_err c.from_residual-in_err-best.result _ c.from_residual-in_err-best.ensures.0

pub returns-in_err-best-clause-states : goal.returns-in_err-best-clause-states
returns-in_err-best-clause-states c = IfOk-from_err c.from_residual-in_err-best.result _ c.from_residual-in_err-best.ensures.0

pub returns-in_err-even-clause-alike : goal.returns-in_err-even-clause-alike
returns-in_err-even-clause-alike c = IfOk-from_err c.from_residual-in_err-even.result _ c.from_residual-in_err-even.ensures.0

pub returns-in_err-even-clause-cells : goal.returns-in_err-even-clause-cells
returns-in_err-even-clause-cells c = IfOk-from_err c.from_residual-in_err-even.result _ c.from_residual-in_err-even.ensures.0

pub returns-in_err-even-clause-held : goal.returns-in_err-even-clause-held
returns-in_err-even-clause-held c = IfOk-from_err c.from_residual-in_err-even.result _ c.from_residual-in_err-even.ensures.0

pub returns-in_err-even-clause-slots : goal.returns-in_err-even-clause-slots
returns-in_err-even-clause-slots c = IfOk-from_err c.from_residual-in_err-even.result _ c.from_residual-in_err-even.ensures.0

pub returns-in_err-even-clause-stack : goal.returns-in_err-even-clause-stack
returns-in_err-even-clause-stack c = IfOk-from_err c.from_residual-in_err-even.result _ c.from_residual-in_err-even.ensures.0

pub returns-in_err-even-clause-states : goal.returns-in_err-even-clause-states
returns-in_err-even-clause-states c = IfOk-from_err c.from_residual-in_err-even.result _ c.from_residual-in_err-even.ensures.0

pub returns-in_err-odd-clause-alike : goal.returns-in_err-odd-clause-alike
returns-in_err-odd-clause-alike c = IfOk-from_err c.from_residual-in_err-odd.result _ c.from_residual-in_err-odd.ensures.0

pub returns-in_err-odd-clause-cells : goal.returns-in_err-odd-clause-cells
returns-in_err-odd-clause-cells c = IfOk-from_err c.from_residual-in_err-odd.result _ c.from_residual-in_err-odd.ensures.0

pub returns-in_err-odd-clause-held : goal.returns-in_err-odd-clause-held
returns-in_err-odd-clause-held c = IfOk-from_err c.from_residual-in_err-odd.result _ c.from_residual-in_err-odd.ensures.0

pub returns-in_err-odd-clause-slots : goal.returns-in_err-odd-clause-slots
returns-in_err-odd-clause-slots c = IfOk-from_err c.from_residual-in_err-odd.result _ c.from_residual-in_err-odd.ensures.0

pub returns-in_err-odd-clause-stack : goal.returns-in_err-odd-clause-stack
returns-in_err-odd-clause-stack c = IfOk-from_err c.from_residual-in_err-odd.result _ c.from_residual-in_err-odd.ensures.0

pub returns-in_err-odd-clause-states : goal.returns-in_err-odd-clause-states
returns-in_err-odd-clause-states c = IfOk-from_err c.from_residual-in_err-odd.result _ c.from_residual-in_err-odd.ensures.0

pub returns-in_err-row-clause-alike : goal.returns-in_err-row-clause-alike
returns-in_err-row-clause-alike c = IfOk-from_err c.from_residual-in_err-row.result _ c.from_residual-in_err-row.ensures.0

pub returns-in_err-row-clause-cells : goal.returns-in_err-row-clause-cells
returns-in_err-row-clause-cells c = IfOk-from_err c.from_residual-in_err-row.result _ c.from_residual-in_err-row.ensures.0

pub returns-in_err-row-clause-held : goal.returns-in_err-row-clause-held
returns-in_err-row-clause-held c = IfOk-from_err c.from_residual-in_err-row.result _ c.from_residual-in_err-row.ensures.0

pub returns-in_err-row-clause-slots : goal.returns-in_err-row-clause-slots
returns-in_err-row-clause-slots c = IfOk-from_err c.from_residual-in_err-row.result _ c.from_residual-in_err-row.ensures.0

pub returns-in_err-row-clause-stack : goal.returns-in_err-row-clause-stack
returns-in_err-row-clause-stack c = IfOk-from_err c.from_residual-in_err-row.result _ c.from_residual-in_err-row.ensures.0

pub returns-in_err-row-clause-states : goal.returns-in_err-row-clause-states
returns-in_err-row-clause-states c = IfOk-from_err c.from_residual-in_err-row.result _ c.from_residual-in_err-row.ensures.0

pub returns-in_err-stack-clause-alike : goal.returns-in_err-stack-clause-alike
returns-in_err-stack-clause-alike c = IfOk-from_err c.from_residual.result _ c.from_residual.ensures.0

pub returns-in_err-stack-clause-cells : goal.returns-in_err-stack-clause-cells
returns-in_err-stack-clause-cells c = IfOk-from_err c.from_residual.result _ c.from_residual.ensures.0

pub returns-in_err-stack-clause-held : goal.returns-in_err-stack-clause-held
returns-in_err-stack-clause-held c = IfOk-from_err c.from_residual.result _ c.from_residual.ensures.0

pub returns-in_err-stack-clause-slots : goal.returns-in_err-stack-clause-slots
returns-in_err-stack-clause-slots c = IfOk-from_err c.from_residual.result _ c.from_residual.ensures.0

pub returns-in_err-stack-clause-stack : goal.returns-in_err-stack-clause-stack
returns-in_err-stack-clause-stack c = IfOk-from_err c.from_residual.result _ c.from_residual.ensures.0

pub returns-in_err-stack-clause-states : goal.returns-in_err-stack-clause-states
returns-in_err-stack-clause-states c = IfOk-from_err c.from_residual.result _ c.from_residual.ensures.0

pub returns-clause-alike : goal.returns-clause-alike
returns-clause-alike c =
    let set = c.in_ok-odd.ensures.set.1 ∙ sym c.in_ok-even.ensures.set.1 in
    let rows = c.in_ok-odd.ensures.table ∙ sym c.in_ok-even.ensures.table in
    let cells = c.in_ok-odd.ensures.cells ∙ sym c.in_ok-even.ensures.cells in
    record {
      even = c.in_ok-even.ensures.table ∙ sym c.in_ok-even.ensures.set.1;
      odd = (λ j. (set j, (rows j, cells j)));
      slots = ap (λ (r : Cells). r.room) c.in_ok-row.ensures ∙ sym (ap (λ (r : Cells). r.room) c.in_ok-best.ensures);
      empty = ap (λ (s : Frames). s.items) c.in_ok-stack.ensures.value;
    }

pub returns-clause-states : goal.returns-clause-states
returns-clause-states c = c.in_ok-even.ensures.set.1

pub returns-clause-cells : goal.returns-clause-cells
returns-clause-cells c = (c.in_ok-even.ensures.cells, c.in_ok-even.ensures.small)

pub returns-clause-stack : goal.returns-clause-stack
returns-clause-stack c = (ap (λ (s : Frames). s.room) c.in_ok-stack.ensures.value, c.in_ok-stack.ensures.small)

pub returns-clause-slots : goal.returns-clause-slots
returns-clause-slots c = ap (λ (r : Cells). r.room) c.in_ok-best.ensures

pub returns-clause-held : goal.returns-clause-held
returns-clause-held c = rw (c.in_ok-even.ensures.set.0, c.in_ok-odd.ensures.set.0, c.in_ok-row.ensures, c.in_ok-best.ensures) refl
