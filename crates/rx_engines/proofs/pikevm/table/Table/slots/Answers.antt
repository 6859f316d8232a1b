use Rattle.std.proofs.Common.{◌≡◌, ◌+◌, ◌*◌, ◌-◌, length, ◌∙◌, ap, sym, arith, rules}
use Rattle.std.proofs.lemmas.Nat.{row_fits}
use Rattle.rx_engines.specs.Threads.{Rows, Row, row_at}
use Rattle.rx_engines.proofs.lemmas.threads.TableLemmas.{length-used, used-row}
use Rattle.rx_engines.proofs.pikevm.table.Table.slots.Goals as goal

pub overflow_mul-from : goal.overflow_mul-from
overflow_mul-from c =
    let n = length-used c.self.inside.rows c.self.inside.width c.self.inside.starts.items c.self.inside.cells.items c.self.invariant.0 in
    let same = ap (λ (r : Rows). length r.items) c.self.view_is in
    let fits = row_fits c.args.state c.self.inside.width c.self.inside.rows c.self.inside.width (omega arith) (omega arith) in
    search rules

pub overflow_add-result : goal.overflow_add-result
overflow_add-result c =
    let n = length-used c.self.inside.rows c.self.inside.width c.self.inside.starts.items c.self.inside.cells.items c.self.invariant.0 in
    let same = ap (λ (r : Rows). length r.items) c.self.view_is in
    let fits = row_fits c.args.state c.self.inside.width c.self.inside.rows c.self.inside.width (omega arith) (omega arith) in
    search rules

pub offset_bounds-deref-from : goal.offset_bounds-deref-from
offset_bounds-deref-from c =
    let n = length-used c.self.inside.rows c.self.inside.width c.self.inside.starts.items c.self.inside.cells.items c.self.invariant.0 in
    let same = ap (λ (r : Rows). length r.items) c.self.view_is in
    let fits = row_fits c.args.state c.self.inside.width c.self.inside.rows c.self.inside.width (omega arith) (omega arith) in
    search rules

pub slice_bounds-result-end : goal.slice_bounds-result-end
slice_bounds-result-end c =
    let n = length-used c.self.inside.rows c.self.inside.width c.self.inside.starts.items c.self.inside.cells.items c.self.invariant.0 in
    let same = ap (λ (r : Rows). length r.items) c.self.view_is in
    let fits = row_fits c.args.state c.self.inside.width c.self.inside.rows c.self.inside.width (omega arith) (omega arith) in
    search rules

pub returns-clause-value : goal.returns-clause-value
returns-clause-value c =
    let n = length-used c.self.inside.rows c.self.inside.width c.self.inside.starts.items c.self.inside.cells.items c.self.invariant.0 in
    let same = ap (λ (r : Rows). length r.items) c.self.view_is in
    let here = c.as_usize.ensures.value in
    let wide : c.args.state * c.self.inside.width + c.self.inside.width - c.args.state * c.self.inside.width ≡ c.self.inside.width = omega arith in
    rw (here, wide, c.deref.ensures.value)
    (sym
    (ap (λ (r : Row). r.1) (used-row c.self.inside.rows c.self.inside.width c.self.inside.starts.items c.self.inside.cells.items c.self.invariant.0
    c.args.state (omega arith)))
    ∙ ap (λ (r : Rows). (row_at r.items c.args.state).1) c.self.view_is)
