use Rattle.std.proofs.Common.{length, ◌∙◌, ap, sym, arith}
use Rattle.std.proofs.lemmas.List.{get_or_default}
use Rattle.rx_engines.specs.Threads.{Rows, Row, row_at}
use Rattle.rx_engines.proofs.lemmas.threads.TableLemmas.{length-used, used-row}
use Rattle.rx_engines.proofs.pikevm.table.Table.start.Goals as goal

pub index-requires : goal.index-requires
index-requires c =
    let n = length-used c.self.inside.rows c.self.inside.width c.self.inside.starts.items c.self.inside.cells.items c.self.invariant.0 in
    let same = ap (λ (r : Rows). length r.items) c.self.view_is in
    omega arith

pub returns : goal.returns
returns c =
    let n = length-used c.self.inside.rows c.self.inside.width c.self.inside.starts.items c.self.inside.cells.items c.self.invariant.0 in
    let same = ap (λ (r : Rows). length r.items) c.self.view_is in
    (rw c.as_usize.ensures.value at c.index.ensures) ∙ get_or_default c.self.inside.starts.items c.args.state _ 0 (omega arith)
    ∙ sym
    (ap (λ (r : Row). r.0) (used-row c.self.inside.rows c.self.inside.width c.self.inside.starts.items c.self.inside.cells.items c.self.invariant.0
    c.args.state (omega arith)))
    ∙ ap (λ (r : Rows). (row_at r.items c.args.state).0) c.self.view_is
