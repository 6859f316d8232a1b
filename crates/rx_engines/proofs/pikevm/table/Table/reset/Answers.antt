use Rattle.std.proofs.Common.{ap, arith}
use Rattle.rx_engines.specs.Threads.{Rows}
use Rattle.rx_engines.proofs.lemmas.threads.TableLemmas.{length-used}
use Rattle.rx_engines.proofs.pikevm.table.Table.reset.Goals as goal

pub returns-clause-items : goal.returns-clause-items
returns-clause-items c =
    let room = ap (λ (r : Rows). r.capacity) c.self.view_is in
    length-used c.args.rows c.args.width c.self.inside.starts.items c.self.inside.cells.items (omega arith)
