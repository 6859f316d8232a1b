use Rattle.std.proofs.Common.{arith}
use Rattle.rx_scan.proofs.LineLemmas.{cut-length}
use Rattle.rx_scan.proofs.lines.LinesHaystacks.count.Goals as goal

pub returns-clause-all : goal.returns-clause-all
returns-clause-all c = omega (arith, c.len.ensures, cut-length c.args.self.now.text.now 0 c.args.self.now.ends.items)
