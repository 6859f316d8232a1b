use Rattle.std.proofs.Common.{arith}
use Rattle.rx_onepass_build.proofs.lemmas.EntryLemmas.{row-found, row-small, row-none}
use Rattle.rx_onepass_build.proofs.entries.Entries.row_of.Goals as goal

pub returns-then-row-gt0-clause-row : goal.returns-then-row-gt0-clause-row
returns-then-row-gt0-clause-row c =
    row-found c.args.self.now.items.items c.args.self.now.numbers.items c.args.state c.as_usize.result c.index-row.result.now c.requires.met.numbered
    c.requires.state c.as_usize.ensures.value c.index-row.ensures (omega (arith, c.if-row-gt0.true))

pub returns-then-row-gt0-clause-small : goal.returns-then-row-gt0-clause-small
returns-then-row-gt0-clause-small c =
    row-small c.args.self.now c.index-row.result.now c.args.state c.requires.met
    (row-found c.args.self.now.items.items c.args.self.now.numbers.items c.args.state c.as_usize.result c.index-row.result.now c.requires.met.numbered
    c.requires.state c.as_usize.ensures.value c.index-row.ensures (omega (arith, c.if-row-gt0.true)))

pub push-requires-clause-new : goal.push-requires-clause-new
push-requires-clause-new c =
    row-none c.args.self.now.numbers.items c.args.state c.as_usize.result c.index-row.result.now c.requires.state c.as_usize.ensures.value c.index-row.ensures
    (omega (arith, c.if-row-gt0.false))
