use Rattle.std.proofs.Common.{length, arith}
use Rattle.rx_onepass_build.proofs.lemmas.ListLemmas.{read-index}
use Rattle.rx_onepass_build.proofs.lemmas.SwapLemmas.{swapped-inverse, swapped-values}
use Rattle.rx_onepass_build.proofs.settled.swap.Goals as goal

pub index-first-requires : goal.index-first-requires
index-first-requires c = omega (arith, c.requires.one)

pub index-second-requires : goal.index-second-requires
index-second-requires c = omega (arith, c.requires.other)

pub index_mut-requires : goal.index_mut-requires
index_mut-requires c = omega (arith, c.requires.one)

pub index_mut-requires-2 : goal.index_mut-requires-2
index_mut-requires-2 c = omega (arith, c.requires.other)

pub index_mut-requires-3 : goal.index_mut-requires-3
index_mut-requires-3 c =
    let is = read-index c.args.before.now.items c.args.other c.index-second.result.now c.requires.other c.index-second.ensures in
    let below = c.requires.inverse.below c.args.other c.requires.other in
    let len = c.requires.inverse.after_len in
    omega arith

pub index_mut-requires-4 : goal.index_mut-requires-4
index_mut-requires-4 c =
    let is = read-index c.args.before.now.items c.args.one c.index-first.result.now c.requires.one c.index-first.ensures in
    let below = c.requires.inverse.below c.args.one c.requires.one in
    let len = c.requires.inverse.after_len in
    omega arith

pub returns-clause-inverse : goal.returns-clause-inverse
returns-clause-inverse c =
    swapped-inverse (length c.args.before.now.items) c.args.before.now.items c.args.after.now.items c.requires.inverse c.args.one
    c.args.other c.index-first.result.now c.index-second.result.now
    c.requires.one c.requires.other
    (read-index c.args.before.now.items c.args.one c.index-first.result.now c.requires.one c.index-first.ensures)
    (read-index c.args.before.now.items c.args.other c.index-second.result.now c.requires.other c.index-second.ensures)

pub returns-clause-value : goal.returns-clause-value
returns-clause-value c =
    swapped-values (length c.args.before.now.items) c.args.before.now.items c.args.after.now.items c.requires.inverse c.args.one
    c.args.other c.index-first.result.now c.index-second.result.now
    c.requires.one c.requires.other
    (read-index c.args.before.now.items c.args.one c.index-first.result.now c.requires.one c.index-first.ensures)
    (read-index c.args.before.now.items c.args.other c.index-second.result.now c.requires.other c.index-second.ensures)
