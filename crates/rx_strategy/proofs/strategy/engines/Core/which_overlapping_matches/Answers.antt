use Rattle.std.proofs.Common.{arith}
use Rattle.rx_engines.proofs.lemmas.answers.OverlapLemmas.{keeps-twice, gains-twice}
use Rattle.rx_strategy.proofs.CacheLemmas.{alike-then}
use Rattle.rx_strategy.proofs.strategy.engines.Core.which_overlapping_matches.Goals as goal

pub which_overlapping_nofail-requires-clause-room : goal.which_overlapping_nofail-requires-clause-room
which_overlapping_nofail-requires-clause-room c =
    let room = c.requires.room in
    let same = c.try_which_overlapping.ensures.kept.room in
    omega arith

pub returns-clause-kept : goal.returns-clause-kept
returns-clause-kept c =
    keeps-twice c.args.set.now c.try_which_overlapping.new.set c.which_overlapping_nofail.new.set c.try_which_overlapping.ensures.kept
    c.which_overlapping_nofail.ensures.kept

pub returns-clause-matching : goal.returns-clause-matching
returns-clause-matching c r p =
    gains-twice r c.args.input.now c.args.set.now c.try_which_overlapping.new.set c.which_overlapping_nofail.new.set
    (c.try_which_overlapping.ensures.matching r p) (c.which_overlapping_nofail.ensures.matching r p)

pub returns-clause-filled : goal.returns-clause-filled
returns-clause-filled c r p =
    let f = c.which_overlapping_nofail.ensures.filled r p in
    record { all = f.all; next = f.next; some = f.some }

pub returns-clause-memory : goal.returns-clause-memory
returns-clause-memory c =
    alike-then c.args.self.now c.args.cache.now c.try_which_overlapping.new.cache c.which_overlapping_nofail.new.cache c.try_which_overlapping.ensures.memory
    c.which_overlapping_nofail.ensures.memory
