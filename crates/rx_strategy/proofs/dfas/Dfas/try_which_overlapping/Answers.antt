use Rattle.std.proofs.Common.{ap, length}
use Rattle.rx_engines.proofs.lemmas.answers.OverlapLemmas.{keeps-same, gains-same}
use Rattle.rx_strategy.specs.Dfas.{pair_of}
use Rattle.rx_strategy.proofs.CacheLemmas.{first-fits}
use Rattle.rx_strategy.proofs.PairLemmas.{reads-on, room-in, gains-on, filled-on, caches-of, not-lazy}
use Rattle.rx_strategy.proofs.dfas.Dfas.try_which_overlapping.Goals as goal

pub add_all-requires-clause-forward : goal.add_all-requires-clause-forward
add_all-requires-clause-forward c =
    reads-on c.args.self.now (c.in-Full.forward.dfa, c.in-Full.backward.dfa) (ap pair_of c.in-Full.is) c.requires.paired

pub add_all-requires-clause-room : goal.add_all-requires-clause-room
add_all-requires-clause-room c =
    room-in c.args.self.now (c.in-Full.forward.dfa, c.in-Full.backward.dfa) (ap pair_of c.in-Full.is) (length c.args.set.now) c.requires.room

pub add_all_in-requires-clause-fits : goal.add_all_in-requires-clause-fits
add_all_in-requires-clause-fits c =
    (caches-of c.args.self.now c.in-Lazy.forward c.in-Lazy.backward c.args.lazies.now c.in-Some.both c.in-Lazy.is c.in-Some.is c.requires.fits).0

pub add_all_in-requires-clause-forward : goal.add_all_in-requires-clause-forward
add_all_in-requires-clause-forward c =
    reads-on c.args.self.now (c.in-Lazy.forward.dfa, c.in-Lazy.backward.dfa) (ap pair_of c.in-Lazy.is) c.requires.paired

pub add_all_in-requires-clause-room : goal.add_all_in-requires-clause-room
add_all_in-requires-clause-room c =
    room-in c.args.self.now (c.in-Lazy.forward.dfa, c.in-Lazy.backward.dfa) (ap pair_of c.in-Lazy.is) (length c.args.set.now) c.requires.room

pub returns-in-Absent-clause-kept : goal.returns-in-Absent-clause-kept
returns-in-Absent-clause-kept c = keeps-same c.args.set.now

pub returns-in-Absent-clause-matching : goal.returns-in-Absent-clause-matching
returns-in-Absent-clause-matching c kind r s = gains-same r c.args.input.now c.args.set.now

pub returns-in-Full-clause-matching : goal.returns-in-Full-clause-matching
returns-in-Full-clause-matching c kind r given =
    gains-on c.args.self.now (c.in-Full.forward.dfa, c.in-Full.backward.dfa) (ap pair_of c.in-Full.is) kind r c.args.input.now c.args.set.now
    c.add_all.new.set given (c.add_all.ensures.matching r)

pub returns-in-Full-clause-filled : goal.returns-in-Full-clause-filled
returns-in-Full-clause-filled c kind r given =
    filled-on c.args.self.now (c.in-Full.forward.dfa, c.in-Full.backward.dfa) (ap pair_of c.in-Full.is) kind r c.args.input.now c.args.set.now
    c.add_all.new.set c.add_all.result given (c.add_all.ensures.filled r)

pub returns-in-Some-clause-matching : goal.returns-in-Some-clause-matching
returns-in-Some-clause-matching c kind r given =
    gains-on c.args.self.now (c.in-Lazy.forward.dfa, c.in-Lazy.backward.dfa) (ap pair_of c.in-Lazy.is) kind r c.args.input.now c.args.set.now
    c.add_all_in.new.set given (c.add_all_in.ensures.matching r)

pub returns-in-Some-clause-filled : goal.returns-in-Some-clause-filled
returns-in-Some-clause-filled c kind r given =
    filled-on c.args.self.now (c.in-Lazy.forward.dfa, c.in-Lazy.backward.dfa) (ap pair_of c.in-Lazy.is) kind r c.args.input.now c.args.set.now
    c.add_all_in.new.set c.add_all_in.result given (c.add_all_in.ensures.filled r)

pub returns-in-Some-clause-fits : goal.returns-in-Some-clause-fits
returns-in-Some-clause-fits c =
    first-fits c.args.self.now c.in-Lazy.forward c.in-Lazy.backward c.args.lazies.now c.in-Some.both c.add_all_in.new.both c.in-Lazy.is c.in-Some.is
    c.requires.fits c.add_all_in.ensures.fits c.add_all_in.ensures.same

pub returns-in-Some-clause-same : goal.returns-in-Some-clause-same
returns-in-Some-clause-same c off =
    not-lazy c.args.self.now c.in-Lazy.forward c.in-Lazy.backward c.args.lazies.now c.in-Some.both c.in-Lazy.is c.in-Some.is off
