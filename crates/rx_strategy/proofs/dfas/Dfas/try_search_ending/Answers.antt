use Rattle.std.proofs.Common.{ap}
use Rattle.std.specs.Prelude.{None}
use Rattle.rx_strategy.specs.Dfas.{pair_of}
use Rattle.rx_strategy.proofs.CacheLemmas.{second-fits}
use Rattle.rx_strategy.proofs.EndingLemmas.{back-patterns}
use Rattle.rx_strategy.proofs.PairLemmas.{reads-back, search-as, caches-of, not-lazy}
use Rattle.rx_strategy.proofs.dfas.Dfas.try_search_ending.Goals as goal

pub ending-requires-clause-backward : goal.ending-requires-clause-backward
ending-requires-clause-backward c =
    reads-back c.args.self.now (c.in-Full.forward.dfa, c.in-Full.backward.dfa) (ap pair_of c.in-Full.is) c.requires.paired

pub ending_in-requires-clause-fits : goal.ending_in-requires-clause-fits
ending_in-requires-clause-fits c =
    (caches-of c.args.self.now c.in-Lazy.forward c.in-Lazy.backward c.args.lazies.now c.in-Some.both c.in-Lazy.is c.in-Some.is c.requires.fits).1

pub ending_in-requires-clause-backward : goal.ending_in-requires-clause-backward
ending_in-requires-clause-backward c =
    reads-back c.args.self.now (c.in-Lazy.forward.dfa, c.in-Lazy.backward.dfa) (ap pair_of c.in-Lazy.is) c.requires.paired

pub returns-in-Full-clause-answer : goal.returns-in-Full-clause-answer
returns-in-Full-clause-answer c kind r given ends =
    let own =
    search-as c.args.self.now (c.in-Full.forward.dfa, c.in-Full.backward.dfa) (ap pair_of c.in-Full.is) None kind r c.args.input.now given in
    c.ending.ensures.answer kind r own.starts ends

pub returns-in-Full-clause-in_range : goal.returns-in-Full-clause-in_range
returns-in-Full-clause-in_range c =
    back-patterns c.args.self.now c.in-Full.backward.dfa c.in-Full.forward.dfa (ap pair_of c.in-Full.is) c.requires.paired c.ending.result
    c.ending.ensures.in_range

pub returns-in-Some-clause-answer : goal.returns-in-Some-clause-answer
returns-in-Some-clause-answer c kind r given ends =
    let own =
    search-as c.args.self.now (c.in-Lazy.forward.dfa, c.in-Lazy.backward.dfa) (ap pair_of c.in-Lazy.is) None kind r c.args.input.now given in
    c.ending_in.ensures.answer kind r own.starts ends

pub returns-in-Some-clause-in_range : goal.returns-in-Some-clause-in_range
returns-in-Some-clause-in_range c =
    back-patterns c.args.self.now c.in-Lazy.backward.dfa c.in-Lazy.forward.dfa (ap pair_of c.in-Lazy.is) c.requires.paired c.ending_in.result
    c.ending_in.ensures.in_range

pub returns-in-Some-clause-fits : goal.returns-in-Some-clause-fits
returns-in-Some-clause-fits c =
    second-fits c.args.self.now c.in-Lazy.forward c.in-Lazy.backward c.args.lazies.now c.in-Some.both c.ending_in.new.both c.in-Lazy.is c.in-Some.is
    c.requires.fits c.ending_in.ensures.fits c.ending_in.ensures.same

pub returns-in-Some-clause-same : goal.returns-in-Some-clause-same
returns-in-Some-clause-same c off =
    not-lazy c.args.self.now c.in-Lazy.forward c.in-Lazy.backward c.args.lazies.now c.in-Some.both c.in-Lazy.is c.in-Some.is off
