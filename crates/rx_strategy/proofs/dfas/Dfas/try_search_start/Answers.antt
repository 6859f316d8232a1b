use Rattle.std.proofs.Common.{ap}
use Rattle.std.specs.Prelude.{None}
use Rattle.rx_strategy.specs.Dfas.{pair_of}
use Rattle.rx_strategy.proofs.CacheLemmas.{second-fits}
use Rattle.rx_strategy.proofs.PairLemmas.{reads-back, search-as, caches-of, not-lazy}
use Rattle.rx_strategy.proofs.dfas.Dfas.try_search_start.Goals as goal

pub start-requires-clause-backward : goal.start-requires-clause-backward
start-requires-clause-backward c =
    reads-back c.args.self.now (c.in-Full.forward.dfa, c.in-Full.backward.dfa) (ap pair_of c.in-Full.is) c.requires.paired

pub start_in-requires-clause-fits : goal.start_in-requires-clause-fits
start_in-requires-clause-fits c =
    (caches-of c.args.self.now c.in-Lazy.forward c.in-Lazy.backward c.args.lazies.now c.in-Some.both c.in-Lazy.is c.in-Some.is c.requires.fits).1

pub start_in-requires-clause-backward : goal.start_in-requires-clause-backward
start_in-requires-clause-backward c =
    reads-back c.args.self.now (c.in-Lazy.forward.dfa, c.in-Lazy.backward.dfa) (ap pair_of c.in-Lazy.is) c.requires.paired

pub returns-in-Full-clause-answer : goal.returns-in-Full-clause-answer
returns-in-Full-clause-answer c kind r given ended =
    let own =
    search-as c.args.self.now (c.in-Full.forward.dfa, c.in-Full.backward.dfa) (ap pair_of c.in-Full.is) None kind r c.args.input.now given in
    c.start.ensures.answer kind r own.starts own.premises.utf8 ended

pub returns-in-Some-clause-answer : goal.returns-in-Some-clause-answer
returns-in-Some-clause-answer c kind r given ended =
    let own =
    search-as c.args.self.now (c.in-Lazy.forward.dfa, c.in-Lazy.backward.dfa) (ap pair_of c.in-Lazy.is) None kind r c.args.input.now given in
    c.start_in.ensures.answer kind r own.starts own.premises.utf8 ended

pub returns-in-Some-clause-fits : goal.returns-in-Some-clause-fits
returns-in-Some-clause-fits c =
    second-fits c.args.self.now c.in-Lazy.forward c.in-Lazy.backward c.args.lazies.now c.in-Some.both c.start_in.new.both c.in-Lazy.is c.in-Some.is
    c.requires.fits c.start_in.ensures.fits c.start_in.ensures.same

pub returns-in-Some-clause-same : goal.returns-in-Some-clause-same
returns-in-Some-clause-same c off =
    not-lazy c.args.self.now c.in-Lazy.forward c.in-Lazy.backward c.args.lazies.now c.in-Some.both c.in-Lazy.is c.in-Some.is off
