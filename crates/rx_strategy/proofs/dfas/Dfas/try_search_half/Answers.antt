use Rattle.std.proofs.Common.{ap}
use Rattle.std.specs.Prelude.{option_copied}
use Rattle.rx_search.specs.Matches.{HalfMatchValue, half_match_value}
use Rattle.rx_strategy.specs.Dfas.{pair_of}
use Rattle.rx_strategy.proofs.CacheLemmas.{first-fits}
use Rattle.rx_strategy.proofs.PairLemmas.{reads-on, leftmost-if, are-patterns, answer-on, caches-of, not-lazy}
use Rattle.rx_strategy.proofs.dfas.Dfas.try_search_half.Goals as goal

pub end-requires-clause-forward : goal.end-requires-clause-forward
end-requires-clause-forward c =
    reads-on c.args.self.now (c.in-Full.forward.dfa, c.in-Full.backward.dfa) (ap pair_of c.in-Full.is) c.requires.paired

pub end-requires-clause-leftmost : goal.end-requires-clause-leftmost
end-requires-clause-leftmost c =
    leftmost-if c.args.self.now (c.in-Full.forward.dfa, c.in-Full.backward.dfa) (ap pair_of c.in-Full.is) (option_copied c.args.pre) c.requires.leftmost

pub end_in-requires-clause-fits : goal.end_in-requires-clause-fits
end_in-requires-clause-fits c =
    (caches-of c.args.self.now c.in-Lazy.forward c.in-Lazy.backward c.args.lazies.now c.in-Some.both c.in-Lazy.is c.in-Some.is c.requires.fits).0

pub end_in-requires-clause-forward : goal.end_in-requires-clause-forward
end_in-requires-clause-forward c =
    reads-on c.args.self.now (c.in-Lazy.forward.dfa, c.in-Lazy.backward.dfa) (ap pair_of c.in-Lazy.is) c.requires.paired

pub end_in-requires-clause-leftmost : goal.end_in-requires-clause-leftmost
end_in-requires-clause-leftmost c =
    leftmost-if c.args.self.now (c.in-Lazy.forward.dfa, c.in-Lazy.backward.dfa) (ap pair_of c.in-Lazy.is) (option_copied c.args.pre) c.requires.leftmost

pub returns-in-Full-clause-answer : goal.returns-in-Full-clause-answer
returns-in-Full-clause-answer c kind r given =
    answer-on c.args.self.now (c.in-Full.forward.dfa, c.in-Full.backward.dfa) (ap pair_of c.in-Full.is) kind r c.args.input.now half_match_value c.end.result
    (option_copied c.args.pre) given (c.end.ensures.answer r)

pub returns-in-Full-clause-in_range : goal.returns-in-Full-clause-in_range
returns-in-Full-clause-in_range c =
    are-patterns c.args.self.now (c.in-Full.forward.dfa, c.in-Full.backward.dfa) (ap pair_of c.in-Full.is) (λ (h : HalfMatchValue). h.pattern) c.end.result
    c.end.ensures.in_range

pub returns-in-Some-clause-answer : goal.returns-in-Some-clause-answer
returns-in-Some-clause-answer c kind r given =
    answer-on c.args.self.now (c.in-Lazy.forward.dfa, c.in-Lazy.backward.dfa) (ap pair_of c.in-Lazy.is) kind r c.args.input.now half_match_value
    c.end_in.result (option_copied c.args.pre) given (c.end_in.ensures.answer r)

pub returns-in-Some-clause-in_range : goal.returns-in-Some-clause-in_range
returns-in-Some-clause-in_range c =
    are-patterns c.args.self.now (c.in-Lazy.forward.dfa, c.in-Lazy.backward.dfa) (ap pair_of c.in-Lazy.is) (λ (h : HalfMatchValue). h.pattern)
    c.end_in.result c.end_in.ensures.in_range

pub returns-in-Some-clause-fits : goal.returns-in-Some-clause-fits
returns-in-Some-clause-fits c =
    first-fits c.args.self.now c.in-Lazy.forward c.in-Lazy.backward c.args.lazies.now c.in-Some.both c.end_in.new.both c.in-Lazy.is c.in-Some.is c.requires.fits
    c.end_in.ensures.fits c.end_in.ensures.same

pub returns-in-Some-clause-same : goal.returns-in-Some-clause-same
returns-in-Some-clause-same c off =
    not-lazy c.args.self.now c.in-Lazy.forward c.in-Lazy.backward c.args.lazies.now c.in-Some.both c.in-Lazy.is c.in-Some.is off
