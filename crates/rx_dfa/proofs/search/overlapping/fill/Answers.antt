use Rattle.std.proofs.Common.{◌+◌, ◌<◌, arith}
use Rattle.rx_dfa.proofs.lemmas.OverlapLemmas.{fills-none}
use Rattle.rx_dfa.proofs.search.overlapping.fill.Goals as goal

pub returns-then-is_done-clause-adds : goal.returns-then-is_done-clause-adds
returns-then-is_done-clause-adds g c = (fills-none (g.A.Automaton.dfa c.args.dfa.now).nfa c.args.input.now 0 (omega arith) c.args.set.now).adds

pub returns-then-is_done-clause-each : goal.returns-then-is_done-clause-each
returns-then-is_done-clause-each g c =
    let v = c.args.input.now in
    let past : v.end < v.start = c.is_done.ensures.0 c.if-is_done.true in
    (fills-none (g.A.Automaton.dfa c.args.dfa.now).nfa v (v.end + 1) (omega arith) c.args.set.now).ends
