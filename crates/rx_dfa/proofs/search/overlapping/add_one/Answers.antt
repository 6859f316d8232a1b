use Rattle.std.proofs.Common.{length}
use Rattle.rx_dfa.proofs.lemmas.OverlapLemmas.{in-room, added-keeps, added-matches, added-fills}
use Rattle.rx_dfa.proofs.lemmas.SetLemmas.{keeps-same, gains-same}
use Rattle.rx_dfa.proofs.search.overlapping.add_one.Goals as goal

pub add-requires : goal.add-requires
add-requires g c =
    in-room (length (g.A.Automaton.dfa c.args.dfa.now).nfa.starts) (length c.args.set.now) c.in-Ok.found c.requires.room c.in-Ok.ensures.in_range

pub returns-in-Ok-clause-kept : goal.returns-in-Ok-clause-kept
returns-in-Ok-clause-kept g c =
    added-keeps c.args.set.now c.add.new.set c.in-Ok.found c.add.ensures
    (in-room (length (g.A.Automaton.dfa c.args.dfa.now).nfa.starts) (length c.args.set.now) c.in-Ok.found c.requires.room c.in-Ok.ensures.in_range)

pub returns-in-Ok-clause-matching : goal.returns-in-Ok-clause-matching
returns-in-Ok-clause-matching g c r p =
    added-matches c.args.set.now c.add.new.set r c.args.input.now c.in-Ok.found c.add.ensures (c.in-Ok.ensures.told r p).is_match

pub returns-in-Ok-clause-filled : goal.returns-in-Ok-clause-filled
returns-in-Ok-clause-filled g c r p =
    let d = g.A.Automaton.dfa c.args.dfa.now in
    added-fills c.args.set.now c.add.new.set r c.args.input.now c.in-Ok.found c.add.ensures
    (in-room (length d.nfa.starts) (length c.args.set.now) c.in-Ok.found c.requires.room c.in-Ok.ensures.in_range) d.kind (c.in-Ok.ensures.told r p)
    c.requires.one

pub returns-in-Err-clause-kept : goal.returns-in-Err-clause-kept
returns-in-Err-clause-kept g c = keeps-same c.args.set.now

pub returns-in-Err-clause-matching : goal.returns-in-Err-clause-matching
returns-in-Err-clause-matching g c r p = gains-same r c.args.input.now c.args.set.now
