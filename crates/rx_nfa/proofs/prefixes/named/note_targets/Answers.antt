use Rattle.std.proofs.Common.{sym, subst, length}
use Rattle.rx_nfa.specs.Automaton.{NamesBelow}
use Rattle.rx_nfa.specs.Named.{Spans}
use Rattle.rx_nfa.specs.Prefixes.{LeadsInto}
use Rattle.rx_nfa.proofs.lemmas.prefixes.NamedLemmas.{Widens-same}
use Rattle.rx_nfa.proofs.prefixes.named.note_targets.Goals as goal

pub returns-in-ByteRange-clause-spans : goal.returns-in-ByteRange-clause-spans
returns-in-ByteRange-clause-spans c = subst (LeadsInto (Spans c.note.new.named.items c.args.by)) (sym c.in-ByteRange.is) c.note.ensures.spans

pub returns-in-Look-clause-spans : goal.returns-in-Look-clause-spans
returns-in-Look-clause-spans c = subst (LeadsInto (Spans c.note-in-Look.new.named.items c.args.by)) (sym c.in-Look.is) c.note-in-Look.ensures.spans

pub returns-in-Capture-clause-spans : goal.returns-in-Capture-clause-spans
returns-in-Capture-clause-spans c = subst (LeadsInto (Spans c.note-in-Capture.new.named.items c.args.by)) (sym c.in-Capture.is) c.note-in-Capture.ensures.spans

pub returns-in-ByteRange-clause-wider : goal.returns-in-ByteRange-clause-wider
returns-in-ByteRange-clause-wider c = c.note.ensures.wider

pub returns-in-Sparse-clause-wider : goal.returns-in-Sparse-clause-wider
returns-in-Sparse-clause-wider c = c.note_transitions.ensures.wider

pub returns-in-Look-clause-wider : goal.returns-in-Look-clause-wider
returns-in-Look-clause-wider c = c.note-in-Look.ensures.wider

pub returns-in-Union-clause-wider : goal.returns-in-Union-clause-wider
returns-in-Union-clause-wider c = c.note_each.ensures.wider

pub returns-in-Capture-clause-wider : goal.returns-in-Capture-clause-wider
returns-in-Capture-clause-wider c = c.note-in-Capture.ensures.wider

pub returns-in-Fail-clause-spans : goal.returns-in-Fail-clause-spans
returns-in-Fail-clause-spans c = subst (LeadsInto (Spans c.args.named.now.items c.args.by)) (sym c.in-Fail.is) tt

pub returns-in-Fail-clause-wider : goal.returns-in-Fail-clause-wider
returns-in-Fail-clause-wider c = Widens-same c.args.named.now.items

pub returns-in-Match-clause-spans : goal.returns-in-Match-clause-spans
returns-in-Match-clause-spans c = subst (LeadsInto (Spans c.args.named.now.items c.args.by)) (sym c.in-Match.is) tt

pub returns-in-Match-clause-wider : goal.returns-in-Match-clause-wider
returns-in-Match-clause-wider c = Widens-same c.args.named.now.items

pub note-requires : goal.note-requires
note-requires c = record { inside = subst (NamesBelow (length c.args.named.now.items)) c.in-ByteRange.is c.requires.inside }

pub note-requires-in-Look : goal.note-requires-in-Look
note-requires-in-Look c = record { inside = subst (NamesBelow (length c.args.named.now.items)) c.in-Look.is c.requires.inside }

pub note-requires-in-Capture : goal.note-requires-in-Capture
note-requires-in-Capture c = record { inside = subst (NamesBelow (length c.args.named.now.items)) c.in-Capture.is c.requires.inside }
