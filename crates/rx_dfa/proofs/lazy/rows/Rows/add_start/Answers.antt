use Rattle.std.proofs.Common.{[], ◌∙◌}
use Rattle.std.specs.Prelude.{None}
use Rattle.rx_dfa.specs.StateKey.{key_of}
use Rattle.rx_dfa.proofs.lemmas.ClearingLemmas.{full-from, grown-add, grown-begun, new-none}
use Rattle.rx_dfa.proofs.lemmas.FitLemmas.{room-first}
use Rattle.rx_dfa.proofs.lazy.rows.Rows.add_start.Goals as goal

pub returns-then-has_room-clause-grown : goal.returns-then-has_room-clause-grown
returns-then-has_room-clause-grown c =
    let a = c.add.ensures in
    grown-add c.args.lazy.now [] (key_of c.args.key.now) c.args.self.now.since None c.args.self.now c.add.new.self c.add.result a.ok a.err a.counts

pub add-requires-2-clause-rows : goal.add-requires-2-clause-rows
add-requires-2-clause-rows c = c.clear.ensures.rows c.args.lazy.now

pub add-requires-2-clause-new : goal.add-requires-2-clause-new
add-requires-2-clause-new c = new-none c.clear.new.self.keys (key_of c.args.key.now) c.clear.ensures.empty

pub add-requires-2-clause-room : goal.add-requires-2-clause-room
add-requires-2-clause-room c =
    let l = c.args.lazy.now in
    room-first l c.has_room.ensures.sound c.clear.new.self (c.clear.ensures.rows l) c.clear.ensures.empty (key_of c.args.key.now) c.requires.live.few

pub returns-clause-grown : goal.returns-clause-grown
returns-clause-grown c =
    let l = c.args.lazy.now in
    let key = key_of c.args.key.now in
    let a = c.add-2.ensures in
    grown-begun l key c.args.self.now.since None c.args.self.now c.clear.new.self c.add-2.new.self c.add-2.result
    (full-from l key c.args.self.now c.has_room.result c.requires.live.alive c.requires.new c.has_room.ensures.room c.if-has_room.false) c.clear.ensures.empty a.ok a.err
    (a.counts ∙ c.clear.ensures.counts)
