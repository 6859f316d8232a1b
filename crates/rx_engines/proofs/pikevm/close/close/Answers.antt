use Rattle.std.proofs.Common.{◌∷◌, length, length-set, sym, ◌∙◌, ap, arith}
use Rattle.rx_engines.specs.Threads.{Frames}
use Rattle.rx_nfa.specs.Ordered.{passed_at}
use Rattle.rx_engines.specs.Simulation.{frames_to_come}
use Rattle.rx_engines.proofs.lemmas.backtracking.StackLemmas.{frames-popped, fewer-popped}
use Rattle.rx_engines.proofs.lemmas.walks.CloseLemmas.{on_top}
use Rattle.rx_engines.proofs.lemmas.walks.LineLemmas.{line-frames}
use Rattle.rx_engines.proofs.lemmas.threads.SimulationLemmas.{Waits-restored, Waits-over}
use Rattle.rx_engines.proofs.pikevm.close.close.Goals as goal

pub follow-requires-clause-frames : goal.follow-requires-clause-frames
follow-requires-clause-frames c =
    let states = c.args.search.now.states.now in
    let left = line-frames states (length states) c.args.place (passed_at c.args.threads.now.set.items c.args.place) in
    let none = ap length c.requires.empty in
    let room = c.requires.stack in
    omega arith

pub loop-frame-init : goal.loop-frame-init
loop-frame-init c =
    let states = c.args.search.now.states.now in
    let left = line-frames states (length states) c.args.place (passed_at c.args.threads.now.set.items c.args.place) in
    let none = ap length c.requires.empty in
    let room = c.requires.stack in
    let less = c.follow.ensures.less in
    let same = c.follow.ensures.stack in
    record {
      waits = rw c.requires.empty at c.follow.ensures.followed;
      here = c.follow.ensures.inside;
      few = omega arith;
      room = c.follow.ensures.set ∙ c.requires.set;
      rows = c.follow.ensures.table ∙ c.requires.table;
      width = c.follow.ensures.width;
      capacity = c.follow.ensures.capacity;
      kept = c.follow.ensures.kept;
      slots_len = c.follow.ensures.slots;
      stack_room = c.follow.ensures.stack;
    }

pub loop-frame-preserved-in-Restore : goal.loop-frame-preserved-in-Restore
loop-frame-preserved-in-Restore c =
    let popped = ap (λ (f : Frames). f.items) c.in-Some.ensures.some ∙ ap (λ f. f ∷ c.pop.new.self.items) c.in-Restore.is in
    let size = ap length popped in
    let wide = length-set c.loop-frame.walk.slots.items c.in-Restore.slot c.in-Restore.old in
    rw c.write.ensures
    (record {
      waits = λ end later goal le stable w. Waits-restored c.in-Restore.slot c.in-Restore.old c.pop.new.self.items
          (rw popped at (c.loop-frame.invariant.waits end later goal le stable w));
      here = rw popped at c.loop-frame.invariant.here;
      few = omega arith;
      room = c.loop-frame.invariant.room;
      rows = c.loop-frame.invariant.rows;
      width = c.loop-frame.invariant.width;
      capacity = c.loop-frame.invariant.capacity;
      kept = c.loop-frame.invariant.kept;
      slots_len = omega arith;
      stack_room = omega arith;
    })

pub loop-frame-preserved : goal.loop-frame-preserved
loop-frame-preserved c =
    let t = on_top c.loop-frame.invariant.here (ap (λ (f : Frames). f.items) c.in-Some.ensures.some) c.in-Explore.is in
    let size = ap length t.0 in
    let few = c.loop-frame.invariant.few in
    let less = c.follow-in-Explore.ensures.less in
    let same = c.follow-in-Explore.ensures.stack in
    let room = c.pop.ensures.room in
    record {
      waits = λ end later goal le stable w. c.follow-in-Explore.ensures.followed end later goal le stable
          (rw t.0 at (c.loop-frame.invariant.waits end later goal le stable w));
      here = c.follow-in-Explore.ensures.inside;
      few = omega arith;
      room = c.follow-in-Explore.ensures.set ∙ c.loop-frame.invariant.room;
      rows = c.follow-in-Explore.ensures.table ∙ c.loop-frame.invariant.rows;
      width = c.follow-in-Explore.ensures.width ∙ c.loop-frame.invariant.width;
      capacity = c.follow-in-Explore.ensures.capacity ∙ c.loop-frame.invariant.capacity;
      kept = c.follow-in-Explore.ensures.kept ∙ c.loop-frame.invariant.kept;
      slots_len = c.follow-in-Explore.ensures.slots ∙ c.loop-frame.invariant.slots_len;
      stack_room = c.follow-in-Explore.ensures.stack ∙ c.pop.ensures.room ∙ c.loop-frame.invariant.stack_room;
    }

pub returns-clause-closed : goal.returns-clause-closed
returns-clause-closed c end later goal le stable w =
    Waits-over (rw (c.in_default.ensures.none.0) at (c.loop-frame.invariant.waits end later goal le stable w))

pub follow-requires-clause-from : goal.follow-requires-clause-from
follow-requires-clause-from c = c.requires.state

pub follow-requires-clause-place : goal.follow-requires-clause-place
follow-requires-clause-place c = c.requires.place

pub follow-requires-clause-search : goal.follow-requires-clause-search
follow-requires-clause-search c = c.requires.search

pub follow-requires-clause-set : goal.follow-requires-clause-set
follow-requires-clause-set c = c.requires.set

pub follow-requires-clause-table : goal.follow-requires-clause-table
follow-requires-clause-table c = c.requires.table

pub follow-requires-clause-width : goal.follow-requires-clause-width
follow-requires-clause-width c = c.requires.width

pub follow-requires-in-Explore-clause-place : goal.follow-requires-in-Explore-clause-place
follow-requires-in-Explore-clause-place c = c.requires.place

pub follow-requires-in-Explore-clause-search : goal.follow-requires-in-Explore-clause-search
follow-requires-in-Explore-clause-search c = c.requires.search

pub follow-requires-in-Explore-clause-set : goal.follow-requires-in-Explore-clause-set
follow-requires-in-Explore-clause-set c = c.loop-frame.invariant.room

pub follow-requires-in-Explore-clause-table : goal.follow-requires-in-Explore-clause-table
follow-requires-in-Explore-clause-table c = c.loop-frame.invariant.rows

pub pop-requires : goal.pop-requires
pop-requires c = tt

pub returns-clause-capacity : goal.returns-clause-capacity
returns-clause-capacity c = c.loop-frame.invariant.capacity

pub returns-clause-kept : goal.returns-clause-kept
returns-clause-kept c = c.loop-frame.invariant.kept

pub returns-clause-slots : goal.returns-clause-slots
returns-clause-slots c = c.loop-frame.invariant.slots_len

pub returns-clause-width : goal.returns-clause-width
returns-clause-width c = c.loop-frame.invariant.width

pub write-requires : goal.write-requires
write-requires c = tt

-- the loop ends, and the stack has room

pub loop-frame-smaller-in-Restore : goal.loop-frame-smaller-in-Restore
loop-frame-smaller-in-Restore c =
    let work = frames_to_come c.args.search.now.states.now c.args.place c.loop-frame.threads.set.items in
    fewer-popped _ work _ c.loop-frame.walk.stack c.pop.new.self c.in-Some.ensures.some (omega arith)

pub loop-frame-smaller : goal.loop-frame-smaller
loop-frame-smaller c =
    let work = frames_to_come c.args.search.now.states.now c.args.place c.loop-frame.threads.set.items in
    fewer-popped _ work _ c.loop-frame.walk.stack c.pop.new.self c.in-Some.ensures.some
    c.follow-in-Explore.ensures.less

pub follow-requires-in-Explore-clause-frames : goal.follow-requires-in-Explore-clause-frames
follow-requires-in-Explore-clause-frames c = frames-popped _ _ c.loop-frame.walk.stack c.pop.new.self c.in-Some.ensures.some c.loop-frame.invariant.few

pub follow-requires-in-Explore-clause-from : goal.follow-requires-in-Explore-clause-from
follow-requires-in-Explore-clause-from c =
    (on_top c.loop-frame.invariant.here (ap (λ (f : Frames). f.items) c.in-Some.ensures.some) c.in-Explore.is).1

pub follow-requires-in-Explore-clause-inside : goal.follow-requires-in-Explore-clause-inside
follow-requires-in-Explore-clause-inside c =
    (on_top c.loop-frame.invariant.here (ap (λ (f : Frames). f.items) c.in-Some.ensures.some) c.in-Explore.is).2

pub follow-requires-in-Explore-clause-width : goal.follow-requires-in-Explore-clause-width
follow-requires-in-Explore-clause-width c = c.loop-frame.invariant.slots_len ∙ c.requires.width ∙ sym c.loop-frame.invariant.width

pub returns-clause-set : goal.returns-clause-set
returns-clause-set c = c.loop-frame.invariant.room ∙ sym c.requires.set

pub returns-clause-table : goal.returns-clause-table
returns-clause-table c = c.loop-frame.invariant.rows ∙ sym c.requires.table

pub returns-clause-stack : goal.returns-clause-stack
returns-clause-stack c = c.pop.ensures.room ∙ c.loop-frame.invariant.stack_room
