use Rattle.std.proofs.Common.{◌∷◌, sym, ◌∙◌, ap, arith}
use Rattle.std.proofs.lemmas.List.{length-set}
use Rattle.rx_nfa.specs.Automaton.{at}
use Rattle.rx_engines.specs.Search.{graph_for}
use Rattle.rx_engines.specs.Backtrack.{passed_by, work}
use Rattle.rx_engines.specs.Threads.{Frames}
use Rattle.rx_engines.proofs.lemmas.backtracking.SearchingLemmas.{Searching-begun, Searching-restored, Searching-over}
use Rattle.rx_engines.proofs.lemmas.backtracking.StackLemmas.{frames-cleared, frames-popped, fewer-popped, frames-over}
use Rattle.rx_engines.proofs.backtrack.attempt.attempt.Goals as goal

pub returns-in-Some-clause-value : goal.returns-in-Some-clause-value
returns-in-Some-clause-value c =
    let s = c.args.search.now in
    let begun =
    Searching-begun (graph_for s) (passed_by s c.args.visited.now) s.start c.args.from c.args.slots.now (c.requires.dead (at s.start c.args.from)) in
    let followed = rw (c.in-Some.is, c.clear.ensures) at c.follow.ensures.followed in
    sym (followed _ _ _ begun)

pub loop-frame-init : goal.loop-frame-init
loop-frame-init c =
    let s = c.args.search.now in
    let begun =
    Searching-begun (graph_for s) (passed_by s c.args.visited.now) s.start c.args.from c.args.slots.now (c.requires.dead (at s.start c.args.from)) in
    let followed = rw (c.in_default.is, c.clear.ensures) at c.follow.ensures.followed in
    record {
      searching = followed _ _ _ begun;
      inside = c.follow.ensures.inside;
      frames = rw c.in_default.is at c.follow.ensures.frames;
      stack = c.follow.ensures.stack ∙ ap (λ (s : Frames). s.room) c.clear.ensures;
      room = c.follow.ensures.room;
      width = c.follow.ensures.width;
    }

pub loop-frame-preserved-in-Restore : goal.loop-frame-preserved-in-Restore
loop-frame-preserved-in-Restore c =
    let popped = ap (λ (s : Frames). s.items) c.in-Some-pop.ensures.some ∙ ap (λ f. f ∷ c.pop.new.self.items) c.in-Restore.is in
    rw c.write.ensures
    (record {
      searching = Searching-restored (rw popped at c.loop-frame.invariant.searching);
      inside = rw popped at c.loop-frame.invariant.inside;
      frames = (let was = rw popped at c.loop-frame.invariant.frames in let same = c.pop.ensures.room in omega arith);
      stack = c.pop.ensures.room ∙ c.loop-frame.invariant.stack;
      room = c.loop-frame.invariant.room;
      width = length-set _ _ _ ∙ c.loop-frame.invariant.width;
    })

pub returns-in-Some-follow-clause-value : goal.returns-in-Some-follow-clause-value
returns-in-Some-follow-clause-value c =
    let popped = ap (λ (s : Frames). s.items) c.in-Some-pop.ensures.some ∙ ap (λ f. f ∷ c.pop.new.self.items) c.in-Explore.is in
    let followed = rw c.in-Some-follow.is at c.follow-in-Explore.ensures.followed in
    sym (followed _ _ _ (rw popped at c.loop-frame.invariant.searching))

pub loop-frame-preserved : goal.loop-frame-preserved
loop-frame-preserved c =
    let popped = ap (λ (s : Frames). s.items) c.in-Some-pop.ensures.some ∙ ap (λ f. f ∷ c.pop.new.self.items) c.in-Explore.is in
    let followed = rw c.in_default-follow.is at c.follow-in-Explore.ensures.followed in
    record {
      searching = followed _ _ _ (rw popped at c.loop-frame.invariant.searching);
      inside = c.follow-in-Explore.ensures.inside;
      frames = rw c.in_default-follow.is at c.follow-in-Explore.ensures.frames;
      stack = c.follow-in-Explore.ensures.stack ∙ c.pop.ensures.room ∙ c.loop-frame.invariant.stack;
      room = c.follow-in-Explore.ensures.room ∙ c.loop-frame.invariant.room;
      width = c.follow-in-Explore.ensures.width ∙ c.loop-frame.invariant.width;
    }

pub returns-clause-value : goal.returns-clause-value
returns-clause-value c = sym (Searching-over (rw c.in_default-pop.ensures.none.0 at c.loop-frame.invariant.searching)).0

pub returns-clause-undone : goal.returns-clause-undone
returns-clause-undone c = (Searching-over (rw c.in_default-pop.ensures.none.0 at c.loop-frame.invariant.searching)).2

pub returns-clause-dead : goal.returns-clause-dead
returns-clause-dead c d = (Searching-over (rw c.in_default-pop.ensures.none.0 at c.loop-frame.invariant.searching)).1 d ∙ c.requires.dead d

-- what the calls require

pub follow-requires-clause-frames : goal.follow-requires-clause-frames
follow-requires-clause-frames c = frames-cleared c.args.stack.now c.clear.new.self c.clear.ensures c.requires.frames

pub follow-requires-clause-inside : goal.follow-requires-clause-inside
follow-requires-clause-inside c = rw c.clear.ensures tt

pub follow-requires-in-Explore-clause-start : goal.follow-requires-in-Explore-clause-start
follow-requires-in-Explore-clause-start c =
    let popped = ap (λ (s : Frames). s.items) c.in-Some-pop.ensures.some ∙ ap (λ f. f ∷ c.pop.new.self.items) c.in-Explore.is in
    (rw popped at c.loop-frame.invariant.inside).0

pub follow-requires-in-Explore-clause-from : goal.follow-requires-in-Explore-clause-from
follow-requires-in-Explore-clause-from c =
    let popped = ap (λ (s : Frames). s.items) c.in-Some-pop.ensures.some ∙ ap (λ f. f ∷ c.pop.new.self.items) c.in-Explore.is in
    let inside = rw popped at c.loop-frame.invariant.inside in
    (inside.1, inside.2)

pub follow-requires-in-Explore-clause-inside : goal.follow-requires-in-Explore-clause-inside
follow-requires-in-Explore-clause-inside c =
    let popped = ap (λ (s : Frames). s.items) c.in-Some-pop.ensures.some ∙ ap (λ f. f ∷ c.pop.new.self.items) c.in-Explore.is in
    (rw popped at c.loop-frame.invariant.inside).3

pub follow-requires-in-Explore-clause-room : goal.follow-requires-in-Explore-clause-room
follow-requires-in-Explore-clause-room c = rw c.loop-frame.invariant.room c.requires.room

pub follow-requires-in-Explore-clause-frames : goal.follow-requires-in-Explore-clause-frames
follow-requires-in-Explore-clause-frames c = frames-popped _ _ c.loop-frame.stack c.pop.new.self c.in-Some-pop.ensures.some c.loop-frame.invariant.frames

-- the loop ends

pub loop-frame-smaller-in-Restore : goal.loop-frame-smaller-in-Restore
loop-frame-smaller-in-Restore c =
    fewer-popped _ (work c.args.search.now c.loop-frame.visited) _ c.loop-frame.stack c.pop.new.self c.in-Some-pop.ensures.some (omega arith)

pub loop-frame-smaller : goal.loop-frame-smaller
loop-frame-smaller c =
    fewer-popped _ (work c.args.search.now c.loop-frame.visited) _ c.loop-frame.stack c.pop.new.self c.in-Some-pop.ensures.some
    (rw c.in_default-follow.is at c.follow-in-Explore.ensures.less)

-- room

pub returns-in-Some-clause-stack : goal.returns-in-Some-clause-stack
returns-in-Some-clause-stack c = c.follow.ensures.stack ∙ ap (λ (s : Frames). s.room) c.clear.ensures

pub returns-in-Some-follow-clause-stack : goal.returns-in-Some-follow-clause-stack
returns-in-Some-follow-clause-stack c = c.follow-in-Explore.ensures.stack ∙ c.pop.ensures.room ∙ c.loop-frame.invariant.stack

pub returns-in-Some-follow-clause-room : goal.returns-in-Some-follow-clause-room
returns-in-Some-follow-clause-room c = c.follow-in-Explore.ensures.room ∙ c.loop-frame.invariant.room

pub returns-in-Some-follow-clause-width : goal.returns-in-Some-follow-clause-width
returns-in-Some-follow-clause-width c = c.follow-in-Explore.ensures.width ∙ c.loop-frame.invariant.width

pub returns-clause-frames : goal.returns-clause-frames
returns-clause-frames c = frames-over _ c.loop-frame.stack c.pop.new.self c.in_default-pop.ensures.none.1 c.loop-frame.invariant.frames

pub returns-clause-stack : goal.returns-clause-stack
returns-clause-stack c = c.pop.ensures.room ∙ c.loop-frame.invariant.stack
