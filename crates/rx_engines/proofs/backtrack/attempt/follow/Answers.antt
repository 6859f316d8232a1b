use Rattle.std.proofs.Common.{◌+◌, refl, ◌∙◌, arith}
use Rattle.rx_engines.proofs.lemmas.backtracking.AttemptLemmas.{bit-of, bit-within, row-on, inserts-at, inserted-passed, passed-work, passed-frames, inserted-accepts, inserted-yields, yields-work, inserted-frames}
use Rattle.rx_engines.proofs.lemmas.backtracking.StackLemmas.{below-half-all, below-room}
use Rattle.rx_engines.proofs.backtrack.attempt.follow.Goals as goal

pub loop-state-init : goal.loop-state-init
loop-state-init c = record {
  followed = λ before goal base x. x;
  state = c.requires.start;
  above = c.requires.from.0;
  below = c.requires.from.1;
  row = refl;
  inside = c.requires.inside;
  less = omega arith;
  frames = c.requires.frames;
  stack = refl;
  room = refl;
  width = refl;
}

pub returns-in-Stop-clause-followed : goal.returns-in-Stop-clause-followed
returns-in-Stop-clause-followed c before goal base x =
    let v = c.loop-state.invariant in
    let s = c.args.search.now in
    let at_n = bit-of s c.loop-state.row c.loop-state.state c.loop-state.place c.as_usize.result v.row c.as_usize.ensures.value in
    let within = bit-within s c.loop-state.row c.loop-state.state c.loop-state.place v.state v.above v.below v.row in
    let t = inserts-at s c.loop-state.visited c.insert.new.self c.insert.result c.loop-state.state c.loop-state.place (c.loop-state.row + c.as_usize.result)
    v.state v.above v.below at_n (omega arith) c.insert.ensures.new c.insert.ensures.after in
    let stepped = rw c.in-Stop.is at c.step.ensures.stepped in
    rw (c.new.ensures, stepped.1) (inserted-accepts t c.loop-state-test.true c.in-Stop.pattern stepped.0 (v.followed before goal base x))

pub loop-state-smaller : goal.loop-state-smaller
loop-state-smaller c =
    let v = c.loop-state.invariant in
    let s = c.args.search.now in
    let at_n = bit-of s c.loop-state.row c.loop-state.state c.loop-state.place c.as_usize.result v.row c.as_usize.ensures.value in
    let within = bit-within s c.loop-state.row c.loop-state.state c.loop-state.place v.state v.above v.below v.row in
    let t = inserts-at s c.loop-state.visited c.insert.new.self c.insert.result c.loop-state.state c.loop-state.place (c.loop-state.row + c.as_usize.result)
    v.state v.above v.below at_n (omega arith) c.insert.ensures.new c.insert.ensures.after in
    let less = yields-work t c.loop-state-test.true (rw c.in-To.is at c.step.ensures.stepped) in
    omega arith

pub loop-state-preserved : goal.loop-state-preserved
loop-state-preserved c =
    let v = c.loop-state.invariant in
    let s = c.args.search.now in
    let at_n = bit-of s c.loop-state.row c.loop-state.state c.loop-state.place c.as_usize.result v.row c.as_usize.ensures.value in
    let within = bit-within s c.loop-state.row c.loop-state.state c.loop-state.place v.state v.above v.below v.row in
    let t = inserts-at s c.loop-state.visited c.insert.new.self c.insert.result c.loop-state.state c.loop-state.place (c.loop-state.row + c.as_usize.result)
    v.state v.above v.below at_n (omega arith) c.insert.ensures.new c.insert.ensures.after in
    let stepped = rw c.in-To.is at c.step.ensures.stepped in
    let inside = rw c.in-To.is at c.step.ensures.inside in
    let near = rw c.in-To.is at c.step.ensures.near in
    let less = yields-work t c.loop-state-test.true stepped in
    let before = v.less in
    let fewer = inserted-frames t c.loop-state-test.true in
    let frames = v.frames in
    let left = c.step.ensures.frames in
    let fixed = c.step.ensures.room in
    record {
      followed = λ before goal base x. inserted-yields t c.loop-state-test.true stepped (v.followed before goal base x);
      state = inside.0;
      above = inside.1;
      below = inside.2;
      row = c.row_at-row.ensures ∙ row-on s c.loop-state.row c.loop-state.place c.in-To.at v.row v.above near.0;
      inside = inside.3;
      less = omega arith;
      frames = omega arith;
      stack = c.step.ensures.room ∙ v.stack;
      room = c.insert.ensures.room ∙ v.room;
      width = c.step.ensures.width ∙ v.width;
    }

pub returns-in-Back-clause-followed : goal.returns-in-Back-clause-followed
returns-in-Back-clause-followed c before goal base x =
    let v = c.loop-state.invariant in
    let s = c.args.search.now in
    let at_n = bit-of s c.loop-state.row c.loop-state.state c.loop-state.place c.as_usize.result v.row c.as_usize.ensures.value in
    let within = bit-within s c.loop-state.row c.loop-state.state c.loop-state.place v.state v.above v.below v.row in
    let t = inserts-at s c.loop-state.visited c.insert.new.self c.insert.result c.loop-state.state c.loop-state.place (c.loop-state.row + c.as_usize.result)
    v.state v.above v.below at_n (omega arith) c.insert.ensures.new c.insert.ensures.after in
    inserted-yields t c.loop-state-test.true (rw c.in-Back.is at c.step.ensures.stepped) (v.followed before goal base x)

pub returns-in-Back-clause-less : goal.returns-in-Back-clause-less
returns-in-Back-clause-less c =
    let v = c.loop-state.invariant in
    let s = c.args.search.now in
    let at_n = bit-of s c.loop-state.row c.loop-state.state c.loop-state.place c.as_usize.result v.row c.as_usize.ensures.value in
    let within = bit-within s c.loop-state.row c.loop-state.state c.loop-state.place v.state v.above v.below v.row in
    let t = inserts-at s c.loop-state.visited c.insert.new.self c.insert.result c.loop-state.state c.loop-state.place (c.loop-state.row + c.as_usize.result)
    v.state v.above v.below at_n (omega arith) c.insert.ensures.new c.insert.ensures.after in
    let less = yields-work t c.loop-state-test.true (rw c.in-Back.is at c.step.ensures.stepped) in
    let before = v.less in
    omega arith

pub returns-clause-followed : goal.returns-clause-followed
returns-clause-followed c before goal base x =
    let v = c.loop-state.invariant in
    let s = c.args.search.now in
    let at_n = bit-of s c.loop-state.row c.loop-state.state c.loop-state.place c.as_usize.result v.row c.as_usize.ensures.value in
    let within = bit-within s c.loop-state.row c.loop-state.state c.loop-state.place v.state v.above v.below v.row in
    let t = inserts-at s c.loop-state.visited c.insert.new.self c.insert.result c.loop-state.state c.loop-state.place (c.loop-state.row + c.as_usize.result)
    v.state v.above v.below at_n (omega arith) c.insert.ensures.new c.insert.ensures.after in
    inserted-passed t c.loop-state-test.false (v.followed before goal base x)

pub returns-clause-less : goal.returns-clause-less
returns-clause-less c =
    let v = c.loop-state.invariant in
    let s = c.args.search.now in
    let at_n = bit-of s c.loop-state.row c.loop-state.state c.loop-state.place c.as_usize.result v.row c.as_usize.ensures.value in
    let within = bit-within s c.loop-state.row c.loop-state.state c.loop-state.place v.state v.above v.below v.row in
    let t = inserts-at s c.loop-state.visited c.insert.new.self c.insert.result c.loop-state.state c.loop-state.place (c.loop-state.row + c.as_usize.result)
    v.state v.above v.below at_n (omega arith) c.insert.ensures.new c.insert.ensures.after in
    let same = passed-work t c.loop-state-test.false in
    let before = v.less in
    omega arith

-- the stack has room

pub step-requires-clause-room : goal.step-requires-clause-room
step-requires-clause-room c =
    let v = c.loop-state.invariant in
    let s = c.args.search.now in
    let at_n = bit-of s c.loop-state.row c.loop-state.state c.loop-state.place c.as_usize.result v.row c.as_usize.ensures.value in
    let within = bit-within s c.loop-state.row c.loop-state.state c.loop-state.place v.state v.above v.below v.row in
    let t = inserts-at s c.loop-state.visited c.insert.new.self c.insert.result c.loop-state.state c.loop-state.place (c.loop-state.row + c.as_usize.result)
    v.state v.above v.below at_n (omega arith) c.insert.ensures.new c.insert.ensures.after in
    let fewer = inserted-frames t c.loop-state-test.true in
    let frames = v.frames in
    omega arith

pub returns-in-Back-clause-frames : goal.returns-in-Back-clause-frames
returns-in-Back-clause-frames c =
    let v = c.loop-state.invariant in
    let s = c.args.search.now in
    let at_n = bit-of s c.loop-state.row c.loop-state.state c.loop-state.place c.as_usize.result v.row c.as_usize.ensures.value in
    let within = bit-within s c.loop-state.row c.loop-state.state c.loop-state.place v.state v.above v.below v.row in
    let t = inserts-at s c.loop-state.visited c.insert.new.self c.insert.result c.loop-state.state c.loop-state.place (c.loop-state.row + c.as_usize.result)
    v.state v.above v.below at_n (omega arith) c.insert.ensures.new c.insert.ensures.after in
    let fewer = inserted-frames t c.loop-state-test.true in
    let frames = v.frames in
    let left = c.step.ensures.frames in
    let fixed = c.step.ensures.room in
    omega arith

pub returns-clause-frames : goal.returns-clause-frames
returns-clause-frames c =
    let v = c.loop-state.invariant in
    let s = c.args.search.now in
    let at_n = bit-of s c.loop-state.row c.loop-state.state c.loop-state.place c.as_usize.result v.row c.as_usize.ensures.value in
    let within = bit-within s c.loop-state.row c.loop-state.state c.loop-state.place v.state v.above v.below v.row in
    let t = inserts-at s c.loop-state.visited c.insert.new.self c.insert.result c.loop-state.state c.loop-state.place (c.loop-state.row + c.as_usize.result)
    v.state v.above v.below at_n (omega arith) c.insert.ensures.new c.insert.ensures.after in
    let same = passed-frames t c.loop-state-test.false in
    let frames = v.frames in
    omega arith

-- the bits

pub row_at-row-requires-clause-near : goal.row_at-row-requires-clause-near
row_at-row-requires-clause-near c = rw c.in-To.is at c.step.ensures.near

-- the bits fit

pub insert-requires : goal.insert-requires
insert-requires c =
    let v = c.loop-state.invariant in
    let within = bit-within c.args.search.now c.loop-state.row c.loop-state.state c.loop-state.place v.state v.above v.below v.row in
    rw (c.as_usize.ensures.value, v.room) (below-room within.0 c.requires.room)

pub row_at-row-requires-clause-small : goal.row_at-row-requires-clause-small
row_at-row-requires-clause-small c =
    let v = c.loop-state.invariant in
    let within = bit-within c.args.search.now c.loop-state.row c.loop-state.state c.loop-state.place v.state v.above v.below v.row in
    below-half-all within.1 c.requires.small

-- what is inside, and room

pub returns-in-Stop-clause-inside : goal.returns-in-Stop-clause-inside
returns-in-Stop-clause-inside c = rw c.in-Stop.is at c.step.ensures.inside

pub returns-in-Back-clause-inside : goal.returns-in-Back-clause-inside
returns-in-Back-clause-inside c = rw c.in-Back.is at c.step.ensures.inside

pub returns-in-Stop-clause-stack : goal.returns-in-Stop-clause-stack
returns-in-Stop-clause-stack c = c.step.ensures.room ∙ c.loop-state.invariant.stack

pub returns-in-Stop-clause-room : goal.returns-in-Stop-clause-room
returns-in-Stop-clause-room c = c.insert.ensures.room ∙ c.loop-state.invariant.room

pub returns-in-Stop-clause-width : goal.returns-in-Stop-clause-width
returns-in-Stop-clause-width c = c.step.ensures.width ∙ c.loop-state.invariant.width

pub returns-in-Back-clause-stack : goal.returns-in-Back-clause-stack
returns-in-Back-clause-stack c = c.step.ensures.room ∙ c.loop-state.invariant.stack

pub returns-in-Back-clause-room : goal.returns-in-Back-clause-room
returns-in-Back-clause-room c = c.insert.ensures.room ∙ c.loop-state.invariant.room

pub returns-in-Back-clause-width : goal.returns-in-Back-clause-width
returns-in-Back-clause-width c = c.step.ensures.width ∙ c.loop-state.invariant.width

pub returns-clause-room : goal.returns-clause-room
returns-clause-room c = c.insert.ensures.room ∙ c.loop-state.invariant.room

-- the same of what the step requires

pub step-requires-clause-state : goal.step-requires-clause-state
step-requires-clause-state c = c.loop-state.invariant.state

pub step-requires-clause-place : goal.step-requires-clause-place
step-requires-clause-place c = (c.loop-state.invariant.above, c.loop-state.invariant.below)

pub step-requires-clause-inside : goal.step-requires-clause-inside
step-requires-clause-inside c = c.loop-state.invariant.inside
