use Rattle.std.proofs.Common.{◌≤◌, ◌+◌, ◌-◌, length, refl, sym, ◌∙◌, ap, arith}
use Rattle.std.specs.Prelude.{true, false}
use Rattle.rx_model.specs.Runs.{found}
use Rattle.rx_engines.specs.Search.{graph_for, is_offered, next_of}
use Rattle.rx_engines.proofs.lemmas.backtracking.BitLemmas.{passed_in-none}
use Rattle.rx_engines.proofs.lemmas.backtracking.FrameLemmas.{frames_below-empty}
use Rattle.rx_engines.proofs.lemmas.backtracking.BoundedLemmas.{next-none_here, next-not_allowed, next-over, next-from_here, next-nowhere, starts-allowed, returned-none, returned-in_order, match-answered}
use Rattle.rx_engines.proofs.backtrack.find.find.Goals as goal
use Rattle.rx_engines.proofs.backtrack.find.find.Goals.{then-is_allowed+in_default-attempt, else-is_allowed}

pub loop-place-init : goal.loop-place-init
loop-place-init c = record {
  first = omega arith;
  none_yet = refl;
  dead = λ d. ap (λ p. found (graph_for c.args.search.now) p d)
      (passed_in-none (length c.args.search.now.states.now) c.args.search.now.first c.args.search.now.end c.clear.new.self c.clear.ensures.empty);
  empty = c.clear-2.ensures;
  frames = (let all = frames_below-empty c.args.search.now.states.now c.clear.new.self c.clear.ensures.empty
      (c.args.search.now.end + 1 - c.args.search.now.first) in let room = c.requires.frames in omega arith);
  stack = refl;
  room = c.clear.ensures.room;
}

pub new-requires : goal.new-requires
new-requires c =
    let order = returned-in_order c.args.search.now c.in-Some.start c.in-Some-attempt.found _ _ (rw c.in-Some-attempt.is at c.attempt.ensures.value) in
    let end = c.offset.ensures in
    omega arith

-- no place is left at which a match may begin

pub returns-in_default-clause-value : goal.returns-in_default-clause-value
returns-in_default-clause-value c =
    let s = c.args.search.now in
    let last = c.requires.search.last in
    let is = next-nowhere s c.loop-place.place (next_of (is_offered s) s) (omega arith) last c.in_default.ensures c.loop-place.invariant.none_yet in
    rw is refl

pub returns-in_default-clause-slots : goal.returns-in_default-clause-slots
returns-in_default-clause-slots c =
    let s = c.args.search.now in
    let last = c.requires.search.last in
    let is = next-nowhere s c.loop-place.place (next_of (is_offered s) s) (omega arith) last c.in_default.ensures c.loop-place.invariant.none_yet in
    rw is tt

pub returns-then-search-start-clause-value : goal.returns-then-search-start-clause-value
returns-then-search-start-clause-value c =
    let s = c.args.search.now in
    let is = sym (next-from_here s c.loop-place.place c.in-Some.start (next_of (is_offered s) s) c.in-Some.ensures.0 c.in-Some.ensures.2
    c.loop-place.invariant.none_yet) ∙ next-over s c.in-Some.start (omega arith) in
    rw is refl

pub returns-then-search-start-clause-slots : goal.returns-then-search-start-clause-slots
returns-then-search-start-clause-slots c =
    let s = c.args.search.now in
    let is = sym (next-from_here s c.loop-place.place c.in-Some.start (next_of (is_offered s) s) c.in-Some.ensures.0 c.in-Some.ensures.2
    c.loop-place.invariant.none_yet) ∙ next-over s c.in-Some.start (omega arith) in
    rw is tt

-- a match begins here

pub returns-in-Some-attempt-clause-value : goal.returns-in-Some-attempt-clause-value
returns-in-Some-attempt-clause-value c =
    let s = c.args.search.now in
    let none_yet = next-from_here s c.loop-place.place c.in-Some.start (next_of (is_offered s) s) c.in-Some.ensures.0 c.in-Some.ensures.2
    c.loop-place.invariant.none_yet in
    rw (c.new.ensures, c.pattern.ensures, c.offset.ensures)
    (match-answered s c.in-Some.start (length c.args.slots.now) c.in-Some-attempt.found _ _ _
    (rw c.in-Some-attempt.is at c.attempt.ensures.value) (omega arith)
    (starts-allowed s c.in-Some.start true c.in-Some.ensures.3 (sym c.is_allowed.ensures ∙ c.if-is_allowed.true)) c.loop-place.invariant.empty
    none_yet).value

pub returns-in-Some-attempt-clause-slots : goal.returns-in-Some-attempt-clause-slots
returns-in-Some-attempt-clause-slots c =
    let s = c.args.search.now in
    let none_yet = next-from_here s c.loop-place.place c.in-Some.start (next_of (is_offered s) s) c.in-Some.ensures.0 c.in-Some.ensures.2
    c.loop-place.invariant.none_yet in
    (match-answered s c.in-Some.start (length c.args.slots.now) c.in-Some-attempt.found _ _ _
    (rw c.in-Some-attempt.is at c.attempt.ensures.value) (omega arith)
    (starts-allowed s c.in-Some.start true c.in-Some.ensures.3 (sym c.is_allowed.ensures ∙ c.if-is_allowed.true)) c.loop-place.invariant.empty
    none_yet).slots_are

pub loop-place-preserved : goal.loop-place-preserved
loop-place-preserved c =
    let s = c.args.search.now in
    let start = c.in-Some.start in
    let reached = c.in-Some.ensures.0 in
    let low = c.loop-place.invariant.first in
    let le : start ≤ s.last = omega arith in
    let none_yet = next-from_here s c.loop-place.place start (next_of (is_offered s) s) reached c.in-Some.ensures.2 c.loop-place.invariant.none_yet in
    elim c.if-is_allowed.branch [
      | then-is_allowed+in_default-attempt w ↦
          record {
            first = omega arith;
            none_yet = next-none_here s start le
                (returned-none c.loop-place.slots w.attempt.new.slots _ (rw w.in_default-attempt.is at w.attempt.ensures.value)) ∙ none_yet;
            dead = λ d. rw w.visited-is ((rw w.in_default-attempt.is at w.attempt.ensures.dead) d);
            empty = rw w.slots-is ((rw w.in_default-attempt.is at w.attempt.ensures.undone) ∙ c.loop-place.invariant.empty);
            frames = rw (w.visited-is, w.stack-is) (rw w.in_default-attempt.is at w.attempt.ensures.frames);
            stack = rw w.stack-is (w.attempt.ensures.stack ∙ c.loop-place.invariant.stack);
            room = rw w.visited-is (w.attempt.ensures.room ∙ c.loop-place.invariant.room);
          }
      | else-is_allowed w ↦
          record {
            first = omega arith;
            none_yet = next-not_allowed s start le (starts-allowed s start false c.in-Some.ensures.3 (sym c.is_allowed.ensures ∙ w.if-is_allowed.false))
                ∙ none_yet;
            dead = λ d. rw w.visited-is (c.loop-place.invariant.dead d);
            empty = rw w.slots-is c.loop-place.invariant.empty;
            frames = rw (w.visited-is, w.stack-is) c.loop-place.invariant.frames;
            stack = rw w.stack-is c.loop-place.invariant.stack;
            room = rw w.visited-is c.loop-place.invariant.room;
          }
    ]

pub returns-clause-value : goal.returns-clause-value
returns-clause-value c =
    let is = sym c.loop-place.invariant.none_yet ∙ next-over c.args.search.now c.loop-place.place (omega arith) in
    rw is refl

pub returns-clause-slots : goal.returns-clause-slots
returns-clause-slots c =
    let is = sym c.loop-place.invariant.none_yet ∙ next-over c.args.search.now c.loop-place.place (omega arith) in
    rw is tt

pub attempt-requires-clause-dead : goal.attempt-requires-clause-dead
attempt-requires-clause-dead c = c.loop-place.invariant.dead

pub attempt-requires-clause-frames : goal.attempt-requires-clause-frames
attempt-requires-clause-frames c = c.loop-place.invariant.frames

pub attempt-requires-clause-room : goal.attempt-requires-clause-room
attempt-requires-clause-room c = omega arith

pub attempt-requires-clause-search : goal.attempt-requires-clause-search
attempt-requires-clause-search c = c.requires.search

pub attempt-requires-clause-small : goal.attempt-requires-clause-small
attempt-requires-clause-small c = c.requires.small

pub clear-requires : goal.clear-requires
clear-requires c = tt

pub clear-requires-2 : goal.clear-requires-2
clear-requires-2 c = tt

pub is_allowed-requires : goal.is_allowed-requires
is_allowed-requires c = omega arith

pub next_start-requires : goal.next_start-requires
next_start-requires c = omega arith

pub offset-requires : goal.offset-requires
offset-requires c = tt

pub pattern-requires : goal.pattern-requires
pattern-requires c = tt

pub returns-clause-room : goal.returns-clause-room
returns-clause-room c = c.loop-place.invariant.room

pub returns-clause-stack : goal.returns-clause-stack
returns-clause-stack c = c.loop-place.invariant.stack

pub returns-in_default-clause-room : goal.returns-in_default-clause-room
returns-in_default-clause-room c = c.loop-place.invariant.room

pub returns-in_default-clause-stack : goal.returns-in_default-clause-stack
returns-in_default-clause-stack c = c.loop-place.invariant.stack

pub returns-then-search-start-clause-room : goal.returns-then-search-start-clause-room
returns-then-search-start-clause-room c = c.loop-place.invariant.room

pub returns-then-search-start-clause-stack : goal.returns-then-search-start-clause-stack
returns-then-search-start-clause-stack c = c.loop-place.invariant.stack
