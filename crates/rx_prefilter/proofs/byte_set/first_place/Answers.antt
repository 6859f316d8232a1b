use Rattle.std.proofs.Common.{◌+◌, refl, arith}
use Rattle.rx_prefilter.proofs.ByteLemmas.{none_yet, none_more, none_both}
use Rattle.rx_prefilter.proofs.byte_set.first_place.Goals as goal

pub loop-at-init : goal.loop-at-init
loop-at-init c = (omega arith, c.requires, none_yet c.args.is_needle.now c.args.text.now c.args.from)

pub returns-then-is_needle-text-2-clause-none : goal.returns-then-is_needle-text-2-clause-none
returns-then-is_needle-text-2-clause-none c =
    let at = c.loop-at.at in
    none_more c.args.is_needle.now c.args.text.now c.args.from at (at + 1) refl c.loop-at.invariant.2 c.if-is_needle-text.false

pub returns-then-is_needle-text-3-clause-none : goal.returns-then-is_needle-text-3-clause-none
returns-then-is_needle-text-3-clause-none c =
    let table = c.args.is_needle.now in
    let text = c.args.text.now in
    let at = c.loop-at.at in
    let one = none_more table text c.args.from at (at + 1) refl c.loop-at.invariant.2 c.if-is_needle-text.false in
    none_more table text c.args.from (at + 1) (at + 2) (omega arith) one c.if-is_needle-text-2.false

pub returns-then-is_needle-text-4-clause-none : goal.returns-then-is_needle-text-4-clause-none
returns-then-is_needle-text-4-clause-none c =
    let table = c.args.is_needle.now in
    let text = c.args.text.now in
    let at = c.loop-at.at in
    let one = none_more table text c.args.from at (at + 1) refl c.loop-at.invariant.2 c.if-is_needle-text.false in
    let two = none_more table text c.args.from (at + 1) (at + 2) (omega arith) one c.if-is_needle-text-2.false in
    none_more table text c.args.from (at + 2) (at + 3) (omega arith) two c.if-is_needle-text-3.false

pub loop-at-preserved : goal.loop-at-preserved
loop-at-preserved c =
    let table = c.args.is_needle.now in
    let text = c.args.text.now in
    let at = c.loop-at.at in
    let invariant = c.loop-at.invariant in
    let one = none_more table text c.args.from at (at + 1) refl invariant.2 c.if-is_needle-text.false in
    let two = none_more table text c.args.from (at + 1) (at + 2) (omega arith) one c.if-is_needle-text-2.false in
    let three = none_more table text c.args.from (at + 2) (at + 3) (omega arith) two c.if-is_needle-text-3.false in
    let four = none_more table text c.args.from (at + 3) (at + 4) (omega arith) three c.if-is_needle-text-4.false in
    (omega (arith, invariant.0), omega arith, four)

pub returns-clause-none : goal.returns-clause-none
returns-clause-none c =
    none_both c.args.is_needle.now c.args.text.now c.args.from c.loop-at.at c.first_of_few.result c.loop-at.invariant.2 c.first_of_few.ensures.none

pub returns-then-is_needle-text-clause-order : goal.returns-then-is_needle-text-clause-order
returns-then-is_needle-text-clause-order c = c.loop-at.invariant.0

pub returns-then-is_needle-text-clause-within : goal.returns-then-is_needle-text-clause-within
returns-then-is_needle-text-clause-within c = c.loop-at.invariant.1

pub returns-then-is_needle-text-clause-none : goal.returns-then-is_needle-text-clause-none
returns-then-is_needle-text-clause-none c = c.loop-at.invariant.2

pub returns-then-is_needle-text-clause-there : goal.returns-then-is_needle-text-clause-there
returns-then-is_needle-text-clause-there c = λ _. c.if-is_needle-text.true

pub returns-then-is_needle-text-2-clause-order : goal.returns-then-is_needle-text-2-clause-order
returns-then-is_needle-text-2-clause-order c = let low = c.loop-at.invariant.0 in omega (arith, low)

pub returns-then-is_needle-text-2-clause-within : goal.returns-then-is_needle-text-2-clause-within
returns-then-is_needle-text-2-clause-within c = let four = c.loop-at-test.true in omega (arith, four)

pub returns-then-is_needle-text-2-clause-there : goal.returns-then-is_needle-text-2-clause-there
returns-then-is_needle-text-2-clause-there c = λ _. c.if-is_needle-text-2.true

pub returns-then-is_needle-text-3-clause-order : goal.returns-then-is_needle-text-3-clause-order
returns-then-is_needle-text-3-clause-order c = let low = c.loop-at.invariant.0 in omega (arith, low)

pub returns-then-is_needle-text-3-clause-within : goal.returns-then-is_needle-text-3-clause-within
returns-then-is_needle-text-3-clause-within c = let four = c.loop-at-test.true in omega (arith, four)

pub returns-then-is_needle-text-3-clause-there : goal.returns-then-is_needle-text-3-clause-there
returns-then-is_needle-text-3-clause-there c = λ _. c.if-is_needle-text-3.true

pub returns-then-is_needle-text-4-clause-order : goal.returns-then-is_needle-text-4-clause-order
returns-then-is_needle-text-4-clause-order c = let low = c.loop-at.invariant.0 in omega (arith, low)

pub returns-then-is_needle-text-4-clause-within : goal.returns-then-is_needle-text-4-clause-within
returns-then-is_needle-text-4-clause-within c = let four = c.loop-at-test.true in omega (arith, four)

pub returns-then-is_needle-text-4-clause-there : goal.returns-then-is_needle-text-4-clause-there
returns-then-is_needle-text-4-clause-there c = λ _. c.if-is_needle-text-4.true

pub bounds-text-at : goal.bounds-text-at
bounds-text-at c = let four = c.loop-at-test.true in omega (arith, four)

pub bounds-text-at-in-loop-at : goal.bounds-text-at-in-loop-at
bounds-text-at-in-loop-at c = let four = c.loop-at-test.true in omega (arith, four)

pub bounds-text-at-in-loop-at-2 : goal.bounds-text-at-in-loop-at-2
bounds-text-at-in-loop-at-2 c = let four = c.loop-at-test.true in omega (arith, four)

pub bounds-text-at-in-loop-at-3 : goal.bounds-text-at-in-loop-at-3
bounds-text-at-in-loop-at-3 c = let four = c.loop-at-test.true in omega (arith, four)

pub returns-clause-order : goal.returns-clause-order
returns-clause-order c =
    let low = c.loop-at.invariant.0 in
    let more = c.first_of_few.ensures.order in
    omega (arith, low, more)

pub returns-clause-within : goal.returns-clause-within
returns-clause-within c = c.first_of_few.ensures.within

pub returns-clause-there : goal.returns-clause-there
returns-clause-there c = c.first_of_few.ensures.there
