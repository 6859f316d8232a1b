use Rattle.std.proofs.Common.{arith, ◌≡◌, ◌<◌, ◌≤◌, ◌-◌, ◌+◌, ◌∙◌, sym, suc}
use Rattle.std.proofs.lemmas.Grind.{common_steps}
use Rattle.std.proofs.lemmas.Bool.Decides.{nat_tests}
use Rattle.rx_reader.specs.Input.{place, unread}
use Rattle.rx_reader.proofs.lemmas.places.AheadLemmas.{by_zero, past_none, past_more, past_shorter}
use Rattle.rx_reader.proofs.cursor.Cursor.bump_by.Goals as goal

pub loop-preserved : goal.loop-preserved
loop-preserved c =
    let more : c.loop.counter < c.args.count = grind (arith, nat_tests, common_steps) in
    let one : c.args.count - c.loop.counter ≡ suc (c.args.count - (c.loop.counter + 1)) = omega arith in
    let shorter : unread c.bump.new.self ≤ unread c.loop.self = past_shorter (place c.loop.self) (place c.bump.new.self) c.bump.ensures.value in
    record {
      same = c.loop.invariant.same ∙ past_more (c.args.count - c.loop.counter) (c.args.count - (c.loop.counter + 1)) (place c.loop.self) (place c.bump.new.self)
          one c.bump.ensures.value;
      moves = omega (arith, c.loop.invariant.moves, shorter);
      passed = λ some unfinished.
          by_zero c.loop.counter (λ first. let less = c.bump.ensures.progress (omega (arith, c.loop.invariant.begun first)) in
          omega (arith, c.loop.invariant.moves, less))
          (λ later. let less = c.loop.invariant.passed later unfinished in omega (arith, shorter, less));
      room = λ some unfinished. by_zero c.loop.counter (λ first. c.bump.ensures.room (omega (arith, c.loop.invariant.begun first)))
          (λ later. c.bump.ensures.kept (c.loop.invariant.room later unfinished));
      begun = λ first. absurd (omega arith);
      kept = λ h. c.bump.ensures.kept (c.loop.invariant.kept h);
    }

pub returns-clause-value : goal.returns-clause-value
returns-clause-value c =
    let over : c.args.count - c.loop.counter ≡ 0 = grind (arith, nat_tests, common_steps) in
    sym (c.loop.invariant.same ∙ past_none (c.args.count - c.loop.counter) (place c.loop.self) over)
