use Rattle.std.proofs.Common.{◌≡◌, ◌<◌, ◌∙◌, ap, sym, arith, true, false}
use Rattle.std.specs.Char.{is_whitespace}
use Rattle.rx_reader.specs.Input.{place, unread}
use Rattle.rx_reader.specs.Reading.{passes, past_all}
use Rattle.rx_reader.proofs.lemmas.places.PlaceLemmas.{past_all_goes, past_all_stops}
use Rattle.rx_reader.proofs.cursor.Cursor.skip_spaces.Goals as goal

pub loop-self-preserved : goal.loop-self-preserved
loop-self-preserved c =
    let s = c.loop-self.self in
    let goes : passes is_whitespace (place s) ≡ true = sym c.is_at_white.ensures.value ∙ c.loop-self-test.true in
    let lt : unread c.bump.new.self < unread s = c.bump.ensures.progress (c.is_at_white.ensures.more c.loop-self-test.true) in
    record {
      same = c.loop-self.invariant.same ∙ past_all_goes (place s) is_whitespace goes ∙ ap (past_all is_whitespace) (sym c.bump.ensures.value);
      moves = omega (arith, c.loop-self.invariant.moves, lt);
      kept = λ h. c.bump.ensures.kept (c.loop-self.invariant.kept h);
    }

pub returns-clause-value : goal.returns-clause-value
returns-clause-value c =
    let s = c.loop-self.self in
    let stops : passes is_whitespace (place s) ≡ false = sym c.is_at_white.ensures.value ∙ c.loop-self-test.false in
    sym (c.loop-self.invariant.same ∙ past_all_stops (place s) is_whitespace stops)
