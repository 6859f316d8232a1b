use Rattle.std.proofs.Common.{◌≡◌, ◌<◌, ◌∙◌, ap, sym, arith, true, false, ◌++◌}
use Rattle.std.proofs.lemmas.List.{append-nil}
use Rattle.rx_reader.specs.Input.{place, unread}
use Rattle.rx_reader.specs.Reading.{passes, past_all}
use Rattle.rx_reader.specs.Escapes.{in_name}
use Rattle.rx_reader.proofs.lemmas.places.PlaceLemmas.{past_all_goes, past_all_stops}
use Rattle.rx_reader.proofs.lemmas.tokens.EscapeLemmas.{leading-stops, push_leading}
use Rattle.rx_reader.proofs.escape.read_name.Goals as goal

pub loop-inside-preserved : goal.loop-inside-preserved
loop-inside-preserved c =
    let s = c.loop-inside.cursor in
    let test = in_name c.args.inside in
    let goes : passes test (place s) ≡ true = sym c.is_in_name.ensures.value ∙ c.loop-inside-test.true in
    let lt : unread c.bump.new.self < unread s = c.bump.ensures.progress (c.is_in_name.ensures.more c.loop-inside-test.true) in
    record {
      read = c.loop-inside.invariant.read ∙ push_leading test (place s) (place c.bump.new.self) c.loop-inside.name.items c.push.new.self.items c.first.result
          goes c.bump.ensures.value c.in_ok-push.ensures.items c.first.ensures;
      same = c.loop-inside.invariant.same ∙ past_all_goes (place s) test goes ∙ ap (past_all test) (sym c.bump.ensures.value);
      moves = omega (arith, c.loop-inside.invariant.moves, lt);
    }

pub returns-clause-value : goal.returns-clause-value
returns-clause-value c =
    let s = c.loop-inside.cursor in
    let stops : passes (in_name c.args.inside) (place s) ≡ false = sym c.is_in_name.ensures.value ∙ c.loop-inside-test.false in
    sym (c.loop-inside.invariant.same ∙ past_all_stops (place s) (in_name c.args.inside) stops)

pub returns-clause-name : goal.returns-clause-name
returns-clause-name c =
    let s = c.loop-inside.cursor in
    let stops : passes (in_name c.args.inside) (place s) ≡ false = sym c.is_in_name.ensures.value ∙ c.loop-inside-test.false in
    sym (c.loop-inside.invariant.read ∙ ap (λ rest. c.loop-inside.name.items ++ rest) (leading-stops (in_name c.args.inside) (place s) stops)
    ∙ append-nil c.loop-inside.name.items)
