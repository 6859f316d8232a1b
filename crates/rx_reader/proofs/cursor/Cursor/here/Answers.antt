use Rattle.std.proofs.Common.{arith, refl, ap, sym}
use Rattle.rx_reader.specs.Input.{place}
use Rattle.rx_reader.specs.Reading.{Place}
use Rattle.rx_reader.proofs.lemmas.places.PlaceLemmas.{past_first}
use Rattle.rx_reader.proofs.cursor.Cursor.here.Goals as goal

pub overflow_add-result : goal.overflow_add-result
overflow_add-result c = omega (arith, c.args.self.now.narrow, c.in-Some.ensures.size, c.len_utf8.ensures.value)

pub returns-in-Some : goal.returns-in-Some
returns-in-Some c =
    let there = past_first (place c.args.self.now) _ c.in-Some.c c.len_utf8.result c.in-Some.ensures.parts c.len_utf8.ensures.value in
    (refl, sym (ap (λ (q : Place). q.at) there))
