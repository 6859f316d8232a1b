use Rattle.std.proofs.Common.{arith, ◌≡◌, true, false, sym, subst}
use Rattle.std.proofs.lemmas.Grind.{common_steps}
use Rattle.std.proofs.lemmas.Bool.Decides.{nat_tests}
use Rattle.rx_reader.specs.Input.{place, Reads}
use Rattle.rx_reader.specs.Reading.{first}
use Rattle.rx_reader.specs.Escapes.{lettered, hex, property, known, one_letter}
use Rattle.rx_reader.proofs.escape.lettered.Goals as goal

pub returns-in-x-clause-value : goal.returns-in-x-clause-value
unfolding lettered
returns-in-x-clause-value c from start =
    let is : first (place c.args.cursor.now) ≡ 120 = grind (arith, common_steps) in
    let same : lettered from (place c.args.cursor.now) ≡ hex from 2 (place c.bump.new.self) = rw is (grind (arith, common_steps, nat_tests)) in
    subst (λ reading. Reads c.hex.result reading (place c.hex.new.cursor)) (sym same) (c.hex.ensures.value from start)

pub returns-in-u-clause-value : goal.returns-in-u-clause-value
unfolding lettered
returns-in-u-clause-value c from start =
    let is : first (place c.args.cursor.now) ≡ 117 = grind (arith, common_steps) in
    let same : lettered from (place c.args.cursor.now) ≡ hex from 4 (place c.bump-in-u.new.self) = rw is (grind (arith, common_steps, nat_tests)) in
    subst (λ reading. Reads c.hex-in-u.result reading (place c.hex-in-u.new.cursor)) (sym same) (c.hex-in-u.ensures.value from start)

pub returns-in-U-clause-value : goal.returns-in-U-clause-value
unfolding lettered
returns-in-U-clause-value c from start =
    let is : first (place c.args.cursor.now) ≡ 85 = grind (arith, common_steps) in
    let same : lettered from (place c.args.cursor.now) ≡ hex from 8 (place c.bump-in-U.new.self) = rw is (grind (arith, common_steps, nat_tests)) in
    subst (λ reading. Reads c.hex-in-U.result reading (place c.hex-in-U.new.cursor)) (sym same) (c.hex-in-U.ensures.value from start)

pub returns-in-p-clause-value : goal.returns-in-p-clause-value
unfolding lettered
returns-in-p-clause-value c from start =
    let is : first (place c.args.cursor.now) ≡ 112 = grind (arith, common_steps) in
    let same : lettered from (place c.args.cursor.now) ≡ property from false (place c.bump-in-p.new.self) = rw is (grind (arith, common_steps, nat_tests)) in
    subst (λ reading. Reads c.property.result reading (place c.property.new.cursor)) (sym same) (c.property.ensures.value from start)

pub returns-in-P-clause-value : goal.returns-in-P-clause-value
unfolding lettered
returns-in-P-clause-value c from start =
    let is : first (place c.args.cursor.now) ≡ 80 = grind (arith, common_steps) in
    let same : lettered from (place c.args.cursor.now) ≡ property from true (place c.bump-in-P.new.self) = rw is (grind (arith, common_steps, nat_tests)) in
    subst (λ reading. Reads c.property-in-P.result reading (place c.property-in-P.new.cursor)) (sym same) (c.property-in-P.ensures.value from start)

pub returns-in-b-clause-value : goal.returns-in-b-clause-value
unfolding lettered
returns-in-b-clause-value c from start = grind (arith, common_steps, nat_tests)

pub returns-in_default-clause-value : goal.returns-in_default-clause-value
unfolding lettered
returns-in_default-clause-value c from start =
    let same : lettered from (place c.args.cursor.now) ≡ known from (place c.args.cursor.now) (one_letter c.first-c.result) =
    grind (arith, common_steps, nat_tests) in
    subst (λ reading. Reads c.known.result reading (place c.known.new.cursor)) (sym same) (c.known.ensures.value from start)
