use Rattle.std.proofs.Common.{◌≡◌, ◌∙◌, sym, refl, ℕ, [], false, arith, rules}
use Rattle.std.proofs.lemmas.Bool.Decides.{nat_tests}
use Rattle.std.specs.Prelude.{◌≢◌, chars, nat_eq}
use Rattle.rx_reader.proofs.lemmas.places.CharsLemmas.{begins-goes, begins-stops, begins-none, begins-ends}
use Rattle.rx_reader.proofs.cursor.front.begins_with.Goals as goal

other : (c d : ℕ) → d ≢ c → nat_eq c d ≡ false
other c d differs = grind (arith, nat_tests)

pub loop-c-init : goal.loop-c-init
loop-c-init c = (search rules, refl)

pub loop-c-preserved : goal.loop-c-preserved
loop-c-preserved c = (
  search rules,
  sym (begins-goes _ _ c.args.word.now c.loop-c.c-index c.c-item.result c.in-Some.first c.in-Some.ensures.parts c.loop-c-test.true c.c-item.is
      c.if-first-c.true)
      ∙ c.loop-c.invariant.1,
)

pub returns-in_default : goal.returns-in_default
returns-in_default c =
    sym (begins-stops _ _ c.args.word.now c.loop-c.c-index c.c-item.result c.in-Some.first c.in-Some.ensures.parts c.loop-c-test.true c.c-item.is
    (other c.c-item.result c.in-Some.first c.if-first-c.false))
    ∙ c.loop-c.invariant.1

pub returns-in_default-2 : goal.returns-in_default-2
returns-in_default-2 c =
    let none : chars c.loop-c.rest.now ≡ [] = search rules in
    sym (begins-none _ c.args.word.now c.loop-c.c-index c.c-item.result none c.loop-c-test.true c.c-item.is) ∙ c.loop-c.invariant.1

pub returns : goal.returns
returns c = sym (begins-ends _ c.args.word.now c.loop-c.c-index c.loop-c-test.false) ∙ c.loop-c.invariant.1
