use Rattle.std.proofs.Common.{◌+◌, ◌<◌, length, sym, ap, ◌∙◌, subst, arith}
use Rattle.std.specs.Option.{option_map}
use Rattle.rx_search.specs.Look.{kind_of}
use Rattle.rx_search.specs.LookSet.{kinds_from}
use Rattle.rx_search.proofs.LookSetLemmas.{kinds_from-has, kinds_from-lacks}
use Rattle.rx_search.proofs.look_set.LookSetIterIterator.next.Goals as goal

pub returns-then-contains-clause-steps : goal.returns-then-contains-clause-steps
returns-then-contains-clause-steps c =
    let it = c.loop-look.self-inside in
    let is = sym c.from_number.ensures ∙ ap (option_map kind_of) c.in-Some.is in
    sym c.loop-look.invariant
    ∙ kinds_from-has it.set it.number (kind_of c.in-Some.look) is (sym c.contains.ensures ∙ c.if-contains.true)

pub returns-then-contains-clause-goes : goal.returns-then-contains-clause-goes
returns-then-contains-clause-goes c =
    let it = c.loop-look.self-inside in
    record {
      on = λ _. (tt, tt, subst (λ ks. length (kinds_from it.set (it.number + 1)) < length ks) (sym (returns-then-contains-clause-steps c)) (omega arith));
      keeps = tt;
      rests = λ _. tt;
    }

pub loop-look-preserved : goal.loop-look-preserved
loop-look-preserved c =
    let it = c.loop-look.self-inside in
    let is = sym c.from_number.ensures ∙ ap (option_map kind_of) c.in-Some.is in
    sym (kinds_from-lacks it.set it.number (kind_of c.in-Some.look) is (sym c.contains.ensures ∙ c.if-contains.false))
    ∙ c.loop-look.invariant
