use Rattle.std.proofs.Common.{◌+◌, ◌≤◌, ◌∙◌, sym, ap, subst, arith, length}
use Rattle.std.specs.Prelude.{IfOk, OnOk}
use Rattle.rx_model.specs.Text.{scalar_ranges}
use Rattle.rx_search.specs.Limits.{id_limit}
use Rattle.rx_nfa.specs.Built.{Built}
use Rattle.rx_nfa.specs.Directed.{build_class, build_all, build_joined, scalar_digits}
use Rattle.rx_nfa.specs.Ranges.{cost_of_class}
use Rattle.rx_nfa.proofs.lemmas.parts.AccountedLemmas.{cost_of_class-accounted}
use Rattle.rx_class.specs.Ranges.{AreScalarRanges}
use Rattle.rx_nfa.proofs.builder.Builder.push_scalars.Goals as goal

pub compile_class_backwards-requires-clause-fits : goal.compile_class_backwards-requires-clause-fits
compile_class_backwards-requires-clause-fits c =
    let cost = cost_of_class-accounted c.args.scalars.now c.ranges-ranges.ensures.fewest in
    let room = c.requires.room in
    subst (λ rs. length c.args.self.now.states + cost_of_class rs ≤ id_limit) (sym c.ranges-ranges.ensures.value) (omega arith)

pub returns-then-backwards-clause-built : goal.returns-then-backwards-clause-built
returns-then-backwards-clause-built c =
    subst
    (λ b. IfOk c.compile_class_backwards.result (λ start. Built (build_class b (scalar_ranges c.args.scalars.now)) c.args.next c.args.self.now
    c.compile_class_backwards.new.builder start)) (sym c.if-backwards.true)
    (subst
    (λ rs. IfOk c.compile_class_backwards.result (λ start. Built (build_joined (build_all (scalar_digits rs))) c.args.next c.args.self.now
    c.compile_class_backwards.new.builder start)) c.ranges-ranges.ensures.value c.compile_class_backwards.ensures.built)

pub returns-then-backwards-clause-count : goal.returns-then-backwards-clause-count
returns-then-backwards-clause-count c =
    let cost = ap cost_of_class c.ranges-ranges.ensures.value ∙ cost_of_class-accounted c.args.scalars.now c.ranges-ranges.ensures.fewest in
    subst (λ n. OnOk c.compile_class_backwards.result (length c.compile_class_backwards.new.builder.states ≤ length c.args.self.now.states + n)) cost
    c.compile_class_backwards.ensures.count

pub returns-clause-built : goal.returns-clause-built
returns-clause-built c =
    subst
    (λ b. IfOk c.push_scalars_forwards.result (λ start. Built (build_class b (scalar_ranges c.args.scalars.now)) c.args.next c.args.self.now
    c.push_scalars_forwards.new.self start)) (sym c.if-backwards.false)
    c.push_scalars_forwards.ensures.built

pub compile_class_backwards-requires-clause-fewest : goal.compile_class_backwards-requires-clause-fewest
compile_class_backwards-requires-clause-fewest c = subst AreScalarRanges (sym c.ranges-ranges.ensures.value) c.ranges-ranges.ensures.fewest
