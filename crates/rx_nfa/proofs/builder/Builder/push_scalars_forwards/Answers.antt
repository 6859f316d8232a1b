use Rattle.std.proofs.Common.{◌≡◌, subst, refl, ap, arith, length, sym}
use Rattle.rx_model.specs.Graph.{build_state, set}
use Rattle.rx_model.specs.Text.{scalar_ranges}
use Rattle.rx_nfa.specs.Built.{Built}
use Rattle.rx_nfa.specs.Draft.{Draft}
use Rattle.rx_nfa.proofs.lemmas.parts.SetLemmas.{Built-scalars, AreInRange-adds}
use Rattle.rx_nfa.proofs.lemmas.parts.AccountedLemmas.{cost_of_class-accounted}
use Rattle.rx_class.specs.Ranges.{AreScalarRanges}
use Rattle.rx_nfa.proofs.builder.Builder.push_scalars_forwards.Goals as goal

pub compile_class-requires-clause-room : goal.compile_class-requires-clause-room
compile_class-requires-clause-room c =
    let long : length c.self.inside.states.items ≡ length c.args.self.now.states = ap (λ (d : Draft). length d.states) c.self.view_is in
    let cost = cost_of_class-accounted c.args.scalars.now c.ranges-ranges.ensures.fewest in
    let room = c.requires.room in
    rw (c.replace-states.ensures.value, c.ranges-ranges.ensures.value) (omega arith)

pub invariant_of-self-2 : goal.invariant_of-self-2
invariant_of-self-2 c =
    let adds = rw c.replace-states.ensures.value at c.in_ok-start.ensures.grows in
    let closed = rw c.replace-states.ensures.value at c.in_ok-start.ensures.closed in
    let count = rw (c.replace-states.ensures.value, c.ranges-ranges.ensures.value) at c.in_ok-start.ensures.count in
    let long : length c.self.inside.states.items ≡ length c.args.self.now.states = ap (λ (d : Draft). length d.states) c.self.view_is in
    let cost = cost_of_class-accounted c.args.scalars.now c.ranges-ranges.ensures.fewest in
    let room = c.requires.room in
    AreInRange-adds c.self.inside.group_info c.self.inside.written_len c.self.inside.accepted c.self.inside.states.items c.compile_class.new.states.items c.self.invariant adds
    (closed (omega arith) c.self.invariant.names) (omega arith)

pub returns-clause-built : goal.returns-clause-built
returns-clause-built c =
    let adds = rw c.replace-states.ensures.value at c.in_ok-start.ensures.grows in
    let class = rw (c.replace-states.ensures.value, c.ranges-ranges.ensures.value) at c.in_ok-start.ensures.built in
    let new : Draft = record { states = c.compile_class.new.states.items; groups = c.self.inside.group_info; slots = c.self.inside.written_len; accepted = c.self.inside.accepted } in
    subst (λ d. Built (build_state (set (scalar_ranges c.args.scalars.now))) c.args.next d new c.in_ok-start.start) c.self.view_is
    (Built-scalars c.args.scalars.now c.args.next (record {
      states = c.self.inside.states.items;
      groups = c.self.inside.group_info;
      slots = c.self.inside.written_len;
      accepted = c.self.inside.accepted;
    }) new c.in_ok-start.start refl refl refl adds class)

pub returns-clause-count : goal.returns-clause-count
returns-clause-count c =
    let count = rw (c.replace-states.ensures.value, c.ranges-ranges.ensures.value) at c.in_ok-start.ensures.count in
    let long : length c.self.inside.states.items ≡ length c.args.self.now.states = ap (λ (d : Draft). length d.states) c.self.view_is in
    let cost = cost_of_class-accounted c.args.scalars.now c.ranges-ranges.ensures.fewest in
    omega arith

pub compile_class-requires-clause-fewest : goal.compile_class-requires-clause-fewest
compile_class-requires-clause-fewest c = subst AreScalarRanges (sym c.ranges-ranges.ensures.value) c.ranges-ranges.ensures.fewest
