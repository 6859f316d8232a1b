use Rattle.std.proofs.Common.{◌≡◌, subst, refl, ap, arith, length}
use Rattle.rx_model.specs.Graph.{build_state, set}
use Rattle.rx_model.specs.Text.{byte_ranges}
use Rattle.rx_nfa.specs.Built.{Built}
use Rattle.rx_nfa.specs.Draft.{Draft}
use Rattle.rx_nfa.proofs.lemmas.parts.SetLemmas.{Built-bytes, AreInRange-adds}
use Rattle.rx_nfa.proofs.builder.Builder.push_bytes.Goals as goal

pub invariant_of-self-2 : goal.invariant_of-self-2
invariant_of-self-2 c =
    let adds = rw c.replace-states.ensures.value at c.in_ok-start.ensures.grows in
    let closed = rw c.replace-states.ensures.value at c.in_ok-start.ensures.closed in
    let count = rw c.replace-states.ensures.value at c.in_ok-start.ensures.count in
    let long : length c.self.inside.states.items ≡ length c.args.self.now.states = ap (λ (d : Draft). length d.states) c.self.view_is in
    AreInRange-adds c.self.inside.group_info c.self.inside.written_len c.self.inside.accepted c.self.inside.states.items c.compile_bytes.new.states.items c.self.invariant adds
    (closed (omega arith) c.self.invariant.names) (omega arith)

pub returns-clause-built : goal.returns-clause-built
returns-clause-built c =
    let adds = rw c.replace-states.ensures.value at c.in_ok-start.ensures.grows in
    let class = rw (c.replace-states.ensures.value, c.ranges-2.ensures.value) at c.in_ok-start.ensures.built in
    let below = rw c.ranges-2.ensures.value at c.in_ok-start.ensures.bytes in
    let new : Draft = record { states = c.compile_bytes.new.states.items; groups = c.self.inside.group_info; slots = c.self.inside.written_len; accepted = c.self.inside.accepted } in
    subst (λ d. Built (build_state (set (byte_ranges c.args.bytes.now))) c.args.next d new c.in_ok-start.start) c.self.view_is
    (Built-bytes c.args.bytes.now c.args.next (record {
      states = c.self.inside.states.items;
      groups = c.self.inside.group_info;
      slots = c.self.inside.written_len;
      accepted = c.self.inside.accepted;
    }) new c.in_ok-start.start refl refl refl adds below class)

pub returns-clause-count : goal.returns-clause-count
returns-clause-count c =
    let count = rw c.replace-states.ensures.value at c.in_ok-start.ensures.count in
    let long : length c.self.inside.states.items ≡ length c.args.self.now.states = ap (λ (d : Draft). length d.states) c.self.view_is in
    omega arith
