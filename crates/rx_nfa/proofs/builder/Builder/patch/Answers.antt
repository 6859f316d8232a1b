use Rattle.std.proofs.Common.{sym, subst}
use Rattle.rx_nfa.specs.Draft.{Draft, AreInRange, patched}
use Rattle.rx_nfa.proofs.lemmas.parts.AcceptLemmas.{AreInRange-patched}
use Rattle.rx_nfa.proofs.builder.Builder.patch.Goals as goal

pub invariant_of-self : goal.invariant_of-self
invariant_of-self c =
    let old : AreInRange c.args.self.now = subst AreInRange c.self.view_is c.self.invariant in
    let new = AreInRange-patched c.args.self.now c.args.state c.requires.within c.requires.own c.requires.sorted c.requires.silent c.requires.names old
    c.args.id c.requires.inside in
    let here = subst (λ (d : Draft). AreInRange (patched d c.args.id c.args.state)) (sym c.self.view_is) new in
    subst (λ k. AreInRange (patched (record {
      states = c.self.inside.states.items;
      groups = c.self.inside.group_info;
      slots = c.self.inside.written_len;
      accepted = c.self.inside.accepted;
    }) k c.args.state)) (sym c.as_usize.ensures.value) here
