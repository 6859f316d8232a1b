use Rattle.std.proofs.Common.{sym, subst}
use Rattle.rx_nfa.specs.Draft.{Draft, AreInRange, pushed}
use Rattle.rx_nfa.proofs.lemmas.parts.AcceptLemmas.{AreInRange-pushed}
use Rattle.rx_nfa.proofs.builder.Builder.push.Goals as goal

pub invariant_of-self-2 : goal.invariant_of-self-2
invariant_of-self-2 c =
    let old : AreInRange c.args.self.now = subst AreInRange c.self.view_is c.self.invariant in
    let new = AreInRange-pushed c.args.self.now c.args.state c.requires.within c.requires.own c.requires.sorted c.requires.silent c.requires.names old
    c.requires.room in
    let here = subst (λ (d : Draft). AreInRange (pushed d c.args.state)) (sym c.self.view_is) new in
    subst (λ states. AreInRange (record {
      states = states;
      groups = c.self.inside.group_info;
      slots = c.self.inside.written_len;
      accepted = c.self.inside.accepted;
    })) (sym c.in_ok-push.ensures.items) here
