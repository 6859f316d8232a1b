use Rattle.std.proofs.Common.{◌≡◌, suc, ◌+◌, ◌++◌, ◌∷◌, [], sym, subst, arith}
use Rattle.rx_nfa.specs.Draft.{Draft, AreInRange, accepting}
use Rattle.rx_nfa.specs.declared.state.State.TheVariants.{Match}
use Rattle.rx_nfa.proofs.lemmas.parts.AcceptingLemmas.{AreInRange-accepting}
use Rattle.rx_nfa.proofs.builder.Builder.push_match.Goals as goal

pub invariant_of-self-2 : goal.invariant_of-self-2
invariant_of-self-2 c =
    let old : AreInRange c.args.self.now = subst AreInRange c.self.view_is c.self.invariant in
    let new = AreInRange-accepting c.args.self.now c.args.pattern c.requires.there c.requires.new old c.requires.room in
    let here = subst (λ (d : Draft). AreInRange (accepting d c.args.pattern)) (sym c.self.view_is) new in
    let is = c.as_usize.ensures.value in
    let next : suc c.args.pattern ≡ c.as_usize.result + 1 = omega arith in
    let states = c.self.inside.states.items ++ Match c.args.pattern ∷ [] in
    subst (λ states. AreInRange (record {
      states = states;
      groups = c.self.inside.group_info;
      slots = c.self.inside.written_len;
      accepted = c.as_usize.result + 1;
    })) (sym c.in_ok-push.ensures.items)
    (subst (λ accepted. AreInRange (record {
      states = states;
      groups = c.self.inside.group_info;
      slots = c.self.inside.written_len;
      accepted = accepted;
    })) next here)
