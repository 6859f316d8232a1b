use Rattle.std.proofs.Common.{arith, subst, take}
use Rattle.std.specs.Prelude.{All}
use Rattle.std.proofs.lemmas.List.{take_all}
use Rattle.std.proofs.lemmas.List.Elements.{All-more, All-weaker}
use Rattle.rx_nfa.specs.Named.{Spans}
use Rattle.rx_nfa.specs.declared.state.Transition.{Transition}
use Rattle.rx_nfa.proofs.lemmas.prefixes.NamedLemmas.{Widens-trans, Spans-wider}
use Rattle.rx_nfa.proofs.prefixes.named.note_transitions.Goals as goal

pub loop-transition-preserved : goal.loop-transition-preserved
loop-transition-preserved c =
    let before = c.loop-transition.invariant in
    let old = c.loop-transition.named.items in
    let new = c.note.new.named.items in
    let by = c.args.by in
    record {
      spans = All-more (λ (t : Transition). Spans c.note.new.named.items c.args.by t.next) c.args.transitions.now c.loop-transition.transition-index
          c.transition-item.result (omega arith)
          (All-weaker (λ (t : Transition). Spans c.loop-transition.named.items c.args.by t.next)
          (λ (t : Transition). Spans c.note.new.named.items c.args.by t.next)
          (λ t k. Spans-wider old new by t.next c.note.ensures.wider k) (take c.loop-transition.transition-index c.args.transitions.now) before.spans)
          (subst (λ (t : Transition). Spans c.note.new.named.items c.args.by t.next) c.transition-item.is c.note.ensures.spans);
      wider = Widens-trans c.args.named.now.items old new before.wider c.note.ensures.wider;
    }

pub returns-clause-spans : goal.returns-clause-spans
returns-clause-spans c =
    subst (All (λ (t : Transition). Spans c.loop-transition.named.items c.args.by t.next))
    (take_all c.loop-transition.transition-index c.args.transitions.now (omega arith)) c.loop-transition.invariant.spans
