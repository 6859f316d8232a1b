use Rattle.std.proofs.Common.{arith, subst, take}
use Rattle.std.specs.Prelude.{All}
use Rattle.std.proofs.lemmas.List.{take_all}
use Rattle.std.proofs.lemmas.List.Elements.{All-more}
use Rattle.rx_nfa.specs.Named.{Spans}
use Rattle.rx_nfa.proofs.lemmas.prefixes.NamedLemmas.{Widens-trans, all-wider}
use Rattle.rx_nfa.proofs.prefixes.named.note_each.Goals as goal

pub loop-id-preserved : goal.loop-id-preserved
loop-id-preserved c =
    let before = c.loop-id.invariant in
    let old = c.loop-id.named.items in
    let new = c.note.new.named.items in
    record {
      spans = All-more (Spans new c.args.by) c.args.ids.now c.loop-id.id-index c.id-item.result (omega arith)
          (all-wider old new c.args.by (take c.loop-id.id-index c.args.ids.now) c.note.ensures.wider before.spans)
          (subst (Spans new c.args.by) c.id-item.is c.note.ensures.spans);
      wider = Widens-trans c.args.named.now.items old new before.wider c.note.ensures.wider;
    }

pub returns-clause-spans : goal.returns-clause-spans
returns-clause-spans c =
    subst (All (Spans c.loop-id.named.items c.args.by)) (take_all c.loop-id.id-index c.args.ids.now (omega arith)) c.loop-id.invariant.spans
