use Rattle.std.proofs.Common.{◌≡◌, ◌≤◌, ◌<◌, ◌∙◌, refl, sym, subst, arith, length, ap}
use Rattle.std.proofs.lemmas.Result.{IfOk-from_err}
use Rattle.std.specs.Prelude.{All}
use Rattle.std.proofs.lemmas.List.Elements.{All-weaker}
use Rattle.rx_nfa.specs.Automaton.{state_at}
use Rattle.rx_nfa.specs.Named.{Spans, last_in}
use Rattle.rx_nfa.specs.Prefixes.{LeadsInto}
use Rattle.rx_nfa.proofs.lemmas.prefixes.NamedLemmas.{Widens-trans, leads-wider, named-next}
use Rattle.rx_nfa.proofs.lemmas.runs.StateLemmas.{state-known}
use Rattle.std.proofs.lemmas.List.{length-replicate}
use Rattle.rx_nfa.specs.declared.prefixes.named.Named.{Named}
use Rattle.rx_nfa.proofs.prefixes.named.named_by.Goals as goal

pub returns-clause-named : goal.returns-clause-named
returns-clause-named c =
    let before = c.loop-by.invariant in
    let old = c.loop-by.named.items in
    let new = c.note_each.new.named.items in
    let wider = Widens-trans old c.note.new.named.items new c.note.ensures.wider c.note_each.ensures.wider in
    record {
      long = wider.long ∙ before.long;
      each = λ r lt. leads-wider old new r (state_at c.args.states.now r) wider (before.each r (omega arith));
    }

pub returns-clause-start : goal.returns-clause-start
returns-clause-start c = let noted = c.note.ensures.spans.1 in let wider = c.note_each.ensures.wider.last c.args.start in omega arith

pub returns-clause-starts : goal.returns-clause-starts
returns-clause-starts c =
    let all = length c.args.states.now in
    let new = c.note_each.new.named.items in
    All-weaker (Spans new all) (λ q. all ≤ last_in new q) (λ q s. s.1) c.args.starts.now c.note_each.ensures.spans

pub returns-in_err-named-clause-named : goal.returns-in_err-named-clause-named
returns-in_err-named-clause-named c = IfOk-from_err c.from_residual.result _ c.from_residual.ensures.0

pub returns-in_err-named-clause-start : goal.returns-in_err-named-clause-start
returns-in_err-named-clause-start c = IfOk-from_err c.from_residual.result _ c.from_residual.ensures.0

pub returns-in_err-named-clause-starts : goal.returns-in_err-named-clause-starts
returns-in_err-named-clause-starts c = IfOk-from_err c.from_residual.result _ c.from_residual.ensures.0

pub note-requires : goal.note-requires
note-requires c = let long = c.loop-by.invariant.long in let start = c.requires.start in omega arith

pub note_each-requires : goal.note_each-requires
note_each-requires c =
    let long : length c.note.new.named.items ≡ length c.args.states.now = c.note.ensures.wider.long ∙ c.loop-by.invariant.long in
    record { inside = subst (λ n. All (λ q. q < n) c.args.starts.now) (sym long) c.requires.starts }

pub loop-by-preserved : goal.loop-by-preserved
loop-by-preserved c =
    let before = c.loop-by.invariant in
    let noted = c.note_targets.ensures in
    let new = c.note_targets.new.named.items in
    let by = c.loop-by.by in
    let state = c.index-states-by.result in
    let known = state-known c.args.states.now by by state state refl (omega arith) c.index-states-by.is refl in
    record {
      long = noted.wider.long ∙ before.long;
      each = named-next c.args.states.now c.loop-by.named.items new by noted.wider before.each
          (subst (LeadsInto (Spans new by)) (sym known) noted.spans);
    }

pub loop-by-init : goal.loop-by-init
loop-by-init c = record {
  long = ap length (c.in_ok-named.ensures.items_if_clones_equal (λ y h. h)) ∙ length-replicate {A = Named} _ _;
  each = λ r lt. absurd (omega arith);
}
