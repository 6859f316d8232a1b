use Rattle.std.proofs.Common.{◌≡◌, ◌<◌, ◌≤◌, sym, subst, length}
use Rattle.std.proofs.lemmas.Result.{IfOk-from_err}
use Rattle.std.specs.Prelude.{All}
use Rattle.std.specs.List.{list_any}
use Rattle.rx_model.specs.Look.{Look}
use Rattle.rx_search.specs.GroupInfo.{slot_count}
use Rattle.rx_search.specs.LookSet.{has}
use Rattle.rx_search.specs.Limits.{id_limit}
use Rattle.rx_nfa.specs.Automaton.{asks_for}
use Rattle.rx_nfa.specs.ByteClasses.{AreClassesOf}
use Rattle.rx_nfa.specs.Draft.{Draft, AreInRange}
use Rattle.rx_nfa.proofs.lemmas.parts.FinishLemmas.{made-in_range, made-is}
use Rattle.rx_nfa.proofs.builder.Builder.finish.Goals as goal

pub new-requires : goal.new-requires
new-requires c =
    let same = sym c.self.view_is in
    let asked = subst (λ ss. (kind : Look) → has c.looks_of-look_set_any.result kind ≡ list_any (asks_for kind) ss) c.deref.ensures.value
    c.looks_of-look_set_any.ensures in
    let told = subst (λ t. AreClassesOf t c.self.inside.states.items c.classes_of-byte_classes.result) c.get_line_terminator.ensures
    (subst (λ ss. AreClassesOf c.get_line_terminator.result ss c.classes_of-byte_classes.result) c.deref-2.ensures.value c.classes_of-byte_classes.ensures) in
    made-in_range _ _ _ _ _ _ _ _ _ _ _ _ c.self.invariant
    (subst (λ (d : Draft). c.args.start_anchored < length d.states) same c.requires.start)
    (subst (λ (d : Draft). All (λ q. q < length d.states) c.args.starts.items) same c.requires.starts)
    (subst (λ (d : Draft). length c.args.starts.items ≡ length d.groups) same c.requires.patterns)
    (subst (λ (d : Draft). length d.groups ≤ id_limit) same c.requires.few)
    (subst (λ (d : Draft). d.slots ≤ slot_count d.groups) same c.requires.slots)
    c.requires.accounted c.slot_len-slot_len.ensures.value asked told

pub returns-clause-value : goal.returns-clause-value
returns-clause-value c =
    made-is _ _ _ _ _ _ _ _ _ _ _ _ _ c.in_ok-nfa.nfa c.self.view_is c.slot_len-slot_len.ensures.value c.in_ok-nfa.ensures

pub returns-clause-within : goal.returns-clause-within
returns-clause-within c = let range : AreInRange c.args.self = subst AreInRange c.self.view_is c.self.invariant in range.within

pub returns-in_err-nfa-clause-value : goal.returns-in_err-nfa-clause-value
returns-in_err-nfa-clause-value c = IfOk-from_err c.from_residual.result _ c.from_residual.ensures.0

pub returns-in_err-nfa-clause-in_range : goal.returns-in_err-nfa-clause-in_range
returns-in_err-nfa-clause-in_range c = IfOk-from_err c.from_residual.result _ c.from_residual.ensures.0

pub returns-in_err-nfa-clause-within : goal.returns-in_err-nfa-clause-within
returns-in_err-nfa-clause-within c = IfOk-from_err c.from_residual.result _ c.from_residual.ensures.0
