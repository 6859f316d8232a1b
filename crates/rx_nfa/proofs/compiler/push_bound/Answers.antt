use Rattle.std.proofs.Common.{◌≡◌, ◌∙◌, sym, ap, subst, length, ◌<◌, ◌+◌, [], arith}
use Rattle.std.specs.Prelude.{IfOk, All}
use Rattle.rx_model.specs.Graph.{build_state}
use Rattle.rx_nfa.specs.Built.{Built, bound}
use Rattle.rx_nfa.specs.Draft.{pushed}
use Rattle.rx_nfa.specs.declared.state.State.TheVariants.{Union, Capture as Slot}
use Rattle.rx_nfa.proofs.lemmas.parts.ResultLemmas.{IfOk-both}
use Rattle.rx_nfa.proofs.lemmas.parts.SlotLemmas.{Built-slot, Built-way}
use Rattle.rx_nfa.proofs.lemmas.parts.CompileLemmas.{pushed-inside, pushed-count}
use Rattle.std.proofs.lemmas.List.Elements.{All-push, All-nil}
use Rattle.rx_nfa.proofs.compiler.push_bound.Goals as goal

pub returns-in-Some-clause-built : goal.returns-in-Some-clause-built
returns-in-Some-clause-built c =
    let old = c.args.builder.now in
    let new = c.push.new.self in
    subst (λ o. IfOk c.push.result (λ start. Built (build_state (bound o)) c.args.next c.args.builder.now c.push.new.self start)) (sym c.in-Some.is)
    (IfOk-both (λ id. id ≡ length c.args.builder.now.states)
    (λ id. c.push.new.self ≡ pushed c.args.builder.now (Slot c.args.next c.args.pattern c.in-Some.slot)) _
    c.push.result c.push.ensures.id c.push.ensures.states
    (λ q id is. Built-slot c.in-Some.slot c.args.pattern c.args.next old new q id is))

pub returns-in_ok-alternates-in-None-clause-built : goal.returns-in_ok-alternates-in-None-clause-built
returns-in_ok-alternates-in-None-clause-built c =
    let old = c.args.builder.now in
    let new = c.push-in-None.new.self in
    subst (λ o. IfOk c.push-in-None.result (λ start. Built (build_state (bound o)) c.args.next c.args.builder.now c.push-in-None.new.self start))
    (sym c.in-None.is)
    (IfOk-both (λ id. id ≡ length c.args.builder.now.states)
    (λ id. c.push-in-None.new.self ≡ pushed c.args.builder.now (Union c.in_ok-alternates-in-None.alternates)) _
    c.push-in-None.result c.push-in-None.ensures.id c.push-in-None.ensures.states
    (λ q id is. Built-way c.args.next old new q id (is ∙ ap (λ qs. pushed old (Union qs)) c.in_ok-alternates-in-None.ensures)))

pub push-requires-in-None-clause-names : goal.push-requires-in-None-clause-names
push-requires-in-None-clause-names c =
    subst (All (λ q. q < length c.args.builder.now.states)) (sym c.in_ok-alternates-in-None.ensures)
    (All-push (λ q. q < length c.args.builder.now.states) [] c.args.next (All-nil (λ q. q < length c.args.builder.now.states)) c.requires.next)

pub returns-in-Some-clause-inside : goal.returns-in-Some-clause-inside
returns-in-Some-clause-inside c = pushed-inside c.args.builder.now c.push.new.self _ c.push.result c.push.ensures.id c.push.ensures.states

pub returns-in-Some-clause-count : goal.returns-in-Some-clause-count
returns-in-Some-clause-count c =
    pushed-count c.args.builder.now c.push.new.self _ c.push.result (length c.args.builder.now.states + 1) (omega arith) c.push.ensures.states

pub returns-in_ok-alternates-in-None-clause-inside : goal.returns-in_ok-alternates-in-None-clause-inside
returns-in_ok-alternates-in-None-clause-inside c =
    pushed-inside c.args.builder.now c.push-in-None.new.self _ c.push-in-None.result c.push-in-None.ensures.id c.push-in-None.ensures.states

pub returns-in_ok-alternates-in-None-clause-count : goal.returns-in_ok-alternates-in-None-clause-count
returns-in_ok-alternates-in-None-clause-count c =
    pushed-count c.args.builder.now c.push-in-None.new.self _ c.push-in-None.result (length c.args.builder.now.states + 1) (omega arith)
    c.push-in-None.ensures.states
