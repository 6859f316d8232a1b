use Rattle.std.proofs.Common.{◌≡◌, ◌<◌, ℕ, ◌++◌, length, sym, ◌∙◌, ap, subst}
use Rattle.std.specs.Prelude.{Bool, Option, Some}
use Rattle.std.proofs.lemmas.List.Elements.{All-append}
use Rattle.rx_model.specs.Look as model
use Rattle.rx_nfa.specs.Ordered.{AreBelow, threads_from, targets, begun}
use Rattle.rx_nfa.proofs.lemmas.lists.TargetLemmas.{targets-below}
use Rattle.rx_nfa.proofs.lemmas.lists.LaterLemmas.{begun-below}
use Rattle.rx_determinize.specs.Key.{arrived, settled, counting, looping, matching, key_over, step_key}
use Rattle.rx_dfa.proofs.lemmas.KeyLemmas.{counting-below}
use Rattle.rx_dfa.proofs.determinize.Source.step.Goals as goal

pub targets-requires : goal.targets-requires
targets-requires c =
    let s = c.args.self.now in
    subst (AreBelow (length s.states.now)) (sym (c.as_slice-3.ensures.value ∙ c.cut.ensures))
    (counting-below (length s.states.now) s.kind s.states.now c.stay.new.scratch.threads.items c.in_ok-stay.ensures.below)

pub arrived-requires-clause-from : goal.arrived-requires-clause-from
arrived-requires-clause-from c =
    let s = c.args.self.now in
    let n = length s.states.now in
    let counts = c.as_slice-3.ensures.value ∙ c.cut.ensures in
    let over : c.targets.new.into.items ≡ targets s.states.now c.args.byte c.as_slice-3.result.now =
    c.in_ok-targets.ensures ∙ ap (λ xs. xs ++ targets s.states.now c.args.byte c.as_slice-3.result.now) c.clear-2.ensures.items in
    let is : c.as_slice-4.result.now ≡ targets s.states.now c.args.byte c.as_slice-3.result.now ++ begun s.start c.looping-into.result =
    c.as_slice-4.ensures.value ∙ c.in_ok-begin.ensures ∙ ap (λ xs. xs ++ begun s.start c.looping-into.result) over in
    let below = subst (AreBelow n) (sym counts)
    (counting-below n s.kind s.states.now c.stay.new.scratch.threads.items c.in_ok-stay.ensures.below) in
    subst (AreBelow n) (sym is)
    (All-append (λ q. q < n) (targets s.states.now c.args.byte c.as_slice-3.result.now) (begun s.start c.looping-into.result)
    (targets-below s.states.now c.requires.whole.names c.args.byte c.as_slice-3.result.now below)
    (begun-below n s.start c.looping-into.result c.requires.whole.start))

pub returns-clause-key : goal.returns-clause-key
unfolding step_key
returns-clause-key c sight holds class =
    let s = c.args.self.now in
    let k = c.args.key.now in
    let qs = c.stay.new.scratch.threads.items in
    let goes_on = c.looping-into.result in
    let stays : qs ≡ threads_from s.states.now (sight.holds k.before (Some c.args.byte)) k.threads.items =
    c.in_ok-stay.ensures.threads
    ∙ ap (λ (h : Option ℕ → Option ℕ → model.Look → Bool). threads_from s.states.now (h k.before (Some c.args.byte)) k.threads.items) (sym holds) in
    let over : c.targets.new.into.items ≡ targets s.states.now c.args.byte (counting s.kind s.states.now qs) =
    c.in_ok-targets.ensures ∙ ap (λ xs. xs ++ targets s.states.now c.args.byte c.as_slice-3.result.now) c.clear-2.ensures.items
    ∙ ap (targets s.states.now c.args.byte) (c.as_slice-3.ensures.value ∙ c.cut.ensures) in
    let threads : c.arrived.new.into.items
    ≡ arrived s.states.now (targets s.states.now c.args.byte (counting s.kind s.states.now qs) ++ begun s.start goes_on) =
    c.in_ok-arrived.ensures.arrived
    ∙ ap (arrived s.states.now) (c.as_slice-4.ensures.value ∙ c.in_ok-begin.ensures ∙ ap (λ xs. xs ++ begun s.start goes_on) over) in
    let matches : c.matching.new.into.items ≡ matching s.kind s.states.now qs =
    c.in_ok-matching.ensures ∙ ap (matching s.kind s.states.now) c.as_slice.ensures.value in
    let loops : goes_on ≡ looping s.kind s.states.now qs k.loops =
    c.looping-into.ensures ∙ ap (λ xs. looping s.kind s.states.now xs k.loops) c.as_slice-2.ensures.value in
    c.settle.ensures.settled ∙ (λ j. settled s.kind s.states.now (threads j) goes_on (matches j) c.args.before)
    ∙ ap (λ (b : Bool). settled s.kind s.states.now
    (arrived s.states.now (targets s.states.now c.args.byte (counting s.kind s.states.now qs) ++ begun s.start b)) b
    (matching s.kind s.states.now qs) c.args.before) loops
    ∙ ap (λ xs. key_over s.kind s.states.now s.start k.loops c.args.byte c.args.before xs) stays
    ∙ ap (λ (o : Option ℕ). key_over s.kind s.states.now s.start k.loops c.args.byte o
    (threads_from s.states.now (sight.holds k.before (Some c.args.byte)) k.threads.items)) (sym class)
