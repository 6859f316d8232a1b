use Rattle.std.proofs.Common.{◌≡◌, ◌<◌, ◌++◌, length, sym, ◌∙◌, ap, subst}
use Rattle.std.proofs.lemmas.List.Elements.{All-append}
use Rattle.rx_nfa.specs.Ordered.{AreBelow, begun}
use Rattle.rx_nfa.proofs.lemmas.lists.LaterLemmas.{begun-below}
use Rattle.rx_determinize.specs.Key.{arrived, settled}
use Rattle.rx_dfa.proofs.determinize.Source.arrive.Goals as goal

pub arrived-requires-clause-from : goal.arrived-requires-clause-from
arrived-requires-clause-from c =
    let s = c.args.self.now in
    let k = c.args.reached.now in
    let n = length s.states.now in
    let over = c.in_ok-extend_from_slice.ensures.items ∙ (λ j. c.clear.ensures.items j ++ c.as_slice.ensures.value j) in
    let is : c.as_slice-2.result.now ≡ k.threads.items ++ begun s.start k.loops =
    c.as_slice-2.ensures.value ∙ c.in_ok-begin.ensures ∙ ap (λ xs. xs ++ begun s.start k.loops) over in
    subst (AreBelow n) (sym is)
    (All-append (λ q. q < n) k.threads.items (begun s.start k.loops) c.requires.below (begun-below n s.start k.loops c.requires.whole.start))

pub returns-clause-key : goal.returns-clause-key
returns-clause-key c =
    let s = c.args.self.now in
    let k = c.args.reached.now in
    let over = c.in_ok-extend_from_slice.ensures.items ∙ (λ j. c.clear.ensures.items j ++ c.as_slice.ensures.value j) in
    let is : c.as_slice-2.result.now ≡ k.threads.items ++ begun s.start k.loops =
    c.as_slice-2.ensures.value ∙ c.in_ok-begin.ensures ∙ ap (λ xs. xs ++ begun s.start k.loops) over in
    let threads : c.arrived.new.into.items ≡ arrived s.states.now (k.threads.items ++ begun s.start k.loops) =
    c.in_ok-arrived.ensures.arrived ∙ ap (arrived s.states.now) is in
    let matches = c.in_ok-extend_from_slice-2.ensures.items ∙ (λ j. c.clear-2.ensures.items j ++ c.as_slice-3.ensures.value j) in
    c.settle.ensures.settled ∙ (λ j. settled s.kind s.states.now (threads j) k.loops (matches j) k.before)
