use Rattle.std.proofs.Common.{◌≡◌, ◌<◌, ◌++◌, [], length, sym, ◌∙◌, ap, subst}
use Rattle.std.proofs.lemmas.List.Elements.{All-nil}
use Rattle.rx_nfa.specs.Ordered.{AreBelow, resting, close}
use Rattle.rx_nfa.proofs.lemmas.lists.ClosureLemmas.{close-below, resting-below}
use Rattle.rx_dfa.specs.Beside.{known}
use Rattle.rx_dfa.specs.declared.beside.Beside.TheVariants.{Unknown}
use Rattle.rx_dfa.proofs.determinize.keys.arrived.Goals as goal

pub returns-clause-below : goal.returns-clause-below
returns-clause-below c =
    let states = c.args.states.now in
    let n = length states in
    let holding = known c.args.matcher.now Unknown in
    let seen = close states holding n c.args.from.now [] in
    let is : c.resting.new.into.items ≡ resting states seen =
    c.in_ok-resting.ensures ∙ ap (λ xs. xs ++ resting states c.as_slice-2.result.now) c.clear.ensures.items
    ∙ ap (resting states) (c.as_slice-2.ensures.value ∙ c.in_ok-close.ensures.closed) in
    subst (AreBelow n) (sym is)
    (resting-below n states seen (close-below states c.requires.names holding n c.args.from.now [] c.requires.from (All-nil (λ q. q < n))))
