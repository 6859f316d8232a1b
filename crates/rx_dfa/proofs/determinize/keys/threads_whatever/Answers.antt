use Rattle.std.proofs.Common.{◌≡◌, ◌<◌, ◌++◌, [], length, sym, ◌∙◌, ap, subst}
use Rattle.std.specs.Prelude.{false}
use Rattle.std.proofs.lemmas.List.Elements.{All-nil}
use Rattle.rx_nfa.specs.Ordered.{AreBelow, resting, close}
use Rattle.rx_nfa.proofs.lemmas.lists.ClosureLemmas.{close-below, resting-below}
use Rattle.rx_determinize.specs.Key.{one_asks, reached}
use Rattle.rx_dfa.specs.Beside.{known}
use Rattle.rx_dfa.specs.declared.beside.Beside.TheVariants.{Unknown}
use Rattle.rx_dfa.proofs.lemmas.SpreadLemmas.{stay-same}
use Rattle.rx_dfa.proofs.determinize.keys.threads_whatever.Goals as goal

pub returns-clause-threads : goal.returns-clause-threads
returns-clause-threads c same holding =
    let states = c.args.states.now in
    let qs = c.args.from.now in
    let seen = c.close.new.walk.seen.items.items in
    let is : seen ≡ reached states qs = c.in_ok-close.ensures.closed in
    let silent : one_asks states seen ≡ false = sym (c.one_asks.ensures ∙ ap (one_asks states) c.as_slice.ensures.value) ∙ c.if-one_asks.false in
    let rests : c.resting.new.into.items ≡ resting states seen =
    c.in_ok-resting.ensures ∙ ap (λ xs. xs ++ resting states c.as_slice-2.result.now) c.clear.ensures.items ∙ ap (resting states) c.as_slice-2.ensures.value in
    stay-same states holding qs seen c.resting.new.into.items is silent rests

pub returns-clause-below : goal.returns-clause-below
returns-clause-below c =
    let states = c.args.states.now in
    let n = length states in
    let holding = known c.args.matcher.now Unknown in
    let seen = close states holding n c.args.from.now [] in
    let is : c.resting.new.into.items ≡ resting states seen =
    c.in_ok-resting.ensures ∙ ap (λ xs. xs ++ resting states c.as_slice-2.result.now) c.clear.ensures.items
    ∙ ap (resting states) (c.as_slice-2.ensures.value ∙ c.in_ok-close.ensures.closed) in
    subst (AreBelow n) (sym is)
    (resting-below n states seen (close-below states c.requires.names holding n c.args.from.now [] c.requires.from (All-nil (λ q. q < n))))
