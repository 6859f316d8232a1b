use Rattle.std.proofs.Common.{◌≡◌, ◌<◌, ◌≤◌, sym, ◌∙◌, ap, arith}
use Rattle.std.proofs.lemmas.Bool.Decides.{nat_tests}
use Rattle.std.specs.Prelude.{true, false, not, nat_lt}
use Rattle.rx_dfa.specs.Lazy.{offsets}
use Rattle.rx_dfa.proofs.lemmas.HeldLemmas.{plain-empty, tells-match}
use Rattle.rx_dfa.proofs.lazy.automaton.LazyAutomaton.is_match.Goals as goal

pub returns-then-is_plain : goal.returns-then-is_plain
returns-then-is_plain c key h =
    let test : nat_lt c.args.state offsets ≡ true = sym c.is_plain.ensures ∙ c.if-is_plain.true in
    let low : c.args.state < offsets = grind (arith, nat_tests) in
    sym (ap not (plain-empty _ _ c.args.state key h low).0)

pub returns : goal.returns
returns c key h =
    let test : nat_lt c.args.state offsets ≡ false = sym c.is_plain.ensures ∙ c.if-is_plain.false in
    let high : offsets ≤ c.args.state = grind (arith, nat_tests) in
    ap not c.is_dead_state.ensures ∙ tells-match _ _ c.args.state key h high
