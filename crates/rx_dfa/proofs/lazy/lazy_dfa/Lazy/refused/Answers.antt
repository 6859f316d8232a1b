use Rattle.std.proofs.Common.{◌≡◌, sym, ◌∙◌, subst, rules}
use Rattle.std.specs.Prelude.{Some}
use Rattle.rx_dfa.specs.Automaton.{IsReadable, MakesQuit}
use Rattle.rx_dfa.specs.Lazy.{LazyValue}
use Rattle.rx_dfa.proofs.lemmas.LazyLemmas.{reads-quits, reads-readable}
use Rattle.rx_dfa.proofs.lazy.lazy_dfa.Lazy.refused.Goals as goal

pub returns-clause-some : goal.returns-clause-some
returns-clause-some c =
    let b = c.in-Some.byte in
    let s = c.self.inside in
    let is : c.args.byte ≡ Some b = search rules in (
      is,
      subst (λ (v : LazyValue). MakesQuit v.dfa.nfa b) c.self.view_is
          (reads-quits s.nfa s.alphabet.words b c.self.invariant.1.1.words (sym c.reads.ensures ∙ c.if-reads.false)),
    )

pub returns-then-reads-clause-none : goal.returns-then-reads-clause-none
returns-then-reads-clause-none c =
    let b = c.in-Some.byte in
    let s = c.self.inside in
    let is : c.args.byte ≡ Some b = search rules in
    subst (λ (v : LazyValue). IsReadable v.dfa.nfa c.args.byte) c.self.view_is
    (subst (IsReadable s.nfa) (sym is) (reads-readable s.nfa s.alphabet.words b c.self.invariant.1.1.no_words (sym c.reads.ensures ∙ c.if-reads.true)))
