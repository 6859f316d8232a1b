use Rattle.std.proofs.Common.{true, ◌≡◌, ◌≢◌, sym, ◌∙◌, ap, true≢false}
use Rattle.std.proofs.lemmas.Bool.Decides.{Decides-eqb}
use Rattle.rx_dfa.specs.Lazy.{LazyValue, dead_state, begun_key}
use Rattle.rx_dfa.proofs.lemmas.SameLemmas.{held-same}
use Rattle.rx_dfa.proofs.lemmas.RowsLemmas.{wide}
use Rattle.rx_dfa.proofs.lazy.automaton.LazyAutomaton.is_start.Goals as goal

pub returns-then-is_dead_state : goal.returns-then-is_dead_state
returns-then-is_dead_state c key h yes_is = absurd (true≢false (sym yes_is))

pub is_start_of-requires : goal.is_start_of-requires
is_start_of-requires c = c.requires.fits.rows

pub returns : goal.returns
returns c key h yes_is =
    let l = c.args.self.now in
    let keys = c.args.cache.now.rows.keys in
    let known = c.is_start_of.ensures yes_is in
    let apart : c.args.state ≢ dead_state =
    λ e. true≢false (sym ((Decides-eqb c.args.state dead_state).1 e) ∙ sym c.is_dead_state.ensures ∙ c.if-is_dead_state.false) in
    let start : c.start_anchored.result ≡ l.dfa.nfa.start_anchored =
    c.start_anchored.ensures.value ∙ ap (λ (v : LazyValue). v.dfa.nfa.start_anchored) c.self.view_is in (
      known.0,
      held-same l.stride (wide l c.stride-stride.ensures.sound) keys c.args.state key (begun_key l.dfa c.start_anchored.result true known.0) h known.1 apart
          ∙ ap (λ q. begun_key l.dfa q true known.0) start,
    )
