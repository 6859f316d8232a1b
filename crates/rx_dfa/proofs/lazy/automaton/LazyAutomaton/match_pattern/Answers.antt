use Rattle.std.proofs.Common.{◌≡◌, ◌<◌, ◌/◌, length, sym, ◌∙◌, ap, subst}
use Rattle.std.proofs.lemmas.Bool.Decides.{Decides-eqb}
use Rattle.std.proofs.lemmas.Option.{slice_get_within}
use Rattle.std.specs.Prelude.{slice_get}
use Rattle.rx_dfa.specs.Lazy.{dead_state, row_of}
use Rattle.rx_dfa.proofs.lemmas.CourseLemmas.{dead-matches}
use Rattle.rx_dfa.proofs.lemmas.HeldLemmas.{alive-apart, held-dead, held-row}
use Rattle.rx_dfa.proofs.lazy.automaton.LazyAutomaton.match_pattern.Goals as goal

pub returns-then-is_dead_state : goal.returns-then-is_dead_state
returns-then-is_dead_state c key h =
    let dead : c.args.state ≡ dead_state = (Decides-eqb c.args.state dead_state).0 (sym c.is_dead_state.ensures ∙ c.if-is_dead_state.true) in
    ap (λ ms. slice_get ms c.args.index) (sym (dead-matches key (held-dead _ _ c.args.state key h dead)))

pub pattern-requires : goal.pattern-requires
pattern-requires c =
    let l = c.args.self.now in
    let keys = c.args.cache.now.rows.keys in
    let apart = alive-apart c.args.state (sym c.is_dead_state.ensures ∙ c.if-is_dead_state.false) in
    let row : c.place_of.result / c.stride.result ≡ row_of l.stride c.args.state = λ j. c.place_of.ensures j / c.stride.ensures.value j in
    let held = held-row l.stride keys c.args.state c.requires.0 c.requires.1 apart in
    subst (λ n. n < length keys) (sym row) (slice_get_within keys (row_of l.stride c.args.state) c.requires.0 held.0)

pub returns : goal.returns
returns c key h =
    let l = c.args.self.now in
    let keys = c.args.cache.now.rows.keys in
    let apart = alive-apart c.args.state (sym c.is_dead_state.ensures ∙ c.if-is_dead_state.false) in
    let row : c.place_of.result / c.stride.result ≡ row_of l.stride c.args.state = λ j. c.place_of.ensures j / c.stride.ensures.value j in
    let held = held-row l.stride keys c.args.state key h apart in
    c.pattern.ensures key (ap (slice_get keys) row ∙ held.0)
