-- Parts that ask whether a look-around holds.
use Rattle.std.proofs.Common.{◌≡◌, ℕ, refl, sym, subst, arith, length}
use Rattle.rx_model.specs.Graph as graph
use Rattle.rx_search.specs.Look.{kind_of}
use Rattle.rx_search.specs.declared.look.Look.{Look}
use Rattle.rx_nfa.specs.Draft.{Draft, pushed}
use Rattle.rx_nfa.specs.States.{Stands}
use Rattle.rx_nfa.specs.Built.{Built}
use Rattle.rx_nfa.specs.declared.state.State.TheVariants.{Look as Looks}
use Rattle.rx_nfa.proofs.lemmas.parts.BuiltLemmas.{Stands-pushed, Extends-pushed, Built-state, pushed-length}

pub Built-look : (look : Look) (next : ℕ) (old new : Draft) (q : ℕ) → q ≡ length old.states → new ≡ pushed old (Looks look next)
    → Built (graph.build_state (graph.assertion (kind_of look))) next old new q
Built-look look next old new q id is =
    subst (Built (graph.build_state (graph.assertion (kind_of look))) next old new) (sym id)
    (subst (λ d. Built (graph.build_state (graph.assertion (kind_of look))) next old d (length old.states)) (sym is)
    (Built-state (graph.assertion (kind_of look)) next old (pushed old (Looks look next)) (length old.states) (Extends-pushed old (Looks look next))
    (omega arith) (let l = pushed-length old (Looks look next) in omega arith)
    (λ f next' same. (
      look,
      refl,
      subst (λ n. Stands (length old.states) (pushed old (Looks look next)).states (length old.states) (Looks look n)) (sym same)
          (Stands-pushed old (Looks look next)),
    ))))
