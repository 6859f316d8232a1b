-- The automaton is a graph that engines can search: it is bounded, and no step goes back in the text.
use Rattle.std.proofs.Common.{◌≡◌, ℕ, zero, suc, ◌+◌, ◌≤◌, ◌<◌, List, [], ◌∷◌, Option, Some, None, refl, ap, arith}
use Rattle.std.specs.Prelude.{Bool, true, false, if◌then◌else◌, nat_lt, map, Contains, slice_index_or, is_some, length}
use Rattle.std.proofs.lemmas.Bool.Decides.{nat_tests}
use Rattle.rx_model.specs.Runs.{Configuration, IsBounded, NeverFalls}
use Rattle.rx_model.specs.Machine.{is_inside, graph_of}
use Rattle.rx_model.proofs.lemmas.runs.RunLemmas.{by_test}
use Rattle.rx_model.proofs.lemmas.runs.MachineLemmas.{graph_of-bounded}
use Rattle.rx_search.specs.Look.{kind_of}
use Rattle.rx_nfa.specs.Automaton.{at, route, go_on, read_byte, state_step, state_accepts, state_writes, state_at, Surroundings, machine, automaton_over}
use Rattle.rx_nfa.specs.declared.state.Transition.{Transition}
use Rattle.rx_nfa.specs.declared.state.State.{State}
use Rattle.rx_nfa.specs.declared.state.State.TheVariants.{ByteRange, Sparse, Look, Union, Capture, Fail, Match}
pub use Rattle.rx_model.proofs.lemmas.runs.MemberLemmas.{none-among as nothing_in, only-among as only-in}

pub automaton-bounded : (around : Surroundings) (states : List State) (end : ℕ) → IsBounded (automaton_over around states end)
unfolding automaton_over
automaton-bounded around states end = graph_of-bounded (machine around states end) end

-- each of these stays at the place
pub stays-in : (i : ℕ) (qs : List ℕ) (d : Configuration) → Contains (map (λ q. at q i) qs) d → i ≡ d.place
stays-in i qs d h = among qs h.0 h.1 h.2
  where
    among : (qs : List ℕ) (k : ℕ) → k < length (map (λ q. at q i) qs) → slice_index_or (map (λ q. at q i) qs) k d ≡ d → i ≡ d.place
    among [] k lt e = absurd (omega arith)
    among (q ∷ qs) zero lt e = ap (λ (x : Configuration). x.place) e
    among (q ∷ qs) (suc k) lt e = among qs k (omega arith) e

-- no step goes back in the text
pub automaton-rises : (around : Surroundings) (states : List State) (end : ℕ) → NeverFalls (automaton_over around states end)
unfolding automaton_over graph_of
automaton-rises around states end c d member =
    by_test (is_inside (machine around states end) end c)
    (λ e. steps (state_at states c.state) (rw e at member))
    (λ e. absurd (nothing_in d (rw e at member)))
  where
    reads : (ts : List Transition) → Contains (read_byte around.byte end ts c.place) d → c.place ≤ d.place
    reads ts h = by_test (nat_lt c.place end) (λ e. goes (route ts (around.byte c.place)) (rw e at h)) (λ e. absurd (nothing_in d (rw e at h)))
      where
        goes : (o : Option ℕ) → Contains (go_on o (c.place + 1)) d → c.place ≤ d.place
        goes None h = absurd (nothing_in d h)
        goes (Some t) h = let same : c.place + 1 ≡ d.place = ap (λ (x : Configuration). x.place) (only-in (at t (c.place + 1)) d h) in omega arith

    holding : (b : Bool) (next : ℕ) → Contains (if b then at next c.place ∷ [] else []) d → c.place ≤ d.place
    holding true next h = let same : c.place ≡ d.place = ap (λ (x : Configuration). x.place) (only-in (at next c.place) d h) in omega arith
    holding false next h = absurd (nothing_in d h)

    steps : (s : State) → Contains (state_step around end s c.place) d → c.place ≤ d.place
    steps (ByteRange low high next) h = reads (record { start = low; end = high; next = next } ∷ []) h
    steps (Sparse transitions) h = reads transitions h
    steps (Look look next) h = holding (around.looks (kind_of look) c.place) next h
    steps (Union alternates) h = let same = stays-in c.place alternates d h in omega arith
    steps (Capture next pattern slot) h = let same : c.place ≡ d.place = ap (λ (x : Configuration). x.place) (only-in (at next c.place) d h) in omega arith
    steps Fail h = absurd (nothing_in d h)
    steps (Match pattern) h = absurd (nothing_in d h)

-- only a place up to the end is accepted at
pub automaton-accepts-within : (around : Surroundings) (states : List State) (end : ℕ) (c : Configuration)
    → is_some ((automaton_over around states end).accepted c) ≡ true → c.place ≤ end
unfolding automaton_over graph_of
automaton-accepts-within around states end c accepts =
    by_test (is_inside (machine around states end) end c)
    (λ e. grind (arith, nat_tests))
    (λ e. none_accepts (rw e at accepts))
  where
    none_accepts : is_some {T = ℕ} None ≡ true → c.place ≤ end
    none_accepts h = cc

-- what the automaton does at a state that is there, up to the end
pub automaton-successors : (around : Surroundings) (states : List State) (end q i : ℕ) → q < length states → i ≤ end
    → (automaton_over around states end).successors (at q i) ≡ state_step around end (state_at states q) i
unfolding automaton_over graph_of
automaton-successors around states end q i lt le =
    let inside : is_inside (machine around states end) end (at q i) ≡ true = grind (arith, nat_tests) in rw inside refl

pub automaton-accepted : (around : Surroundings) (states : List State) (end q i : ℕ) → q < length states → i ≤ end
    → (automaton_over around states end).accepted (at q i) ≡ state_accepts (state_at states q)
unfolding automaton_over graph_of
automaton-accepted around states end q i lt le =
    let inside : is_inside (machine around states end) end (at q i) ≡ true = grind (arith, nat_tests) in rw inside refl

pub automaton-written : (around : Surroundings) (states : List State) (end q i : ℕ)
    → (automaton_over around states end).written (at q i) ≡ state_writes (state_at states q)
unfolding automaton_over graph_of
automaton-written around states end q i = refl

-- past the end nothing goes on, nor is accepted
pub automaton-successors-past : (around : Surroundings) (states : List State) (end q i : ℕ) → end < i
    → (automaton_over around states end).successors (at q i) ≡ []
unfolding automaton_over graph_of
automaton-successors-past around states end q i past =
    let outside : is_inside (machine around states end) end (at q i) ≡ false = grind (arith, nat_tests) in rw outside refl

pub automaton-accepted-past : (around : Surroundings) (states : List State) (end q i : ℕ) → end < i
    → (automaton_over around states end).accepted (at q i) ≡ None
unfolding automaton_over graph_of
automaton-accepted-past around states end q i past =
    let outside : is_inside (machine around states end) end (at q i) ≡ false = grind (arith, nat_tests) in rw outside refl

-- nor at a state that is not there
pub automaton-successors-beyond : (around : Surroundings) (states : List State) (end q i : ℕ) → length states ≤ q
    → (automaton_over around states end).successors (at q i) ≡ []
unfolding automaton_over graph_of
automaton-successors-beyond around states end q i past =
    let outside : is_inside (machine around states end) end (at q i) ≡ false = grind (arith, nat_tests) in rw outside refl

pub automaton-accepted-beyond : (around : Surroundings) (states : List State) (end q i : ℕ) → length states ≤ q
    → (automaton_over around states end).accepted (at q i) ≡ None
unfolding automaton_over graph_of
automaton-accepted-beyond around states end q i past =
    let outside : is_inside (machine around states end) end (at q i) ≡ false = grind (arith, nat_tests) in rw outside refl
