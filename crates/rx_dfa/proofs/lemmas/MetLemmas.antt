-- What a forward search met, from the state at which its runs start.
use Rattle.std.proofs.Common.{◌≡◌, ℕ, ◌-◌, List, length, refl, sym, ◌∙◌, ap, subst, inl, inr, true≢false}
use Rattle.std.specs.Prelude.{Bool, Option, Some, None, is_some}
use Rattle.rx_model.specs.Look.{byte_before}
use Rattle.rx_model.specs.Search.{is_permitted}
use Rattle.rx_search.specs.Input.{InputValue}
use Rattle.rx_search.specs.declared.anchored.MatchKind.{MatchKind}
use Rattle.rx_nfa.specs.Automaton.{Surroundings, forwards}
use Rattle.rx_nfa.specs.Nfa.{Nfa}
use Rattle.rx_nfa.specs.NextMatch.{start_of}
use Rattle.rx_determinize.specs.Key.{start_key}
use Rattle.rx_determinize.specs.Sight.{class_beside}
use Rattle.rx_determinize.specs.Span.{key_at, loops_in, SeesWhileAlive}
use Rattle.rx_determinize.specs.Permitted.{Progress, fresh, run_within}
use Rattle.rx_determinize.proofs.lemmas.DeadLemmas.{no-more-within}
use Rattle.rx_dfa.specs.Automaton.{Dfa, sight_of, no_key, key_from, first_key}
use Rattle.rx_dfa.specs.Course.{key_of, IsMetForwards}
use Rattle.rx_dfa.proofs.lemmas.LooplessLemmas.{start-loopless, key-loopless, run-loopless, sees-loopless, same-start}

module _ (d : Dfa) (v : InputValue) (x : Progress) (m : IsMetForwards d v x) where
  abbrev nfa : Nfa
  nfa = d.nfa

  abbrev text : List ℕ
  text = v.haystack

  abbrev around : Surroundings
  around = forwards nfa.terminator text

  abbrev may : ℕ → Bool
  may = is_permitted nfa.utf8 text

  abbrev before : Option ℕ
  before = class_beside d.keeps d.classes d.bytes (byte_before text v.start)

  pub run-from : (kind : MatchKind) → d.kind ≡ kind → (q : ℕ) → start_of nfa v.anchor ≡ Some q
      → x ≡ run_within kind nfa.states q (sight_of d) around may (length text) (m.stop - v.start) v.start
      (start_key kind nfa.states q (loops_in v.anchor) before) fresh
  run-from kind told q is =
      m.is
      ∙ (λ j. run_within (told j) nfa.states nfa.start_anchored (sight_of d) around may (length text) (m.stop - v.start) v.start
      (key_from (told j) nfa.states (loops_in v.anchor) before (is j)) fresh)
      ∙ elim (same-start nfa v.anchor q is) [
        | inl over ↦ run-loopless kind nfa.states nfa.start_anchored q (sight_of d) around may (length text) (m.stop - v.start) v.start
            (start_key kind nfa.states q (loops_in v.anchor) before) fresh
            (ap (λ l. (start_key kind nfa.states q l before).loops) over ∙ start-loopless kind nfa.states q before)
        | inr same ↦ ap
            (λ s. run_within kind nfa.states s (sight_of d) around may (length text) (m.stop - v.start) v.start
            (start_key kind nfa.states q (loops_in v.anchor) before) fresh)
            same
      ]

  pub sees-from : (kind : MatchKind) → d.kind ≡ kind → (q : ℕ) → start_of nfa v.anchor ≡ Some q
      → SeesWhileAlive kind (sight_of d) around (length text) nfa.states q (start_key kind nfa.states q (loops_in v.anchor) before) m.stop v.start
  sees-from kind told q is =
      let seen : SeesWhileAlive kind (sight_of d) around (length text) nfa.states nfa.start_anchored
      (start_key kind nfa.states q (loops_in v.anchor) before) m.stop v.start =
      subst
      (λ k. SeesWhileAlive k (sight_of d) around (length text) nfa.states nfa.start_anchored
      (key_from k nfa.states (loops_in v.anchor) before (Some q)) m.stop v.start) told
      (subst
      (λ o. SeesWhileAlive d.kind (sight_of d) around (length text) nfa.states nfa.start_anchored
      (key_from d.kind nfa.states (loops_in v.anchor) before o) m.stop v.start) is m.sees) in
      elim (same-start nfa v.anchor q is) [
        | inl over ↦ sees-loopless kind nfa.states nfa.start_anchored q (sight_of d) around (length text) m.stop v.start
            (start_key kind nfa.states q (loops_in v.anchor) before)
            (ap (λ l. (start_key kind nfa.states q l before).loops) over ∙ start-loopless kind nfa.states q before) seen
        | inr same ↦ subst
            (λ s. SeesWhileAlive kind (sight_of d) around (length text) nfa.states s
            (start_key kind nfa.states q (loops_in v.anchor) before) m.stop v.start)
            same seen
      ]

  pub nothing-met : start_of nfa v.anchor ≡ None → x ≡ fresh
  nothing-met none =
      m.is
      ∙ (λ j. run_within d.kind nfa.states nfa.start_anchored (sight_of d) around may (length text) (m.stop - v.start) v.start
      (key_from d.kind nfa.states (loops_in v.anchor) before (none j)) fresh)
      ∙ no-more-within d.kind nfa.states nfa.start_anchored (sight_of d) around may (length text) (m.stop - v.start) v.start (no_key before) refl refl fresh

  -- where nothing was found, the automaton went to the end
  pub to-end : x.best ≡ None → m.stop ≡ v.end
  to-end none =
      elim m.whole [
        | inl same ↦ same
        | inr early ↦ absurd (true≢false (sym early.1 ∙ ap is_some none))
      ]

-- the keys along a span
pub keys-from : (d : Dfa) (v : InputValue) (kind : MatchKind) → d.kind ≡ kind → (q : ℕ) → start_of d.nfa v.anchor ≡ Some q → (n : ℕ)
    → key_of d (forwards d.nfa.terminator v.haystack) n v.start (first_key d v.anchor (byte_before v.haystack v.start))
    ≡ key_at kind d.nfa.states q (sight_of d) (forwards d.nfa.terminator v.haystack) n v.start
    (start_key kind d.nfa.states q (loops_in v.anchor) (class_beside d.keeps d.classes d.bytes (byte_before v.haystack v.start)))
keys-from d v kind told q is n =
    let states = d.nfa.states in
    let around = forwards d.nfa.terminator v.haystack in
    let before = class_beside d.keeps d.classes d.bytes (byte_before v.haystack v.start) in
    (λ j. key_at (told j) states d.nfa.start_anchored (sight_of d) around n v.start (key_from (told j) states (loops_in v.anchor) before (is j)))
    ∙ elim (same-start d.nfa v.anchor q is) [
      | inl over ↦ key-loopless kind states d.nfa.start_anchored q (sight_of d) around n v.start (start_key kind states q (loops_in v.anchor) before)
          (ap (λ l. (start_key kind states q l before).loops) over ∙ start-loopless kind states q before)
      | inr same ↦ ap (λ s. key_at kind states s (sight_of d) around n v.start (start_key kind states q (loops_in v.anchor) before)) same
    ]
