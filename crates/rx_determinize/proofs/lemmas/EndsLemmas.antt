-- Where the walks of listed states end.
use Rattle.std.proofs.Common.{◌≡◌, ℕ, zero, suc, ◌+◌, ◌≤◌, ◌<◌, List, [], ◌∷◌, ◌++◌, length, refl, sym, ◌∙◌, ap, subst, inl, inr, arith, true≢false}
use Rattle.std.specs.Prelude.{Bool, true, Option, Some, None, option_map, Contains, All, map, is_some}
use Rattle.std.proofs.lemmas.List.Elements.{All-head, All-tail}
use Rattle.rx_model.specs.Look as model
use Rattle.rx_model.specs.Runs.{Configuration, PriorityGraph, nowhere, first_past, trace, Leads, last_of}
use Rattle.rx_model.proofs.lemmas.runs.RunLemmas.{by_test}
use Rattle.rx_model.proofs.lemmas.runs.FirstLemmas.{none-is-some, some-is, tells, found-is_run}
use Rattle.rx_model.proofs.lemmas.runs.MemberLemmas.{first-among, later-among}
use Rattle.rx_model.proofs.lemmas.runs.RiseLemmas.{run-accepts, trace-end, Leads-rises}
use Rattle.rx_model.proofs.lemmas.meaning.CutLemmas.{run-Leads}
use Rattle.rx_search.specs.Matches.{HalfMatchValue}
use Rattle.rx_nfa.specs.Automaton.{at, automaton_over, state_at, go_on, NamesBelow, Surroundings}
use Rattle.rx_nfa.specs.Ordered.{has, AreBelow, HoldsAt, half, tell, first_on, is_resting, resting, epsilon_successors, close, target, with_target, targets, cut}
use Rattle.rx_nfa.specs.declared.state.State.{State}
use Rattle.rx_nfa.specs.declared.state.State.TheVariants.{ByteRange, Sparse, Look, Union, Capture, Fail, Match}
use Rattle.rx_nfa.proofs.lemmas.runs.AutomatonLemmas.{automaton-bounded, automaton-rises, automaton-successors}
use Rattle.rx_nfa.proofs.lemmas.lists.ClosureLemmas.{resting-epsilon, rests-inside, step-epsilon}
use Rattle.rx_determinize.specs.Key.{one_asks, none_known, reached, arrived}
use Rattle.rx_determinize.proofs.lemmas.ArrivedLemmas.{goes_on-below}
use Rattle.rx_nfa.proofs.lemmas.lists.TargetLemmas.{step-target}

module _ (around : Surroundings) (states : List State) (names : All (NamesBelow (length states)) states) (end : ℕ) (ok : ℕ → Bool) where
  abbrev g : PriorityGraph
  g = automaton_over around states end

  -- Each walk from c to a place from `first` on ends where a match may end.
  abbrev pub EndsWell : (first : ℕ) → Configuration → Type 0
  EndsWell first c = (pattern e n : ℕ) → Leads g pattern e n c → first ≤ e → ok e ≡ true

  abbrev pub EndWell : (first i : ℕ) → List ℕ → Type 0
  EndWell first i [] = Unit {0}
  EndWell first i (q ∷ qs) = EndsWell first (at q i) × EndWell first i qs

  pub EndWell-append : (first i : ℕ) (xs ys : List ℕ) → EndWell first i xs → EndWell first i ys → EndWell first i (xs ++ ys)
  EndWell-append first i [] ys h k = k
  EndWell-append first i (x ∷ xs) ys h k = (h.0, EndWell-append first i xs ys h.1 k)

  pub EndWell-later : (first more i : ℕ) (qs : List ℕ) → first ≤ more → EndWell first i qs → EndWell more i qs
  EndWell-later first more i [] le h = tt
  EndWell-later first more i (q ∷ qs) le h = (λ pattern e n walk from. h.0 pattern e n walk (omega arith), EndWell-later first more i qs le h.1)

  pub EndWell-resting : (first i : ℕ) (qs : List ℕ) → EndWell first i qs → EndWell first i (resting states qs)
  EndWell-resting first i [] h = tt
  EndWell-resting first i (q ∷ qs) h =
      by_test (is_resting (state_at states q)) (λ e. rw e (h.0, EndWell-resting first i qs h.1)) (λ e. rw e (EndWell-resting first i qs h.1))

  pub EndWell-cut : (accepts : ℕ → Option ℕ) (first i : ℕ) (qs : List ℕ) → EndWell first i qs → EndWell first i (cut accepts qs)
  EndWell-cut accepts first i [] h = tt
  EndWell-cut accepts first i (q ∷ qs) h =
      by_test (is_some (accepts q)) (λ e. rw e (h.0, tt)) (λ e. rw e (h.0, EndWell-cut accepts first i qs h.1))

  -- where c goes on to these
  EndWell-members : (first i : ℕ) (c : Configuration) → EndsWell first c → (qs : List ℕ)
      → ((d : Configuration) → Contains (map (λ q. at q i) qs) d → Contains (g.successors c) d) → EndWell first i qs
  EndWell-members first i c good [] member = tt
  EndWell-members first i c good (q ∷ qs) member = (
    (λ pattern e n walk le. good pattern e (suc n) (at q i, member (at q i) (first-among (at q i) (map (λ q. at q i) qs)), walk) le),
    EndWell-members first i c good qs (λ d m. member d (later-among (at q i) d (map (λ q. at q i) qs) m)),
  )

  EndWell-epsilon : (holding : model.Look → Bool) (first i q : ℕ) → HoldsAt around states holding i → q < length states → i ≤ end → EndsWell first (at q i)
      → EndWell first i (epsilon_successors holding (state_at states q))
  EndWell-epsilon holding first i q holds lt le good =
      by_test (is_resting (state_at states q))
      (λ rests. subst (EndWell first i) (sym (resting-epsilon holding (state_at states q) rests)) tt)
      (λ moves.
      let goes =
      automaton-successors around states end q i lt le ∙ step-epsilon around end holding (state_at states q) i (λ look next is. holds q next look is) moves in
      EndWell-members first i (at q i) good (epsilon_successors holding (state_at states q)) (λ d m. subst (λ ds. Contains ds d) (sym goes) m))

  EndWell-known : (first i q : ℕ) → q < length states → i ≤ end → EndsWell first (at q i) → EndWell first i (epsilon_successors none_known (state_at states q))
  EndWell-known first i q lt le good = fewer (state_at states q) (EndWell-epsilon (λ kind. around.looks kind i) first i q (λ r next look is. refl) lt le good)
    where
      fewer : (s : State) → EndWell first i (epsilon_successors (λ kind. around.looks kind i) s) → EndWell first i (epsilon_successors none_known s)
      fewer (ByteRange low high next) h = tt
      fewer (Sparse transitions) h = tt
      fewer (Look look next) h = tt
      fewer (Union alternates) h = h
      fewer (Capture next pattern slot) h = h
      fewer Fail h = tt
      fewer (Match pattern) h = tt

  -- the closure, by whatever look-around
  EndWell-closing : (holding : model.Look → Bool) (first i : ℕ) → ((q : ℕ) → q < length states → EndsWell first (at q i)
      → EndWell first i (epsilon_successors holding (state_at states q)))
      → (room : ℕ) (stack seen : List ℕ) → AreBelow (length states) stack → EndWell first i stack → EndWell first i seen
      → EndWell first i (close states holding room stack seen)
  unfolding close
  EndWell-closing holding first i goes zero stack seen lt h k = k
  EndWell-closing holding first i goes (suc room) [] seen lt h k = k
  EndWell-closing holding first i goes (suc room) (q ∷ stack) seen lt h k =
      by_test (has seen q)
      (λ e. rw e (EndWell-closing holding first i goes (suc room) stack seen (All-tail (λ q. q < length states) q stack lt) h.1 k))
      (λ e. rw e (EndWell-closing holding first i goes room (epsilon_successors holding (state_at states q) ++ stack) (seen ++ q ∷ [])
      (goes_on-below states names holding q stack lt)
      (EndWell-append first i (epsilon_successors holding (state_at states q)) stack (goes q (All-head (λ q. q < length states) q stack lt) h.0) h.1)
      (EndWell-append first i seen (q ∷ []) k (h.0, tt))))

  pub EndWell-close : (holding : model.Look → Bool) (first i : ℕ) → HoldsAt around states holding i → i ≤ end → (qs : List ℕ) → AreBelow (length states) qs
      → EndWell first i qs
      → EndWell first i (close states holding (length states) qs [])
  EndWell-close holding first i holds le qs lt h = EndWell-closing holding first i (λ q inside good. EndWell-epsilon holding first i q holds inside le good)
      (length states) qs [] lt h tt

  pub EndWell-arrived : (first i : ℕ) → i ≤ end → (qs : List ℕ) → AreBelow (length states) qs → EndWell first i qs → EndWell first i (arrived states qs)
  EndWell-arrived first i le qs lt h =
      let whole = EndWell-closing none_known first i (λ q inside good. EndWell-known first i q inside le good) (length states) qs [] lt h tt in
      by_test (one_asks states (reached states qs))
      (λ e. rw e whole)
      (λ e. rw e (EndWell-resting first i (reached states qs) whole))

  -- where a byte leads to
  EndWell-with : (first i : ℕ) (o : Option ℕ) (qs : List ℕ) → EndWell first i (with_target o []) → EndWell first i qs → EndWell first i (with_target o qs)
  EndWell-with first i None qs h k = k
  EndWell-with first i (Some t) qs h k = (h.0, k)

  EndWell-target : (first i q : ℕ) → i < end → is_resting (state_at states q) ≡ true → EndsWell first (at q i)
      → EndWell first (i + 1) (with_target (target (state_at states q) (around.byte i)) [])
  EndWell-target first i q less rests good =
      let lt = rests-inside states q rests in
      let le : i ≤ end = omega arith in
      each (target (state_at states q) (around.byte i)) (automaton-successors around states end q i lt le
      ∙ step-target around end (state_at states q) i less rests)
    where
      each : (o : Option ℕ) → g.successors (at q i) ≡ go_on o (i + 1) → EndWell first (i + 1) (with_target o [])
      each None goes = tt
      each (Some t) goes = (
        λ pattern e n walk le. good pattern e (suc n) (
          at t (i + 1),
          subst (λ ds. Contains ds (at t (i + 1))) (sym goes) (first-among (at t (i + 1)) []),
          walk,
        ) le,
        tt,
      )

  pub EndWell-targets : (accepts : ℕ → Option ℕ) (first i : ℕ) → i < end → (xs : List ℕ) → EndWell first i (cut accepts (resting states xs))
      → EndWell first (i + 1) (targets states (around.byte i) (cut accepts (resting states xs)))
  EndWell-targets accepts first i less [] h = tt
  EndWell-targets accepts first i less (q ∷ qs) h =
      by_test (is_resting (state_at states q))
      (λ rests.
      by_test (is_some (accepts q))
      (λ e.
      let h' : EndWell first i (q ∷ []) = rw e at (rw rests at h) in
      rw rests (rw e (EndWell-with first (i + 1) (target (state_at states q) (around.byte i)) [] (EndWell-target first i q less rests h'.0) tt)))
      (λ e.
      let h' : EndWell first i (q ∷ cut accepts (resting states qs)) = rw e at (rw rests at h) in
      rw rests
      (rw e (EndWell-with first (i + 1) (target (state_at states q) (around.byte i)) (targets states (around.byte i) (cut accepts (resting states qs)))
      (EndWell-target first i q less rests h'.0) (EndWell-targets accepts first i less qs h'.1)))))
      (λ moves. rw moves (EndWell-targets accepts first i less qs (rw moves at h)))

  -- The first success is a walk.
  pub tell-walk : (q i : ℕ) (h : HalfMatchValue) → tell g nowhere i q ≡ Some h → (pattern : ℕ) × (n : ℕ) × Leads g pattern h.offset n (at q i)
  tell-walk q i h is = of_run (first_past g nowhere (at q i)) refl is
    where
      of_run : (o : Option (List Configuration)) → first_past g nowhere (at q i) ≡ o → option_map half (option_map (trace g (at q i)) o) ≡ Some h
          → (pattern : ℕ) × (n : ℕ) × Leads g pattern h.offset n (at q i)
      of_run None e k = none-is-some k
      of_run (Some run) e k =
          let c = at q i in
          let run_is = found-is_run g (automaton-bounded around states end) run nowhere c e in
          let last = last_of c run in
          let same : half (trace g c run) ≡ h = some-is k in
          let ends : last.place ≡ h.offset = sym (trace-end g c run) ∙ ap (λ (x : HalfMatchValue). x.offset) same in
          elim (tells (g.accepted last)) [
            | inl none ↦ absurd (true≢false (sym (run-accepts g nowhere c run run_is) ∙ ap is_some none))
            | inr some ↦ let walk = run-Leads g some.0 h.offset nowhere c run run_is some.1 ends in (some.0, walk.0, walk.1)
          ]

  pub first_on-well : (first i : ℕ) (qs : List ℕ) (h : HalfMatchValue) → first_on g nowhere i qs ≡ Some h → EndWell first i qs → first ≤ h.offset
      → ok h.offset ≡ true
  first_on-well first i [] h is good le = none-is-some is
  first_on-well first i (q ∷ qs) h is good le =
      elim (tells (tell g nowhere i q)) [
        | inl none ↦ first_on-well first i qs h (rw none at is) good.1 le
        | inr some ↦
            let same : some.0 ≡ h = some-is (rw some.1 at is) in
            let walk = tell-walk q i h (some.1 ∙ ap Some same) in
            good.0 walk.0 h.offset walk.1 walk.2 le
      ]

  pub first_on-late : (i : ℕ) (qs : List ℕ) (h : HalfMatchValue) → first_on g nowhere i qs ≡ Some h → i ≤ h.offset
  first_on-late i [] h is = none-is-some is
  first_on-late i (q ∷ qs) h is =
      elim (tells (tell g nowhere i q)) [
        | inl none ↦ first_on-late i qs h (rw none at is)
        | inr some ↦
            let same : some.0 ≡ h = some-is (rw some.1 at is) in
            let walk = tell-walk q i h (some.1 ∙ ap Some same) in
            Leads-rises g (automaton-rises around states end) walk.0 h.offset walk.1 (at q i) walk.2
      ]
