-- The step of an ordered list of threads over a byte keeps its first success.
use Rattle.std.proofs.Common.{◌≡◌, ℕ, ◌+◌, ◌≤◌, ◌<◌, List, [], ◌∷◌, length, refl, sym, ◌∙◌, ap, inl, inr, arith, true≢false}
use Rattle.std.specs.Prelude.{Bool, true, false, not, ◌&&◌, Option, Some, None, option_map, is_some, All, nat_lt, nat_le}
use Rattle.std.specs.Option.{option_or}
use Rattle.std.proofs.lemmas.List.Elements.{All-get_or, All-nil, All-cons, All-head, All-tail}
use Rattle.std.proofs.lemmas.Bool.Decides.{nat_tests}
use Rattle.rx_model.specs.Runs.{Configuration, PriorityGraph, Passed, nowhere, and_at, same, with_write, found, first_some, IsBounded, NeverFalls}
use Rattle.rx_model.proofs.lemmas.runs.RunLemmas.{by_test, same-true}
use Rattle.rx_model.proofs.lemmas.runs.FirstLemmas.{none-is-some, some-is, tells}
use Rattle.rx_model.proofs.lemmas.runs.FoundLemmas.{found-accepted, found-step, found-forget}
use Rattle.rx_model.proofs.lemmas.runs.OptionLemmas.{or-assoc, or-none_right}
use Rattle.rx_search.specs.Matches.{HalfMatchValue}
use Rattle.rx_nfa.specs.Automaton.{at, go_on, state_at, state_accepts, route, NamesBelow, Surroundings, state_step}
use Rattle.rx_nfa.specs.Ordered.{AreBelow, half, tell, first_on, is_resting, resting, target, with_target, targets, accepts_at, cut, match_here, where_there, HasSteps}
use Rattle.rx_nfa.specs.declared.state.Transition.{Transition}
use Rattle.rx_nfa.specs.declared.state.State.{State}
use Rattle.rx_nfa.specs.declared.state.State.TheVariants.{ByteRange, Sparse, Look, Union, Capture, Fail, Match}
use Rattle.rx_nfa.proofs.lemmas.lists.ClosureLemmas.{half-written, rests-inside}

-- Where bytes lead to.

pub route-below : (n : ℕ) (ts : List Transition) (byte next : ℕ) → All (λ (t : Transition). t.next < n) ts → route ts byte ≡ Some next → next < n
route-below n [] byte next all goes = none-is-some goes
route-below n (t ∷ ts) byte next all goes =
    by_test (nat_le t.start byte && nat_le byte t.end)
    (λ e. let is : t.next ≡ next = some-is (rw e at goes) in let lt = All-head (λ (t : Transition). t.next < n) t ts all in omega arith)
    (λ e. route-below n ts byte next (All-tail (λ (t : Transition). t.next < n) t ts all) (rw e at goes))

target-below : (n : ℕ) (s : State) (byte next : ℕ) → NamesBelow n s → target s byte ≡ Some next → next < n
target-below n (ByteRange low high to) byte next names goes =
    by_test (nat_le low byte && nat_le byte high)
    (λ e. let is : to ≡ next = some-is (rw e at goes) in omega arith)
    (λ e. none-is-some (rw e at goes))
target-below n (Sparse transitions) byte next names goes = route-below n transitions byte next names goes
target-below n (Look look to) byte next names goes = none-is-some goes
target-below n (Union alternates) byte next names goes = none-is-some goes
target-below n (Capture to pattern slot) byte next names goes = none-is-some goes
target-below n Fail byte next names goes = none-is-some goes
target-below n (Match pattern) byte next names goes = none-is-some goes

with_target-below : (n : ℕ) (o : Option ℕ) (qs : List ℕ) → ((q : ℕ) → o ≡ Some q → q < n) → AreBelow n qs → AreBelow n (with_target o qs)
with_target-below n None qs lt h = h
with_target-below n (Some q) qs lt h = All-cons (λ q. q < n) q qs (lt q refl) h

pub targets-below : (states : List State) → All (NamesBelow (length states)) states → (byte : ℕ) (qs : List ℕ) → AreBelow (length states) qs
    → AreBelow (length states) (targets states byte qs)
targets-below states names byte [] h = All-nil (λ q. q < length states)
targets-below states names byte (q ∷ qs) h =
    with_target-below (length states) (target (state_at states q) byte) (targets states byte qs)
    (λ t goes. target-below (length states) (state_at states q) byte t
    (All-get_or (NamesBelow (length states)) states q _ (All-head (λ q. q < length states) q qs h) names) goes)
    (targets-below states names byte qs (All-tail (λ q. q < length states) q qs h))

pub cut-below : (n : ℕ) (accepts : ℕ → Option ℕ) (qs : List ℕ) → AreBelow n qs → AreBelow n (cut accepts qs)
cut-below n accepts [] h = h
cut-below n accepts (q ∷ qs) h =
    let lt = All-head (λ q. q < n) q qs h in
    by_test (is_some (accepts q))
    (λ e. rw e (All-cons (λ q. q < n) q [] lt (All-nil (λ q. q < n))))
    (λ e. rw e (All-cons (λ q. q < n) q (cut accepts qs) lt (cut-below n accepts qs (All-tail (λ q. q < n) q qs h))))

-- a state that accepts reads no byte
accepts-reads : (s : State) (p byte : ℕ) → state_accepts s ≡ Some p → target s byte ≡ None
accepts-reads (ByteRange low high next) p byte h = none-is-some h
accepts-reads (Sparse transitions) p byte h = none-is-some h
accepts-reads (Look look next) p byte h = none-is-some h
accepts-reads (Union alternates) p byte h = none-is-some h
accepts-reads (Capture next pattern slot) p byte h = none-is-some h
accepts-reads Fail p byte h = none-is-some h
accepts-reads (Match pattern) p byte h = refl

-- What states do at a byte, and at the end.

pub step-target : (around : Surroundings) (end : ℕ) (s : State) (i : ℕ) → i < end → is_resting s ≡ true
    → state_step around end s i ≡ go_on (target s (around.byte i)) (i + 1)
step-target around end (ByteRange low high next) i lt h = let e : nat_lt i end ≡ true = grind (arith, nat_tests) in rw e refl
step-target around end (Sparse transitions) i lt h = let e : nat_lt i end ≡ true = grind (arith, nat_tests) in rw e refl
step-target around end (Look look next) i lt h = absurd (true≢false (sym h))
step-target around end (Union alternates) i lt h = absurd (true≢false (sym h))
step-target around end (Capture next pattern slot) i lt h = absurd (true≢false (sym h))
step-target around end Fail i lt h = absurd (true≢false (sym h))
step-target around end (Match pattern) i lt h = refl

step-end : (around : Surroundings) (end : ℕ) (s : State) → is_resting s ≡ true → state_step around end s end ≡ []
step-end around end (ByteRange low high next) h = let e : nat_lt end end ≡ false = grind (arith, nat_tests) in rw e refl
step-end around end (Sparse transitions) h = let e : nat_lt end end ≡ false = grind (arith, nat_tests) in rw e refl
step-end around end (Look look next) h = absurd (true≢false (sym h))
step-end around end (Union alternates) h = absurd (true≢false (sym h))
step-end around end (Capture next pattern slot) h = absurd (true≢false (sym h))
step-end around end Fail h = absurd (true≢false (sym h))
step-end around end (Match pattern) h = refl

-- What a configuration has that accepts nothing: no run where it goes nowhere,
pub found-dead : (g : PriorityGraph) → IsBounded g → (p : Passed) (c : Configuration) → p c ≡ false → g.accepted c ≡ None → g.successors c ≡ []
    → found g p c ≡ None
found-dead g bounded p c new none dead =
    found-step g p bounded c new none ∙ ap (λ ds. option_map (with_write (g.written c) c.place) (first_some (found g (and_at c p)) ds)) dead

-- and the run of the only one that it goes on to, if that lies later in the text
pub found-reads : (g : PriorityGraph) → IsBounded g → NeverFalls g → (p : Passed) (c d : Configuration) → p c ≡ false → g.accepted c ≡ None
    → g.successors c ≡ d ∷ [] → c.place < d.place
    → found g p c ≡ option_map (with_write (g.written c) c.place) (found g p d)
found-reads g bounded rises p c d new none goes later =
    found-step g p bounded c new none
    ∙ ap (λ ds. option_map (with_write (g.written c) c.place) (first_some (found g (and_at c p)) ds)) goes
    ∙ ap (option_map (with_write (g.written c) c.place)) (or-none_right (found g (and_at c p) d) ∙ found-forget g rises (and_at c p) p d elsewhere)
  where
    elsewhere : (e : Configuration) → d.place ≤ e.place → and_at c p e ≡ p e
    elsewhere e le =
        by_test (same c e)
        (λ h. let equal : c.place ≡ e.place = ap (λ (x : Configuration). x.place) (same-true c e h) in absurd (omega arith))
        (λ h. rw h refl)

-- The first success among states.

first_on-with : (g : PriorityGraph) (i : ℕ) (o : Option ℕ) (qs : List ℕ)
    → first_on g nowhere i (with_target o qs) ≡ option_or (first_on g nowhere i (with_target o [])) (first_on g nowhere i qs)
first_on-with g i None qs = refl
first_on-with g i (Some q) qs = ap (λ x. option_or x (first_on g nowhere i qs)) (sym (or-none_right (tell g nowhere i q)))

module _ (around : Surroundings) (states : List State) (end : ℕ) (g : PriorityGraph) (has_steps : HasSteps around states end g) where
  -- the match of a state that accepts
  accepted-tell : (q i p : ℕ) → g.accepted (at q i) ≡ Some p → tell g nowhere i q ≡ Some (record { pattern = p; offset = i })
  accepted-tell q i p e = ap (option_map half) (found-accepted g nowhere has_steps.bounded (at q i) p refl e)

  accepted-target : (q i p byte : ℕ) → q < length states → i ≤ end → g.accepted (at q i) ≡ Some p → target (state_at states q) byte ≡ None
  accepted-target q i p byte lt le e =
      elim (tells (state_accepts (state_at states q))) [
        | inl none ↦ none-is-some (sym (has_steps.accepts q i lt le none) ∙ e)
        | inr some ↦ accepts-reads (state_at states q) some.0 byte some.1
      ]

  -- where a byte is there to be read
  reads-tell : (q i : ℕ) → q < length states → i < end → g.accepted (at q i) ≡ None → is_resting (state_at states q) ≡ true
      → tell g nowhere i q ≡ first_on g nowhere (i + 1) (with_target (target (state_at states q) (around.byte i)) [])
  reads-tell q i lt less none rests =
      onto (target (state_at states q) (around.byte i)) (has_steps.steps q i lt le ∙ step-target around end (state_at states q) i less rests)
    where
      le : i ≤ end
      le = omega arith

      onto : (o : Option ℕ) → g.successors (at q i) ≡ go_on o (i + 1) → tell g nowhere i q ≡ first_on g nowhere (i + 1) (with_target o [])
      onto None goes = ap (option_map half) (found-dead g has_steps.bounded nowhere (at q i) refl none goes)
      onto (Some t) goes =
          ap (option_map half) (found-reads g has_steps.bounded has_steps.rises nowhere (at q i) (at t (i + 1)) refl none goes (omega arith))
          ∙ half-written (g.written (at q i)) i (found g nowhere (at t (i + 1)))
          ∙ sym (or-none_right (tell g nowhere (i + 1) t))

  -- and at the end
  ends-tell : (q : ℕ) → q < length states → g.accepted (at q end) ≡ None → is_resting (state_at states q) ≡ true → tell g nowhere end q ≡ None
  ends-tell q lt none rests =
      let le : end ≤ end = omega arith in
      ap (option_map half) (found-dead g has_steps.bounded nowhere (at q end) refl none
      (has_steps.steps q end lt le ∙ step-end around end (state_at states q) rests))

  -- The threads over a byte: what they lead to at the next place, and then the match of the first that accepts here.
  pub step-first : (i : ℕ) → i < end → (qs : List ℕ) → first_on g nowhere i (resting states qs)
      ≡ option_or (first_on g nowhere (i + 1) (targets states (around.byte i) (cut (accepts_at g i) (resting states qs))))
      (match_here (accepts_at g i) i (resting states qs))
  step-first i less [] = refl
  step-first i less (q ∷ qs) =
      by_test (is_resting (state_at states q))
      (λ rests.
      let lt = rests-inside states q rests in
      let le : i ≤ end = omega arith in
      let later = step-first i less qs in
      let goes = target (state_at states q) (around.byte i) in
      let onto = targets states (around.byte i) (cut (accepts_at g i) (resting states qs)) in
      elim (tells (g.accepted (at q i))) [
        | inl none ↦
            rw (rests, none)
            ((λ k. option_or (reads-tell q i lt less none rests k) (later k))
            ∙ sym (or-assoc (first_on g nowhere (i + 1) (with_target goes [])) (first_on g nowhere (i + 1) onto)
            (match_here (accepts_at g i) i (resting states qs)))
            ∙ ap (λ o. option_or o (match_here (accepts_at g i) i (resting states qs))) (sym (first_on-with g (i + 1) goes onto)))
        | inr some ↦
            rw (rests, some.1, accepted-target q i some.0 (around.byte i) lt le some.1)
            (ap (λ o. option_or o (first_on g nowhere i (resting states qs))) (accepted-tell q i some.0 some.1))
      ])
      (λ moves. rw moves (step-first i less qs))

  -- at the end only acceptance counts
  pub end-first : (qs : List ℕ) → first_on g nowhere end (resting states qs) ≡ match_here (accepts_at g end) end (resting states qs)
  end-first [] = refl
  end-first (q ∷ qs) =
      by_test (is_resting (state_at states q))
      (λ rests.
      let lt = rests-inside states q rests in
      elim (tells (g.accepted (at q end))) [
        | inl none ↦ rw (rests, none) (ap (λ o. option_or o (first_on g nowhere end (resting states qs))) (ends-tell q lt none rests) ∙ end-first qs)
        | inr some ↦ rw (rests, some.1) (ap (λ o. option_or o (first_on g nowhere end (resting states qs))) (accepted-tell q end some.0 some.1))
      ])
      (λ moves. rw moves (end-first qs))

  -- what stands behind a thread that accepts has no part, nor what comes later
  pub cut-first : (i : ℕ) (loops : Bool) (later : Option HalfMatchValue) (qs : List ℕ)
      → option_or (first_on g nowhere i (cut (accepts_at g i) qs)) (where_there (loops && not (is_some (match_here (accepts_at g i) i qs))) later)
      ≡ option_or (first_on g nowhere i qs) (where_there loops later)
  cut-first i true later [] = refl
  cut-first i false later [] = refl
  cut-first i loops later (q ∷ qs) =
      elim (tells (g.accepted (at q i))) [
        | inl none ↦
            rw none
            (or-assoc (tell g nowhere i q) (first_on g nowhere i (cut (accepts_at g i) qs))
            (where_there (loops && not (is_some (match_here (accepts_at g i) i qs))) later)
            ∙ ap (option_or (tell g nowhere i q)) (cut-first i loops later qs)
            ∙ sym (or-assoc (tell g nowhere i q) (first_on g nowhere i qs) (where_there loops later)))
        | inr some ↦
            let here = accepted-tell q i some.0 some.1 in
            rw some.1
            (ap (λ o. option_or (option_or o None) (where_there (loops && false) later)) here
            ∙ sym (ap (λ o. option_or (option_or o (first_on g nowhere i qs)) (where_there loops later)) here))
      ]
