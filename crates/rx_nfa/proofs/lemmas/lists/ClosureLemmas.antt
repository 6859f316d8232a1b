-- The closure of an ordered list of states keeps its first success.
use Rattle.std.proofs.Common.{◌≡◌, ℕ, zero, suc, ◌≤◌, ◌<◌, List, [], ◌∷◌, ◌++◌, length, refl, sym, ◌∙◌, ap, subst, inl, inr, arith, true≢false}
use Rattle.std.specs.Prelude.{Bool, true, false, ◌||◌, Option, Some, None, option_map, Contains, All, map, nat_lt, if◌then◌else◌}
use Rattle.std.specs.Option.{option_or}
use Rattle.std.proofs.lemmas.List.{get_or_past}
use Rattle.std.proofs.lemmas.List.Elements.{All-get_or, All-nil, All-cons, All-head, All-tail, All-append}
use Rattle.std.proofs.lemmas.Bool.Decides.{nat_tests}
use Rattle.rx_model.specs.Look as model
use Rattle.rx_model.specs.Runs.{Configuration, PriorityGraph, Passed, nowhere, and_at, same, Trace, with_write, found, first_some}
use Rattle.rx_model.proofs.lemmas.runs.RunLemmas.{by_test, first_some-alike_at}
use Rattle.rx_model.proofs.lemmas.runs.FirstLemmas.{tells}
use Rattle.rx_model.proofs.lemmas.runs.FoundLemmas.{found-accepted, found-prune, found-step, found-forget, option_map-or}
use Rattle.rx_model.proofs.lemmas.runs.OptionLemmas.{or-assoc, or-none_right}
use Rattle.rx_search.specs.Look.{kind_of}
use Rattle.rx_search.specs.Matches.{HalfMatchValue}
use Rattle.rx_search.specs.declared.look.Look.{Look as LookKind}
use Rattle.rx_nfa.specs.Automaton.{at, state_at, state_accepts, NamesBelow, Surroundings, state_step}
use Rattle.rx_nfa.specs.Ordered.{has, passed_at, AreBelow, first_told, first_then, IsStable, half, tell, first_on, is_resting, at_rest, resting, epsilon_successors, close, threads_from, HoldsAt, HasSteps}
use Rattle.rx_nfa.specs.declared.state.State.{State}
use Rattle.rx_nfa.specs.declared.state.State.TheVariants.{ByteRange, Sparse, Look, Union, Capture, Fail, Match}
use Rattle.rx_nfa.proofs.lemmas.lists.ListLemmas.{first_told-append, first_told-alike, first_told-resting, first_then-seen, first_then-moves, first_then-rests}
use Rattle.rx_nfa.proofs.lemmas.lists.PlaceLemmas.{passed_at-has, passed_at-elsewhere, left_at, left-most, left-less}
use Rattle.rx_nfa.proofs.lemmas.runs.StateLemmas.{read_byte-place}
use Rattle.rx_model.proofs.lemmas.runs.MemberLemmas.{none-among}

-- a write changes neither pattern nor end
pub half-written : (w : Option ℕ) (place : ℕ) (o : Option Trace) → option_map half (option_map (with_write w place) o) ≡ option_map half o
half-written None place None = refl
half-written None place (Some t) = refl
half-written (Some slot) place None = refl
half-written (Some slot) place (Some t) = refl

-- What states do at their place.

pub resting-epsilon : (holding : model.Look → Bool) (s : State) → is_resting s ≡ true → epsilon_successors holding s ≡ []
resting-epsilon holding (ByteRange low high next) h = refl
resting-epsilon holding (Sparse transitions) h = refl
resting-epsilon holding (Look look next) h = absurd (true≢false (sym h))
resting-epsilon holding (Union alternates) h = absurd (true≢false (sym h))
resting-epsilon holding (Capture next pattern slot) h = absurd (true≢false (sym h))
resting-epsilon holding Fail h = refl
resting-epsilon holding (Match pattern) h = refl

moving-accepts : (s : State) → is_resting s ≡ false → state_accepts s ≡ None
moving-accepts (ByteRange low high next) h = refl
moving-accepts (Sparse transitions) h = refl
moving-accepts (Look look next) h = refl
moving-accepts (Union alternates) h = refl
moving-accepts (Capture next pattern slot) h = refl
moving-accepts Fail h = refl
moving-accepts (Match pattern) h = absurd (true≢false h)

AreBelow-one : (n next : ℕ) → next < n → AreBelow n (next ∷ [])
AreBelow-one n next lt = All-cons (λ q. q < n) next [] lt (All-nil (λ q. q < n))

taken-below : (n next : ℕ) (b : Bool) → next < n → AreBelow n (if b then next ∷ [] else [])
taken-below n next true lt = AreBelow-one n next lt
taken-below n next false lt = All-nil (λ q. q < n)

pub epsilon_successors-below : (n : ℕ) (holding : model.Look → Bool) (s : State) → NamesBelow n s → AreBelow n (epsilon_successors holding s)
epsilon_successors-below n holding (ByteRange low high next) names = All-nil (λ q. q < n)
epsilon_successors-below n holding (Sparse transitions) names = All-nil (λ q. q < n)
epsilon_successors-below n holding (Look look next) names = taken-below n next (holding (kind_of look)) names
epsilon_successors-below n holding (Union alternates) names = names
epsilon_successors-below n holding (Capture next pattern slot) names = AreBelow-one n next names
epsilon_successors-below n holding Fail names = All-nil (λ q. q < n)
epsilon_successors-below n holding (Match pattern) names = All-nil (λ q. q < n)

taken-step : (i next : ℕ) (b : Bool) → (if b then at next i ∷ [] else []) ≡ map (λ q. at q i) (if b then next ∷ [] else [])
taken-step i next true = refl
taken-step i next false = refl

pub step-epsilon : (around : Surroundings) (end : ℕ) (holding : model.Look → Bool) (s : State) (i : ℕ)
    → ((look : LookKind) (next : ℕ) → s ≡ Look look next → holding (kind_of look) ≡ around.looks (kind_of look) i)
    → is_resting s ≡ false → state_step around end s i ≡ map (λ q. at q i) (epsilon_successors holding s)
step-epsilon around end holding (ByteRange low high next) i sees h = absurd (true≢false h)
step-epsilon around end holding (Sparse transitions) i sees h = absurd (true≢false h)
step-epsilon around end holding (Look look next) i sees h =
    ap (λ b. if b then at next i ∷ [] else []) (sym (sees look next refl)) ∙ taken-step i next (holding (kind_of look))
step-epsilon around end holding (Union alternates) i sees h = refl
step-epsilon around end holding (Capture next pattern slot) i sees h = refl
step-epsilon around end holding Fail i sees h = refl
step-epsilon around end holding (Match pattern) i sees h = absurd (true≢false h)

rests-later : (around : Surroundings) (end : ℕ) (s : State) (i : ℕ) → is_resting s ≡ true → (d : Configuration) → Contains (state_step around end s i) d
    → i < d.place
rests-later around end (ByteRange low high next) i h d m =
    let up = read_byte-place around.byte end (record { start = low; end = high; next = next } ∷ []) i d m in omega arith
rests-later around end (Sparse transitions) i h d m = let up = read_byte-place around.byte end transitions i d m in omega arith
rests-later around end (Look look next) i h d m = absurd (true≢false (sym h))
rests-later around end (Union alternates) i h d m = absurd (true≢false (sym h))
rests-later around end (Capture next pattern slot) i h d m = absurd (true≢false (sym h))
rests-later around end Fail i h d m = absurd (true≢false (sym h))
rests-later around end (Match pattern) i h d m = absurd (none-among d m)

-- a state at rest is there
pub rests-inside : (states : List State) (q : ℕ) → is_resting (state_at states q) ≡ true → q < length states
rests-inside states q h =
    by_test (nat_lt q (length states))
    (λ e. grind (arith, nat_tests))
    (λ e. let fails : state_at states q ≡ Fail = get_or_past states q Fail (grind (arith, nat_tests)) in absurd (true≢false (sym (rw fails at h))))

-- Where the lists lie.

module _ (states : List State) (names : All (NamesBelow (length states)) states) (holding : model.Look → Bool) where
  -- what a state and the stack go on to
  stack-below : (q : ℕ) (stack : List ℕ) → AreBelow (length states) (q ∷ stack)
      → AreBelow (length states) (epsilon_successors holding (state_at states q) ++ stack)
  stack-below q stack h =
      All-append (λ q. q < length states) (epsilon_successors holding (state_at states q)) stack
      (epsilon_successors-below (length states) holding (state_at states q)
      (All-get_or (NamesBelow (length states)) states q _ (All-head (λ q. q < length states) q stack h) names))
      (All-tail (λ q. q < length states) q stack h)

  pub close-below : (room : ℕ) (stack seen : List ℕ)
      → AreBelow (length states) stack → AreBelow (length states) seen → AreBelow (length states) (close states holding room stack seen)
  unfolding close
  close-below zero stack seen h k = k
  close-below (suc room) [] seen h k = k
  close-below (suc room) (q ∷ stack) seen h k =
      by_test (has seen q)
      (λ e. rw e (close-below (suc room) stack seen (All-tail (λ q. q < length states) q stack h) k))
      (λ e. rw e (close-below room (epsilon_successors holding (state_at states q) ++ stack) (seen ++ q ∷ []) (stack-below q stack h)
      (All-append (λ q. q < length states) seen (q ∷ []) k (AreBelow-one (length states) q (All-head (λ q. q < length states) q stack h)))))

pub resting-below : (n : ℕ) (states : List State) (qs : List ℕ) → AreBelow n qs → AreBelow n (resting states qs)
resting-below n states [] h = h
resting-below n states (q ∷ qs) h =
    let others = resting-below n states qs (All-tail (λ q. q < n) q qs h) in
    by_test (is_resting (state_at states q)) (λ e. rw e (All-cons (λ q. q < n) q (resting states qs) (All-head (λ q. q < n) q qs h) others)) (λ e. rw e others)

-- The first success among states.

module _ (g : PriorityGraph) where
  pub first_on-alike : (p p' : Passed) → ((c : Configuration) → found g p c ≡ found g p' c) → (i : ℕ) (qs : List ℕ) → first_on g p i qs ≡ first_on g p' i qs
  first_on-alike p p' alike i qs = first_told-alike (tell g p i) (tell g p' i) qs (λ q h. ap (option_map half) (alike (at q i)))

  -- of successors at one place
  first_on-map : (p : Passed) (i : ℕ) (qs : List ℕ) → option_map half (first_some (found g p) (map (λ q. at q i) qs)) ≡ first_on g p i qs
  first_on-map p i [] = refl
  first_on-map p i (q ∷ qs) =
      option_map-or half (found g p (at q i)) (first_some (found g p) (map (λ r. at r i) qs))
      ∙ ap (option_or (tell g p i q)) (first_on-map p i qs)

module _ (around : Surroundings) (states : List State) (end : ℕ) (g : PriorityGraph) (has_steps : HasSteps around states end g) where
  -- what a run from a state at rest has doesn't depend on what was passed at its place
  pub found-rests : (p : Passed) (q i : ℕ) → q < length states → i ≤ end → is_resting (state_at states q) ≡ true → p (at q i) ≡ false
      → ((d : Configuration) → i < d.place → p d ≡ false)
      → found g p (at q i) ≡ found g nowhere (at q i)
  found-rests p q i lt le rests new level =
      elim (tells (g.accepted (at q i))) [
        | inl none ↦
            found-step g p has_steps.bounded (at q i) new none
            ∙ ap (option_map (with_write (g.written (at q i)) i))
            (first_some-alike_at (found g (and_at (at q i) p)) (found g (and_at (at q i) nowhere)) (g.successors (at q i))
            (λ d m. (let up = rests-later around end (state_at states q) i rests d (subst (λ ds. Contains ds d) (has_steps.steps q i lt le) m) in
            found-forget g has_steps.rises (and_at (at q i) p) (and_at (at q i) nowhere) d
            (λ e above. ap (λ b. same (at q i) e || b) (level e (omega arith))))))
            ∙ sym (found-step g nowhere has_steps.bounded (at q i) refl none)
        | inr some ↦ found-accepted g p has_steps.bounded (at q i) some.0 new some.1
            ∙ sym (found-accepted g nowhere has_steps.bounded (at q i) some.0 refl some.1)
      ]

  module _ (names : All (NamesBelow (length states)) states) (holding : model.Look → Bool) (i : ℕ) (place : i ≤ end)
      (holds : HoldsAt around states holding i) where
    -- a state that doesn't rest gives way to others
    pub tell-moves : (p : Passed) (q : ℕ) → q < length states → p (at q i) ≡ false → is_resting (state_at states q) ≡ false
        → tell g p i q ≡ first_on g (and_at (at q i) p) i (epsilon_successors holding (state_at states q))
    tell-moves p q lt new moves =
        ap (option_map half) (found-step g p has_steps.bounded (at q i) new (has_steps.accepts q i lt place (moving-accepts (state_at states q) moves)))
        ∙ half-written (g.written (at q i)) i (first_some (found g (and_at (at q i) p)) (g.successors (at q i)))
        ∙ ap (λ ds. option_map half (first_some (found g (and_at (at q i) p)) ds))
        (has_steps.steps q i lt place ∙ step-epsilon around end holding (state_at states q) i (λ look next is. holds q next look is) moves)
        ∙ first_on-map g (and_at (at q i) p) i (epsilon_successors holding (state_at states q))

    module _ (later : Passed → Option HalfMatchValue) (stable : IsStable g later) where
      -- what the stack leads to, and then what comes later
      abbrev below : List ℕ → Passed → Option HalfMatchValue
      below stack p = option_or (first_on g p i stack) (later p)

      below-stable : (stack : List ℕ) → IsStable g (below stack)
      below-stable stack p x none k = option_or (first_on-alike g p (and_at x p) (λ c. found-prune g p x c none) i stack k) (stable p x none k)

      -- the threads that were found, and then the stack
      abbrev closing : (stack seen : List ℕ) → Option HalfMatchValue
      closing stack seen = first_then (at_rest states (tell g nowhere i)) seen i (below stack)

      -- on top of the stack
      top : (q : ℕ) (stack seen : List ℕ) → closing (q ∷ stack) seen ≡ first_then (at_rest states (tell g nowhere i)) seen i
          (λ p. option_or (tell g p i q) (below stack p))
      top q stack seen =
          ap (option_or (first_told (at_rest states (tell g nowhere i)) seen))
          (or-assoc (tell g (passed_at seen i) i q) (first_on g (passed_at seen i) i stack) (later (passed_at seen i)))

      closing-seen : (q : ℕ) (stack seen : List ℕ) → has seen q ≡ true → closing (q ∷ stack) seen ≡ closing stack seen
      closing-seen q stack seen old = top q stack seen ∙ first_then-seen states g (tell g nowhere i) seen i q half (below stack) old

      -- what a state goes on to
      abbrev onto : ℕ → List ℕ
      onto q = epsilon_successors holding (state_at states q)

      closing-rests : (q : ℕ) (stack seen : List ℕ) → has seen q ≡ false → q < length states → is_resting (state_at states q) ≡ true
          → closing (onto q ++ stack) (seen ++ q ∷ []) ≡ first_then (at_rest states (tell g nowhere i)) seen i (λ p. option_or (tell g p i q) (below stack p))
      closing-rests q stack seen new lt rests =
          ap (λ qs. closing (qs ++ stack) (seen ++ q ∷ [])) (resting-epsilon holding (state_at states q) rests)
          ∙ first_then-rests states g (tell g nowhere i) seen i q half (below stack) (below-stable stack) rests (tell g nowhere i) (λ x h. refl)
          (ap (option_map half)
          (sym (found-rests (passed_at seen i) q i lt place rests (passed_at-has seen i q ∙ new)
          (λ d up. passed_at-elsewhere seen i d (λ same. omega arith)))))

      closing-moves : (q : ℕ) (stack seen : List ℕ) → has seen q ≡ false → q < length states → is_resting (state_at states q) ≡ false
          → closing (onto q ++ stack) (seen ++ q ∷ []) ≡ first_then (at_rest states (tell g nowhere i)) seen i (λ p. option_or (tell g p i q) (below stack p))
      closing-moves q stack seen new lt moves =
          let after : Passed = and_at (at q i) (passed_at seen i) in
          first_then-moves states g (tell g nowhere i) seen i q half (below stack) (below-stable stack) moves (below (onto q ++ stack))
          (ap (λ o. option_or o (later after)) (first_told-append (tell g after i) (onto q) stack)
          ∙ or-assoc (first_on g after i (onto q)) (first_on g after i stack) (later after)
          ∙ ap (λ o. option_or o (below stack after)) (sym (tell-moves (passed_at seen i) q lt (passed_at-has seen i q ∙ new) moves)))

      closing-new : (q : ℕ) (stack seen : List ℕ) → has seen q ≡ false → q < length states
          → closing (q ∷ stack) seen ≡ closing (onto q ++ stack) (seen ++ q ∷ [])
      closing-new q stack seen new lt =
          top q stack seen ∙ sym (by_test (is_resting (state_at states q)) (λ e. closing-rests q stack seen new lt e)
          (λ e. closing-moves q stack seen new lt e))

      pub close-first : (room : ℕ) (stack seen : List ℕ) → AreBelow (length states) stack → left_at (length states) i (passed_at seen i) ≤ room
          → closing stack seen ≡ closing [] (close states holding room stack seen)
      unfolding close
      close-first zero [] seen inside enough = refl
      close-first zero (q ∷ stack) seen inside enough =
          by_test (has seen q)
          (λ e. closing-seen q stack seen e ∙ close-first zero stack seen (All-tail (λ q. q < length states) q stack inside) enough)
          (λ e. let less = left-less (length states) i q seen (All-head (λ q. q < length states) q stack inside) e in absurd (omega arith))
      close-first (suc room) [] seen inside enough = refl
      close-first (suc room) (q ∷ stack) seen inside enough =
          by_test (has seen q)
          (λ e. closing-seen q stack seen e ∙ close-first (suc room) stack seen (All-tail (λ q. q < length states) q stack inside) enough ∙ rw e refl)
          (λ e.
          let lt = All-head (λ q. q < length states) q stack inside in
          let less = left-less (length states) i q seen lt e in
          closing-new q stack seen e lt
          ∙ close-first room (epsilon_successors holding (state_at states q) ++ stack) (seen ++ q ∷ []) (stack-below states names holding q stack inside)
          (omega arith)
          ∙ rw e refl)

    -- the threads that begin in these states have their first success
    pub threads-first : (qs : List ℕ) → AreBelow (length states) qs → first_on g nowhere i (threads_from states holding qs) ≡ first_on g nowhere i qs
    threads-first qs inside =
        first_told-resting states (tell g nowhere i) (close states holding (length states) qs [])
        ∙ sym (or-none_right (first_told (at_rest states (tell g nowhere i)) (close states holding (length states) qs [])))
        ∙ sym (close-first (λ p. None) (λ p x none. refl) (length states) qs [] inside (left-most (length states) i nowhere))
        ∙ or-none_right (first_on g nowhere i qs)
