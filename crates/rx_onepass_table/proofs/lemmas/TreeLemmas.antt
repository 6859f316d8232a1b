-- What is found from an entry at one place: what the first of its epsilon walks tells that tells anything. No state is come to
-- twice, so no walk meets a state that was passed.
use Rattle.std.proofs.Common.{◌≡◌, ℕ, zero, suc, ◌+◌, ◌≤◌, ◌<◌, List, [], ◌∷◌, ◌++◌, length, refl, sym, ◌∙◌, ap, subst, inl, inr, ⊎_elim, arith, true≢false}
use Rattle.std.specs.Prelude.{true, false, Option, Some, None, option_map, Contains, All, map, option_to_list, slice_index_or}
use Rattle.std.specs.Option.{option_or}
use Rattle.std.proofs.lemmas.List.Elements.{All-get_or}
use Rattle.rx_model.specs.Look as model
use Rattle.rx_model.specs.Runs.{Configuration, PriorityGraph, Passed, nowhere, and_at, same, Trace, with_write, found, first_some}
use Rattle.rx_model.proofs.lemmas.runs.RunLemmas.{by_test, same-true, left, left-less}
use Rattle.rx_model.proofs.lemmas.runs.FoundLemmas.{found-step}
use Rattle.rx_model.proofs.lemmas.runs.MemberLemmas.{none-among, either-among, front-among, back-among, first-among}
use Rattle.rx_nfa.specs.Automaton.{at, state_at, state_writes, NamesBelow, Surroundings}
use Rattle.rx_nfa.specs.Ordered.{is_resting, at_rest, epsilon_successors, line, HasSteps}
use Rattle.rx_nfa.specs.declared.state.State.{State}
use Rattle.rx_nfa.proofs.lemmas.lists.ClosureLemmas.{resting-epsilon, epsilon_successors-below, step-epsilon, found-rests}
use Rattle.rx_nfa.proofs.lemmas.lists.PlaceLemmas.{line-has}
use Rattle.rx_nfa.specs.Walks.{epsilon_targets, state_asks, chosen, WalksTo, written_on, asked_on, IsPreferred, ReachesTwice}
use Rattle.rx_onepass_table.proofs.lemmas.WalkLemmas.{walks-on, Moves, Stays, moves-or-stays, moving-accepts_nothing}

-- before what a run writes, these slots at the place
abbrev pub prefixed : (place : ℕ) → List ℕ → Trace → Trace
prefixed place slots t = record t { writes = map (λ slot. (slot, place)) slots ++ t.writes }

with_write-prefixed : (place : ℕ) (w : Option ℕ) (slots : List ℕ) (t : Trace)
    → with_write w place (prefixed place slots t) ≡ prefixed place (option_to_list w ++ slots) t
with_write-prefixed place None slots t = refl
with_write-prefixed place (Some slot) slots t = refl

module _ (around : Surroundings) (states : List State) (names : All (NamesBelow (length states)) states) (end : ℕ) (g : PriorityGraph)
    (has_steps : HasSteps around states end g) (writes : (q i : ℕ) → g.written (at q i) ≡ state_writes (state_at states q))
    (i : ℕ) (place : i ≤ end) where
  -- each look-around that is asked for on the walk holds at the place
  abbrev pub AllHoldOn : (q : ℕ) → List ℕ → Type 0
  AllHoldOn q ks = (kind : model.Look) → Contains (asked_on states q ks) kind → around.looks kind i ≡ true

  -- what a state leads to at which a thread stays
  abbrev pub value : ℕ → Option Trace
  value r = at_rest states (λ q. found g nowhere (at q i)) r

  -- the walk leads to nothing
  abbrev pub Misses : (q : ℕ) → List ℕ → Type 0
  Misses q ks = (r : ℕ) → WalksTo states q ks r → AllHoldOn q ks → value r ≡ None

  -- the walk leads to this
  pub record Hits (q : ℕ) (ks : List ℕ) (t : Trace) : Type 0 where
    pub state : ℕ
    pub leads : WalksTo states q ks state
    pub holds : AllHoldOn q ks
    pub is : value state ≡ Some t

  -- What is found from a state: nothing, where each walk leads to nothing, and else what a walk leads to, where each that is
  -- preferred leads to nothing.
  pub record IsHit (q : ℕ) (t : Trace) : Type 0 where
    pub walk : List ℕ
    pub rest : Trace
    pub hits : Hits q walk rest
    pub is : t ≡ prefixed i (written_on states q walk) rest
    pub first : (other : List ℕ) → IsPreferred other walk → Misses q other

  abbrev pub IsTold : (q : ℕ) → Option Trace → Type 0
  IsTold q None = (walk : List ℕ) → Misses q walk
  IsTold q (Some t) = IsHit q t

  -- the same of a list of states, where a walk takes one first
  record IsHitOf (d : ℕ) (qs : List ℕ) (t : Trace) : Type 0 where
    choice : ℕ
    inside : choice < length qs
    walk : List ℕ
    rest : Trace
    hits : Hits (slice_index_or qs choice d) walk rest
    is : t ≡ prefixed i (written_on states (slice_index_or qs choice d) walk) rest
    first : (k : ℕ) (other : List ℕ) → k < length qs → IsPreferred (k ∷ other) (choice ∷ walk) → Misses (slice_index_or qs k d) other

  abbrev IsToldOf : (d : ℕ) → List ℕ → Option Trace → Type 0
  IsToldOf d qs None = (k : ℕ) (walk : List ℕ) → k < length qs → Misses (slice_index_or qs k d) walk
  IsToldOf d qs (Some t) = IsHitOf d qs t

  told-first : (d q : ℕ) (qs : List ℕ) (o others : Option Trace) → IsTold q o → IsToldOf d qs others → IsToldOf d (q ∷ qs) (option_or o others)
  told-first d q qs (Some t) others h more = record {
    choice = 0;
    inside = omega arith;
    walk = h.walk;
    rest = h.rest;
    hits = h.hits;
    is = h.is;
    first = first;
  }
    where
      first : (k : ℕ) (other : List ℕ) → k < length (q ∷ qs) → IsPreferred (k ∷ other) (0 ∷ h.walk) → Misses (slice_index_or (q ∷ qs) k d) other
      first zero other lt p = ⊎_elim (λ less. absurd (omega arith)) (λ same. h.first other same.1) p
      first (suc k) other lt p = absurd (⊎_elim (λ less. omega arith) (λ same. let e = same.0 in omega arith) p)
  told-first d q qs None None h more = misses
    where
      misses : (k : ℕ) (walk : List ℕ) → k < length (q ∷ qs) → Misses (slice_index_or (q ∷ qs) k d) walk
      misses zero walk lt = h walk
      misses (suc k) walk lt = more k walk (omega arith)
  told-first d q qs None (Some t) h more = record {
    choice = suc more.choice;
    inside = let lt = more.inside in omega arith;
    walk = more.walk;
    rest = more.rest;
    hits = more.hits;
    is = more.is;
    first = first;
  }
    where
      first : (k : ℕ) (other : List ℕ) → k < length (q ∷ qs) → IsPreferred (k ∷ other) (suc more.choice ∷ more.walk)
          → Misses (slice_index_or (q ∷ qs) k d) other
      first zero other lt p = h other
      first (suc k) other lt p =
          more.first k other (omega arith)
          (⊎_elim (λ less. inl (omega arith)) (λ same. inr ((let e = same.0 in omega arith), same.1)) p)

  told-list : (d : ℕ) (p : Passed) (qs : List ℕ)
      → ((k : ℕ) → k < length qs → IsTold (slice_index_or qs k d) (found g p (at (slice_index_or qs k d) i)))
      → IsToldOf d qs (first_some (found g p) (map (λ q. at q i) qs))
  told-list d p [] each = λ k walk lt. absurd (omega arith)
  told-list d p (q ∷ qs) each =
      told-first d q qs (found g p (at q i)) (first_some (found g p) (map (λ r. at r i) qs)) (each 0 (omega arith))
      (told-list d p qs (λ k lt. each (suc k) (omega arith)))

  -- a state that does not rest has no value
  moves-nothing : (q : ℕ) → is_resting (state_at states q) ≡ false → value q ≡ None
  moves-nothing q moves = rw moves refl

  -- What is told of a state is what is told of those that it goes on to, where what it asks for holds.
  module _ (q : ℕ) (moves : is_resting (state_at states q) ≡ false)
      (holds : (kind : model.Look) → Contains (option_to_list (state_asks (state_at states q))) kind → around.looks kind i ≡ true) where
    holds-on : (k : ℕ) (ks : List ℕ) → AllHoldOn q (k ∷ ks) → AllHoldOn (chosen states q k) ks
    holds-on k ks h kind m = h kind (back-among (option_to_list (state_asks (state_at states q))) (asked_on states (chosen states q k) ks) kind m)

    holds-here : (k : ℕ) (ks : List ℕ) → AllHoldOn (chosen states q k) ks → AllHoldOn q (k ∷ ks)
    holds-here k ks h kind m =
        ⊎_elim (λ here. holds kind here) (λ later. h kind later)
        (either-among (option_to_list (state_asks (state_at states q))) (asked_on states (chosen states q k) ks) kind m)

    told-moves : (o : Option Trace) → IsToldOf q (epsilon_targets (state_at states q)) o
        → IsTold q (option_map (with_write (state_writes (state_at states q)) i) o)
    told-moves None h = misses
      where
        misses : (walk : List ℕ) → Misses q walk
        misses [] r w all = subst (λ x. value x ≡ None) w (moves-nothing q moves)
        misses (k ∷ ks) r w all = h k ks w.0 r w.1 (holds-on k ks all)
    told-moves (Some t) h = record {
      walk = h.choice ∷ h.walk;
      rest = h.rest;
      hits = record { state = h.hits.state; leads = (h.inside, h.hits.leads); holds = holds-here h.choice h.walk h.hits.holds; is = h.hits.is };
      is =
          ap (with_write (state_writes (state_at states q)) i) h.is
          ∙ with_write-prefixed i (state_writes (state_at states q)) (written_on states (chosen states q h.choice) h.walk) h.rest;
      first = first;
    }
      where
        first : (other : List ℕ) → IsPreferred other (h.choice ∷ h.walk) → Misses q other
        first [] p r w all = absurd p
        first (k ∷ ks) p r w all = h.first k ks w.0 p r w.1 (holds-on k ks all)

  -- a state that asks for what does not hold
  told-stays : (q : ℕ) → is_resting (state_at states q) ≡ false → Stays (λ kind. around.looks kind i) (state_at states q) → IsTold q None
  told-stays q moves stays = misses
    where
      asked : (k : ℕ) (ks : List ℕ) → Contains (asked_on states q (k ∷ ks)) stays.kind
      asked k ks =
          front-among (option_to_list (state_asks (state_at states q))) (asked_on states (chosen states q k) ks) stays.kind
          (subst (λ o. Contains (option_to_list o) stays.kind) (sym stays.asks) (first-among stays.kind []))

      misses : (walk : List ℕ) → Misses q walk
      misses [] r w all = subst (λ x. value x ≡ None) w (moves-nothing q moves)
      misses (k ∷ ks) r w all = absurd (true≢false (sym (all stays.kind (asked k ks)) ∙ stays.fails))

  -- a state at rest
  told-rests : (q : ℕ) → is_resting (state_at states q) ≡ true → (o : Option Trace) → value q ≡ o → IsTold q o
  told-rests q rests None e = misses
    where
      misses : (walk : List ℕ) → Misses q walk
      misses [] r w all = subst (λ x. value x ≡ None) w e
      misses (k ∷ ks) r w all =
          let none : length (epsilon_targets (state_at states q)) ≡ 0 = ap length (resting-epsilon (λ kind. true) (state_at states q) rests) in
          let lt = w.0 in absurd (omega arith)
  told-rests q rests (Some t) e = record {
    walk = [];
    rest = t;
    hits = record { state = q; leads = refl; holds = λ kind m. absurd (none-among kind m); is = e };
    is = refl;
    first = first;
  }
    where
      first : (other : List ℕ) → IsPreferred other [] → Misses q other
      first [] p = absurd p
      first (k ∷ ks) p = absurd p

  module _ (entry : ℕ) (once : (q : ℕ) → ReachesTwice states entry q → ⊥) where
    -- What was passed on the way to a state: states of this place that shorter walks lead to.
    record IsBehind (p : Passed) (way : List ℕ) : Type 0 where
      later : (d : Configuration) → i < d.place → p d ≡ false
      shorter : (r : ℕ) → p (at r i) ≡ true → (v : List ℕ) × WalksTo states entry v r × (length v < length way)

    behind-new : (p : Passed) (way : List ℕ) (q : ℕ) → IsBehind p way → WalksTo states entry way q → p (at q i) ≡ false
    behind-new p way q behind leads =
        by_test (p (at q i))
        (λ e.
        let v = behind.shorter q e in
        let lt = v.2 in
        absurd (once q (record {
          one = v.0;
          other = way;
          differ = λ same. (let equal = ap length same in omega arith);
          leads = v.1;
          leads_too = leads;
        })))
        (λ e. e)

    longer : (ks : List ℕ) (k : ℕ) → length (ks ++ k ∷ []) ≡ length ks + 1
    longer [] k = refl
    longer (j ∷ ks) k = let h = longer ks k in omega arith

    behind-on : (p : Passed) (way : List ℕ) (q k : ℕ) → IsBehind p way → WalksTo states entry way q → IsBehind (and_at (at q i) p) (way ++ k ∷ [])
    behind-on p way q k behind leads = record { later = later; shorter = shorter }
      where
        later : (d : Configuration) → i < d.place → and_at (at q i) p d ≡ false
        later d up =
            by_test (same (at q i) d)
            (λ e. let here : i ≡ d.place = ap (λ (c : Configuration). c.place) (same-true (at q i) d e) in absurd (omega arith))
            (λ e. rw e (behind.later d up))

        shorter : (r : ℕ) → and_at (at q i) p (at r i) ≡ true → (v : List ℕ) × WalksTo states entry v r × (length v < length (way ++ k ∷ []))
        shorter r h =
            let len = longer way k in
            by_test (same (at q i) (at r i))
            (λ e.
            let here : q ≡ r = ap (λ (c : Configuration). c.state) (same-true (at q i) (at r i) e) in
            (way, subst (λ x. WalksTo states entry way x) here leads, (omega arith)))
            (λ e. let v = behind.shorter r (rw e at h) in let lt = v.2 in (v.0, v.1, (omega arith)))

    below : (q k : ℕ) → q < length states → k < length (epsilon_targets (state_at states q)) → chosen states q k < length states
    below q k lt inside =
        All-get_or (λ x. x < length states) (epsilon_targets (state_at states q)) k q inside
        (epsilon_successors-below (length states) (λ kind. true) (state_at states q) (All-get_or (NamesBelow (length states)) states q _ lt names))

    -- one step of what is found from a state that does not rest
    step-found : (p : Passed) (q : ℕ) → q < length states → p (at q i) ≡ false → is_resting (state_at states q) ≡ false
        → found g p (at q i) ≡ option_map (with_write (state_writes (state_at states q)) i)
        (first_some (found g (and_at (at q i) p)) (map (λ r. at r i) (epsilon_successors (λ kind. around.looks kind i) (state_at states q))))
    step-found p q lt new moves =
        found-step g p has_steps.bounded (at q i) new (has_steps.accepts q i lt place (moving-accepts_nothing (state_at states q) moves))
        ∙ (λ k. option_map (with_write (writes q i k) i) (first_some (found g (and_at (at q i) p))
        ((has_steps.steps q i lt place ∙ step-epsilon around end (λ kind. around.looks kind i) (state_at states q) i (λ look next is. refl) moves) k)))

    told-at : (n : ℕ) (p : Passed) (way : List ℕ) (q : ℕ) → q < length states → WalksTo states entry way q → IsBehind p way
        → left (line (length states) i) p ≤ n → IsTold q (found g p (at q i))
    told-at zero p way q lt leads behind enough =
        let less = left-less (line (length states) i) (at q i) p (line-has (length states) i q lt) (behind-new p way q behind leads) in absurd (omega arith)
    told-at (suc n) p way q lt leads behind enough =
        let new = behind-new p way q behind leads in
        let less = left-less (line (length states) i) (at q i) p (line-has (length states) i q lt) new in
        by_test (is_resting (state_at states q))
        (λ rests.
        subst (IsTold q) (sym (found-rests around states end g has_steps p q i lt place rests new behind.later))
        (told-rests q rests (found g nowhere (at q i)) (rw rests refl)))
        (λ moves.
        ⊎_elim
        (λ (m : Moves (λ kind. around.looks kind i) (state_at states q)).
        subst (IsTold q)
        (sym (step-found p q lt new moves
        ∙ ap (λ rs. option_map (with_write (state_writes (state_at states q)) i) (first_some (found g (and_at (at q i) p)) (map (λ r. at r i) rs))) m.goes))
        (told-moves q moves m.holds (first_some (found g (and_at (at q i) p)) (map (λ r. at r i) (epsilon_targets (state_at states q))))
        (told-list q (and_at (at q i) p) (epsilon_targets (state_at states q))
        (λ k inside. told-at n (and_at (at q i) p) (way ++ k ∷ []) (chosen states q k) (below q k lt inside)
        (walks-on states entry way q k leads inside) (behind-on p way q k behind leads) (omega arith)))))
        (λ (s : Stays (λ kind. around.looks kind i) (state_at states q)).
        subst (IsTold q)
        (sym (step-found p q lt new moves
        ∙ ap (λ rs. option_map (with_write (state_writes (state_at states q)) i) (first_some (found g (and_at (at q i) p)) (map (λ r. at r i) rs))) s.stays))
        (told-stays q moves s))
        (moves-or-stays (λ kind. around.looks kind i) (state_at states q)))

    pub told-entry : entry < length states → IsTold entry (found g nowhere (at entry i))
    told-entry lt =
        told-at (left (line (length states) i) nowhere) nowhere [] entry lt refl
        (record { later = λ d up. refl; shorter = λ r e. absurd (true≢false (sym e)) }) (omega arith)
