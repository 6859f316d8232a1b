-- Each step of a depth-first search keeps `Searching`.
use Rattle.std.proofs.Common.{◌≡◌, ℕ, ◌+◌, ◌⊎◌, List, [], ◌∷◌, ◌++◌, refl, sym, ◌∙◌, ap, inl, inr, arith, get_or, set, set-set, length, ◌≤◌}
use Rattle.std.proofs.lemmas.List.{set-get_or}
use Rattle.std.specs.Prelude.{true, false, Option, Some, None, option_map}
use Rattle.std.specs.Option.{option_or}
use Rattle.rx_model.specs.Runs.{Configuration, PriorityGraph, Passed, and_at, Trace, with_write, found, first_trace, first_some, IsBounded}
use Rattle.rx_model.proofs.lemmas.runs.RunLemmas.{or-none}
use Rattle.rx_model.proofs.lemmas.runs.FirstLemmas.{none-is-some, tells}
use Rattle.rx_model.proofs.lemmas.runs.FoundLemmas.{found-passed, found-prune, found-accepted, found-step}
use Rattle.rx_nfa.specs.Automaton.{at}
use Rattle.rx_engines.specs.Walk.{Slots, Answer, answer, pending, explore_all, Yields}
use Rattle.rx_engines.specs.Backtrack.{undone, Searching}
use Rattle.rx_engines.specs.declared.frame.Frame.{Frame}
use Rattle.rx_engines.specs.declared.frame.Frame.TheVariants.{Explore, Restore}
use Rattle.rx_model.proofs.lemmas.runs.OptionLemmas.{or-none_right}
use Rattle.rx_engines.proofs.lemmas.walks.WalkLemmas.{answer-written, answer-past, pending-explore_all, pending-alike}

answer-none : (slots : Slots) (o : Option Trace) → answer slots o ≡ None → o ≡ None
answer-none slots None h = refl
answer-none slots (Some t) h = none-is-some (sym h)

undone-explore_all : (ds : List Configuration) (rest : List Frame) (slots : Slots) → undone (explore_all ds ++ rest) slots ≡ undone rest slots
unfolding undone
undone-explore_all [] rest slots = refl
undone-explore_all (d ∷ ds) rest slots = undone-explore_all ds rest slots

module _ {g : PriorityGraph} {before p : Passed} {goal : Option Answer} {base : Slots} {q i : ℕ} {rest : List Frame} {slots : Slots}
    (s : Searching g before p goal base (Explore q i ∷ rest) slots) where
  -- the top was passed before
  pub Searching-passed : p (at q i) ≡ true → Searching g before p goal base rest slots
  unfolding pending undone
  Searching-passed seen = record {
    value = rw (found-passed g p (at q i) seen) at s.value;
    dead = s.dead;
    unwinds = s.unwinds;
  }

  -- the top accepts
  pub Searching-accepted : IsBounded g → (pattern : ℕ) → p (at q i) ≡ false → g.accepted (at q i) ≡ Some pattern
      → goal ≡ Some (record { pattern = pattern; end = i; slots = slots })
  unfolding pending
  Searching-accepted bounded pattern new accepts = sym (rw (found-accepted g p bounded (at q i) pattern new accepts) at s.value)

  -- where no answer is left, the top leads to nothing
  top_dead : goal ≡ None → found g p (at q i) ≡ None
  unfolding pending
  top_dead none = answer-none slots _ (or-none _ _ (s.value ∙ none)).0

  dead_on : goal ≡ None → (c : Configuration) → found g (and_at (at q i) p) c ≡ found g before c
  dead_on none c = sym (found-prune g p (at q i) c (top_dead none)) ∙ s.dead none c

  -- below the top, the top may count as passed
  below_top : option_or (answer slots (found g p (at q i))) (pending (found g (and_at (at q i) p)) rest slots) ≡ goal
  unfolding pending
  below_top = told (tells (found g p (at q i)))
    where
      told : (found g p (at q i) ≡ None) ⊎ ((t : Trace) × (found g p (at q i) ≡ Some t))
          → option_or (answer slots (found g p (at q i))) (pending (found g (and_at (at q i) p)) rest slots) ≡ goal
      told (inl none) = ap (option_or (answer slots (found g p (at q i))))
          (sym (pending-alike (found g p) (found g (and_at (at q i) p)) (λ c. found-prune g p (at q i) c none) rest slots)) ∙ s.value
      told (inr some) = rw some.1 (rw some.1 at s.value)

  module _ (bounded : IsBounded g) (new : p (at q i) ≡ false) (none : g.accepted (at q i) ≡ None) where
    -- the top gives way to its successors
    visited : ((k : ℕ) → g.written (at q i) ≡ Some k → length slots ≤ k)
        → Searching g before (and_at (at q i) p) goal base (explore_all (g.successors (at q i)) ++ rest) slots
    unfolding undone
    visited past = record {
      value =
          pending-explore_all (found g (and_at (at q i) p)) (g.successors (at q i)) rest slots
          ∙ ap (λ o. option_or o (pending (found g (and_at (at q i) p)) rest slots))
          (sym (ap (answer slots) (found-step g p bounded (at q i) new none)
          ∙ answer-past slots (g.written (at q i)) i (first_some (found g (and_at (at q i) p)) (g.successors (at q i))) past))
          ∙ below_top;
      dead = dead_on;
      unwinds = undone-explore_all (g.successors (at q i)) rest slots ∙ s.unwinds;
    }

    -- the top writes a slot, and gives way to its successors
    written : (k : ℕ) → g.written (at q i) ≡ Some k → Searching g before (and_at (at q i) p) goal base
        (explore_all (g.successors (at q i)) ++ (Restore k (get_or slots k None) ∷ rest)) (set slots k (Some i))
    unfolding undone pending
    written k writes =
        let back : set (set slots k (Some i)) k (get_or slots k None) ≡ slots = set-set slots k (Some i) (get_or slots k None) ∙ set-get_or slots k None in
        record {
          value =
              pending-explore_all (found g (and_at (at q i) p)) (g.successors (at q i)) (Restore k (get_or slots k None) ∷ rest) (set slots k (Some i))
              ∙ ap (option_or (answer (set slots k (Some i)) (first_some (found g (and_at (at q i) p)) (g.successors (at q i)))))
              (ap (pending (found g (and_at (at q i) p)) rest) back)
              ∙ ap (λ o. option_or o (pending (found g (and_at (at q i) p)) rest slots))
              (sym
              (ap (answer slots) (found-step g p bounded (at q i) new none
              ∙ ap (λ w. option_map (with_write w i) (first_some (found g (and_at (at q i) p)) (g.successors (at q i)))) writes)
              ∙ answer-written slots k i _))
              ∙ below_top;
          dead = dead_on;
          unwinds = undone-explore_all (g.successors (at q i)) (Restore k (get_or slots k None) ∷ rest) (set slots k (Some i)) ∙ ap (undone rest) back
              ∙ s.unwinds;
        }

  -- the search is one step further
  pub Searching-yields : IsBounded g → p (at q i) ≡ false → {frames : List Frame} {slots' : Slots} → Yields g (at q i) rest frames slots slots'
      → Searching g before (and_at (at q i) p) goal base frames slots'
  Searching-yields bounded new {frames} {slots'} e =
      elim e.goes_on [
        | inl h ↦ rw (h.1, h.2) (visited bounded new e.accepts h.0)
        | inr h ↦ rw (h.2, h.3) (written bounded new e.accepts h.0 h.1)
      ]

-- a frame that restores a slot
pub Searching-restored : {g : PriorityGraph} {before p : Passed} {goal : Option Answer} {base : Slots} {k : ℕ} {old : Option ℕ} {rest : List Frame}
    {slots : Slots} → Searching g before p goal base (Restore k old ∷ rest) slots → Searching g before p goal base rest (set slots k old)
unfolding pending undone
Searching-restored s = record { value = s.value; dead = s.dead; unwinds = s.unwinds }

-- the search is over
pub Searching-over : {g : PriorityGraph} {before p : Passed} {goal : Option Answer} {base : Slots} {slots : Slots} → Searching g before p goal base [] slots
    → (goal ≡ None) × ((c : Configuration) → found g p c ≡ found g before c) × (slots ≡ base)
unfolding pending undone
Searching-over s = (sym s.value, s.dead (sym s.value), s.unwinds)

-- the search begins, where what was passed leads to nothing
pub Searching-begun : (g : PriorityGraph) (p : Passed) (q i : ℕ) (slots : Slots) → found g p (at q i) ≡ first_trace g (at q i)
    → Searching g p p (answer slots (first_trace g (at q i))) slots (Explore q i ∷ []) slots
unfolding pending undone
Searching-begun g p q i slots same = record { value = or-none_right _ ∙ ap (answer slots) same; dead = λ none c. refl; unwinds = refl }

frames-length : (ds : List Configuration) (rest : List Frame) → length (explore_all ds ++ rest) ≡ length ds + length rest
frames-length [] rest = omega arith
frames-length (d ∷ ds) rest = let h = frames-length ds rest in omega arith

-- how many frames there are
pub Yields-length : {g : PriorityGraph} {c : Configuration} {rest frames : List Frame} {slots slots' : Slots} → Yields g c rest frames slots slots'
    → length frames ≤ length (g.successors c) + length rest + 1
Yields-length {g} {c} {rest} {frames} {slots} {slots'} e =
    elim e.goes_on [
      | inl h ↦ rw (h.1, frames-length (g.successors c) rest) (omega arith)
      | inr h ↦ rw (h.2, frames-length (g.successors c) (Restore h.0 (get_or slots h.0 None) ∷ rest)) (omega arith)
    ]
