-- The steps of a depth-first search, over the bits that it keeps.
use Rattle.std.proofs.Common.{◌≡◌, ℕ, ◌+◌, ◌-◌, ◌*◌, ◌%◌, ◌<◌, ◌≤◌, List, ◌∷◌, length, sym, ◌∙◌, ap, subst, arith}
use Rattle.std.proofs.lemmas.Nat.{mod-mul-add, row_fits}
use Rattle.std.specs.Prelude.{Bool, true, false, not, ◌||◌, ◌==◌, Option, Some}
use Rattle.rx_model.specs.Runs.{Configuration, same, Passed, and_at}
use Rattle.rx_model.specs.Machine.{grid}
use Rattle.rx_model.proofs.lemmas.runs.MachineLemmas.{grid-has}
use Rattle.rx_model.proofs.lemmas.runs.RunLemmas.{by_test, same-true, weight, weight-less}
use Rattle.rx_nfa.specs.Automaton.{at, state_at, forwards}
use Rattle.rx_nfa.proofs.lemmas.runs.AutomatonLemmas.{automaton-bounded}
use Rattle.rx_engines.specs.Walk.{Slots, Answer, Yields}
use Rattle.rx_engines.specs.Backtrack.{is_set, extent, passed_by, work, frames_left, Searching}
use Rattle.rx_engines.specs.Search.{graph_for}
use Rattle.rx_engines.specs.declared.search.Search.{Search}
use Rattle.rx_engines.specs.declared.frame.Frame.{Frame}
use Rattle.rx_engines.specs.declared.frame.Frame.TheVariants.{Explore}
use Rattle.rx_engines.specs.Simulation.{frames_of_state}
use Rattle.rx_engines.proofs.lemmas.backtracking.BitLemmas.{passed_in-set, passed_in-bit}
use Rattle.rx_engines.proofs.lemmas.walks.CloseLemmas.{not-true, not-false}
use Rattle.rx_engines.proofs.lemmas.backtracking.FrameLemmas.{frames_below-passed, frames_below-inserted}
use Rattle.rx_engines.proofs.lemmas.backtracking.SearchingLemmas.{Searching-passed, Searching-accepted, Searching-yields, Yields-length}

and_at-passed : (c : Configuration) (p : Passed) → p c ≡ true → and_at c p ≡ p
and_at-passed c p h k d = equal k
  where
    equal : and_at c p d ≡ p d
    equal = by_test (same c d) (λ e. ap (λ b. b || p d) e ∙ sym (ap p (sym (same-true c d e)) ∙ h)) (λ e. ap (λ b. b || p d) e)

module _ (s : Search) where
  -- the bit of a state at a place, whose bits begin at `row`
  pub bit-of : (row q i n : ℕ) → row ≡ (i - s.first) * length s.states.now → n ≡ q → row + n ≡ (i - s.first) * length s.states.now + q
  bit-of row q i n at_row at_n = λ j. at_row j + at_n j

  pub bit-within : (row q i : ℕ) → q < length s.states.now → s.first ≤ i → i ≤ s.end → row ≡ (i - s.first) * length s.states.now
      → (row + q < extent s) × (row + length s.states.now ≤ extent s)
  bit-within row q i state above below at_row =
      let fits = row_fits (i - s.first) (length s.states.now) (s.end + 1 - s.first) (length s.states.now) (omega arith) (omega arith) in
      (omega arith, omega arith)

  -- where the bits of the place or of the next one begin
  pub row-on : (row i k : ℕ) → row ≡ (i - s.first) * length s.states.now → s.first ≤ i → i ≤ k
      → row + (k - i) * length s.states.now ≡ (k - s.first) * length s.states.now
  row-on row i k at_row above le =
      let apart : k - s.first ≡ (i - s.first) + (k - i) = omega arith in
      rw (at_row, apart) (omega arith)

  -- the bits before and after the bit of (q, i) was set, and whether it was new
  pub record Inserts (words words' : List ℕ) (new : Bool) (q i : ℕ) : Type 0 where
    pub state : q < length s.states.now
    pub above : s.first ≤ i
    pub below : i ≤ s.end
    pub within : (i - s.first) * length s.states.now + q < extent s
    pub is_new : new ≡ not (is_set words ((i - s.first) * length s.states.now + q))
    pub after : (k : ℕ) → is_set words' k ≡ (((i - s.first) * length s.states.now + q == k) || is_set words k)

  pub inserts-at : (words words' : List ℕ) (new : Bool) (q i n : ℕ) → q < length s.states.now → s.first ≤ i → i ≤ s.end
      → n ≡ (i - s.first) * length s.states.now + q → n < extent s
      → new ≡ not (is_set words n) → ((k : ℕ) → is_set words' k ≡ ((n == k) || is_set words k)) → Inserts words words' new q i
  inserts-at words words' new q i n state above below at_n within is_new after = record {
    state = state;
    above = above;
    below = below;
    within = omega arith;
    is_new = is_new ∙ ap (λ m. not (is_set words m)) at_n;
    after = λ k. after k ∙ ap (λ m. (m == k) || is_set words k) at_n;
  }

module _ {s : Search} {words words' : List ℕ} {new : Bool} {q i : ℕ} (t : Inserts s words words' new q i) where
  now_passed : passed_by s words' ≡ and_at (at q i) (passed_by s words)
  now_passed = passed_in-set (length s.states.now) s.first s.end q i words words' t.state t.above t.below t.after

  was_passed : passed_by s words (at q i) ≡ is_set words ((i - s.first) * length s.states.now + q)
  was_passed = passed_in-bit (length s.states.now) s.first s.end q i words t.state t.above t.below

  new_here : new ≡ true → passed_by s words (at q i) ≡ false
  new_here unseen = was_passed ∙ not-true _ (sym unseen ∙ t.is_new)

  old_here : new ≡ false → passed_by s words (at q i) ≡ true
  old_here seen = was_passed ∙ not-false _ (sym seen ∙ t.is_new)

  same_passed : new ≡ false → passed_by s words' ≡ passed_by s words
  same_passed seen = now_passed ∙ and_at-passed (at q i) (passed_by s words) (old_here seen)

  -- it was passed before
  pub inserted-passed : new ≡ false → {before : Passed} {goal : Option Answer} {base : Slots} {rest : List Frame} {slots : Slots}
      → Searching (graph_for s) before (passed_by s words) goal base (Explore q i ∷ rest) slots
      → Searching (graph_for s) before (passed_by s words') goal base rest slots
  inserted-passed seen {before} {goal} {base} {rest} {slots} x =
      subst (λ p. Searching (graph_for s) before p goal base rest slots) (sym (same_passed seen)) (Searching-passed x (old_here seen))

  pub passed-work : new ≡ false → work s words' ≡ work s words
  unfolding work
  passed-work seen = ap (weight (λ c. length ((graph_for s).successors c) + 2) (grid (length s.states.now) (s.end + 1))) (same_passed seen)

  pub passed-frames : new ≡ false → frames_left s words' ≡ frames_left s words
  passed-frames seen =
      frames_below-passed s.states.now words words' ((i - s.first) * length s.states.now + q) t.after
      (not-false _ (sym seen ∙ t.is_new)) (extent s)

  -- it accepts
  pub inserted-accepts : new ≡ true → {before : Passed} {goal : Option Answer} {base : Slots} {rest : List Frame} {slots : Slots} (pattern : ℕ)
      → (graph_for s).accepted (at q i) ≡ Some pattern
      → Searching (graph_for s) before (passed_by s words) goal base (Explore q i ∷ rest) slots
      → goal ≡ Some (record { pattern = pattern; end = i; slots = slots })
  inserted-accepts unseen pattern accepts x = Searching-accepted x (automaton-bounded (forwards s.matcher s.text.now) s.states.now s.end) pattern
      (new_here unseen) accepts

  -- it gives way to its successors
  pub inserted-yields : new ≡ true → {before : Passed} {goal : Option Answer} {base : Slots} {rest frames : List Frame} {slots slots' : Slots}
      → Yields (graph_for s) (at q i) rest frames slots slots'
      → Searching (graph_for s) before (passed_by s words) goal base (Explore q i ∷ rest) slots
      → Searching (graph_for s) before (passed_by s words') goal base frames slots'
  inserted-yields unseen {before} {goal} {base} {rest} {frames} {slots} {slots'} y x =
      subst (λ p. Searching (graph_for s) before p goal base frames slots') (sym now_passed)
      (Searching-yields x (automaton-bounded (forwards s.matcher s.text.now) s.states.now s.end) (new_here unseen) y)

  less_work : new ≡ true → work s words' + (length ((graph_for s).successors (at q i)) + 2) ≤ work s words
  unfolding work
  less_work unseen =
      rw now_passed
      (weight-less (λ c. length ((graph_for s).successors c) + 2) (grid (length s.states.now) (s.end + 1)) (at q i) (passed_by s words)
      (grid-has (length s.states.now) (s.end + 1) q i t.state (let le = t.below in omega arith)) (new_here unseen))

  -- less is left to do
  pub yields-work : new ≡ true → {rest frames : List Frame} {slots slots' : Slots} → Yields (graph_for s) (at q i) rest frames slots slots'
      → work s words' + length frames + 1 ≤ work s words + length rest
  yields-work unseen {rest} {frames} y =
      let less = less_work unseen in
      let longer = Yields-length y in
      omega arith

  -- the frames of the state do not come again
  pub inserted-frames : new ≡ true → frames_left s words' + frames_of_state (state_at s.states.now q) ≡ frames_left s words
  inserted-frames unseen =
      let column : ((i - s.first) * length s.states.now + q) % length s.states.now ≡ q = mod-mul-add (i - s.first) (length s.states.now) q t.state in
      let less = frames_below-inserted s.states.now words words' ((i - s.first) * length s.states.now + q) t.after (not-true _ (sym unseen ∙ t.is_new))
      (extent s) t.within in
      rw column at less
