-- The frames that may still come of a search.
use Rattle.std.proofs.Common.{◌≡◌, ◌≢◌, ℕ, zero, suc, ◌+◌, ◌*◌, ◌%◌, ◌<◌, ◌≤◌, List, length, refl, sym, ◌∙◌, ap, subst, arith, true≢false}
use Rattle.std.proofs.lemmas.Bool.Decides.{Decides-eqb}
use Rattle.std.proofs.lemmas.Nat.{mod-mul-add}
use Rattle.std.specs.Prelude.{true, false, ◌||◌, ◌==◌}
use Rattle.rx_model.proofs.lemmas.runs.RunLemmas.{by_test}
use Rattle.rx_nfa.specs.Automaton.{state_at}
use Rattle.rx_nfa.specs.declared.state.State.{State}
use Rattle.rx_engines.specs.Backtrack.{is_set, frames_below}
use Rattle.rx_engines.specs.Simulation.{frames_of_state, frames_of_states}

module _ (states : List State) (words words' : List ℕ) where
  -- the same bits are set
  pub frames_below-alike : (k : ℕ) → ((j : ℕ) → j < k → is_set words' j ≡ is_set words j) → frames_below states words' k ≡ frames_below states words k
  unfolding frames_below
  frames_below-alike zero alike = refl
  frames_below-alike (suc k) alike =
      let below = frames_below-alike k (λ j lt. alike j (omega arith)) in
      rw (alike k (omega arith), below) refl

  module _ (n : ℕ) (after : (j : ℕ) → is_set words' j ≡ ((n == j) || is_set words j)) where
    others : (j : ℕ) → n ≢ j → is_set words' j ≡ is_set words j
    others j differ =
        by_test (n == j)
        (λ e. absurd (differ ((Decides-eqb n j).0 e)))
        (λ e. after j ∙ ap (λ b. b || is_set words j) e)

    own : is_set words' n ≡ true
    own = after n ∙ ap (λ b. b || is_set words n) ((Decides-eqb n n).1 refl)

    -- a bit that was set before
    pub frames_below-passed : is_set words n ≡ true → (k : ℕ) → frames_below states words' k ≡ frames_below states words k
    frames_below-passed seen k =
        frames_below-alike k
        (λ j lt. by_test (n == j)
        (λ e. let here : n ≡ j = (Decides-eqb n j).0 e in subst (λ m. is_set words' m ≡ is_set words m) here (own ∙ sym seen))
        (λ e. after j ∙ ap (λ b. b || is_set words j) e))

    -- a bit that was not set takes the frames of its state off
    pub frames_below-inserted : is_set words n ≡ false → (k : ℕ) → n < k → frames_below states words' k + frames_of_state
        (state_at states (n % length states)) ≡ frames_below states words k
    unfolding frames_below
    frames_below-inserted new zero lt = absurd (omega arith)
    frames_below-inserted new (suc k) lt =
        by_test (n == k)
        (λ e.
        let here : n ≡ k = (Decides-eqb n k).0 e in
        subst (λ m. frames_below states words' (suc m) + frames_of_state (state_at states (n % length states)) ≡ frames_below states words (suc m)) here
        (rw (own, new, frames_below-alike n (λ j below. others j (λ same. absurd (omega arith)))) (omega arith)))
        (λ e.
        let differ : n ≢ k = λ clash. true≢false (sym ((Decides-eqb n k).1 clash) ∙ e) in
        let h = frames_below-inserted new k (omega arith) in
        rw (others k differ) (omega arith))

module _ (states : List State) (words : List ℕ) (empty : (j : ℕ) → is_set words j ≡ false) where
  -- a part of a row of which nothing was passed
  row-empty : (rows m : ℕ) → m ≤ length states → frames_below states words (rows * length states + m) ≡ frames_of_states states m + frames_below states words
      (rows * length states)
  unfolding frames_below frames_of_states
  row-empty rows zero le = let same : rows * length states + 0 ≡ rows * length states = omega arith in rw same (omega arith)
  row-empty rows (suc m) le =
      let h = row-empty rows m (omega arith) in
      let at : rows * length states + suc m ≡ suc (rows * length states + m) = omega arith in
      let column : (rows * length states + m) % length states ≡ m = mod-mul-add rows (length states) m (omega arith) in
      rw (at, empty (rows * length states + m), column) (omega arith)

  -- nothing was passed
  pub frames_below-empty : (rows : ℕ) → frames_below states words (rows * length states) ≡ rows * frames_of_states states (length states)
  unfolding frames_below
  frames_below-empty zero =
      let none : 0 * length states ≡ 0 = omega arith in
      let free : 0 * frames_of_states states (length states) ≡ 0 = omega arith in
      rw (none, free) refl
  frames_below-empty (suc rows) =
      let h = frames_below-empty rows in
      let row = row-empty rows (length states) (omega arith) in
      let more : suc rows * length states ≡ rows * length states + length states = omega arith in
      let sum : suc rows * frames_of_states states (length states) ≡ frames_of_states states (length states) + rows * frames_of_states states (length states) =
      omega arith in
      rw (more, sum) (row ∙ ap (λ x. frames_of_states states (length states) + x) h)
