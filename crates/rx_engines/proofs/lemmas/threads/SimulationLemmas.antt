-- The steps of a simulation by ordered threads.
use Rattle.std.proofs.Common.{◌≡◌, ◌≢◌, ℕ, ◌<◌, ◌≤◌, List, [], ◌∷◌, ◌++◌, length, refl, sym, ◌∙◌, ap, inl, inr, set, set-set, get_or, true≢false}
use Rattle.std.proofs.lemmas.List.{set-get_or, get_or-set_same, get_or-set_other}
use Rattle.std.specs.Prelude.{true, false, Option, Some, None, option_map, if◌then◌else◌}
use Rattle.std.specs.Option.{option_or}
use Rattle.rx_model.specs.Runs.{Configuration, PriorityGraph, Passed, nowhere, and_at, Trace, with_write, found, first_some, IsBounded}
use Rattle.rx_model.proofs.lemmas.runs.FoundLemmas.{found-prune, found-step}
use Rattle.rx_nfa.specs.Automaton.{at, state_at}
use Rattle.rx_nfa.specs.Ordered.{has, is_resting, passed_at, first_told, first_then, IsStable}
use Rattle.rx_nfa.specs.declared.state.State.{State}
use Rattle.rx_nfa.proofs.lemmas.lists.ListLemmas.{first_told-alike, first_then-seen, first_then-moves, first_then-rests}
use Rattle.rx_nfa.proofs.lemmas.lists.PlaceLemmas.{passed_at-has}
use Rattle.rx_engines.specs.Walk.{Slots, Answer, answer, pending, explore_all, write_all, Yields}
use Rattle.rx_engines.specs.declared.frame.Frame.{Frame}
use Rattle.rx_engines.specs.declared.frame.Frame.TheVariants.{Explore, Restore}
use Rattle.rx_engines.specs.Threads.{Row, row_at}
use Rattle.rx_engines.specs.Simulation.{Hit, hit, resumed, thread, among, Waits, Closed}
use Rattle.rx_engines.proofs.lemmas.walks.WalkLemmas.{pending-alike, pending-explore_all, answer-past, answer-written}

-- the threads tell the same where the runs do
pub among-alike : (states : List State) (g : PriorityGraph) (p p' : Passed) → ((c : Configuration) → found g p c ≡ found g p' c)
    → (i : ℕ) (rows : List Row) (qs : List ℕ) → among states g p i rows qs ≡ among states g p' i rows qs
among-alike states g p p' alike i rows qs =
    first_told-alike (thread states g p i rows) (thread states g p' i rows) qs
    (λ q h. ap (λ o. if is_resting (state_at states q) then hit (row_at rows q).0 (answer (row_at rows q).1 o) else None) (alike (at q i)))

-- The frames that a state leaves stand for it.
module _ (g : PriorityGraph) (bounded : IsBounded g) (p : Passed) (q i : ℕ) (rest : List Frame) (slots : Slots) (new : p (at q i) ≡ false) where
  abbrev top : Configuration
  top = at q i

  unwritten : g.accepted top ≡ None → ((k : ℕ) → g.written top ≡ Some k → length slots ≤ k)
      → pending (found g (and_at top p)) (explore_all (g.successors top) ++ rest) slots ≡ option_or (answer slots (found g p top))
      (pending (found g (and_at top p)) rest slots)
  unwritten none past =
      pending-explore_all (found g (and_at top p)) (g.successors top) rest slots
      ∙ ap (λ o. option_or o (pending (found g (and_at top p)) rest slots))
      (sym (ap (answer slots) (found-step g p bounded top new none)
      ∙ answer-past slots (g.written top) i (first_some (found g (and_at top p)) (g.successors top)) past))

  written : (k : ℕ) → g.accepted top ≡ None → g.written top ≡ Some k
      → pending (found g (and_at top p)) (explore_all (g.successors top) ++ (Restore k (get_or slots k None) ∷ rest)) (set slots k (Some i)) ≡ option_or
      (answer slots (found g p top)) (pending (found g (and_at top p)) rest slots)
  unfolding pending
  written k none writes =
      let back : set (set slots k (Some i)) k (get_or slots k None) ≡ slots = set-set slots k (Some i) (get_or slots k None) ∙ set-get_or slots k None in
      pending-explore_all (found g (and_at top p)) (g.successors top) (Restore k (get_or slots k None) ∷ rest) (set slots k (Some i))
      ∙ ap (option_or (answer (set slots k (Some i)) (first_some (found g (and_at top p)) (g.successors top))))
      (ap (pending (found g (and_at top p)) rest) back)
      ∙ ap (λ o. option_or o (pending (found g (and_at top p)) rest slots))
      (sym
      (ap (answer slots) (found-step g p bounded top new none
      ∙ ap (λ w. option_map (with_write w i) (first_some (found g (and_at top p)) (g.successors top))) writes) ∙ answer-written slots k i _))

  pub pending-yielded : (frames : List Frame) (slots' : Slots) → Yields g top rest frames slots slots'
      → pending (found g (and_at top p)) frames slots' ≡ option_or (answer slots (found g p top)) (pending (found g (and_at top p)) rest slots)
  pending-yielded frames slots' e =
      elim e.goes_on [
        | inl h ↦ rw (h.1, h.2) (unwritten e.accepts h.0)
        | inr h ↦ rw (h.2, h.3) (written h.0 e.accepts h.1)
      ]

-- The steps of a closure.

-- what the frames lead to, and then what comes later
abbrev pub after_frames : PriorityGraph → (start : ℕ) → List Frame → Slots → (Passed → Option Hit) → Passed → Option Hit
after_frames g start frames slots later p = option_or (hit start (pending (found g p) frames slots)) (later p)

module _ {states : List State} {g : PriorityGraph} {i start : ℕ} {later : Passed → Option Hit} {items : List ℕ} {rows : List Row} {q : ℕ} {rest : List Frame}
    {slots : Slots} {goal : Option Hit}
    (stable : IsStable g later) (s : Waits states g i start later items rows (Explore q i ∷ rest) slots goal) where
  abbrev p : Passed
  p = passed_at items i

  -- what a run from here leads to
  abbrev reached : Trace → Hit
  reached t = (start, record { pattern = t.pattern; end = t.end; slots = write_all t.writes slots })

  reached-is : (o : Option Trace) → option_map reached o ≡ hit start (answer slots o)
  reached-is None = refl
  reached-is (Some t) = refl

  -- the frames below, and then what comes later
  abbrev below : Passed → Option Hit
  below = after_frames g start rest slots later

  below-stable : IsStable g below
  below-stable p x none k =
      option_or (hit start (pending-alike (found g p) (found g (and_at x p)) (λ c. found-prune g p x c none) rest slots k)) (stable p x none k)

  -- a run from here comes before them
  parted : (o : Option Trace) (a : Option Answer) (l : Option Hit)
      → option_or (hit start (option_or (answer slots o) a)) l ≡ option_or (option_map reached o) (option_or (hit start a) l)
  parted None a l = refl
  parted (Some t) a l = refl

  looked : first_then (thread states g nowhere i rows) items i (λ p. option_or (option_map reached (found g p (at q i))) (below p)) ≡ goal
  unfolding pending
  looked =
      ap (option_or (first_told (thread states g nowhere i rows) items)) (sym (parted (found g p (at q i)) (pending (found g p) rest slots) (later p)))
      ∙ s.value

  -- the state was passed before
  pub Waits-passed : has items q ≡ true → Waits states g i start later items rows rest slots goal
  Waits-passed seen = record { value = sym (first_then-seen states g (resumed g nowhere i rows) items i q reached below seen) ∙ looked }

  -- nothing is found from the state
  pub Waits-vain : found g p (at q i) ≡ None → Waits states g i start later items rows rest slots goal
  Waits-vain none = record {
    value =
        ap (λ o. option_or (first_told (thread states g nowhere i rows) items) (option_or (option_map reached o) (below p))) (sym none)
        ∙ looked;
  }

  -- the frames below it come later
  pub Waits-apart : Waits states g i start (after_frames g start rest slots later) items rows (Explore q i ∷ []) slots goal
  unfolding pending
  Waits-apart = record {
    value =
        ap (option_or (first_told (thread states g nowhere i rows) items)) (parted (found g p (at q i)) None (below p))
        ∙ looked;
  }

  pub after_frames-stable : IsStable g (after_frames g start rest slots later)
  after_frames-stable = below-stable

  -- it gives way to others
  pub Waits-moves : IsBounded g → has items q ≡ false → is_resting (state_at states q) ≡ false → (frames : List Frame) (slots' : Slots)
      → Yields g (at q i) rest frames slots slots'
      → Waits states g i start later (items ++ q ∷ []) rows frames slots' goal
  Waits-moves bounded new moves frames slots' e = record {
    value =
        first_then-moves states g (resumed g nowhere i rows) items i q reached below below-stable moves
        (λ p. option_or (hit start (pending (found g p) frames slots')) (later p))
        (ap (λ o. option_or (hit start o) (later (and_at (at q i) p)))
        (pending-yielded g bounded p q i rest slots (passed_at-has items i q ∙ new) frames slots' e)
        ∙ parted (found g p (at q i)) (pending (found g (and_at (at q i) p)) rest slots) (later (and_at (at q i) p)))
        ∙ looked;
  }

  -- it rests
  pub Waits-rests : has items q ≡ false → q < length rows → is_resting (state_at states q) ≡ true → found g p (at q i) ≡ found g nowhere (at q i)
      → Waits states g i start later (items ++ q ∷ []) (set rows q (start, slots)) rest slots goal
  Waits-rests new lt rests is = record {
    value =
        first_then-rests states g (resumed g nowhere i rows) items i q reached below below-stable rests (resumed g nowhere i (set rows q (start, slots))) kept
        here
        ∙ looked;
  }
    where
      kept : (x : ℕ) → has items x ≡ true → resumed g nowhere i (set rows q (start, slots)) x ≡ resumed g nowhere i rows x
      kept x h =
          let differ : x ≢ q = λ e. true≢false (sym h ∙ ap (has items) e ∙ new) in
          rw (get_or-set_other rows q x (start, slots) (0, []) differ) refl

      here : resumed g nowhere i (set rows q (start, slots)) q ≡ option_map reached (found g p (at q i))
      here =
          rw (get_or-set_same rows q (start, slots) (0, []) lt)
          (sym (reached-is (found g nowhere (at q i))) ∙ ap (option_map reached) (sym is))

module _ {states : List State} {g : PriorityGraph} {i start : ℕ} {later : Passed → Option Hit} {items : List ℕ} {rows : List Row} {slots : Slots}
    {goal : Option Hit} where
  pub Waits-restored : (k : ℕ) (old : Option ℕ) (rest : List Frame) → Waits states g i start later items rows (Restore k old ∷ rest) slots goal
      → Waits states g i start later items rows rest (set slots k old) goal
  unfolding pending
  Waits-restored k old rest s = record { value = s.value }

  -- frames that came later are looked at now
  pub Waits-next : (frames : List Frame) → Closed states g i (after_frames g start frames slots later) items rows goal
      → Waits states g i start later items rows frames slots goal
  Waits-next frames s = record { value = s.value }

  pub Waits-over : Waits states g i start later items rows [] slots goal → Closed states g i later items rows goal
  unfolding pending
  Waits-over s = record { value = s.value }

  -- a state writes a slot and goes on, where nothing is left to come back to
  pub Waits-written : (q next k : ℕ) (old : Option ℕ) → IsStable g later → IsBounded g → has items q ≡ false → is_resting (state_at states q) ≡ false
      → Yields g (at q i) [] (Explore next i ∷ Restore k old ∷ []) slots (set slots k (Some i))
      → Waits states g i start later items rows (Explore q i ∷ []) slots goal
      → Waits states g i start later (items ++ q ∷ []) rows (Explore next i ∷ []) (set slots k (Some i)) goal
  unfolding pending
  Waits-written q next k old stable bounded new moves e w =
      let moved = Waits-moves stable w bounded new moves (Explore next i ∷ Restore k old ∷ []) (set slots k (Some i)) e in
      record { value = moved.value }
