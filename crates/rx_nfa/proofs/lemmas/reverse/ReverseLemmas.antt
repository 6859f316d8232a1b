-- The runs of an NFA that reads backwards.
use Rattle.std.proofs.Common.{◌≡◌, ℕ, zero, suc, ◌-◌, ◌≤◌, ◌<◌, List, [], ◌∷◌, refl, sym, ◌∙◌, ap, subst, ⊎_elim, arith, length, get_or}
use Rattle.std.specs.Prelude.{true, Option, Some, None, Contains, ◌↔◌, option_map, slice_get, slice_index}
use Rattle.std.proofs.lemmas.Option.{same_Some, slice_get_within}
use Rattle.rx_model.specs.Expression.{Expression, AreOrdered}
use Rattle.rx_model.specs.Graph as graph
use Rattle.rx_model.specs.Meaning.{Means}
use Rattle.rx_model.specs.Runs.{PriorityGraph, Leads}
use Rattle.rx_model.specs.Search.{Patterns, slot_of}
use Rattle.rx_model.proofs.lemmas.graphs.PlacedLemmas.{Placed, Placed-first, Placed-rest}
use Rattle.rx_model.proofs.lemmas.meaning.CoverLemmas.{Placed-whole}
use Rattle.rx_model.proofs.lemmas.meaning.EmptyLemmas.{means-rises}
use Rattle.rx_model.proofs.lemmas.runs.MemberLemmas.{choice-member, member-choice, none-among}
use Rattle.rx_nfa.specs.Automaton.{at, automaton_over, backwards, state_accepts, state_step}
use Rattle.rx_nfa.specs.Built.{Mirrors, bound, build_bounds, compiled_pattern, whole_slot, HasPart, HasParts, StartsAll}
use Rattle.rx_nfa.specs.Directed.{build_directed, directed_part}
use Rattle.rx_nfa.specs.Draft.{Draft, Extends, pushed}
use Rattle.rx_nfa.specs.Nfa.{Nfa, LeadsBack, HasReverseRuns}
use Rattle.rx_nfa.specs.States.{Stands}
use Rattle.rx_nfa.specs.declared.state.State.{State}
use Rattle.rx_nfa.specs.declared.state.State.TheVariants.{Union, Match}
use Rattle.rx_nfa.proofs.lemmas.parts.BuiltLemmas.{Extends-same, Extends-pushed, Extends-continues, Stands-pushed, Stands-from}
use Rattle.rx_nfa.proofs.lemmas.runs.AutomatonLemmas.{automaton-accepted, automaton-successors}
use Rattle.rx_nfa.proofs.lemmas.runs.ImageLemmas.{image, image-sends}
use Rattle.rx_nfa.proofs.lemmas.runs.PatternLemmas.{HasPart-extends}
use Rattle.rx_nfa.proofs.lemmas.reverse.WalkLemmas.{walk-step, step-walk, walk-within, Goes, image-of, Spells-slot, Spells-way}
use Rattle.rx_nfa.proofs.lemmas.reverse.BackLemmas.{back}
use Rattle.rx_nfa.proofs.lemmas.reverse.MeaningLemmas.{Spelt, spelt-directed, spelt-between}
use Rattle.rx_model.proofs.lemmas.graphs.StateLemmas.{IsStateOf}

-- The walks from the start of a part that stands for a pattern.
module _ (terminator : ℕ) (text : List ℕ) (end : ℕ) (fits : end ≤ length text) (states : List State) (whole : Option ℕ) (slot : ℕ → Option ℕ) (p : ℕ)
    (h : Expression) (ordered : AreOrdered h) (start : ℕ)
    (has : HasPart states (compiled_pattern whole (build_directed true slot h) p) start) where
  abbrev part : graph.Part
  part = compiled_pattern whole (build_directed true slot h) p

  abbrev g : PriorityGraph
  g = automaton_over (backwards terminator text) states end

  abbrev f : ℕ → ℕ
  f = image has.images (length states)

  mirrors : Mirrors f 0 states part has.images start
  mirrors = has.mirrors (image has.images (length states)) (image-sends has.images (length states))

  abbrev bounds : graph.Part
  bounds = build_bounds whole (build_directed true slot h) 0 1

  placed : Placed part.states 0 part.states
  placed = Placed-whole part.states

  module _ (pattern final : ℕ) where
    abbrev Walk : ℕ → ℕ → ℕ → Type 0
    Walk n c i = Goes (backwards terminator text) states end pattern final part.states has.images mirrors.each n c i

    abbrev Spelt' : (ℕ → ℕ → Type 0) → graph.Builder → Type 0
    Spelt' M b = Spelt terminator text end fits states pattern final part.states has.images mirrors.each M b

    bound-spelt : (o : Option ℕ) → Spelt' (λ d e. d ≡ e) (graph.build_state (bound o))
    bound-spelt None = Spells-way (backwards terminator text) states end pattern final part.states has.images mirrors.each
    bound-spelt (Some number) = Spells-slot (backwards terminator text) states end pattern final part.states has.images mirrors.each number

    bounds-spelt : Spelt' (back (length text) (Means terminator text h)) (build_bounds whole (build_directed true slot h))
    bounds-spelt =
        spelt-between terminator text end fits states pattern final part.states has.images mirrors.each (back (length text) (Means terminator text h))
        (bound whole) (bound (option_map suc whole)) (build_directed true slot h)
        (bound-spelt whole) (bound-spelt (option_map suc whole))
        (spelt-directed terminator text end fits states pattern final part.states has.images mirrors.each slot h ordered)

    accept-is : IsStateOf part.states 0 (graph.accept p)
    unfolding compiled_pattern
    accept-is = Placed-first part.states 0 (graph.accept p) bounds.states placed

    bounds-placed : Placed part.states 1 bounds.states
    unfolding compiled_pattern
    bounds-placed = Placed-rest part.states 0 (graph.accept p) bounds.states placed

    start-is : f bounds.start ≡ start
    unfolding compiled_pattern
    start-is = mirrors.start_is

    accept-stands : Stands 0 states (f 0) (Match p)
    accept-stands = image-of (backwards terminator text) states end pattern final part.states has.images mirrors.each 0 (graph.accept p) accept-is

    -- a walk from the accepting state ends at once
    accepts : (m e : ℕ) → Leads g pattern final m (at (f 0) e) → (pattern ≡ p) × (e ≡ final)
    accepts zero e l =
        let le = walk-within (backwards terminator text) states end pattern final 0 (f 0) e l in (
          sym
              (same_Some _ _
              (sym (automaton-accepted (backwards terminator text) states end (f 0) e accept-stands.inside le ∙ ap state_accepts accept-stands.is)
              ∙ l.0)),
          l.1,
        )
    accepts (suc m) e l =
        let le = walk-within (backwards terminator text) states end pattern final (suc m) (f 0) e l in
        absurd (none-among l.0 (subst (λ ds. Contains ds l.0)
        (automaton-successors (backwards terminator text) states end (f 0) e accept-stands.inside le
        ∙ ap (λ t. state_step (backwards terminator text) end t e) accept-stands.is) l.1))

    pub walk-means : (n d : ℕ) → Leads g pattern final n (at start d) → (pattern ≡ p) × (d ≤ final)
        × Means terminator text h (length text - final) (length text - d)
    walk-means n d l =
        let x = bounds-spelt.walked 0 1 n d bounds-placed (subst (λ q. Leads g pattern final n (at q d)) (sym start-is) l) in
        let y = accepts x.1 x.0 x.4 in
        (y.0, subst (λ e. d ≤ e) y.1 x.2.0, subst (λ e. Means terminator text h (length text - e) (length text - d)) y.1 x.2.1)

    pub means-walk : (d : ℕ) → pattern ≡ p → d ≤ final → final ≤ end → Means terminator text h (length text - final) (length text - d)
        → (n : ℕ) × Leads g pattern final n (at start d)
    means-walk d same le within m =
        let last : Leads g pattern final 0 (at (f 0) final) = (
          automaton-accepted (backwards terminator text) states end (f 0) final accept-stands.inside within ∙ ap state_accepts accept-stands.is
              ∙ ap Some (sym same),
          refl,
        ) in
        let x = bounds-spelt.walks 0 1 0 d final bounds-placed (le, m) last in
        (x.0, subst (λ q. Leads g pattern final x.0 (at q d)) start-is x.1)

-- The patterns of an NFA.
module _ (r : Patterns) (nfa : Nfa) (old new : Draft) (e : Extends old new)
    (has : HasParts old.states (directed_part true r) r.expressions (length r.expressions) nfa.starts) (long : length nfa.starts ≡ length r.expressions)
    (ordered : (p : ℕ) (h : Expression) → slice_get r.expressions p ≡ Some h → AreOrdered h) (text : List ℕ) (first : ℕ) where
  abbrev end : ℕ
  end = length text - first

  abbrev m : PriorityGraph
  m = automaton_over (backwards r.terminator text) new.states (length text - first)

  -- a walk from the state at the distance of j to acceptance at the distance of i
  abbrev Back : (state q i j : ℕ) → Type 0
  Back state q i j = (n : ℕ) × Leads (automaton_over (backwards r.terminator text) new.states (length text - first)) q (length text - i) n
      (at state (length text - j))

  has-part : (p : ℕ) (h : Expression) → slice_get r.expressions p ≡ Some h
      → HasPart new.states (compiled_pattern (whole_slot r.which_captures p) (build_directed true (slot_of r p) h) p) (slice_index nfa.starts p)
  has-part p h is = HasPart-extends old new (directed_part true r p h) (slice_index nfa.starts p) (Extends-continues old new e) (has p h (slice_get_within r.expressions p h is) is)

  pub each-means : (p q i j : ℕ) (h : Expression) → i ≤ length text → j ≤ length text → slice_get r.expressions p ≡ Some h
      → Back (slice_index nfa.starts p) q i j → (q ≡ p) × Means r.terminator text h i j
  each-means p q i j h le le' is w =
      let x = walk-means r.terminator text (length text - first) (omega arith) new.states (whole_slot r.which_captures p) (slot_of r p) p h (ordered p h is)
      (slice_index nfa.starts p) (has-part p h is) q (length text - i) w.0 (length text - j) w.1 in
      let at-i : length text - (length text - i) ≡ i = omega arith in
      let at-j : length text - (length text - j) ≡ j = omega arith in
      (x.0, subst (λ k. Means r.terminator text h k j) at-i (subst (λ k. Means r.terminator text h (length text - (length text - i)) k) at-j x.2))

  pub means-each : (p q i j : ℕ) (h : Expression) → first ≤ i → i ≤ length text → j ≤ length text → slice_get r.expressions p ≡ Some h
      → (q ≡ p) × Means r.terminator text h i j → Back (slice_index nfa.starts p) q i j
  means-each p q i j h from le le' is w =
      let rise = means-rises r.terminator text h i j w.1 in
      let at-i : i ≡ length text - (length text - i) = omega arith in
      let at-j : j ≡ length text - (length text - j) = omega arith in
      means-walk r.terminator text (length text - first) (omega arith) new.states (whole_slot r.which_captures p) (slot_of r p) p h (ordered p h is)
      (slice_index nfa.starts p) (has-part p h is) q (length text - i) (length text - j) w.0 (omega arith) (omega arith)
      (subst (λ k. Means r.terminator text h k (length text - (length text - j))) at-i (subst (λ k. Means r.terminator text h i k) at-j w.1))

  abbrev One : (q i j : ℕ) → Type 0
  One q i j = (h : Expression) × (slice_get r.expressions q ≡ Some h) × Means r.terminator text h i j

  expression-at : (p : ℕ) → p < length r.expressions → (h : Expression) × (slice_get r.expressions p ≡ Some h)
  expression-at p lt = of r.expressions p lt
    where
      of : (hs : List Expression) (p : ℕ) → p < length hs → (h : Expression) × (slice_get hs p ≡ Some h)
      of [] p lt = absurd (omega arith)
      of (x ∷ hs) zero lt = (x, refl)
      of (x ∷ hs) (suc p) lt = of hs p (omega arith)

  -- from one of the starts
  start-means : (s q i j : ℕ) → i ≤ length text → j ≤ length text → Contains nfa.starts s → Back s q i j → One q i j
  start-means s q i j le le' there w =
      let p = there.0 in
      let lt = there.1 in
      let h = expression-at there.0 (omega arith) in
      let is : slice_index nfa.starts there.0 ≡ s = (let same = get_or-default nfa.starts there.0 s 0 there.1 in same ∙ there.2) in
      let x = each-means there.0 q i j h.0 le le' h.1 (subst (λ k. Back k q i j) (sym is) w) in
      (h.0, ap (slice_get r.expressions) x.0 ∙ h.1, x.1)
    where
      get_or-default : (xs : List ℕ) (k x y : ℕ) → k < length xs → get_or xs k y ≡ get_or xs k x
      get_or-default [] k x y lt = absurd (omega arith)
      get_or-default (z ∷ xs) zero x y lt = refl
      get_or-default (z ∷ xs) (suc k) x y lt = get_or-default xs k x y (omega arith)

  -- the start of a pattern is one of them
  start-there : (q : ℕ) (h : Expression) → slice_get r.expressions q ≡ Some h → Contains nfa.starts (slice_index nfa.starts q)
  start-there q h is = let lt = slice_get_within r.expressions q h is in (q, omega arith, same-default nfa.starts q (omega arith))
    where
      same-default : (xs : List ℕ) (k : ℕ) → k < length xs → get_or xs k (slice_index xs k) ≡ slice_index xs k
      same-default [] k lt = absurd (omega arith)
      same-default (x ∷ xs) zero lt = refl
      same-default (x ∷ xs) (suc k) lt = same-default xs k (omega arith)

  -- from the only start
  only-all : (q i j : ℕ) → first ≤ i → i ≤ length text → j ≤ length text → nfa.starts ≡ nfa.start_anchored ∷ [] → Back nfa.start_anchored q i j ↔ One q i j
  only-all q i j from le le' only = (
    λ w. start-means nfa.start_anchored q i j le le' (subst (λ ss. Contains ss nfa.start_anchored) (sym only) (0, omega arith, refl)) w,
    λ o.
        (let there = start-there q o.0 o.1 in
        let is : slice_index nfa.starts q ≡ nfa.start_anchored = alone (subst (λ ss. Contains ss (slice_index nfa.starts q)) only there) in
        subst (λ k. Back k q i j) is (means-each q q i j o.0 from le le' o.1 (refl, o.2))),
  )
    where
      alone : {x y : ℕ} → Contains (y ∷ []) x → x ≡ y
      alone {x} {y} m = at m.0 m.1 m.2
        where
          at : (k : ℕ) → k < 1 → get_or (y ∷ []) k x ≡ x → x ≡ y
          at zero lt same = sym same
          at (suc k) lt same = absurd (omega arith)

  -- from the choice between them
  choice-all : (q i j : ℕ) → first ≤ i → i ≤ length text → j ≤ length text → new ≡ pushed old (Union nfa.starts) → Back (length old.states) q i j ↔ One q i j
  choice-all q i j from le le' is = (
    λ w.
        (let x = walk-step (backwards r.terminator text) new.states (length text - first) q (length text - i) w.0 (length old.states) (length text - j)
        (Union nfa.starts) stands refl w.1 in
        let y = choice-member nfa.starts (length text - j) x.1 x.3 in
        start-means y.0 q i j le le' y.1 (x.0, subst (λ d. Leads m q (length text - i) x.0 d) (sym y.2) x.4)),
    λ o.
        (let w = means-each q q i j o.0 from le le' o.1 (refl, o.2) in
        let within = walk-within (backwards r.terminator text) new.states (length text - first) q (length text - i) w.0 (slice_index nfa.starts q)
        (length text - j) w.1 in (
          suc w.0,
          step-walk (backwards r.terminator text) new.states (length text - first) q (length text - i) w.0 (length old.states) (length text - j)
              (Union nfa.starts) (at (slice_index nfa.starts q) (length text - j)) stands within
              (member-choice nfa.starts (length text - j) (slice_index nfa.starts q) (start-there q o.0 o.1)) w.1,
        )),
  )
    where
      stands : Stands 0 new.states (length old.states) (Union nfa.starts)
      stands = subst (λ (d : Draft). Stands 0 d.states (length old.states) (Union nfa.starts)) (sym is)
          (Stands-from 0 (length old.states) (pushed old (Union nfa.starts)).states (length old.states) (Union nfa.starts) (omega arith)
          (Stands-pushed old (Union nfa.starts)))

-- the runs of an NFA that has the patterns
pub HasReverseRuns-from : (r : Patterns) (nfa : Nfa) (old new : Draft) → HasParts old.states (directed_part true r) r.expressions (length r.expressions)
    nfa.starts → length nfa.starts ≡ length r.expressions
    → nfa.terminator ≡ r.terminator → nfa.states ≡ new.states → StartsAll old new nfa.starts nfa.start_anchored
    → ((p : ℕ) (h : Expression) → slice_get r.expressions p ≡ Some h → AreOrdered h) → HasReverseRuns nfa r
HasReverseRuns-from r nfa old new has long ends kept starting ordered = ⊎_elim only choice starting
  where
    -- the same walks, in the NFA
    moved : {A : Type 0} (text : List ℕ) (first state q i j : ℕ)
        → ((n : ℕ) × Leads (automaton_over (backwards r.terminator text) new.states (length text - first)) q (length text - i) n (at state (length text - j))) ↔
        A → LeadsBack nfa text (length text - first) state q i j ↔ A
    moved {A} text first state q i j h =
        subst
        (λ (s : List State). ((n : ℕ) × Leads (automaton_over (backwards nfa.terminator text) s (length text - first)) q (length text - i) n
        (at state (length text - j))) ↔ A) (sym kept)
        (subst
        (λ (t : ℕ). ((n : ℕ) × Leads (automaton_over (backwards t text) new.states (length text - first)) q (length text - i) n
        (at state (length text - j))) ↔ A) (sym ends) h)

    made : (e : Extends old new) → ((text : List ℕ) (first q i j : ℕ) → first ≤ i → i ≤ length text → j ≤ length text
        → ((n : ℕ) × Leads (automaton_over (backwards r.terminator text) new.states (length text - first)) q (length text - i) n
        (at nfa.start_anchored (length text - j))) ↔ ((h : Expression) × (slice_get r.expressions q ≡ Some h) × Means r.terminator text h i j))
        → HasReverseRuns nfa r
    made e all = record {
      patterns = long;
      each = λ text first p q i j h from le le' is.
          moved text first (slice_index nfa.starts p) q i j (
            λ w. each-means r nfa old new e has long ordered text first p q i j h le le' is w,
            λ o. means-each r nfa old new e has long ordered text first p q i j h from le le' is o,
          );
      all = λ text first q i j from le le'. moved text first nfa.start_anchored q i j (all text first q i j from le le');
    }

    only : (nfa.starts ≡ nfa.start_anchored ∷ []) × (new ≡ old) → HasReverseRuns nfa r
    only h =
        let e : Extends old new = subst (Extends old) (sym h.1) (Extends-same old) in
        made e (λ text first q i j from le le'. only-all r nfa old new e has long ordered text first q i j from le le' h.0)

    choice : (nfa.start_anchored ≡ length old.states) × (new ≡ pushed old (Union nfa.starts)) → HasReverseRuns nfa r
    choice h =
        let e : Extends old new = subst (Extends old) (sym h.1) (Extends-pushed old (Union nfa.starts)) in
        made e (λ text first q i j from le le'.
        subst
        (λ (k : ℕ). ((n : ℕ) × Leads (automaton_over (backwards r.terminator text) new.states (length text - first)) q (length text - i) n
        (at k (length text - j))) ↔ ((x : Expression) × (slice_get r.expressions q ≡ Some x) × Means r.terminator text x i j)) (sym h.0)
        (choice-all r nfa old new e has long ordered text first q i j from le le' h.1))
