-- The patterns of an NFA, and their first runs, wherever acceptance is permitted.
use Rattle.std.proofs.Common.{◌≡◌, ◌≢◌, ℕ, suc, ◌+◌, ◌≤◌, ◌<◌, ◌⊎◌, List, [], ◌∷◌, refl, sym, ◌∙◌, ap, subst, inl, inr, ⊎_elim, arith, length, ◌++◌, get_or, ◌-◌}
use Rattle.std.specs.Prelude.{false, Option, Some, None, map, option_map, slice_get, slice_index}
use Rattle.std.specs.Option.{option_or}
use Rattle.std.proofs.lemmas.Bool.{cases_lt}
use Rattle.std.proofs.lemmas.Option.{same_Some, slice_get-get_or, slice_get_within}
use Rattle.std.proofs.lemmas.List.{get_or_append_left, get_or-append_right}
use Rattle.rx_model.specs.Expression.{Expression}
use Rattle.rx_model.specs.Graph as graph
use Rattle.rx_model.specs.Runs.{Configuration, PriorityGraph, Passed, Sieve, everywhere, sifted, sieved, Trace, with_write, nowhere, and_at, same, found, first_some, first_trace}
use Rattle.rx_model.specs.Search.{Patterns, WhichCaptures, all as every_group, implicit as whole_alone, none as no_group, told, slot_of, first_where, first_of_patterns_where}
use Rattle.rx_model.proofs.lemmas.runs.WriteLemmas.{told-or, told-all, told-implicit, found-silent, write-nothing}
use Rattle.rx_model.proofs.lemmas.runs.RunLemmas.{by_test, same-true}
use Rattle.rx_model.proofs.lemmas.runs.FoundLemmas.{found-step, found-passed}
use Rattle.rx_model.proofs.lemmas.graphs.SieveLemmas.{sieved-bounded, sieved-everywhere, first-everywhere, first_of_patterns-everywhere}
use Rattle.rx_hir.specs.Sound.{IsSound}
use Rattle.rx_nfa.specs.Automaton.{at, forwards, automaton, state_accepts, state_writes, state_step}
use Rattle.rx_nfa.specs.Nfa.{Nfa, HasRuns, HasFirstRuns}
use Rattle.rx_nfa.specs.Draft.{Draft, Continues, Extends, pushed, accepting}
use Rattle.rx_nfa.specs.States.{Stands}
use Rattle.rx_nfa.specs.Built.{Sends, Mirrors, Built, build_bounds, compiled_pattern, whole_slot, part_of, HasPart, HasParts, HasPatterns, StartsAll}
use Rattle.rx_nfa.specs.Directed.{directed_part}
use Rattle.rx_nfa.proofs.lemmas.parts.OrderLemmas.{directed-forwards}
use Rattle.rx_nfa.specs.declared.state.State.{State}
use Rattle.rx_nfa.specs.declared.state.State.TheVariants.{Union, Match}
use Rattle.rx_nfa.proofs.lemmas.runs.AutomatonLemmas.{automaton-bounded, automaton-successors, automaton-accepted, automaton-written, automaton-successors-past, automaton-accepted-past}
use Rattle.rx_nfa.proofs.lemmas.parts.BuiltLemmas.{Extends-pushed, Extends-same, Rises-from, Rises-to, Mirrors-kept, Keeps-same, Keeps-extends, Keeps-continues, Stands-pushed, Stands-kept, pushed-length}
use Rattle.rx_nfa.proofs.lemmas.runs.SilentLemmas.{told-part}
use Rattle.rx_nfa.proofs.lemmas.runs.ImageLemmas.{image, image-sends, image-either, image-found}

-- what stands among the states stays there
pub HasPart-extends : (old new : Draft) (part : graph.Part) (start : ℕ) → Continues old new → HasPart old.states part start → HasPart new.states part start
HasPart-extends old new part start e h = record {
  images = h.images;
  rises = Rises-to 0 (length old.states) (length new.states) h.images e.longer h.rises;
  mirrors = λ f sends. Mirrors-kept f 0 0 old.states new.states part h.images start (omega arith) (Keeps-continues 0 old new e) (h.mirrors f sends);
}

-- a pattern: its accepting state, and before it the part between its slots
pub HasPart-pattern : (whole : Option ℕ) (body : graph.Builder) (p : ℕ) (old mid new : Draft) (start : ℕ) → mid ≡ accepting old p
    → Built (build_bounds whole body) (length old.states) mid new start → HasPart new.states (compiled_pattern whole body p) start
unfolding compiled_pattern
HasPart-pattern whole body p old mid new start is b' = record {
  images = length old.states ∷ b.images;
  rises = (
    omega arith,
    Rises-from (suc (length old.states)) (length (pushed old (Match p)).states) (length new.states) b.images
        (let l = pushed-length old (Match p) in omega arith) b.rises,
  );
  mirrors = λ f sends. mirrors f sends;
}
  where
    b : Built (build_bounds whole body) (length old.states) (accepting old p) new start
    b = subst (λ d. Built (build_bounds whole body) (length old.states) d new start) is b'

    mirrors : (f : ℕ → ℕ) → Sends f 0 (length old.states ∷ b.images)
        → Mirrors f 0 new.states (compiled_pattern whole body p) (length old.states ∷ b.images) start
    mirrors f sends =
        let part = build_bounds whole body 0 1 in
        let m = Mirrors-kept f 0 (length (pushed old (Match p)).states) new.states new.states part b.images start (omega arith)
        (Keeps-same (length (pushed old (Match p)).states) new.states) (b.mirrors f 0 1 sends.0 sends.1) in
        record {
          start_is = m.start_is;
          each = (
            Stands-kept 0 (length old.states) (pushed old (Match p)).states new.states (omega arith)
                (Keeps-extends (length old.states) (accepting old p) new b.extends) (length old.states) (Match p) (Stands-pushed old (Match p)),
            m.each,
          );
        }

-- what is found past the end is nothing
found-far : (ok : Sieve) (terminator : ℕ) (states : List State) (text : List ℕ) (end : ℕ) (q : Passed) (s i : ℕ) → end < i
    → found (sieved ok (automaton terminator states text end)) q (at s i) ≡ None
found-far ok terminator states text end q s i far =
    by_test (q (at s i))
    (λ seen. found-passed (sieved ok (automaton terminator states text end)) q (at s i) seen)
    (λ new. found-step (sieved ok (automaton terminator states text end)) q
    (sieved-bounded ok (automaton terminator states text end) (automaton-bounded (forwards terminator text) states end)) (at s i) new
    (ap (sifted ok i) (automaton-accepted-past (forwards terminator text) states end s i far))
    ∙ ap (λ ds. option_map (with_write ((automaton terminator states text end).written (at s i)) i)
    (first_some (found (sieved ok (automaton terminator states text end)) (and_at (at s i) q)) ds))
    (automaton-successors-past (forwards terminator text) states end s i far))

-- In a later draft, whatever was passed of states that were added since.
module _ (ok : Sieve) (r : Patterns) (text : List ℕ) (end : ℕ) (inside : end ≤ length text) (old new : Draft) (e : Extends old new)
    (silent : r.which_captures ≡ no_group → (c : Configuration) → (automaton r.terminator new.states text end).written c ≡ None) where
  abbrev m : PriorityGraph
  m = sieved ok (automaton r.terminator new.states text end)

  -- it has passed none of the states of `old`, and none that are not there
  abbrev IsClear : Passed → Type 0
  IsClear q = (u j : ℕ) → (u < length old.states) ⊎ (length new.states ≤ u) → q (at u j) ≡ false

  IsAhead : Passed → ℕ → Type 0
  IsAhead q i = (d : Configuration) → i < d.place → q d ≡ false

  -- the automaton tells what it is to tell
  told-found : (which : WhichCaptures) → (which ≡ no_group → (c : Configuration) → m.written c ≡ None) → (q : Passed) (c : Configuration)
      → option_map (told which) (found m q c) ≡ found m q c
  told-found every_group unwritten q c = told-all (found m q c)
  told-found whole_alone unwritten q c = told-implicit (found m q c)
  told-found no_group unwritten q c = found-silent m (unwritten refl) q c

  HasPart-found : (p : ℕ) (h : Expression) (start : ℕ) → HasPart old.states (part_of r p h) start → (q : Passed) (i : ℕ) → IsClear q → IsAhead q i
      → found m q (at start i) ≡ option_map (told r.which_captures) (first_where ok r text end p h i)
  unfolding first_where IsAhead
  HasPart-found p h start has q i clear ahead =
      let part = part_of r p h in
      let n = length new.states in
      let f = image has.images (length new.states) in
      let mirrors = has.mirrors (image has.images (length new.states)) (image-sends has.images (length new.states)) in
      let kept = Mirrors-kept (image has.images (length new.states)) 0 0 old.states new.states (part_of r p h) has.images start (omega arith)
      (Keeps-extends 0 old new e) mirrors in
      sym (told-found r.which_captures silent q (at start i))
      ∙ ap (option_map (told r.which_captures))
      (ap (λ s. found m q (at s i)) (sym kept.start_is)
      ∙ image-found r.terminator text end inside (part_of r p h).states new.states 0 (length old.states) has.images e.longer has.rises kept.each ok q
      (part_of r p h).start i
      (λ j k. clear (image has.images (length new.states) j) k (image-either has.images 0 (length old.states) (length new.states) j has.rises)) ahead)
      ∙ told-part r.terminator text end ok r.which_captures (slot_of r p) p h i

  -- what is found from each start in turn
  starts-found : (p : ℕ) (hs : List Expression) (starts : List ℕ) → length starts ≡ length hs
      → ((k : ℕ) (h : Expression) → slice_get hs k ≡ Some h → HasPart old.states (part_of r (p + k) h) (slice_index starts k))
      → (q : Passed) (i : ℕ) → IsClear q → IsAhead q i → first_some (found m q) (map (λ s. at s i) starts) ≡ option_map (told r.which_captures)
      (first_of_patterns_where ok r text end p hs i)
  unfolding first_of_patterns_where
  starts-found p [] [] long has q i clear ahead = refl
  starts-found p [] (s ∷ starts) long has q i clear ahead = absurd (omega arith)
  starts-found p (h ∷ hs) [] long has q i clear ahead = absurd (omega arith)
  starts-found p (h ∷ hs) (s ∷ starts) long has q i clear ahead =
      let none : p + 0 ≡ p = omega arith in
      let here : HasPart old.states (part_of r p h) s = subst (λ n. HasPart old.states (part_of r n h) s) none (has 0 h refl) in
      (λ j. option_or (HasPart-found p h s here q i clear ahead j)
      (starts-found (suc p) hs starts (omega arith)
      (λ k x is. (let more : p + suc k ≡ suc p + k = omega arith in
      subst (λ n. HasPart old.states (part_of r n x) (slice_index starts k)) more (has (suc k) x is)))
      q i clear ahead j))
      ∙ sym (told-or r.which_captures (first_where ok r text end p h i) (first_of_patterns_where ok r text end (suc p) hs i))

  module _ (starts : List ℕ) (long : length starts ≡ length r.expressions) (has : HasPatterns old.states r (length r.expressions) starts) where
    has-all : (k : ℕ) (h : Expression) → slice_get r.expressions k ≡ Some h → HasPart old.states (part_of r (0 + k) h) (slice_index starts k)
    has-all k h is =
        let none : k ≡ 0 + k = omega arith in
        subst (λ n. HasPart old.states (part_of r n h) (slice_index starts k)) none (has k h (slice_get_within r.expressions k h is) is)

    all-found : (q : Passed) (i : ℕ) → IsClear q → IsAhead q i → first_some (found m q) (map (λ s. at s i) starts) ≡ option_map (told r.which_captures)
        (first_of_patterns_where ok r text end 0 r.expressions i)
    all-found q i clear ahead = starts-found 0 r.expressions starts long has-all q i clear ahead

    pub each-found : (p i : ℕ) (h : Expression) → slice_get r.expressions p ≡ Some h
        → first_trace m (at (slice_index starts p) i) ≡ option_map (told r.which_captures) (first_where ok r text end p h i)
    unfolding IsAhead
    each-found p i h is =
        let none : 0 + p ≡ p = omega arith in
        HasPart-found p h (slice_index starts p) (subst (λ n. HasPart old.states (part_of r n h) (slice_index starts p)) none (has-all p h is)) nowhere i
        (λ u j out. refl) (λ d lt. refl)

    -- from the only start
    pub only-found : (s i : ℕ) → starts ≡ s ∷ [] → first_trace m (at s i) ≡ option_map (told r.which_captures)
        (first_of_patterns_where ok r text end 0 r.expressions i)
    unfolding IsAhead
    only-found s i only =
        single (first_trace m (at s i)) ∙ ap (λ qs. first_some (found m nowhere) (map (λ x. at x i) qs)) (sym only)
        ∙ all-found nowhere i (λ u j out. refl) (λ d lt. refl)
      where
        single : (o : Option Trace) → o ≡ option_or o None
        single None = refl
        single (Some t) = refl

    -- from the choice between them
    pub choice-found : (i : ℕ) → new ≡ pushed old (Union starts) → first_trace m (at (length old.states) i) ≡ option_map (told r.which_captures)
        (first_of_patterns_where ok r text end 0 r.expressions i)
    unfolding IsAhead
    choice-found i is =
        ⊎_elim
        (λ far. found-far ok r.terminator new.states text end nowhere (length old.states) i far ∙ sym (all-far far starts)
        ∙ all-found nowhere i (λ u j out. refl) (λ d lt. refl))
        (λ le.
        found-step m nowhere (sieved-bounded ok (automaton r.terminator new.states text end) (automaton-bounded (forwards r.terminator text) new.states end))
        (at (length old.states) i) refl
        (ap (sifted ok i) (automaton-accepted (forwards r.terminator text) new.states end (length old.states) i stands.inside le
        ∙ ap state_accepts stands.is))
        ∙ (λ j. option_map (with_write (written j) i) (first_some (found m (and_at (at (length old.states) i) nowhere)) (successors le j)))
        ∙ write-nothing i (first_some (found m (and_at (at (length old.states) i) nowhere)) (map (λ s. at s i) starts))
        ∙ all-found (and_at (at (length old.states) i) nowhere) i
        (λ u j out. apart (at u j) (λ same. absurd (elsewhere u out (ap (λ (c : Configuration). c.state) same))))
        (λ d lt. apart d (λ same. let equal : i ≡ d.place = ap (λ (c : Configuration). c.place) same in absurd (omega arith))))
        (cases_lt end i)
      where
        stands : Stands (length old.states) new.states (length old.states) (Union starts)
        stands = subst (λ (d : Draft). Stands (length old.states) d.states (length old.states) (Union starts)) (sym is) (Stands-pushed old (Union starts))

        longer : length new.states ≡ suc (length old.states)
        longer = ap (λ (d : Draft). length d.states) is ∙ pushed-length old (Union starts)

        elsewhere : (u : ℕ) → (u < length old.states) ⊎ (length new.states ≤ u) → length old.states ≢ u
        elsewhere u (inl lt) same = omega arith
        elsewhere u (inr le) same = let l = longer in omega arith

        written : m.written (at (length old.states) i) ≡ None
        written = automaton-written (forwards r.terminator text) new.states end (length old.states) i ∙ ap state_writes stands.is

        successors : i ≤ end → m.successors (at (length old.states) i) ≡ map (λ s. at s i) starts
        successors le = automaton-successors (forwards r.terminator text) new.states end (length old.states) i stands.inside le
            ∙ ap (λ x. state_step (forwards r.terminator text) end x i) stands.is

        apart : (d : Configuration) → (at (length old.states) i ≡ d → ⊥) → and_at (at (length old.states) i) nowhere d ≡ false
        apart d differs = by_test (same (at (length old.states) i) d) (λ e. absurd (differs (same-true (at (length old.states) i) d e))) (λ e. rw e refl)

        all-far : end < i → (qs : List ℕ) → first_some (found m nowhere) (map (λ s. at s i) qs) ≡ None
        all-far far [] = refl
        all-far far (s ∷ qs) = rw (found-far ok r.terminator new.states text end nowhere s i far) (all-far far qs)

-- one pattern more
pub HasParts-more : (part : ℕ → Expression → graph.Part) (hs : List Expression) (n : ℕ) (old new : Draft) (starts starts' : List ℕ) (q : ℕ) (h : Expression)
    → Continues old new → length starts ≡ n → starts' ≡ starts ++ q ∷ []
    → n < length hs → h ≡ get_or hs n h → HasParts old.states part hs n starts → HasPart new.states (part n h) q → HasParts new.states part hs (n + 1) starts'
HasParts-more part hs n old new starts starts' q h e long grown inside is has last p x lt here =
    ⊎_elim
    (λ below.
    subst (HasPart new.states (part p x)) (sym (get_or_append_left starts (q ∷ []) 0 p (omega arith)) ∙ ap (λ qs. get_or qs p 0) (sym grown))
    (HasPart-extends old new (part p x) (slice_index starts p) e (has p x below here)))
    (λ above.
    let same : p ≡ n = omega arith in
    let none : n - n ≡ 0 = omega arith in
    let this : x ≡ h = same_Some _ _ (sym here ∙ ap (slice_get hs) same ∙ slice_get-get_or hs n h inside ∙ ap Some (sym is)) in
    let place : q ≡ get_or starts' p 0 = sym (ap (λ k. get_or starts' k 0) same ∙ ap (λ qs. get_or qs n 0) grown
    ∙ get_or-append_right starts (q ∷ []) n n 0 long (omega arith) ∙ ap (λ k. get_or (q ∷ []) k 0) none) in
    subst (HasPart new.states (part p x)) place (moved-part same this last))
    (cases_lt p n)
  where
    moved-part : {p : ℕ} {x : Expression} → p ≡ n → x ≡ h → HasPart new.states (part n h) q → HasPart new.states (part p x) q
    moved-part {p} {x} same this has = subst (λ k. HasPart new.states (part k x) q) (sym same) (subst (λ y. HasPart new.states (part n y) q) (sym this) has)

-- the parts of patterns that are read forwards
pub HasPatterns-forwards : (r : Patterns) (states : List State) (n : ℕ) (starts : List ℕ) → HasParts states (directed_part false r) r.expressions n starts
    → HasPatterns states r n starts
HasPatterns-forwards r states n starts has p h lt is =
    subst (λ body. HasPart states (compiled_pattern (whole_slot r.which_captures p) body p) (slice_index starts p)) (directed-forwards (slot_of r p) h)
    (has p h lt is)

-- one sound expression more
pub sound-more : (hs : List Expression) (n : ℕ) (h : Expression) → n < length hs → h ≡ get_or hs n h → IsSound h
    → ((p : ℕ) (x : Expression) → p < n → slice_get hs p ≡ Some x → IsSound x)
    → (p : ℕ) (x : Expression) → p < n + 1 → slice_get hs p ≡ Some x → IsSound x
sound-more hs n h inside is sound before p x lt here =
    ⊎_elim
    (λ below. before p x below here)
    (λ above.
    let same : p ≡ n = omega arith in
    let this : x ≡ h = same_Some _ _ (sym here ∙ ap (slice_get hs) same ∙ slice_get-get_or hs n h inside ∙ ap Some (sym is)) in
    subst IsSound (sym this) sound)
    (cases_lt p n)

-- the runs of an NFA that has the patterns
pub HasRuns-from : (r : Patterns) (nfa : Nfa) (old new : Draft) → HasPatterns old.states r (length r.expressions) nfa.starts
    → length nfa.starts ≡ length r.expressions → nfa.terminator ≡ r.terminator
    → nfa.states ≡ new.states
    → StartsAll old new nfa.starts nfa.start_anchored
    → (r.which_captures ≡ no_group → (text : List ℕ) (end : ℕ) (c : Configuration) → (automaton r.terminator new.states text end).written c ≡ None)
    → HasRuns nfa r
HasRuns-from r nfa old new has long ends kept starting silent = ⊎_elim only choice starting
  where
    made : (e : Extends old new) → ((ok : Sieve) (text : List ℕ) (end i : ℕ) → end ≤ length text
        → first_trace (sieved ok (automaton r.terminator new.states text end)) (at nfa.start_anchored i) ≡ option_map (told r.which_captures)
        (first_of_patterns_where ok r text end 0 r.expressions i)) → HasRuns nfa r
    made e from_all = record {
      patterns = long;
      each = λ ok text end p i h le is.
          (λ k. first_trace (sieved ok (automaton (ends k) (kept k) text end)) (at (slice_index nfa.starts p) i))
          ∙ each-found ok r text end le old new e (λ w c. silent w text end c) nfa.starts long has p i h is;
      all = λ ok text end i le. (λ k. first_trace (sieved ok (automaton (ends k) (kept k) text end)) (at nfa.start_anchored i)) ∙ from_all ok text end i le;
    }

    only : (nfa.starts ≡ nfa.start_anchored ∷ []) × (new ≡ old) → HasRuns nfa r
    only h =
        let e : Extends old new = subst (Extends old) (sym h.1) (Extends-same old) in
        made e (λ ok text end i le. only-found ok r text end le old new e (λ w c. silent w text end c) nfa.starts long has nfa.start_anchored i h.0)

    choice : (nfa.start_anchored ≡ length old.states) × (new ≡ pushed old (Union nfa.starts)) → HasRuns nfa r
    choice h =
        let e : Extends old new = subst (Extends old) (sym h.1) (Extends-pushed old (Union nfa.starts)) in
        made e (λ ok text end i le. ap (λ q. first_trace (sieved ok (automaton r.terminator new.states text end)) (at q i)) h.0
        ∙ choice-found ok r text end le old new e (λ w c. silent w text end c) nfa.starts long has i h.1)

-- with the sieve that lets all through, they are the first runs
pub HasRuns-first : (nfa : Nfa) (r : Patterns) → HasRuns nfa r → HasFirstRuns nfa r
HasRuns-first nfa r runs = record {
  patterns = runs.patterns;
  each = λ text end p i h le is.
      (ap (λ g. first_trace g (at (slice_index nfa.starts p) i)) (sym (sieved-everywhere (automaton nfa.terminator nfa.states text end)))
      ∙ runs.each everywhere text end p i h le is
      ∙ ap (option_map (told r.which_captures)) (first-everywhere r text end p h i));
  all = λ text end i le.
      (ap (λ g. first_trace g (at nfa.start_anchored i)) (sym (sieved-everywhere (automaton nfa.terminator nfa.states text end)))
      ∙ runs.all everywhere text end i le
      ∙ ap (option_map (told r.which_captures)) (first_of_patterns-everywhere r text end 0 r.expressions i));
}

pub StartsAll-kept : (old new : Draft) (starts : List ℕ) (q : ℕ) → StartsAll old new starts q → (new.groups ≡ old.groups) × (new.slots ≡ old.slots)
StartsAll-kept old new starts q all =
    ⊎_elim
    (λ h. (ap (λ (d : Draft). d.groups) h.1, ap (λ (d : Draft). d.slots) h.1))
    (λ h. (ap (λ (d : Draft). d.groups) h.1, ap (λ (d : Draft). d.slots) h.1))
    all
