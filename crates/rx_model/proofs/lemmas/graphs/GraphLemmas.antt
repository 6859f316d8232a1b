-- The graph of a pattern: it is bounded, its steps never fall, and it accepts that pattern alone.
use Rattle.std.proofs.Common.{◌≡◌, ℕ, zero, suc, ◌+◌, ◌*◌, ◌-◌, ◌≤◌, Bool, true, false, List, [], ◌∷◌, ◌++◌, length, get_or, Option, Some, None, refl, sym, ◌∙◌, ap, subst, arith, true≢false}
use Rattle.std.specs.Prelude.{Contains, is_some, if◌then◌else◌, nat_le, unwrap_or}
use Rattle.std.proofs.lemmas.Bool.Decides.{nat_tests}
use Rattle.rx_model.specs.Runs.{Configuration, PriorityGraph, nowhere, last_of, IsBounded, NeverFalls, Trace, trace, with_write, first_past}
use Rattle.rx_model.specs.Machine.{is_inside, graph_of}
use Rattle.rx_model.specs.Expression.{Expression, Expressions, AreOrdered, empty, literal, class, look, repetition, capture, concat, alternation, nil, cons}
use Rattle.rx_model.specs.Meaning.{Means}
use Rattle.rx_model.specs.Text.{stands_at, member_len}
use Rattle.rx_model.specs.Look.{holds}
use Rattle.rx_model.specs.Length.{minimum_len, is_positive}
use Rattle.rx_model.specs.Graph.{State, text, set, assertion, slot, choice, accept, Part, Builder, build_state, build_then, prefer, loop, loop_once, build_optional, copies, options, build_repetition, build_group, build, build_in_turn, build_each, build_pattern, at, go_by, state_step, state_accepts, state_at, machine_of, runs_of}
use Rattle.rx_model.specs.Search.{Patterns, slot_of, first}
use Rattle.rx_model.proofs.lemmas.runs.RunLemmas.{by_test, map-none}
use Rattle.rx_model.proofs.lemmas.runs.FirstLemmas.{none-is-some, some-is, found-is_run, none-is_none}
use Rattle.rx_model.proofs.lemmas.runs.MachineLemmas.{graph_of-bounded}
use Rattle.rx_model.proofs.lemmas.runs.MemberLemmas.{choice-member, only-among, none-among}
use Rattle.rx_model.proofs.lemmas.meaning.CoverLemmas.{run-pattern, run-means, means-run}
use Rattle.rx_model.proofs.lemmas.runs.RiseLemmas.{found-end, mapped-some, trace-end}
use Rattle.rx_model.proofs.lemmas.graphs.StateLemmas.{prefer-accepts}

-- no state of the list accepts
abbrev pub IsSilent : List State → Type 0
IsSilent states = (k : ℕ) → state_accepts (get_or states k (choice [])) ≡ None

silent-none : IsSilent []
silent-none k = refl

silent-cons : (s : State) (states : List State) → state_accepts s ≡ None → IsSilent states → IsSilent (s ∷ states)
silent-cons s states e silent zero = e
silent-cons s states e silent (suc k) = silent k

silent-append : (xs ys : List State) → IsSilent xs → IsSilent ys → IsSilent (xs ++ ys)
silent-append [] ys a b k = b k
silent-append (x ∷ xs) ys a b zero = a zero
silent-append (x ∷ xs) ys a b (suc k) = silent-append xs ys (λ j. a (suc j)) b k

-- no state that the builder makes accepts
abbrev pub BuildsSilent : Builder → Type 0
BuildsSilent b = (next base : ℕ) → IsSilent (b next base).states

then-silent : (first second : Builder) → BuildsSilent first → BuildsSilent second → BuildsSilent (build_then first second)
then-silent first second a b next base =
    let s = second next base in
    silent-append s.states (first s.start (base + length s.states)).states (b next base) (a s.start (base + length s.states))

state-silent : (state : ℕ → State) → ((next : ℕ) → state_accepts (state next) ≡ None) → BuildsSilent (build_state state)
state-silent state e next base = silent-cons (state next) [] (e next) silent-none

module _ (greedy : Bool) (body : Builder) (a : BuildsSilent body) where
  loop-silent : BuildsSilent (loop greedy body)
  loop-silent next base = silent-cons (prefer greedy (body base (suc base)).start next) (body base (suc base)).states
      (prefer-accepts greedy (body base (suc base)).start next) (a base (suc base))

  loop_once-silent : BuildsSilent (loop_once greedy body)
  loop_once-silent next base = silent-cons (prefer greedy (body base (suc base)).start next) (body base (suc base)).states
      (prefer-accepts greedy (body base (suc base)).start next) (a base (suc base))

  optional-silent : BuildsSilent (build_optional greedy body)
  optional-silent next base = silent-cons (prefer greedy (body next (suc base)).start next) (body next (suc base)).states
      (prefer-accepts greedy (body next (suc base)).start next) (a next (suc base))

  copies-silent : (n : ℕ) (last : Builder) → BuildsSilent last → BuildsSilent (copies n body last)
  copies-silent zero last l = l
  copies-silent (suc n) last l = then-silent body (copies n body last) a (copies-silent n last l)

  options-silent : (n : ℕ) → BuildsSilent (options greedy n body)
  options-silent zero next base = silent-none
  options-silent (suc n) next base =
      let inner = options greedy n body next base in
      let c = base + length inner.states in
      let b = body inner.start (suc c) in
      silent-append inner.states (prefer greedy b.start next ∷ b.states) (options-silent n next base)
      (silent-cons (prefer greedy b.start next) b.states (prefer-accepts greedy b.start next) (a inner.start (suc c)))

repetition-silent : (consumes greedy : Bool) (body : Builder) → BuildsSilent body → (min : ℕ) (max : Option ℕ)
    → BuildsSilent (build_repetition consumes min max greedy body)
repetition-silent true greedy body a zero None = loop-silent greedy body a
repetition-silent false greedy body a zero None = optional-silent greedy (loop_once greedy body) (loop_once-silent greedy body a)
repetition-silent consumes greedy body a (suc n) None = copies-silent greedy body a n (loop_once greedy body) (loop_once-silent greedy body a)
repetition-silent consumes greedy body a zero (Some m) = copies-silent greedy body a zero (options greedy (m - zero) body)
    (options-silent greedy body a (m - zero))
repetition-silent consumes greedy body a (suc n) (Some m) = copies-silent greedy body a (suc n) (options greedy (m - suc n) body)
    (options-silent greedy body a (m - suc n))

pub group-silent : (number : Option ℕ) (body : Builder) → BuildsSilent body → BuildsSilent (build_group number body)
group-silent None body a = a
group-silent (Some number) body a =
    then-silent (build_state (slot number)) (build_then body (build_state (slot (suc number)))) (state-silent (slot number) (λ next. refl))
    (then-silent body (build_state (slot (suc number))) a (state-silent (slot (suc number)) (λ next. refl)))

module _ (slots : ℕ → Option ℕ) where
  mutual
    unfolding build

    -- only the last state of a pattern accepts
    pub build-silent : (h : Expression) → BuildsSilent (build slots h)
    build-silent empty = λ next base. silent-none
    build-silent (literal bytes) = state-silent (text bytes) (λ next. refl)
    build-silent (class members) = state-silent (set members) (λ next. refl)
    build-silent (look kind) = state-silent (assertion kind) (λ next. refl)
    build-silent (repetition min max greedy sub) = repetition-silent (is_positive (minimum_len sub)) greedy (build slots sub) (build-silent sub) min max
    build-silent (capture group name sub) = group-silent (slots group) (build slots sub) (build-silent sub)
    build-silent (concat subs) = in_turn-silent subs
    build-silent (alternation subs) = λ next base.
        silent-append (build_each slots subs next base).states (choice (build_each slots subs next base).starts ∷ []) (each-silent subs next base)
        (silent-cons (choice (build_each slots subs next base).starts) [] refl silent-none)

    in_turn-silent : (hs : Expressions) → BuildsSilent (build_in_turn slots hs)
    in_turn-silent nil = λ next base. silent-none
    in_turn-silent (cons sub subs) = then-silent (build slots sub) (build_in_turn slots subs) (build-silent sub) (in_turn-silent subs)

    each-silent : (hs : Expressions) (next base : ℕ) → IsSilent (build_each slots hs next base).states
    each-silent nil next base = silent-none
    each-silent (cons sub subs) next base =
        let f = build slots sub next base in
        silent-append f.states (build_each slots subs next (base + length f.states)).states (build-silent sub next base)
        (each-silent subs next (base + length f.states))

-- the states of a pattern accept that pattern alone
pub pattern-accepts : (slots : ℕ → Option ℕ) (p : ℕ) (h : Expression) (k q : ℕ) → state_accepts (get_or (build_pattern slots p h).states k (choice [])) ≡ Some q
    → q ≡ p
unfolding build_pattern
pattern-accepts slots p h zero q e = sym (some-is e)
pattern-accepts slots p h (suc k) q e =
    none-is-some (sym (group-silent (Some (2 * p)) (build slots h) (build-silent slots h) 0 1 k) ∙ e)

module _ (terminator : ℕ) (hay : List ℕ) (end : ℕ) where
  go_by-rises : (o : Option ℕ) (next i : ℕ) (d : Configuration) → Contains (go_by terminator hay end o next i) d → i ≤ d.place
  go_by-rises None next i d m = absurd (none-among d m)
  go_by-rises (Some n) next i d m =
      by_test (nat_le (i + n) end)
      (λ le. let e : i + n ≡ d.place = ap (λ (c : Configuration). c.place) (only-among (at next (i + n)) d (rw le at m)) in omega arith)
      (λ gt. absurd (none-among d (rw gt at m)))

  stay-rises : (q i : ℕ) (d : Configuration) → Contains (at q i ∷ []) d → i ≤ d.place
  stay-rises q i d m = let e : i ≡ d.place = ap (λ (c : Configuration). c.place) (only-among (at q i) d m) in omega arith

  pub step-rises : (s : State) (i : ℕ) (d : Configuration) → Contains (state_step terminator hay end s i) d → i ≤ d.place
  step-rises (text bytes next) i d m = go_by-rises (if stands_at hay i bytes then Some (length bytes) else None) next i d m
  step-rises (set members next) i d m = go_by-rises (member_len hay members i) next i d m
  step-rises (assertion kind next) i d m =
      by_test (holds terminator hay kind i) (λ e. stay-rises next i d (rw e at m)) (λ e. absurd (none-among d (rw e at m)))
  step-rises (slot number next) i d m = stay-rises next i d m
  step-rises (choice states) i d m = let x = choice-member states i d m in let e : i ≡ d.place = ap (λ (c : Configuration). c.place) x.2 in omega arith
  step-rises (accept pattern) i d m = absurd (none-among d m)

  module _ (states : List State) where
    -- the graph of any states is bounded
    pub runs_of-bounded : IsBounded (runs_of terminator hay end states)
    unfolding runs_of
    runs_of-bounded = graph_of-bounded (machine_of terminator hay end states) end

    -- its steps go on in the text
    pub runs_of-rises : NeverFalls (runs_of terminator hay end states)
    unfolding runs_of graph_of
    runs_of-rises c d m =
        by_test (is_inside (machine_of terminator hay end states) end c)
        (λ e. step-rises (state_at states c.state) c.place d (rw e at m))
        (λ e. absurd (none-among d (rw e at m)))

    -- it accepts within the span
    pub runs_of-within : (c : Configuration) → is_some ((runs_of terminator hay end states).accepted c) ≡ true → c.place ≤ end
    unfolding runs_of graph_of
    runs_of-within c h =
        by_test (is_inside (machine_of terminator hay end states) end c)
        (λ e. grind (arith, nat_tests))
        (λ e. absurd (true≢false (sym (rw e at h))))

    -- what it accepts is what a state accepts
    pub runs_of-accepts : (c : Configuration) (q : ℕ) → (runs_of terminator hay end states).accepted c ≡ Some q
        → state_accepts (get_or states c.state (choice [])) ≡ Some q
    unfolding runs_of graph_of
    runs_of-accepts c q h =
        by_test (is_inside (machine_of terminator hay end states) end c)
        (λ e. rw e at h)
        (λ e. none-is-some (rw e at h))

pub trace-pattern : (g : PriorityGraph) (c : Configuration) (run : List Configuration) → (trace g c run).pattern ≡ unwrap_or (g.accepted (last_of c run)) 0
trace-pattern g c [] = refl
trace-pattern g c (d ∷ run) = kept (g.written c) ∙ trace-pattern g d run
  where
    kept : (o : Option ℕ) → (with_write o c.place (trace g d run)).pattern ≡ (trace g d run).pattern
    kept None = refl
    kept (Some number) = refl

module _ (r : Patterns) (hay : List ℕ) (end p : ℕ) (h : Expression) (i : ℕ) (t : Trace) (is : first r hay end p h i ≡ Some t) where
  abbrev part : Part
  part = build_pattern (slot_of r p) p h

  abbrev graph : PriorityGraph
  graph = runs_of r.terminator hay end part.states

  -- the first run of a pattern tells the pattern
  pub first-pattern : t.pattern ≡ p
  unfolding first
  first-pattern =
      let c = at part.start i in
      let x = mapped-some (trace graph c) (first_past graph nowhere c) t is in
      let run = found-is_run graph (runs_of-bounded r.terminator hay end part.states) x.0 nowhere c x.1 in
      let q = run-pattern graph nowhere c x.0 run in
      ap (λ (u : Trace). u.pattern) (sym x.2) ∙ trace-pattern graph c x.0 ∙ ap (λ o. unwrap_or o 0) q.1
      ∙ pattern-accepts (slot_of r p) p h (last_of c x.0).state q.0 (runs_of-accepts r.terminator hay end part.states (last_of c x.0) q.0 q.1)

  -- and ends between its start and the end of the span
  pub first-end : (i ≤ t.end) × (t.end ≤ end)
  unfolding first
  first-end =
      found-end graph (runs_of-bounded r.terminator hay end part.states) (runs_of-rises r.terminator hay end part.states) end
      (runs_of-within r.terminator hay end part.states) nowhere (at part.start i) t is

-- a pattern's first run tells an end that the expression means
pub first-means : (r : Patterns) (hay : List ℕ) (end p : ℕ) (h : Expression) → AreOrdered h → (i : ℕ) (t : Trace) → first r hay end p h i ≡ Some t
    → Means r.terminator hay h i t.end
unfolding first
first-means r hay end p h ordered i t is =
    let part = build_pattern (slot_of r p) p h in
    let graph = runs_of r.terminator hay end part.states in
    let c = at part.start i in
    let x = mapped-some (trace graph c) (first_past graph nowhere c) t is in
    let run = found-is_run graph (runs_of-bounded r.terminator hay end part.states) x.0 nowhere c x.1 in
    let ends : (last_of c x.0).place ≡ t.end = sym (trace-end graph c x.0) ∙ ap (λ (u : Trace). u.end) x.2 in
    subst (λ j. Means r.terminator hay h i j) ends (run-means r.terminator hay end (slot_of r p) p h ordered i x.0 run)

-- where it has none, the expression means nothing from there within the span
pub first-none : (r : Patterns) (hay : List ℕ) (end p : ℕ) (h : Expression) → AreOrdered h → (i : ℕ) → first r hay end p h i ≡ None → (j : ℕ) → j ≤ end
    → Means r.terminator hay h i j → ⊥
unfolding first
first-none r hay end p h ordered i none j le m =
    let part = build_pattern (slot_of r p) p h in
    let graph = runs_of r.terminator hay end part.states in
    let c = at part.start i in
    let run = means-run r.terminator hay end (slot_of r p) p h ordered i j le m in
    none-is_none graph (runs_of-bounded r.terminator hay end part.states) nowhere c (map-none (trace graph c) (first_past graph nowhere c) none) run.0 run.1
