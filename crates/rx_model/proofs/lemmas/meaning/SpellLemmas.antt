-- Each part of a graph spells what its expression means.
use Rattle.std.proofs.Common.{◌≡◌, ℕ, zero, suc, ◌+◌, ◌≤◌, List, [], ◌∷◌, refl, sym, ◌∙◌, ap, subst, arith, length}
use Rattle.std.proofs.lemmas.Bool.Decides.{nat_tests}
use Rattle.std.specs.Prelude.{Bool, true, false, Option, Some, None, Contains, if◌then◌else◌, nat_le}
use Rattle.rx_model.specs.Runs.{Configuration, PriorityGraph, Leads}
use Rattle.rx_model.specs.Meaning.{Pieces, Means, MeansInTurn, MeansOne}
use Rattle.rx_model.specs.Expression.{Expression, Expressions, AreOrdered, AllOrdered, empty, literal, class, look, repetition, capture, concat, alternation, nil, cons}
use Rattle.rx_model.specs.Text.{Class, stands_at, member_len}
use Rattle.rx_model.specs.Look.{Look, holds}
use Rattle.rx_model.specs.Length.{minimum_len, is_positive}
use Rattle.rx_model.specs.Machine.{is_inside, graph_of}
use Rattle.rx_model.specs.Graph.{State, text, set, assertion, slot, choice, accept, Builder, build_state, build_then, loop_once, build_group, Parts, build, build_in_turn, build_each, at, go_by, state_step, state_accepts, machine_of, runs_of}
use Rattle.rx_model.proofs.lemmas.runs.RunLemmas.{by_test}
use Rattle.rx_model.proofs.lemmas.runs.FirstLemmas.{some-is, none-is-some}
use Rattle.rx_model.proofs.lemmas.graphs.PlacedLemmas.{Placed, Placed-first}
use Rattle.rx_model.proofs.lemmas.runs.MemberLemmas.{choice-member, member-choice, first-among, only-among, none-among}
use Rattle.rx_model.proofs.lemmas.meaning.PartLemmas as parts
use Rattle.rx_model.proofs.lemmas.meaning.PartLemmas.{Chooses}
use Rattle.rx_model.proofs.lemmas.graphs.StateLemmas.{IsStateOf, successors-at, accepted-at, go_by-member}
use Rattle.std.proofs.lemmas.Bool.{and_right}

module _ (terminator : ℕ) (hay : List ℕ) (end : ℕ) (whole : List State) (pattern final : ℕ) where
  abbrev g : PriorityGraph
  g = runs_of terminator hay end whole

  -- a walk of n steps from the state q at i
  abbrev pub Goes : ℕ → ℕ → ℕ → Type 0
  Goes n q i = Leads g pattern final n (at q i)

  -- no configuration outside the text leads anywhere
  Goes-within : (n q i : ℕ) → Goes n q i → i ≤ end
  unfolding runs_of graph_of
  Goes-within zero q i h =
      by_test (nat_le i end)
      (λ le. grind (arith, nat_tests))
      (λ gt. let out : is_inside (machine_of terminator hay end whole) end (at q i) ≡ false = and_right _ _ gt in none-is-some (rw out at h.0))
  Goes-within (suc n) q i h =
      by_test (nat_le i end)
      (λ le. grind (arith, nat_tests))
      (λ gt. let out : is_inside (machine_of terminator hay end whole) end (at q i) ≡ false = and_right _ _ gt in absurd (none-among h.0 (rw out at h.1)))

  -- a walk from a state that doesn't accept takes a step
  Goes-step : (n q i : ℕ) (s : State) → IsStateOf whole q s → state_accepts s ≡ None → Goes n q i
      → (m : ℕ) × (d : Configuration) × (n ≡ suc m) × Contains (state_step terminator hay end s i) d × Leads g pattern final m d
  Goes-step zero q i s is none h = none-is-some (sym (accepted-at terminator hay end whole q i s is (Goes-within zero q i h) ∙ none) ∙ h.0)
  Goes-step (suc m) q i s is none h =
      (m, h.0, refl, subst (λ ds. Contains ds h.0) (successors-at terminator hay end whole q i s is (Goes-within (suc m) q i h)) h.1, h.2)

  -- the other way
  step-Goes : (m q i : ℕ) (s : State) (d : Configuration) → IsStateOf whole q s → i ≤ end → Contains (state_step terminator hay end s i) d
      → Leads g pattern final m d → Goes (suc m) q i
  step-Goes m q i s d is place member h = (d, subst (λ ds. Contains ds d) (sym (successors-at terminator hay end whole q i s is place)) member, h)

  -- walks go through choices
  pub chooses : Chooses whole Goes end
  chooses = record {
    within = λ n c i h. Goes-within n c i h;
    walked = λ n c i qs is h.
        (let x = Goes-step n c i (choice qs) is refl h in
        let y = choice-member qs i x.1 x.3 in
        (x.0, x.2, y.0, y.1, subst (λ d. Leads g pattern final x.0 d) (sym y.2) x.4));
    walks = λ m c i qs q is among h. step-Goes m c i (choice qs) (at q i) is (Goes-within m q i h) (member-choice qs i q among) h;
  }

  -- the parts that the builder makes spell M
  abbrev pub Spells : (M : ℕ → ℕ → Type 0) → Builder → Type 0
  Spells M build = parts.Spells whole Goes end chooses M build

  abbrev SpellsOne : (M : ℕ → ℕ → Type 0) → ((next base : ℕ) → Parts) → Type 0
  SpellsOne M build = parts.SpellsOne whole Goes end chooses M build

  go_by-goes : (o : Option ℕ) (next i n : ℕ) → o ≡ Some n → i + n ≤ end → Contains (go_by terminator hay end o next i) (at next (i + n))
  go_by-goes o next i n e le =
      let fits : nat_le (i + n) end ≡ true = grind (arith, nat_tests) in
      rw (e, fits) (first-among (at next (i + n)) [])

  -- a state that goes on by some bytes
  Spells-go : (state : ℕ → State) (len : ℕ → Option ℕ) → ((next : ℕ) → state_accepts (state next) ≡ None)
      → ((next i : ℕ) → state_step terminator hay end (state next) i ≡ go_by terminator hay end (len i) next i)
      → Spells (λ i j. (n : ℕ) × (len i ≡ Some n) × (i + n ≡ j)) (build_state state)
  Spells-go state len none step = record {
    rises = λ i j h. (let e = h.2 in omega arith);
    walked = λ next base n i placed h.
        (let x = Goes-step n base i (state next) (Placed-first whole base (state next) [] placed) (none next) h in
        let y = go_by-member terminator hay end (len i) next i x.1 (subst (λ ds. Contains ds x.1) (step next i) x.3) in
        (i + y.0, x.0, (y.0, y.1, refl), (let e = x.2 in omega arith), subst (λ c. Leads g pattern final x.0 c) (sym y.2) x.4));
    walks = λ next base m i j placed h goes.
        (let goes' : Goes m next (i + h.0) = subst (λ k. Goes m next k) (sym h.2) goes in
        let fits = Goes-within m next (i + h.0) goes' in (
          suc m,
          step-Goes m base i (state next) (at next (i + h.0)) (Placed-first whole base (state next) [] placed) (omega arith)
              (subst (λ ds. Contains ds (at next (i + h.0))) (sym (step next i)) (go_by-goes (len i) next i h.0 h.1 fits)) goes',
        ));
  }

  -- a state that keeps the place
  Spells-stay : (state : ℕ → State) → ((next : ℕ) → state_accepts (state next) ≡ None)
      → ((next i : ℕ) → state_step terminator hay end (state next) i ≡ at next i ∷ []) → Spells (λ i j. i ≡ j) (build_state state)
  Spells-stay state none step = record {
    rises = λ i j e. omega arith;
    walked = λ next base n i placed h.
        (let x = Goes-step n base i (state next) (Placed-first whole base (state next) [] placed) (none next) h in
        let is = only-among (at next i) x.1 (subst (λ ds. Contains ds x.1) (step next i) x.3) in
        (i, x.0, refl, (let e = x.2 in omega arith), subst (λ c. Leads g pattern final x.0 c) (sym is) x.4));
    walks = λ next base m i j placed e goes.
        (let goes' : Goes m next i = subst (λ k. Goes m next k) (sym e) goes in (
          suc m,
          step-Goes m base i (state next) (at next i) (Placed-first whole base (state next) [] placed) (Goes-within m next i goes')
              (subst (λ ds. Contains ds (at next i)) (sym (step next i)) (first-among (at next i) [])) goes',
        ));
  }

  pub Spells-slot : (number : ℕ) → Spells (λ i j. i ≡ j) (build_state (slot number))
  Spells-slot number = Spells-stay (slot number) (λ next. refl) (λ next i. refl)

  pub Spells-loop_once : (M : ℕ → ℕ → Type 0) (greedy : Bool) (body : Builder) → Spells M body
      → Spells (λ i j. (k : ℕ) × Pieces M (suc k) i j) (loop_once greedy body)
  Spells-loop_once M greedy body a = parts.Spells-loop_once whole Goes end chooses M greedy body a

  -- a group, with its slots or without
  pub Spells-group : (M : ℕ → ℕ → Type 0) (number : Option ℕ) (body : Builder) → Spells M body → Spells M (build_group number body)
  Spells-group M None body a = a
  Spells-group M (Some number) body a =
      parts.Spells-same whole Goes end chooses (λ i j. (k : ℕ) × (i ≡ k) × ((x : ℕ) × M k x × (x ≡ j))) M (build_group (Some number) body)
      (parts.Spells-then whole Goes end chooses (λ i j. i ≡ j) (λ i j. (x : ℕ) × M i x × (x ≡ j)) (build_state (slot number))
      (build_then body (build_state (slot (suc number)))) (Spells-slot number)
      (parts.Spells-then whole Goes end chooses M (λ i j. i ≡ j) body (build_state (slot (suc number))) a (Spells-slot (suc number))))
      (λ i j h. subst (λ x. M x j) (sym h.1) (subst (λ y. M h.0 y) h.2.2 h.2.1))
      (λ i j h. (i, refl, (j, h, refl)))

  Spells-class : (members : Class) → Spells (λ i j. (n : ℕ) × (member_len hay members i ≡ Some n) × (i + n ≡ j)) (build_state (set members))
  Spells-class members = Spells-go (set members) (λ i. member_len hay members i) (λ next. refl) (λ next i. refl)

  Spells-text : (bytes : List ℕ) → Spells (λ i j. (stands_at hay i bytes ≡ true) × (i + length bytes ≡ j)) (build_state (text bytes))
  Spells-text bytes =
      parts.Spells-same whole Goes end chooses (λ i j. (n : ℕ) × ((if stands_at hay i bytes then Some (length bytes) else None) ≡ Some n) × (i + n ≡ j))
      (λ i j. (stands_at hay i bytes ≡ true) × (i + length bytes ≡ j)) (build_state (text bytes))
      (Spells-go (text bytes) (λ i. if stands_at hay i bytes then Some (length bytes) else None) (λ next. refl) (λ next i. refl))
      (λ i j h.
      by_test (stands_at hay i bytes)
      (λ e. let is : length bytes ≡ h.0 = some-is (rw e at h.1) in (e, ap (λ n. i + n) is ∙ h.2))
      (λ e. none-is-some (rw e at h.1)))
      (λ i j h. (length bytes, rw h.0 refl, h.1))

  Spells-look : (kind : Look) → Spells (λ i j. (holds terminator hay kind i ≡ true) × (i ≡ j)) (build_state (assertion kind))
  Spells-look kind = record {
    rises = λ i j h. (let e = h.1 in omega arith);
    walked = λ next base n i placed h.
        (let x = Goes-step n base i (assertion kind next) (Placed-first whole base (assertion kind next) [] placed) refl h in
        by_test (holds terminator hay kind i)
        (λ e.
        let is = only-among (at next i) x.1 (rw e at x.3) in
        (i, x.0, (e, refl), (let le = x.2 in omega arith), subst (λ c. Leads g pattern final x.0 c) (sym is) x.4))
        (λ e. absurd (none-among x.1 (rw e at x.3))));
    walks = λ next base m i j placed h goes.
        (let goes' : Goes m next i = subst (λ k. Goes m next k) (sym h.1) goes in (
          suc m,
          step-Goes m base i (assertion kind next) (at next i) (Placed-first whole base (assertion kind next) [] placed) (Goes-within m next i goes')
              (rw h.0 (first-among (at next i) [])) goes',
        ));
  }

  module _ (slot_of : ℕ → Option ℕ) where
    mutual
      unfolding Means build AreOrdered

      pub Spells-build : (h : Expression) → AreOrdered h → Spells (Means terminator hay h) (build slot_of h)
      Spells-build empty o = parts.Spells-nothing whole Goes end chooses
      Spells-build (literal bytes) o = Spells-text bytes
      Spells-build (class members) o = Spells-class members
      Spells-build (look kind) o = Spells-look kind
      Spells-build (repetition min max greedy sub) o =
          parts.Spells-repetition whole Goes end chooses (Means terminator hay sub) greedy (build slot_of sub) (Spells-build sub o.1)
          (is_positive (minimum_len sub)) min max o.0
      Spells-build (capture group name sub) o = Spells-group (Means terminator hay sub) (slot_of group) (build slot_of sub) (Spells-build sub o)
      Spells-build (concat subs) o = Spells-in_turn subs o
      Spells-build (alternation subs) o = parts.Spells-choice whole Goes end chooses (MeansOne terminator hay subs) (build_each slot_of subs)
          (Spells-each subs o)

      Spells-in_turn : (subs : Expressions) → AllOrdered subs → Spells (MeansInTurn terminator hay subs) (build_in_turn slot_of subs)
      Spells-in_turn nil o = parts.Spells-nothing whole Goes end chooses
      Spells-in_turn (cons sub subs) o =
          parts.Spells-then whole Goes end chooses (Means terminator hay sub) (MeansInTurn terminator hay subs) (build slot_of sub) (build_in_turn slot_of subs)
          (Spells-build sub o.0) (Spells-in_turn subs o.1)

      Spells-each : (subs : Expressions) → AllOrdered subs → SpellsOne (MeansOne terminator hay subs) (build_each slot_of subs)
      Spells-each nil o = parts.SpellsOne-none whole Goes end chooses
      Spells-each (cons sub subs) o =
          parts.SpellsOne-beside whole Goes end chooses (Means terminator hay sub) (MeansOne terminator hay subs) (build slot_of sub) (build_each slot_of subs)
          (Spells-build sub o.0) (Spells-each subs o.1)

  -- from the start of a part whose next state accepts, the accepting walks are what the part spells
  pub accepting-spelled : (M : ℕ → ℕ → Type 0) (b : Builder) → Spells M b → (next base n i number : ℕ) → Placed whole base (b next base).states
      → IsStateOf whole next (accept number)
      → Goes n (b next base).start i → M i final
  accepting-spelled M b a next base n i number placed is goes =
      let x = a.walked next base n i placed goes in
      subst (λ j. M i j) (accept-ends x.1 x.0 x.4) x.2
    where
      accept-ends : (m j : ℕ) → Goes m next j → j ≡ final
      accept-ends zero j goes = goes.1
      accept-ends (suc m) j goes = absurd
          (none-among goes.0
          (subst (λ ds. Contains ds goes.0) (successors-at terminator hay end whole next j (accept number) is (Goes-within (suc m) next j goes)) goes.1))

  pub spelled-accepting : (M : ℕ → ℕ → Type 0) (b : Builder) → Spells M b → (next base i : ℕ) → Placed whole base (b next base).states
      → IsStateOf whole next (accept pattern)
      → final ≤ end → M i final → (n : ℕ) × Goes n (b next base).start i
  spelled-accepting M b a next base i placed is le m =
      a.walks next base 0 i final placed m (accepted-at terminator hay end whole next final (accept pattern) is le, refl)
