-- Where first runs end, through a state, a choice and parts in turn.
use Rattle.std.proofs.Common.{◌≡◌, ℕ, ◌+◌, ◌≤◌, ◌<◌, ◌⊎◌, Bool, true, false, List, [], ◌∷◌, ◌++◌, length, map, refl, sym, ap, ◌∙◌, subst, inl, inr, arith, length-append}
use Rattle.std.specs.Prelude.{nat_lt, nat_le, Option, Some, None, option_map, if◌then◌else◌, Contains}
use Rattle.std.specs.Option.{option_or}
use Rattle.std.proofs.lemmas.Bool.Decides.{nat_tests}
use Rattle.rx_model.specs.Text.{Class, stands_at, member_len}
use Rattle.rx_model.specs.Runs.{Configuration, PriorityGraph, nowhere, and_at, first_some, IsClosed, Trace, with_write, found}
use Rattle.rx_model.specs.Graph.{State, text, set, slot, choice, Builder, build_state, build_then, prefer, Parts, build_beside, build_choice, at, state_accepts, go_by, state_step, runs_of}
use Rattle.rx_model.proofs.lemmas.runs.RunLemmas.{by_test}
use Rattle.rx_model.specs.Onward.{after, either_first}
use Rattle.rx_model.proofs.lemmas.runs.MemberLemmas.{first-among, later-among, only-among, none-among}
use Rattle.rx_model.proofs.lemmas.runs.FoundLemmas.{option_map-or, found-step}
use Rattle.rx_model.proofs.lemmas.runs.ReachLemmas.{found-outside}
use Rattle.rx_model.proofs.lemmas.graphs.PlacedLemmas.{Placed, Placed-front, Placed-back, Placed-first}
use Rattle.rx_model.proofs.lemmas.graphs.GraphLemmas.{runs_of-bounded}
use Rattle.rx_model.proofs.lemmas.runs.OptionLemmas.{or-none_right}
use Rattle.rx_model.proofs.lemmas.graphs.StateLemmas.{IsStateOf, go_by-target, successors-at, accepted-at, successors-past, accepted-past, successors-in}

abbrev pub end_of : Trace → ℕ
end_of t = t.end

pub end-written : (o : Option ℕ) (place : ℕ) (x : Option Trace) → option_map end_of (option_map (with_write o place) x) ≡ option_map end_of x
end-written None place None = refl
end-written None place (Some t) = refl
end-written (Some n) place None = refl
end-written (Some n) place (Some t) = refl

pub first-same : (e f : Configuration → Option Trace) (ds : List Configuration) → ((d : Configuration) → Contains ds d → e d ≡ f d)
    → option_map end_of (first_some e ds) ≡ first_some (λ d. option_map end_of (f d)) ds
first-same e f [] h = refl
first-same e f (d ∷ ds) h =
    option_map-or end_of (e d) (first_some e ds)
    ∙ (λ k. option_or (option_map end_of (h d (first-among d ds) k)) (first-same e f ds (λ x m. h x (later-among d x ds m)) k))

-- in A, or one of the n states from base on
abbrev pub Inside : (ℕ → Type 0) → (base n : ℕ) → ℕ → Type 0
Inside A base n s = A s ⊎ ((base ≤ s) × (s < base + n))

-- A has none of the n states from base on
abbrev pub Apart : (ℕ → Type 0) → (base n : ℕ) → Type 0
Apart A base n = (s : ℕ) → A s → base ≤ s → s < base + n → ⊥

module _ (terminator : ℕ) (hay : List ℕ) (end : ℕ) (whole : List State) where
  abbrev pub g : PriorityGraph
  g = runs_of terminator hay end whole

  -- where the first run from a configuration ends
  abbrev pub ends : Configuration → Option ℕ
  ends c = option_map end_of (found g nowhere c)

  pub ends-step : (Set : ℕ → Type 0) → IsClosed g Set → (c : Configuration) → g.accepted c ≡ None → (Set c.state → ⊥)
      → ((d : Configuration) → Contains (g.successors c) d → Set d.state)
      → ends c ≡ first_some ends (g.successors c)
  ends-step Set closed c none out in_set =
      ap (option_map end_of) (found-step g nowhere (runs_of-bounded terminator hay end whole) c refl none)
      ∙ end-written (g.written c) c.place (first_some (found g (and_at c nowhere)) (g.successors c))
      ∙ first-same (found g (and_at c nowhere)) (found g nowhere) (g.successors c) (λ d m. found-outside g Set closed c out nowhere d (in_set d m))

  -- nothing is found past the end
  pub ends-past : (c : Configuration) → end < c.place → ends c ≡ None
  ends-past c past =
      ends-step (λ s. ⊥) (λ a b h m. absurd h) c (accepted-past terminator hay end whole c past) (λ h. h)
      (λ d m. absurd (none-among d (subst (λ ds. Contains ds d) (successors-past terminator hay end whole c past) m)))
      ∙ ap (first_some ends) (successors-past terminator hay end whole c past)

  pub ends-state : (Set : ℕ → Type 0) → IsClosed g Set → (q i : ℕ) (s : State) → IsStateOf whole q s → state_accepts s ≡ None → (Set q → ⊥)
      → ((d : Configuration) → Contains (state_step terminator hay end s i) d → Set d.state) → i ≤ end
      → ends (at q i) ≡ first_some ends (state_step terminator hay end s i)
  ends-state Set closed q i s is none out in_set le =
      ends-step Set closed (at q i) (accepted-at terminator hay end whole q i s is le ∙ none) out
      (λ d m. in_set d (subst (λ ds. Contains ds d) (successors-at terminator hay end whole q i s is le) m))
      ∙ ap (first_some ends) (successors-at terminator hay end whole q i s is le)

  pub go_by-ends : (o : Option ℕ) (next i : ℕ) → first_some ends (go_by terminator hay end o next i) ≡ after (λ j. ends (at next j)) o i
  go_by-ends None next i = refl
  go_by-ends (Some n) next i =
      by_test (nat_le (i + n) end)
      (λ e. rw e (or-none_right (ends (at next (i + n)))))
      (λ e. let past : end < i + n = grind (arith, nat_tests) in rw e (sym (ends-past (at next (i + n)) past)))

  pub after-past : (o : Option ℕ) (next i : ℕ) → end < i → after (λ j. ends (at next j)) o i ≡ None
  after-past None next i past = refl
  after-past (Some n) next i past = ends-past (at next (i + n)) (omega arith)

  -- what is asked of where a part stands, and of the set A that its next state lies in
  pub record Stands (A : ℕ → Type 0) (next base : ℕ) (states : List State) : Type 0 where
    pub placed : Placed whole base states
    pub closed : IsClosed g A
    pub next_in : A next
    pub apart : Apart A base (length states)

  -- the part's states lead to themselves and to its next state
  pub record Closes (b : Builder) : Type 1 where
    pub closes : (A : ℕ → Type 0) (next base : ℕ) → Stands A next base (b next base).states
        → IsClosed g (Inside A base (length (b next base).states)) × Inside A base (length (b next base).states) (b next base).start

  -- first runs from the part end as `go` says, by where they end from the next state
  pub record Leads (b : Builder) (go : (ℕ → Option ℕ) → ℕ → Option ℕ) : Type 1 where
    pub leads : (A : ℕ → Type 0) (next base : ℕ) → Stands A next base (b next base).states
        → (i : ℕ) → ends (at (b next base).start i) ≡ go (λ j. ends (at next j)) i

  closed-same : (A B : ℕ → Type 0) → ((s : ℕ) → A s → B s) → ((s : ℕ) → B s → A s) → IsClosed g A → IsClosed g B
  closed-same A B to from closed c d h m = to d.state (closed c d (from c.state h) m)

  pub Closes-state : (state : ℕ → State) → ((next i : ℕ) (d : Configuration) → Contains (state_step terminator hay end (state next) i) d → next ≡ d.state)
      → Closes (build_state state)
  Closes-state state target = record {
    closes = λ A next base s.
        (let is = Placed-first whole base (state next) [] s.placed in (
          λ c d h m. elim h [
            | inl a ↦ inl (s.closed c d a m)
            | inr r ↦
                let low = r.0 in
                let high = r.1 in
                let here' : base ≡ c.state = omega arith in
                inl
                (subst A
                (target next c.place d (successors-in terminator hay end whole c d (state next) (subst (λ q. IsStateOf whole q (state next)) here' is) m))
                s.next_in)
          ],
          inr (omega arith, omega arith),
        ));
  }

  -- how the second of two parts stands, and the first
  pub stands-second : (A : ℕ → Type 0) (first second : Builder) (next base : ℕ) → Stands A next base (build_then first second next base).states
      → Stands A next base (second next base).states
  stands-second A first second next base s =
      let two = second next base in
      let one = first two.start (base + length two.states) in
      let long = length-append two.states one.states in
      record {
        placed = Placed-front whole base two.states one.states s.placed;
        closed = s.closed;
        next_in = s.next_in;
        apart = λ x a low high. s.apart x a low (omega arith);
      }

  pub stands-first : (A : ℕ → Type 0) (first second : Builder) → Closes second → (next base : ℕ) → Stands A next base (build_then first second next base).states
      → Stands (Inside A base (length (second next base).states)) (second next base).start (base + length (second next base).states)
      (first (second next base).start (base + length (second next base).states)).states
  stands-first A first second b next base s =
      let two = second next base in
      let one = first two.start (base + length two.states) in
      let long = length-append two.states one.states in
      let x = b.closes A next base (stands-second A first second next base s) in
      record {
        placed = Placed-back whole base two.states one.states s.placed;
        closed = x.0;
        next_in = x.1;
        apart = λ y h low high. elim h [ inl a ↦ s.apart y a (omega arith) (omega arith) | inr r ↦ (let up = r.1 in omega arith) ];
      }

  pub Closes-then : (first second : Builder) → Closes first → Closes second → Closes (build_then first second)
  Closes-then first second a b = record {
    closes = λ A next base s.
        (let two = second next base in
        let one = first two.start (base + length two.states) in
        let long = length-append two.states one.states in
        let x = a.closes (Inside A base (length two.states)) two.start (base + length two.states) (stands-first A first second b next base s) in
        let to : (y : ℕ) → Inside (Inside A base (length two.states)) (base + length two.states) (length one.states) y
        → Inside A base (length (two.states ++ one.states)) y
        = λ y h. elim h [
          | inl h' ↦ elim h' [ inl c ↦ inl c | inr r ↦ inr (r.0, (let up = r.1 in omega arith)) ]
          | inr r ↦ inr ((let low = r.0 in omega arith), (let up = r.1 in omega arith))
        ] in
        let from : (y : ℕ) → Inside A base (length (two.states ++ one.states)) y
        → Inside (Inside A base (length two.states)) (base + length two.states) (length one.states) y
        = λ y h. elim h [
          | inl c ↦ inl (inl c)
          | inr r ↦
              let low = r.0 in
              let up = r.1 in
              by_test (nat_lt y (base + length two.states))
              (λ e. inl (inr (low, grind (arith, nat_tests))))
              (λ e. inr (grind (arith, nat_tests), omega arith))
        ] in (
          closed-same (Inside (Inside A base (length two.states)) (base + length two.states) (length one.states))
              (Inside A base (length (two.states ++ one.states))) to from x.0,
          to one.start x.1,
        ));
  }

  Leads-state : (state : ℕ → State) (len : ℕ → Option ℕ) → ((next : ℕ) → state_accepts (state next) ≡ None)
      → ((next i : ℕ) → state_step terminator hay end (state next) i ≡ go_by terminator hay end (len i) next i)
      → Leads (build_state state) (λ f i. after f (len i) i)
  Leads-state state len none step = record {
    leads = λ A next base s i.
        (let is = Placed-first whole base (state next) [] s.placed in
        by_test (nat_le i end)
        (λ e.
        let le : i ≤ end = grind (arith, nat_tests) in
        ends-state A s.closed base i (state next) is (none next) (λ a. s.apart base a (omega arith) (omega arith))
        (λ d m. subst A (go_by-target terminator hay end (len i) next i d (subst (λ ds. Contains ds d) (step next i) m)) s.next_in) le
        ∙ ap (first_some ends) (step next i) ∙ go_by-ends (len i) next i)
        (λ e.
        let past : end < i = grind (arith, nat_tests) in
        ends-past (at base i) past ∙ sym (after-past (len i) next i past)));
  }

  pub slot-target : (number next i : ℕ) (d : Configuration) → Contains (state_step terminator hay end (slot number next) i) d → next ≡ d.state
  slot-target number next i d m = ap (λ (c : Configuration). c.state) (only-among (at next i) d m)

  pub Leads-slot : (number : ℕ) → Leads (build_state (slot number)) (λ f i. f i)
  Leads-slot number = record {
    leads = λ A next base s i.
        (let is = Placed-first whole base (slot number next) [] s.placed in
        by_test (nat_le i end)
        (λ e.
        let le : i ≤ end = grind (arith, nat_tests) in
        ends-state A s.closed base i (slot number next) is refl (λ a. s.apart base a (omega arith) (omega arith))
        (λ d m. subst A (slot-target number next i d m) s.next_in) le
        ∙ or-none_right (ends (at next i)))
        (λ e.
        let past : end < i = grind (arith, nat_tests) in
        ends-past (at base i) past ∙ sym (ends-past (at next i) past)));
  }

  pub Leads-text : (bytes : List ℕ) → Leads (build_state (text bytes)) (λ f i. after f (if stands_at hay i bytes then Some (length bytes) else None) i)
  Leads-text bytes = Leads-state (text bytes) (λ i. if stands_at hay i bytes then Some (length bytes) else None) (λ next. refl) (λ next i. refl)

  pub Leads-set : (members : Class) → Leads (build_state (set members)) (λ f i. after f (member_len hay members i) i)
  Leads-set members = Leads-state (set members) (λ i. member_len hay members i) (λ next. refl) (λ next i. refl)

  pub prefer-ends : (greedy : Bool) (body exit i : ℕ) → first_some ends (state_step terminator hay end (prefer greedy body exit) i) ≡ either_first greedy
      (ends (at body i)) (ends (at exit i))
  prefer-ends true body exit i = ap (option_or (ends (at body i))) (or-none_right (ends (at exit i)))
  prefer-ends false body exit i = ap (option_or (ends (at exit i))) (or-none_right (ends (at body i)))

  pub prefer-past : (greedy : Bool) (x y : Option ℕ) → x ≡ None → y ≡ None → either_first greedy x y ≡ None
  prefer-past true x y e f = (λ k. option_or (e k) (f k))
  prefer-past false x y e f = (λ k. option_or (f k) (e k))

  pub beside-first : (A : ℕ → Type 0) (first : Builder) (others : (next base : ℕ) → Parts) (next base : ℕ)
      → Stands A next base (build_beside first others next base).states → Stands A next base (first next base).states
  beside-first A first others next base s =
      let f = first next base in
      let o = others next (base + length f.states) in
      let long = length-append f.states o.states in
      record {
        placed = Placed-front whole base f.states o.states s.placed;
        closed = s.closed;
        next_in = s.next_in;
        apart = λ x a low high. s.apart x a low (omega arith);
      }

  pub beside-others : (A : ℕ → Type 0) (first : Builder) (others : (next base : ℕ) → Parts) (next base : ℕ)
      → Stands A next base (build_beside first others next base).states
      → Stands A next (base + length (first next base).states) (others next (base + length (first next base).states)).states
  beside-others A first others next base s =
      let f = first next base in
      let o = others next (base + length f.states) in
      let long = length-append f.states o.states in
      record {
        placed = Placed-back whole base f.states o.states s.placed;
        closed = s.closed;
        next_in = s.next_in;
        apart = λ x a low high. s.apart x a (omega arith) (omega arith);
      }

  pub choice-parts : (A : ℕ → Type 0) (parts : (next base : ℕ) → Parts) (next base : ℕ) → Stands A next base (build_choice parts next base).states
      → Stands A next base (parts next base).states
  choice-parts A parts next base s =
      let p = parts next base in
      let long = length-append p.states (choice p.starts ∷ []) in
      record {
        placed = Placed-front whole base p.states (choice p.starts ∷ []) s.placed;
        closed = s.closed;
        next_in = s.next_in;
        apart = λ x a low high. s.apart x a low (omega arith);
      }

  pub choice-is : (A : ℕ → Type 0) (parts : (next base : ℕ) → Parts) (next base : ℕ) → Stands A next base (build_choice parts next base).states
      → IsStateOf whole (base + length (parts next base).states) (choice (parts next base).starts)
  choice-is A parts next base s =
      let p = parts next base in
      Placed-first whole (base + length p.states) (choice p.starts) [] (Placed-back whole base p.states (choice p.starts ∷ []) s.placed)

  pub starts-past : (qs : List ℕ) (i : ℕ) → end < i → first_some ends (map (λ q. at q i) qs) ≡ None
  starts-past [] i past = refl
  starts-past (q ∷ qs) i past = λ k. option_or (ends-past (at q i) past k) (starts-past qs i past k)
