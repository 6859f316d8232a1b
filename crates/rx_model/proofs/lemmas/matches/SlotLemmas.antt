-- What a pattern's accepting runs write: the span of the whole match into the pattern's own slots, and places between into those of its groups.
use Rattle.std.proofs.Common.{◌≡◌, ℕ, zero, suc, ◌+◌, ◌*◌, ◌-◌, ◌≤◌, ◌<◌, ◌⊎◌, Bool, true, false, List, [], ◌∷◌, ◌++◌, length, get_or, length-append, Option, Some, None, refl, sym, ◌∙◌, ap, subst, inl, inr, arith}
use Rattle.std.specs.Prelude.{Contains, if◌then◌else◌, ◌==◌}
use Rattle.std.proofs.lemmas.Bool.Decides.{nat_tests}
use Rattle.std.proofs.lemmas.List.{get_or_append_left}
use Rattle.rx_model.specs.Text.{stands_at, member_len}
use Rattle.rx_model.specs.Look.{holds}
use Rattle.rx_model.specs.Length.{minimum_len, is_positive}
use Rattle.rx_model.specs.Runs.{Configuration, PriorityGraph, Passed, nowhere, and_at, IsRun, Trace, trace, with_write, last_write}
use Rattle.rx_model.specs.Machine.{is_inside, graph_of}
use Rattle.rx_model.specs.Expression.{Expression, Expressions, empty, literal, class, look, repetition, capture, concat, alternation, nil, cons}
use Rattle.rx_model.specs.Graph.{State, text, set, assertion, slot, choice, accept, Builder, build_nothing, build_state, build_then, prefer, loop, loop_once, build_optional, copies, options, build_repetition, build_group, Parts, build_choice, build, build_in_turn, build_each, build_pattern, at, state_step, state_accepts, state_writes, machine_of, runs_of}
use Rattle.rx_model.specs.Search.{Patterns, groups_before, slot_of, has_explicit_groups}
use Rattle.rx_model.specs.Matches.{StandsIn, StandsAmong, IsExplicit}
use Rattle.rx_model.proofs.lemmas.runs.RunLemmas.{by_test}
use Rattle.rx_model.proofs.lemmas.runs.FirstLemmas.{none-is-some, some-is, tells}
use Rattle.rx_model.proofs.lemmas.runs.MemberLemmas.{choice-member, split-among, only-among, none-among}
use Rattle.rx_model.proofs.lemmas.meaning.CoverLemmas.{run-pattern, Placed-whole}
use Rattle.rx_model.proofs.lemmas.graphs.GraphLemmas.{step-rises, runs_of-accepts}
use Rattle.rx_model.proofs.lemmas.graphs.PlacedLemmas.{Placed-back, Placed-first, Placed-rest}
use Rattle.rx_model.proofs.lemmas.graphs.StateLemmas.{go_by-target}
use Rattle.rx_model.proofs.lemmas.runs.OptionLemmas.{or-cases}

-- The states of a pattern's body: they go on to the numbers from `low` on and below `high`, write slots of the
-- set W, and accept nothing.
module _ (low high : ℕ) (W : ℕ → Type 0) where
  abbrev pub IsBetween : ℕ → Type 0
  IsBetween q = (low ≤ q) × (q < high)

  abbrev pub IsBody : State → Type 0
  IsBody (text bytes next) = IsBetween next
  IsBody (set members next) = IsBetween next
  IsBody (assertion kind next) = IsBetween next
  IsBody (slot number next) = W number × IsBetween next
  IsBody (choice states) = (q : ℕ) → Contains states q → IsBetween q
  IsBody (accept pattern) = ⊥

  -- each state of the list is of the body
  abbrev pub AreBody : List State → Type 0
  AreBody states = (k : ℕ) → IsBody (get_or states k (choice []))

  no-members : (q : ℕ) → Contains [] q → ⊥
  no-members q m = let lt = m.1 in omega arith

  body-none : AreBody []
  body-none k = λ q m. absurd (no-members q m)

  body-cons : (s : State) (states : List State) → IsBody s → AreBody states → AreBody (s ∷ states)
  body-cons s states e rest zero = e
  body-cons s states e rest (suc k) = rest k

  body-append : (xs ys : List State) → AreBody xs → AreBody ys → AreBody (xs ++ ys)
  body-append [] ys a b k = b k
  body-append (x ∷ xs) ys a b zero = a zero
  body-append (x ∷ xs) ys a b (suc k) = body-append xs ys (λ j. a (suc j)) b k

  prefer-body : (greedy : Bool) (body exit : ℕ) → IsBetween body → IsBetween exit → IsBody (prefer greedy body exit)
  prefer-body greedy body exit is_body is_exit = cases greedy
    where
      two : (x y q : ℕ) → IsBetween x → IsBetween y → Contains (x ∷ y ∷ []) q → IsBetween q
      two x y q a b m =
          elim (split-among x q (y ∷ []) m) [
            | inl e ↦ subst IsBetween e a
            | inr more ↦ elim (split-among y q [] more) [ inl e ↦ subst IsBetween e b | inr none ↦ absurd (no-members q none) ]
          ]

      cases : (greedy : Bool) → IsBody (prefer greedy body exit)
      cases true = λ q m. two body exit q is_body is_exit m
      cases false = λ q m. two exit body q is_exit is_body m

  -- there is room for the states from the base on
  abbrev HasRoom : (next base : ℕ) → List State → Type 0
  HasRoom next base states = IsBetween next × (low ≤ base) × (base + length states ≤ high)

  -- what the builder makes is of the body, and starts there, wherever there is room
  abbrev pub BuildsBody : Builder → Type 0
  BuildsBody b = (next base : ℕ) → HasRoom next base (b next base).states → IsBetween (b next base).start × AreBody (b next base).states

  nothing-body : BuildsBody build_nothing
  nothing-body next base room = (room.0, body-none)

  state-body : (state : ℕ → State) → ((next : ℕ) → IsBetween next → IsBody (state next)) → BuildsBody (build_state state)
  state-body state is next base room =
      let from = room.1 in
      let to = room.2 in
      ((from, omega arith), body-cons (state next) [] (is next room.0) body-none)

  then-body : (first second : Builder) → BuildsBody first → BuildsBody second → BuildsBody (build_then first second)
  then-body first second a b next base room =
      let s = second next base in
      let f = first s.start (base + length s.states) in
      let from = room.1 in
      let to = room.2 in
      let both = length-append s.states f.states in
      let y = b next base (room.0, from, omega arith) in
      let x = a s.start (base + length s.states) (y.0, omega arith, omega arith) in
      (x.0, body-append s.states f.states y.1 x.1)

  module _ (greedy : Bool) (body : Builder) (a : BuildsBody body) where
    loop-states : (next base : ℕ) → HasRoom next base (loop greedy body next base).states
        → IsBetween base × IsBetween (body base (suc base)).start × AreBody (loop greedy body next base).states
    loop-states next base room =
        let b = body base (suc base) in
        let from = room.1 in
        let to = room.2 in
        let here : IsBetween base = (from, omega arith) in
        let x = a base (suc base) (here, omega arith, omega arith) in
        (here, x.0, body-cons (prefer greedy b.start next) b.states (prefer-body greedy b.start next x.0 room.0) x.1)

    loop-body : BuildsBody (loop greedy body)
    loop-body next base room = let x = loop-states next base room in (x.0, x.2)

    loop_once-body : BuildsBody (loop_once greedy body)
    loop_once-body next base room = let x = loop-states next base room in (x.1, x.2)

    optional-body : BuildsBody (build_optional greedy body)
    optional-body next base room =
        let b = body next (suc base) in
        let from = room.1 in
        let to = room.2 in
        let x = a next (suc base) (room.0, omega arith, omega arith) in
        ((from, omega arith), body-cons (prefer greedy b.start next) b.states (prefer-body greedy b.start next x.0 room.0) x.1)

    copies-body : (n : ℕ) (last : Builder) → BuildsBody last → BuildsBody (copies n body last)
    copies-body zero last l = l
    copies-body (suc n) last l = then-body body (copies n body last) a (copies-body n last l)

    options-body : (n : ℕ) → BuildsBody (options greedy n body)
    options-body zero next base room = (room.0, body-none)
    options-body (suc n) next base room =
        let inner = options greedy n body next base in
        let c = base + length inner.states in
        let b = body inner.start (suc c) in
        let from = room.1 in
        let to = room.2 in
        let both = length-append inner.states (prefer greedy b.start next ∷ b.states) in
        let y = options-body n next base (room.0, from, omega arith) in
        let x = a inner.start (suc c) (y.0, omega arith, omega arith) in (
          (omega arith, omega arith),
          body-append inner.states (prefer greedy b.start next ∷ b.states) y.1
              (body-cons (prefer greedy b.start next) b.states (prefer-body greedy b.start next x.0 room.0) x.1),
        )

  repetition-body : (consumes greedy : Bool) (body : Builder) → BuildsBody body → (min : ℕ) (max : Option ℕ)
      → BuildsBody (build_repetition consumes min max greedy body)
  repetition-body true greedy body a zero None = loop-body greedy body a
  repetition-body false greedy body a zero None = optional-body greedy (loop_once greedy body) (loop_once-body greedy body a)
  repetition-body consumes greedy body a (suc n) None = copies-body greedy body a n (loop_once greedy body) (loop_once-body greedy body a)
  repetition-body consumes greedy body a zero (Some m) = copies-body greedy body a zero (options greedy (m - zero) body) (options-body greedy body a (m - zero))
  repetition-body consumes greedy body a (suc n) (Some m) = copies-body greedy body a (suc n) (options greedy (m - suc n) body)
      (options-body greedy body a (m - suc n))

  group-body : (number : Option ℕ) → ((n : ℕ) → number ≡ Some n → W n × W (suc n)) → (body : Builder) → BuildsBody body → BuildsBody (build_group number body)
  group-body None own body a = a
  group-body (Some n) own body a =
      then-body (build_state (slot n)) (build_then body (build_state (slot (suc n)))) (state-body (slot n) (λ next is. ((own n refl).0, is)))
      (then-body body (build_state (slot (suc n))) a (state-body (slot (suc n)) (λ next is. ((own n refl).1, is))))

  -- alternatives: each start is of the body
  abbrev BuildsAll : ((next base : ℕ) → Parts) → Type 0
  BuildsAll parts = (next base : ℕ) → HasRoom next base (parts next base).states
      → ((q : ℕ) → Contains (parts next base).starts q → IsBetween q) × AreBody (parts next base).states

  choice-body : (parts : (next base : ℕ) → Parts) → BuildsAll parts → BuildsBody (build_choice parts)
  choice-body parts a next base room =
      let p = parts next base in
      let from = room.1 in
      let to = room.2 in
      let both = length-append p.states (choice p.starts ∷ []) in
      let x = a next base (room.0, from, omega arith) in
      ((omega arith, omega arith), body-append p.states (choice p.starts ∷ []) x.1 (body-cons (choice p.starts) [] x.0 body-none))

  module _ (slots : ℕ → Option ℕ) (Group : ℕ → Type 0) (own : (g n : ℕ) → Group g → slots g ≡ Some n → W n × W (suc n)) where
    mutual
      unfolding build StandsIn

      -- so are the states of an expression whose groups have slots of the set
      pub build-body : (h : Expression) → ((g : ℕ) → StandsIn g h → Group g) → BuildsBody (build slots h)
      build-body empty are = nothing-body
      build-body (literal bytes) are = state-body (text bytes) (λ next is. is)
      build-body (class members) are = state-body (set members) (λ next is. is)
      build-body (look kind) are = state-body (assertion kind) (λ next is. is)
      build-body (repetition min max greedy sub) are = repetition-body (is_positive (minimum_len sub)) greedy (build slots sub) (build-body sub are) min max
      build-body (capture group name sub) are =
          group-body (slots group) (λ n e. own group n (are group (inl refl)) e) (build slots sub) (build-body sub (λ g s. are g (inr s)))
      build-body (concat subs) are = in_turn-body subs are
      build-body (alternation subs) are = choice-body (build_each slots subs) (each-body subs are)

      in_turn-body : (hs : Expressions) → ((g : ℕ) → StandsAmong g hs → Group g) → BuildsBody (build_in_turn slots hs)
      in_turn-body nil are = nothing-body
      in_turn-body (cons sub subs) are =
          then-body (build slots sub) (build_in_turn slots subs) (build-body sub (λ g s. are g (inl s))) (in_turn-body subs (λ g s. are g (inr s)))

      each-body : (hs : Expressions) → ((g : ℕ) → StandsAmong g hs → Group g) → BuildsAll (build_each slots hs)
      each-body nil are next base room = (λ q m. absurd (no-members q m), body-none)
      each-body (cons sub subs) are next base room =
          let f = build slots sub next base in
          let o = build_each slots subs next (base + length f.states) in
          let from = room.1 in
          let to = room.2 in
          let both = length-append f.states o.states in
          let x = build-body sub (λ g s. are g (inl s)) next base (room.0, from, omega arith) in
          let y = each-body subs (λ g s. are g (inr s)) next (base + length f.states) (room.0, omega arith, omega arith) in (
            λ q m. elim (split-among f.start q o.starts m) [ inl e ↦ subst IsBetween e x.0 | inr more ↦ y.0 q more ],
            body-append f.states o.states x.1 y.1,
          )

-- What a run from place i tells that goes through a body: its end is in the last slot, and each other slot with a
-- place is of the set W; the places lie from i to the end.
pub record TellsBody (last : ℕ) (W : ℕ → Type 0) (i : ℕ) (t : Trace) : Type 0 where
  pub rises : i ≤ t.end
  pub closes : last_write t.writes last ≡ Some t.end
  pub each : (k place : ℕ) → last_write t.writes k ≡ Some place → ((k ≡ last) ⊎ W k) × (i ≤ place) × (place ≤ t.end)

-- a write before the others
write-cases : (n i : ℕ) (t : Trace) (k place : ℕ) → last_write (with_write (Some n) i t).writes k ≡ Some place
    → (last_write t.writes k ≡ Some place) ⊎ ((n ≡ k) × (place ≡ i))
write-cases n i t k place h =
    elim (or-cases (last_write t.writes k) (if n == k then Some i else None) place h) [
      | inl later ↦ inl later
      | inr now ↦
          by_test (n == k)
          (λ e. inr (grind (arith, nat_tests), sym (some-is (rw e at now.1))))
          (λ e. none-is-some (rw e at now.1))
    ]

write-body : (last : ℕ) (W : ℕ → Type 0) (o : Option ℕ) (i j : ℕ) (t : Trace) → ((n : ℕ) → o ≡ Some n → W n) → i ≤ j → TellsBody last W j t
    → TellsBody last W i (with_write o i t)
write-body last W None i j t own le x = record {
  rises = let up = x.rises in omega arith;
  closes = x.closes;
  each = λ k place h. (let y = x.each k place h in let low = y.1 in (y.0, omega arith, y.2));
}
write-body last W (Some n) i j t own le x = record {
  rises = let up = x.rises in omega arith;
  closes = rw x.closes refl;
  each = λ k place h.
      elim (write-cases n i t k place h) [
        | inl later ↦ let y = x.each k place later in let low = y.1 in (y.0, omega arith, y.2)
        | inr now ↦ let e = now.1 in let up = x.rises in (inr (subst W now.0 (own n refl)), omega arith, omega arith)
      ];
}

-- What a run of a whole pattern tells: its span is in the two slots of the pattern, and each other slot with a
-- place is of the set W; the places lie in the span.
pub record TellsSpan (first : ℕ) (W : ℕ → Type 0) (i : ℕ) (t : Trace) : Type 0 where
  pub opens : last_write t.writes first ≡ Some i
  pub closes : last_write t.writes (suc first) ≡ Some t.end
  pub each : (k place : ℕ) → last_write t.writes k ≡ Some place → ((k ≡ first) ⊎ (k ≡ suc first) ⊎ W k) × (i ≤ place) × (place ≤ t.end)

write-span : (first : ℕ) (W : ℕ → Type 0) (i : ℕ) (t : Trace) → (W first → ⊥) → TellsBody (suc first) W i t → TellsSpan first W i (with_write (Some first) i t)
write-span first W i t apart x = record {
  opens =
      let none : last_write t.writes first ≡ None = elim (tells (last_write t.writes first)) [
        | inl none ↦ none
        | inr some ↦ absurd (elim (x.each first some.0 some.1).0 [ inl e ↦ omega arith | inr w ↦ apart w ])
      ] in
      let here : (first == first) ≡ true = grind (arith, nat_tests) in
      rw (none, here) refl;
  closes = rw x.closes refl;
  each = λ k place h.
      elim (write-cases first i t k place h) [
        | inl later ↦ let y = x.each k place later in (elim y.0 [ inl e ↦ inr (inl e) | inr w ↦ inr (inr w) ], y.1, y.2)
        | inr now ↦ let e = now.1 in let up = x.rises in (inl (sym now.0), omega arith, omega arith)
      ];
}

module _ (terminator : ℕ) (hay : List ℕ) (end : ℕ) where
  stay-next : (q i : ℕ) (d : Configuration) → Contains (at q i ∷ []) d → q ≡ d.state
  stay-next q i d m = ap (λ (c : Configuration). c.state) (only-among (at q i) d m)

  module _ (low high : ℕ) (W : ℕ → Type 0) where
    -- a state of a body goes on to states of the body
    body-step : (s : State) (i : ℕ) (d : Configuration) → IsBody low high W s → Contains (state_step terminator hay end s i) d → IsBetween low high W d.state
    body-step (text bytes next) i d is m = subst (IsBetween low high W) (go_by-target terminator hay end
        (if stands_at hay i bytes then Some (length bytes) else None) next i d m) is
    body-step (set members next) i d is m = subst (IsBetween low high W) (go_by-target terminator hay end (member_len hay members i) next i d m) is
    body-step (assertion kind next) i d is m =
        by_test (holds terminator hay kind i)
        (λ e. subst (IsBetween low high W) (stay-next next i d (rw e at m)) is)
        (λ e. absurd (none-among d (rw e at m)))
    body-step (slot number next) i d is m = subst (IsBetween low high W) (stay-next next i d m) is.1
    body-step (choice states) i d is m =
        let x = choice-member states i d m in
        subst (IsBetween low high W) (ap (λ (c : Configuration). c.state) x.2) (is x.0 x.1)
    body-step (accept pattern) i d is m = absurd is

    body-accepts : (s : State) → IsBody low high W s → state_accepts s ≡ None
    body-accepts (text bytes next) is = refl
    body-accepts (set members next) is = refl
    body-accepts (assertion kind next) is = refl
    body-accepts (slot number next) is = refl
    body-accepts (choice states) is = refl
    body-accepts (accept pattern) is = absurd is

    body-writes : (s : State) → IsBody low high W s → (n : ℕ) → state_writes s ≡ Some n → W n
    body-writes (text bytes next) is n e = none-is-some e
    body-writes (set members next) is n e = none-is-some e
    body-writes (assertion kind next) is n e = none-is-some e
    body-writes (slot number next) is n e = subst W (some-is e) is.0
    body-writes (choice states) is n e = none-is-some e
    body-writes (accept pattern) is n e = none-is-some e

  module _ (whole : List State) where
    abbrev graph : PriorityGraph
    graph = runs_of terminator hay end whole

    abbrev state : Configuration → State
    state c = get_or whole c.state (choice [])

    step-of : (c d : Configuration) → Contains (graph.successors c) d → Contains (state_step terminator hay end (state c) c.place) d
    unfolding runs_of graph_of
    step-of c d m =
        by_test (is_inside (machine_of terminator hay end whole) end c)
        (λ e. rw e at m)
        (λ e. absurd (none-among d (rw e at m)))

    written-of : (c : Configuration) → graph.written c ≡ state_writes (state c)
    unfolding runs_of graph_of
    written-of c = refl

    -- a run from a state that does not accept takes a step
    silent-step : (passed : Passed) (c : Configuration) (run : List Configuration) → state_accepts (state c) ≡ None → IsRun graph passed c run
        → (d : Configuration) × (rest : List Configuration) × (run ≡ d ∷ rest) × Contains (state_step terminator hay end (state c) c.place) d
        × IsRun graph (and_at c passed) d rest
    silent-step passed c [] none r =
        let q = run-pattern graph passed c [] r in
        none-is-some (sym none ∙ runs_of-accepts terminator hay end whole c q.0 q.1)
    silent-step passed c (d ∷ rest) none r = (d, rest, refl, step-of c d r.1, r.2)

    silent-empty : (passed : Passed) (c : Configuration) → state_accepts (state c) ≡ None → IsRun graph passed c [] → ⊥
    silent-empty passed c none r = let x = silent-step passed c [] none r in let e = x.2 in cc

    -- the pattern's slots are `first` and the one after it
    module _ (p first high : ℕ) (W : ℕ → Type 0)
        (accepts : get_or whole 0 (choice []) ≡ accept p) (closing : get_or whole 1 (choice []) ≡ slot (suc first) 0)
        (body : (q : ℕ) → 2 ≤ q → q < high → IsBody 1 high W (get_or whole q (choice []))) where
      -- the accepting state goes nowhere
      last-run : (passed : Passed) (d : Configuration) (run : List Configuration) → d.state ≡ 0 → IsRun graph passed d run → run ≡ []
      last-run passed d [] is_zero r = refl
      last-run passed d (e ∷ run) is_zero r =
          let is : state d ≡ accept p = ap (λ q. get_or whole q (choice [])) is_zero ∙ accepts in
          absurd (none-among e (subst (λ s. Contains (state_step terminator hay end s d.place) e) is (step-of d e r.1)))

      closing-run : (passed : Passed) (c : Configuration) (run : List Configuration) → c.state ≡ 1 → IsRun graph passed c run
          → TellsBody (suc first) W c.place (trace graph c run)
      closing-run passed c run one r =
          let is : state c ≡ slot (suc first) 0 = ap (λ q. get_or whole q (choice [])) one ∙ closing in
          let x = silent-step passed c run (ap state_accepts is) r in
          let d = x.0 in
          let on : at 0 c.place ≡ d = only-among (at 0 c.place) d (subst (λ s. Contains (state_step terminator hay end s c.place) d) is x.3) in
          let same_place : d.place ≡ c.place = ap (λ (y : Configuration). y.place) (sym on) in
          let ends : x.1 ≡ [] = last-run (and_at c passed) d x.1 (ap (λ (y : Configuration). y.state) (sym on)) x.4 in
          let whole_run : run ≡ d ∷ [] = x.2 ∙ ap (λ ys. d ∷ ys) ends in
          let writes : graph.written c ≡ Some (suc first) = written-of c ∙ ap state_writes is in
          subst (λ ys. TellsBody (suc first) W c.place (trace graph c ys)) (sym whole_run)
          (subst (λ o. TellsBody (suc first) W c.place (with_write o c.place (trace graph d []))) (sym writes)
          (closed (trace graph d []) c.place refl same_place))
        where
          closed : (t : Trace) (i : ℕ) → t.writes ≡ [] → t.end ≡ i → TellsBody (suc first) W i (with_write (Some (suc first)) i t)
          closed t i none e =
              let here : (suc first == suc first) ≡ true = grind (arith, nat_tests) in
              record {
                rises = omega arith;
                closes = rw (none, here) (ap Some (sym e));
                each = λ k place h.
                    elim (write-cases (suc first) i t k place h) [
                      | inl later ↦ none-is-some (ap (λ ws. last_write ws k) (sym none) ∙ later)
                      | inr now ↦ let at_i = now.1 in (inl (sym now.0), omega arith, omega arith)
                    ];
              }

      body-run : (passed : Passed) (c : Configuration) (run : List Configuration) → IsBetween 1 high W c.state → IsRun graph passed c run
          → TellsBody (suc first) W c.place (trace graph c run)
      body-run passed c [] within r =
          by_test (c.state == 1)
          (λ e. closing-run passed c [] (grind (arith, nat_tests)) r)
          (λ e.
          let from = within.0 in
          let is = body c.state (grind (arith, nat_tests)) within.1 in
          absurd (silent-empty passed c (body-accepts 1 high W (state c) is) r))
      body-run passed c (d ∷ run) within r =
          by_test (c.state == 1)
          (λ e. closing-run passed c (d ∷ run) (grind (arith, nat_tests)) r)
          (λ e.
          let from = within.0 in
          let is = body c.state (grind (arith, nat_tests)) within.1 in
          let m = step-of c d r.1 in
          write-body (suc first) W (graph.written c) c.place d.place (trace graph d run)
          (λ n w. body-writes 1 high W (state c) is n (sym (written-of c) ∙ w))
          (step-rises terminator hay end (state c) c.place d m)
          (body-run (and_at c passed) d run (body-step 1 high W (state c) c.place d is m) r.2))

      pub opening-run : (passed : Passed) (c : Configuration) (run : List Configuration) (start : ℕ) → state c ≡ slot first start → IsBetween 1 high W start
          → (W first → ⊥) → IsRun graph passed c run
          → TellsSpan first W c.place (trace graph c run)
      opening-run passed c run start is within apart r =
          let x = silent-step passed c run (ap state_accepts is) r in
          let d = x.0 in
          let on : at start c.place ≡ d = only-among (at start c.place) d (subst (λ s. Contains (state_step terminator hay end s c.place) d) is x.3) in
          let writes : graph.written c ≡ Some first = written-of c ∙ ap state_writes is in
          let told = body-run (and_at c passed) d x.1 (subst (λ (y : Configuration). IsBetween 1 high W y.state) on within) x.4 in
          let told_here : TellsBody (suc first) W c.place (trace graph d x.1) =
          subst (λ (y : Configuration). TellsBody (suc first) W y.place (trace graph d x.1)) (sym on) told in
          subst (λ ys. TellsSpan first W c.place (trace graph c ys)) (sym x.2)
          (subst (λ o. TellsSpan first W c.place (with_write o c.place (trace graph d x.1))) (sym writes)
          (write-span first W c.place (trace graph d x.1) apart told_here))

-- what an accepting run of a pattern tells
module _ (terminator : ℕ) (hay : List ℕ) (end : ℕ) (slots : ℕ → Option ℕ) (p : ℕ) (h : Expression) (W : ℕ → Type 0)
    (own : (g n : ℕ) → StandsIn g h → slots g ≡ Some n → W n × W (suc n)) (apart : W (2 * p) → ⊥) where
  abbrev pattern_graph : PriorityGraph
  pattern_graph = runs_of terminator hay end (build_pattern slots p h).states

  pub pattern-span : (i : ℕ) (run : List Configuration) → IsRun pattern_graph nowhere (at (build_pattern slots p h).start i) run
      → TellsSpan (2 * p) W i (trace pattern_graph (at (build_pattern slots p h).start i) run)
  unfolding build_pattern
  pattern-span i run r =
      let b = build slots h 1 2 in
      let first = 2 * p in
      let inner = slot (suc first) 0 ∷ b.states in
      let opening = slot first b.start ∷ [] in
      let high = 1 + length inner in
      let whole = accept p ∷ (inner ++ opening) in
      let placed = Placed-rest whole 0 (accept p) (inner ++ opening) (Placed-whole whole) in
      let is_body = build-body 1 high W slots (λ g. StandsIn g h) own h (λ g s. s) 1 2 ((omega arith, omega arith), omega arith, omega arith) in
      opening-run terminator hay end whole p first high W refl refl
      (body-states b.states high opening is_body.1 (omega arith))
      nowhere (at high i) run b.start (Placed-first whole high (slot first b.start) [] (Placed-back whole 1 inner opening placed)).1 is_body.0 apart r
    where
      body-states : (states : List State) (high : ℕ) (rest : List State) → AreBody 1 high W states → high ≤ 2 + length states
          → (q : ℕ) → 2 ≤ q → q < high → IsBody 1 high W (get_or (accept p ∷ slot (suc (2 * p)) 0 ∷ (states ++ rest)) q (choice []))
      body-states states high rest are le zero from below = absurd (omega arith)
      body-states states high rest are le (suc zero) from below = absurd (omega arith)
      body-states states high rest are le (suc (suc k)) from below =
          subst (IsBody 1 high W) (sym (get_or_append_left states rest (choice []) k (omega arith))) (are k)

-- the slots of a pattern's groups are its own
module _ (r : Patterns) (p : ℕ) (h : Expression) where
  pub explicit-own : (g n : ℕ) → StandsIn g h → slot_of r p g ≡ Some n → IsExplicit r p h n × IsExplicit r p h (suc n)
  explicit-own g n stands e = ((g, n, stands, e, inl refl), (g, n, stands, e, inr (omega arith)))

  pub explicit-apart : p < length r.expressions → IsExplicit r p h (2 * p) → ⊥
  explicit-apart below is =
      by_test (has_explicit_groups r.which_captures)
      (λ told.
      let at_first : 2 * length r.expressions + 2 * groups_before p r.expressions + 2 * (is.0 - 1) ≡ is.1 = some-is (rw told at is.3) in
      elim is.4 [ inl e ↦ omega arith | inr e ↦ omega arith ])
      (λ none. none-is-some (rw none at is.3))
