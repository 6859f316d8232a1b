-- Where the first run of a plain expression ends.
use Rattle.std.proofs.Common.{◌≡◌, ℕ, zero, suc, ◌+◌, ◌-◌, ◌*◌, ◌≤◌, ◌<◌, ◌⊎◌, Bool, true, false, List, [], ◌∷◌, length, map, refl, sym, ap, ◌∙◌, subst, inl, inr, arith, true≢false}
use Rattle.std.specs.Prelude.{nat_le, Option, Some, None, option_map, if◌then◌else◌, Contains}
use Rattle.std.specs.Option.{option_or}
use Rattle.std.proofs.lemmas.Bool.Decides.{nat_tests}
use Rattle.std.proofs.lemmas.Option.{same_Some}
use Rattle.std.proofs.Math.Nat.{mul-suc}
use Rattle.rx_model.specs.Text.{stands_at, member_len}
use Rattle.rx_model.specs.Look.{Look, holds}
use Rattle.rx_model.specs.Length.{minimum_len, is_positive, sum_of_minimum_len, least_minimum_len}
use Rattle.rx_model.specs.Runs.{Configuration, nowhere, and_at, same, first_some, trace, found, Trace}
use Rattle.rx_model.specs.Expression.{Expression, Expressions, empty, literal, class, look, repetition, capture, concat, alternation, nil, cons}
use Rattle.rx_model.specs.Graph.{State, text, set, assertion, slot, choice, accept, Builder, build_nothing, build_state, build_then, prefer, loop, loop_once, copies, options, build_repetition, build_group, Parts, no_parts, build_beside, build_choice, build, build_in_turn, build_each, build_pattern, at, go_by, state_step, state_accepts}
use Rattle.rx_model.specs.Search.{Patterns, slot_of, first}
use Rattle.rx_model.specs.Onward.{after, either_first, times_go, up_to, copies_left, onward, onward_in_turn, onward_one, within, IsPlain, ArePlain}
use Rattle.rx_model.proofs.lemmas.runs.RunLemmas.{by_test, same-true, past-alike}
use Rattle.rx_model.proofs.lemmas.runs.FoundLemmas.{found-accepted, found-step}
use Rattle.rx_model.proofs.lemmas.runs.MemberLemmas.{none-among}
use Rattle.rx_model.proofs.lemmas.runs.OptionLemmas.{or-none_right}
use Rattle.rx_model.proofs.lemmas.runs.OrderLemmas.{g, ends, end_of, end-written, first-same, ends-past, go_by-ends, after-past, prefer-ends, prefer-past, starts-past}
use Rattle.rx_model.proofs.lemmas.graphs.PlacedLemmas.{Placed, Placed-front, Placed-back, Placed-first, Placed-rest}
use Rattle.rx_model.proofs.lemmas.graphs.GraphLemmas.{runs_of-bounded, runs_of-rises}
use Rattle.rx_model.proofs.lemmas.graphs.StateLemmas.{IsStateOf, prefer-accepts, successors-at, accepted-at, successors-in}
use Rattle.rx_model.proofs.lemmas.graphs.LocalLemmas.{local}
use Rattle.rx_model.proofs.lemmas.graphs.RankLemmas.{Among, RankedAt, Ranked-group, ranked}
use Rattle.rx_model.proofs.lemmas.meaning.CoverLemmas.{Placed-whole}
use Rattle.rx_model.proofs.lemmas.meaning.LengthLemmas.{class-known, plus-some, lesser-some, times-some}

-- Where nothing differs that lies so far on, the first run ends alike.
after-same : (f h : ℕ → Option ℕ) (o : Option ℕ) (i : ℕ) → ((n : ℕ) → o ≡ Some n → f (i + n) ≡ h (i + n)) → after f o i ≡ after h o i
after-same f h None i e = refl
after-same f h (Some n) i e = e n refl

either-same : (greedy : Bool) {a b c d : Option ℕ} → a ≡ b → c ≡ d → either_first greedy a c ≡ either_first greedy b d
either-same greedy e f = λ k. either_first greedy (e k) (f k)

-- `go` looks only at places that lie so many bytes on, or more
abbrev Looks : ℕ → ((ℕ → Option ℕ) → ℕ → Option ℕ) → Type 0
Looks m go = (f h : ℕ → Option ℕ) (i : ℕ) → ((j : ℕ) → i + m ≤ j → f j ≡ h j) → go f i ≡ go h i

looks-less : (m k : ℕ) → k ≤ m → (go : (ℕ → Option ℕ) → ℕ → Option ℕ) → Looks m go → Looks k go
looks-less m k le go a f h i e = a f h i (λ j far. e j (omega arith))

times-looks : (m : ℕ) (go : (ℕ → Option ℕ) → ℕ → Option ℕ) → Looks m go → (n : ℕ) → Looks (m * n) (times_go go n)
times-looks m go a zero f h i e = let none : m * zero ≡ 0 = omega arith in e i (omega arith)
times-looks m go a (suc n) f h i e =
    let long = mul-suc m n in
    a (λ j. times_go go n f j) (λ j. times_go go n h j) i (λ j far. times-looks m go a n f h j (λ k further. e k (omega arith)))

up_to-looks : (greedy : Bool) (go : (ℕ → Option ℕ) → ℕ → Option ℕ) → Looks 0 go → (n : ℕ) → Looks 0 (up_to greedy go n)
up_to-looks greedy go a zero f h i e = e i (omega arith)
up_to-looks greedy go a (suc n) f h i e =
    either-same greedy
    (a (λ j. up_to greedy go n f j) (λ j. up_to greedy go n h j) i (λ j far. up_to-looks greedy go a n f h j (λ k further. e k (omega arith))))
    (e i (omega arith))

module _ (terminator : ℕ) (hay : List ℕ) (end : ℕ) where
  mutual
    unfolding onward

    onward-looks : (x : Expression) (m : ℕ) → minimum_len x ≡ Some m → Looks m (onward terminator hay end x)
    onward-looks empty m known f h i e = let none = same_Some 0 m known in e i (omega arith)
    onward-looks (literal bytes) m known f h i e =
        let long = same_Some (length bytes) m known in
        by_test (stands_at hay i bytes) (λ yes'. rw yes' (e (i + length bytes) (omega arith))) (λ no'. rw no' refl)
    onward-looks (class members) m known f h i e =
        after-same f h (member_len hay members i) i
        (λ n is.
        let x = class-known hay members i n is in
        let long = same_Some x.0 m (sym x.1 ∙ known) in
        let le = x.2 in
        e (i + n) (omega arith))
    onward-looks (look kind) m known f h i e =
        let none = same_Some 0 m known in
        by_test (holds terminator hay kind i) (λ yes'. rw yes' (e i (omega arith))) (λ no'. rw no' refl)
    onward-looks (repetition least most greedy sub) m known f h i e =
        let x = times-some (minimum_len sub) least m known in
        let long = x.2 in
        let a = onward-looks sub x.0 x.1 in
        let more : Looks 0 (onward terminator hay end sub) = looks-less x.0 0 (omega arith) (onward terminator hay end sub) a in
        times-looks x.0 (onward terminator hay end sub) a least
        (λ j. up_to greedy (onward terminator hay end sub) (copies_left end least most j) f j)
        (λ j. up_to greedy (onward terminator hay end sub) (copies_left end least most j) h j) i
        (λ j far. up_to-looks greedy (onward terminator hay end sub) more (copies_left end least most j) f h j (λ k further. e k (omega arith)))
    onward-looks (capture group name sub) m known f h i e = onward-looks sub m known f h i e
    onward-looks (concat subs) m known f h i e = turn-looks subs m known f h i e
    onward-looks (alternation subs) m known f h i e = one-looks subs m known f h i e

    turn-looks : (hs : Expressions) (m : ℕ) → sum_of_minimum_len hs ≡ Some m → Looks m (onward_in_turn terminator hay end hs)
    turn-looks nil m known f h i e = let none = same_Some 0 m known in e i (omega arith)
    turn-looks (cons sub subs) m known f h i e =
        let x = plus-some (minimum_len sub) (sum_of_minimum_len subs) m known in
        let long = x.4 in
        onward-looks sub x.0 x.2 (λ j. onward_in_turn terminator hay end subs f j) (λ j. onward_in_turn terminator hay end subs h j) i
        (λ j far. turn-looks subs x.1 x.3 f h j (λ k further. e k (omega arith)))

    one-looks : (hs : Expressions) (m : ℕ) → least_minimum_len hs ≡ Some m → Looks m (onward_one terminator hay end hs)
    one-looks nil m known f h i e = refl
    one-looks (cons sub nil) m known f h i e = λ k. option_or (onward-looks sub m known f h i e k) None
    one-looks (cons sub (cons next subs)) m known f h i e =
        let x = lesser-some (minimum_len sub) (least_minimum_len (cons next subs)) m known in
        let first = x.4 in
        let other = x.5 in
        λ k. option_or (onward-looks sub x.0 x.2 f h i (λ j far. e j (omega arith)) k)
        (one-looks (cons next subs) x.1 x.3 f h i (λ j far. e j (omega arith)) k)

  -- what takes a byte looks only at later places
  onward-later : (sub : Expression) → is_positive (minimum_len sub) ≡ true → Looks 1 (onward terminator hay end sub)
  onward-later sub e = by_option (minimum_len sub) refl e
    where
      by_option : (o : Option ℕ) → minimum_len sub ≡ o → is_positive o ≡ true → Looks 1 (onward terminator hay end sub)
      by_option None known h = absurd (true≢false (sym h))
      by_option (Some m) known h = looks-less m 1 (grind (arith, nat_tests)) (onward terminator hay end sub) (onward-looks sub m known)

  module _ (whole : List State) where
    -- a step leads down, or on in the text, or to state 0, where there is no step
    record Falls : Type 0 where
      pub n : ℕ
      pub ranks : RankedAt terminator hay end whole (λ s. 0 ≡ s) 1 n
      pub final : (c d : Configuration) → 0 ≡ c.state → Contains ((g terminator hay end whole).successors c) d → ⊥
      pub all : length whole ≤ 1 + n

    module _ (falls : Falls) where
      -- what comes after c
      abbrev Below : Configuration → Configuration → Type 0
      Below c d =
          (c.place < d.place) ⊎ ((d.place ≡ c.place) × ((0 ≡ d.state) ⊎ (Among 1 falls.n d.state × (falls.ranks.rank d.state < falls.ranks.rank c.state))))

      below-step : (c d : Configuration) → Among 1 falls.n c.state → Contains ((g terminator hay end whole).successors c) d → Below c d
      below-step c d at_c m =
          let up = runs_of-rises terminator hay end whole c d m in
          by_test (nat_le d.place c.place)
          (λ e. let same_place : d.place ≡ c.place = grind (arith, nat_tests) in
          inr (same_place, falls.ranks.falls c d at_c (m, same_place)))
          (λ e. inl (grind (arith, nat_tests)))

      below-closed : (c d e : Configuration) → Below c d → Contains ((g terminator hay end whole).successors d) e → Below c e
      below-closed c d e below m =
          let up = runs_of-rises terminator hay end whole d e m in
          elim below [
            | inl later ↦ inl (omega arith)
            | inr here ↦
                let is = here.0 in
                elim here.1 [
                  | inl zero' ↦ absurd (falls.final d e zero' m)
                  | inr r ↦ elim (below-step d e r.0 m) [
                    | inl later ↦ inl (omega arith)
                    | inr there ↦
                        let is' = there.0 in
                        let same_place : e.place ≡ c.place = omega arith in
                        elim there.1 [
                          | inl zero' ↦ inr (same_place, inl zero')
                          | inr r' ↦ let less = r.1 in let less' = r'.1 in inr (same_place, inr (r'.0, omega arith))
                        ]
                  ]
                ]
          ]

      below-itself : (c : Configuration) → 1 ≤ c.state → Below c c → ⊥
      below-itself c up below = elim below [
        | inl later ↦ omega arith
        | inr here ↦ elim here.1 [ inl zero' ↦ omega arith | inr r ↦ let less = r.1 in omega arith ]
      ]

      ends-on : (c : Configuration) → Among 1 falls.n c.state → (g terminator hay end whole).accepted c ≡ None
          → ends terminator hay end whole c ≡ first_some (ends terminator hay end whole) ((g terminator hay end whole).successors c)
      ends-on c at_c none =
          ap (option_map end_of) (found-step (g terminator hay end whole) nowhere (runs_of-bounded terminator hay end whole) c refl none)
          ∙ end-written ((g terminator hay end whole).written c) c.place
          (first_some (found (g terminator hay end whole) (and_at c nowhere)) ((g terminator hay end whole).successors c))
          ∙ first-same (found (g terminator hay end whole) (and_at c nowhere)) (found (g terminator hay end whole) nowhere)
          ((g terminator hay end whole).successors c)
          (λ d m.
          ap (option_map (trace (g terminator hay end whole) d))
          (past-alike (g terminator hay end whole) (Below c) (below-closed c) (and_at c nowhere) nowhere d (below-step c d at_c m) apart))
        where
          apart : (d : Configuration) → Below c d → and_at c nowhere d ≡ nowhere d
          apart d below =
              by_test (same c d)
              (λ e. absurd (below-itself c at_c.0 (subst (Below c) (sym (same-true c d e)) below)))
              (λ e. rw e refl)

      ends-at : (q i : ℕ) (s : State) → 1 ≤ q → IsStateOf whole q s → state_accepts s ≡ None → i ≤ end
          → ends terminator hay end whole (at q i) ≡ first_some (ends terminator hay end whole) (state_step terminator hay end s i)
      ends-at q i s up is none le =
          ends-on (at q i) (up, (let lt = is.0 in let all = falls.all in omega arith)) (accepted-at terminator hay end whole q i s is le ∙ none)
          ∙ ap (first_some (ends terminator hay end whole)) (successors-at terminator hay end whole q i s is le)

      abbrev E : Configuration → Option ℕ
      E c = ends terminator hay end whole c

      abbrev past : (c : Configuration) → end < c.place → E c ≡ None
      past c lt = ends-past terminator hay end whole c lt

      -- first runs from the part end as `go` says, by where they end from the next state
      record Follows (b : Builder) (go : (ℕ → Option ℕ) → ℕ → Option ℕ) : Type 0 where
        pub follows : (next base : ℕ) → 1 ≤ base → Placed whole base (b next base).states → (i : ℕ)
            → E (at (b next base).start i) ≡ go (λ j. E (at next j)) i

      record FollowsOne (parts : (next base : ℕ) → Parts) (go : (ℕ → Option ℕ) → ℕ → Option ℕ) : Type 0 where
        pub follows : (next base : ℕ) → 1 ≤ base → Placed whole base (parts next base).states → (i : ℕ)
            → first_some E (map (λ q. at q i) (parts next base).starts) ≡ go (λ j. E (at next j)) i

      Follows-nothing : Follows build_nothing (λ f i. f i)
      Follows-nothing = record { follows = λ next base up placed i. refl }

      Follows-bytes : (state : ℕ → State) (len : ℕ → Option ℕ) → ((next : ℕ) → state_accepts (state next) ≡ None)
          → ((next i : ℕ) → state_step terminator hay end (state next) i ≡ go_by terminator hay end (len i) next i)
          → Follows (build_state state) (λ f i. after f (len i) i)
      Follows-bytes state len none step = record {
        follows = λ next base up placed i.
            (let is = Placed-first whole base (state next) [] placed in
            by_test (nat_le i end)
            (λ e.
            let le : i ≤ end = grind (arith, nat_tests) in
            ends-at base i (state next) up is (none next) le
            ∙ ap (first_some E) (step next i) ∙ go_by-ends terminator hay end whole (len i) next i)
            (λ e.
            let late : end < i = grind (arith, nat_tests) in
            past (at base i) late ∙ sym (after-past terminator hay end whole (len i) next i late)));
      }

      Follows-slot : (number : ℕ) → Follows (build_state (slot number)) (λ f i. f i)
      Follows-slot number = record {
        follows = λ next base up placed i.
            (let is = Placed-first whole base (slot number next) [] placed in
            by_test (nat_le i end)
            (λ e.
            let le : i ≤ end = grind (arith, nat_tests) in
            ends-at base i (slot number next) up is refl le ∙ or-none_right (E (at next i)))
            (λ e.
            let late : end < i = grind (arith, nat_tests) in
            past (at base i) late ∙ sym (past (at next i) late)));
      }

      Follows-look : (kind : Look) → Follows (build_state (assertion kind)) (λ f i. if holds terminator hay kind i then f i else None)
      Follows-look kind = record {
        follows = λ next base up placed i.
            (let is = Placed-first whole base (assertion kind next) [] placed in
            by_test (nat_le i end)
            (λ e.
            let le : i ≤ end = grind (arith, nat_tests) in
            ends-at base i (assertion kind next) up is refl le ∙ tested (holds terminator hay kind i) next i)
            (λ e.
            let late : end < i = grind (arith, nat_tests) in
            past (at base i) late ∙ sym (never (holds terminator hay kind i) next i late)));
      }
        where
          tested : (b : Bool) (next i : ℕ) → first_some E (if b then at next i ∷ [] else []) ≡ (if b then E (at next i) else None)
          tested true next i = or-none_right (E (at next i))
          tested false next i = refl

          never : (b : Bool) (next i : ℕ) → end < i → (if b then E (at next i) else None) ≡ None
          never true next i late = past (at next i) late
          never false next i late = refl

      Follows-then : (first second : Builder) (a b : (ℕ → Option ℕ) → ℕ → Option ℕ) → Follows first a → Follows second b
          → Follows (build_then first second) (λ f i. a (λ j. b f j) i)
      Follows-then first second a b one two = record {
        follows = λ next base up placed i.
            (let s = second next base in
            let f = first s.start (base + length s.states) in
            let later : (λ j. E (at s.start j)) ≡ (λ j. b (λ k. E (at next k)) j) = λ k j.
            two.follows next base up (Placed-front whole base s.states f.states placed) j k in
            one.follows s.start (base + length s.states) (omega arith) (Placed-back whole base s.states f.states placed) i ∙ ap (λ x. a x i) later);
      }

      Follows-group : (number : Option ℕ) (body : Builder) (go : (ℕ → Option ℕ) → ℕ → Option ℕ) → Follows body go → Follows (build_group number body) go
      Follows-group None body go a = a
      Follows-group (Some number) body go a =
          Follows-then (build_state (slot number)) (build_then body (build_state (slot (suc number)))) (λ f i. f i) go (Follows-slot number)
          (Follows-then body (build_state (slot (suc number))) go (λ f i. f i) a (Follows-slot (suc number)))

      -- a choice between a body and the next state
      choice-ends : (greedy : Bool) (base start next : ℕ) (states : List State) → 1 ≤ base → Placed whole base (prefer greedy start next ∷ states)
          → (i : ℕ) → E (at base i) ≡ either_first greedy (E (at start i)) (E (at next i))
      choice-ends greedy base start next states up placed i =
          by_test (nat_le i end)
          (λ e.
          let le : i ≤ end = grind (arith, nat_tests) in
          ends-at base i (prefer greedy start next) up (Placed-first whole base (prefer greedy start next) states placed) (prefer-accepts greedy start next) le
          ∙ prefer-ends terminator hay end whole greedy start next i)
          (λ e.
          let late : end < i = grind (arith, nat_tests) in
          past (at base i) late
          ∙ sym (prefer-past terminator hay end whole greedy (E (at start i)) (E (at next i)) (past (at start i) late) (past (at next i) late)))

      Follows-copies : (body last : Builder) (go after_all : (ℕ → Option ℕ) → ℕ → Option ℕ) → Follows body go → Follows last after_all → (n : ℕ)
          → Follows (copies n body last) (λ f i. times_go go n (λ j. after_all f j) i)
      Follows-copies body last go after_all a b zero = b
      Follows-copies body last go after_all a b (suc n) =
          Follows-then body (copies n body last) go (λ f i. times_go go n (λ j. after_all f j) i) a (Follows-copies body last go after_all a b n)

      Follows-options : (greedy : Bool) (body : Builder) (go : (ℕ → Option ℕ) → ℕ → Option ℕ) → Follows body go → (n : ℕ)
          → Follows (options greedy n body) (λ f i. up_to greedy go n f i)
      Follows-options greedy body go a zero = Follows-nothing
      Follows-options greedy body go a (suc n) = record {
        follows = λ next base up placed i.
            (let inner = options greedy n body next base in
            let c = base + length inner.states in
            let b = body inner.start (suc c) in
            let back = Placed-back whole base inner.states (prefer greedy b.start next ∷ b.states) placed in
            let front = Placed-front whole base inner.states (prefer greedy b.start next ∷ b.states) placed in
            let later : (λ j. E (at inner.start j)) ≡ (λ j. up_to greedy go n (λ k. E (at next k)) j) = λ k j.
            (Follows-options greedy body go a n).follows next base up front j k in
            choice-ends greedy c b.start next b.states (omega arith) back i
            ∙ either-same greedy
            (a.follows inner.start (suc c) (omega arith) (Placed-rest whole c (prefer greedy b.start next) b.states back) i ∙ ap (λ x. go x i) later) refl);
      }

      -- the choice of a loop, whose body takes a byte
      around-ends : (greedy : Bool) (body : Builder) (go : (ℕ → Option ℕ) → ℕ → Option ℕ) → Follows body go → Looks 1 go → (next base : ℕ) → 1 ≤ base
          → Placed whole base (prefer greedy (body base (suc base)).start next ∷ (body base (suc base)).states) → (n i : ℕ) → end + 1 - i ≤ n
          → E (at base i) ≡ up_to greedy go n (λ j. E (at next j)) i
      around-ends greedy body go a looks next base up placed zero i few =
          let late : end < i = omega arith in past (at base i) late ∙ sym (past (at next i) late)
      around-ends greedy body go a looks next base up placed (suc n) i few =
          let b = body base (suc base) in
          choice-ends greedy base b.start next b.states up placed i
          ∙ either-same greedy
          (a.follows base (suc base) (omega arith) (Placed-rest whole base (prefer greedy b.start next) b.states placed) i
          ∙ looks (λ j. E (at base j)) (λ j. up_to greedy go n (λ k. E (at next k)) j) i
          (λ j far. around-ends greedy body go a looks next base up placed n j (omega arith))) refl

      Follows-loop : (greedy : Bool) (body : Builder) (go : (ℕ → Option ℕ) → ℕ → Option ℕ) → Follows body go → Looks 1 go
          → Follows (loop greedy body) (λ f i. up_to greedy go (end + 1 - i) f i)
      Follows-loop greedy body go a looks = record {
        follows = λ next base up placed i. around-ends greedy body go a looks next base up placed (end + 1 - i) i (omega arith);
      }

      Follows-loop_once : (greedy : Bool) (body : Builder) (go : (ℕ → Option ℕ) → ℕ → Option ℕ) → Follows body go → Looks 1 go
          → Follows (loop_once greedy body) (λ f i. go (λ j. up_to greedy go (end + 1 - j) f j) i)
      Follows-loop_once greedy body go a looks = record {
        follows = λ next base up placed i.
            (let b = body base (suc base) in
            let later : (λ j. E (at base j)) ≡ (λ j. up_to greedy go (end + 1 - j) (λ k. E (at next k)) j) = λ k j.
            around-ends greedy body go a looks next base up placed (end + 1 - j) j (omega arith) k in
            a.follows base (suc base) (omega arith) (Placed-rest whole base (prefer greedy b.start next) b.states placed) i ∙ ap (λ x. go x i) later);
      }

      -- one copy more is the first of them
      times-last : (go : (ℕ → Option ℕ) → ℕ → Option ℕ) (n : ℕ) (f : ℕ → Option ℕ) (i : ℕ)
          → times_go go n (λ j. go f j) i ≡ times_go go (suc n) f i
      times-last go zero f i = refl
      times-last go (suc n) f i = let later : (λ j. times_go go n (λ k. go f k) j) ≡ (λ j. times_go go (suc n) f j) = λ k j. times-last go n f j k in
          ap (λ x. go x i) later

      FollowsOne-none : FollowsOne no_parts (λ f i. None)
      FollowsOne-none = record { follows = λ next base up placed i. refl }

      FollowsOne-beside : (first : Builder) (others : (next base : ℕ) → Parts) (go rest : (ℕ → Option ℕ) → ℕ → Option ℕ) → Follows first go
          → FollowsOne others rest → FollowsOne (build_beside first others) (λ f i. option_or (go f i) (rest f i))
      FollowsOne-beside first others go rest a b = record {
        follows = λ next base up placed i.
            (let f = first next base in
            let o = others next (base + length f.states) in
            let x = a.follows next base up (Placed-front whole base f.states o.states placed) i in
            let y = b.follows next (base + length f.states) (omega arith) (Placed-back whole base f.states o.states placed) i in
            λ k. option_or (x k) (y k));
      }

      Follows-choice : (parts : (next base : ℕ) → Parts) (go : (ℕ → Option ℕ) → ℕ → Option ℕ) → FollowsOne parts go → Follows (build_choice parts) go
      Follows-choice parts go a = record {
        follows = λ next base up placed i.
            (let p = parts next base in
            let c = base + length p.states in
            let is = Placed-first whole c (choice p.starts) [] (Placed-back whole base p.states (choice p.starts ∷ []) placed) in
            let onward' = a.follows next base up (Placed-front whole base p.states (choice p.starts ∷ []) placed) i in
            by_test (nat_le i end)
            (λ e. let le : i ≤ end = grind (arith, nat_tests) in ends-at c i (choice p.starts) (omega arith) is refl le ∙ onward')
            (λ e.
            let late : end < i = grind (arith, nat_tests) in
            past (at c i) late ∙ sym (starts-past terminator hay end whole p.starts i late) ∙ onward'));
      }

      module _ (slots : ℕ → Option ℕ) where
        mutual
          unfolding build IsPlain onward

          follows-all : (h : Expression) → IsPlain h → Follows (build slots h) (onward terminator hay end h)
          follows-all empty plain = Follows-nothing
          follows-all (literal bytes) plain =
              Follows-bytes (text bytes) (λ i. if stands_at hay i bytes then Some (length bytes) else None) (λ next. refl) (λ next i. refl)
          follows-all (class members) plain = Follows-bytes (set members) (λ i. member_len hay members i) (λ next. refl) (λ next i. refl)
          follows-all (look kind) plain = Follows-look kind
          follows-all (repetition zero None greedy sub) plain =
              subst (λ b. Follows (build_repetition b zero None greedy (build slots sub)) (onward terminator hay end (repetition zero None greedy sub)))
              (sym plain.0)
              (Follows-loop greedy (build slots sub) (onward terminator hay end sub) (follows-all sub plain.1) (onward-later sub plain.0))
          follows-all (repetition (suc n) None greedy sub) plain =
              let a = follows-all sub plain.1 in
              let go = onward terminator hay end sub in
              let c = Follows-copies (build slots sub) (loop_once greedy (build slots sub)) go (λ f i. go (λ j. up_to greedy go (end + 1 - j) f j) i) a
              (Follows-loop_once greedy (build slots sub) go a (onward-later sub plain.0)) n in
              record {
                follows = λ next base up placed i.
                    (c.follows next base up placed i ∙ times-last go n (λ j. up_to greedy go (end + 1 - j) (λ k. E (at next k)) j) i);
              }
          follows-all (repetition zero (Some m) greedy sub) plain =
              Follows-options greedy (build slots sub) (onward terminator hay end sub) (follows-all sub plain.1) (m - zero)
          follows-all (repetition (suc n) (Some m) greedy sub) plain =
              let a = follows-all sub plain.1 in
              let go = onward terminator hay end sub in
              Follows-copies (build slots sub) (options greedy (m - suc n) (build slots sub)) go (λ f i. up_to greedy go (m - suc n) f i) a
              (Follows-options greedy (build slots sub) go a (m - suc n)) (suc n)
          follows-all (capture group name sub) plain =
              Follows-group (slots group) (build slots sub) (onward terminator hay end sub) (follows-all sub plain)
          follows-all (concat subs) plain = follows-turn subs plain
          follows-all (alternation subs) plain = Follows-choice (build_each slots subs) (onward_one terminator hay end subs) (follows-each subs plain)

          follows-turn : (hs : Expressions) → ArePlain hs → Follows (build_in_turn slots hs) (onward_in_turn terminator hay end hs)
          follows-turn nil plain = Follows-nothing
          follows-turn (cons sub subs) plain =
              Follows-then (build slots sub) (build_in_turn slots subs) (onward terminator hay end sub) (onward_in_turn terminator hay end subs)
              (follows-all sub plain.0) (follows-turn subs plain.1)

          follows-each : (hs : Expressions) → ArePlain hs → FollowsOne (build_each slots hs) (onward_one terminator hay end hs)
          follows-each nil plain = FollowsOne-none
          follows-each (cons sub subs) plain =
              FollowsOne-beside (build slots sub) (build_each slots subs) (onward terminator hay end sub) (onward_one terminator hay end subs)
              (follows-all sub plain.0) (follows-each subs plain.1)

-- where the first run of the pattern ends
pub first-plain : (r : Patterns) (hay : List ℕ) (end p : ℕ) (h : Expression) → IsPlain h → (i : ℕ)
    → option_map (λ (t : Trace). t.end) (first r hay end p h i) ≡ onward r.terminator hay end h (within end) i
unfolding first build_pattern
first-plain r hay end p h plain i =
    let t = r.terminator in
    let slots = slot_of r p in
    let b = build_group (Some (2 * p)) (build slots h) in
    let body = b 0 1 in
    let whole = accept p ∷ body.states in
    let placed : Placed whole 1 body.states = Placed-rest whole 0 (accept p) body.states (Placed-whole whole) in
    let is : IsStateOf whole 0 (accept p) = Placed-first whole 0 (accept p) body.states (Placed-whole whole) in
    let ranks = Ranked-group t hay end whole (Some (2 * p)) (build slots h) (ranked t hay end whole slots h plain) (local t hay end whole slots h) in
    let falls : Falls t hay end whole = record {
      n = length body.states;
      ranks = ranks.ranks 0 1 placed;
      final = λ c d at_0 m. none-among d (successors-in t hay end whole c d (accept p) (subst (λ q. IsStateOf whole q (accept p)) at_0 is) m);
      all = omega arith;
    } in
    let f = Follows-group t hay end whole falls (Some (2 * p)) (build slots h) (onward t hay end h) (follows-all t hay end whole falls slots h plain) in
    let final : (j : ℕ) → ends t hay end whole (at 0 j) ≡ within end j = λ j.
    by_test (nat_le j end)
    (λ e.
    let le : j ≤ end = grind (arith, nat_tests) in
    rw e
    (ap (option_map (λ (x : Trace). x.end)) (found-accepted (g t hay end whole) nowhere (runs_of-bounded t hay end whole) (at 0 j) p
    refl (accepted-at t hay end whole 0 j (accept p) is le))))
    (λ e. let late : end < j = grind (arith, nat_tests) in rw e (ends-past t hay end whole (at 0 j) late)) in
    let same_ends : (λ j. ends t hay end whole (at 0 j)) ≡ within end = λ k j. final j k in
    f.follows 0 1 (omega arith) placed i ∙ ap (λ x. onward t hay end h x i) same_ends
