-- Under `All` the keys tell of a place the patterns that have a run which ends there, and answer the last such place.
use Rattle.std.proofs.Common.{◌≡◌, ◌⊎◌, ℕ, zero, suc, ◌+◌, ◌-◌, ◌≤◌, ◌<◌, List, [], ◌∷◌, ◌++◌, length, refl, sym, ◌∙◌, ap, subst, inl, inr, arith, true≢false}
use Rattle.std.specs.Prelude.{Bool, true, false, ◌&&◌, ◌||◌, ◌==◌, Option, Some, None, option_map, is_some, nat_lt, if◌then◌else◌}
use Rattle.std.specs.Prelude.{All as Each}
use Rattle.std.specs.Option.{option_or}
use Rattle.std.proofs.lemmas.Bool.Decides.{nat_tests, Decides-eqb}
use Rattle.std.proofs.lemmas.List.Elements.{All-nil, All-append}
use Rattle.rx_model.specs.Look as model
use Rattle.rx_model.specs.Runs.{Configuration, PriorityGraph, Sieve, nowhere, sieved, sifted, for_pattern, first_past, trace, Leads, last_of}
use Rattle.rx_model.proofs.lemmas.runs.RunLemmas.{by_test, or-swap, or-absorbs}
use Rattle.rx_model.proofs.lemmas.runs.FirstLemmas.{none-is-some, some-is, tells, found-is_run, run-is_found}
use Rattle.rx_model.proofs.lemmas.runs.RiseLemmas.{run-accepts}
use Rattle.rx_model.proofs.lemmas.runs.OptionLemmas.{or-none_right, some-or}
use Rattle.rx_model.proofs.lemmas.meaning.CutLemmas.{Leads-run, run-Leads}
use Rattle.rx_search.specs.Matches.{HalfMatchValue}
use Rattle.rx_search.specs.declared.anchored.MatchKind.TheVariants.{All}
use Rattle.rx_nfa.specs.Automaton.{at, automaton_over, NamesBelow, Surroundings, byte_within}
use Rattle.rx_nfa.specs.Ordered.{AreBelow, HoldsAt, HasSteps, has, half, first_told, first_on, resting, threads_from, targets, accepts_at, cut, match_here, where_there, begun, close}
use Rattle.rx_nfa.specs.declared.state.State.{State}
use Rattle.rx_nfa.proofs.lemmas.lists.ListLemmas.{first_told-none}
use Rattle.rx_nfa.proofs.lemmas.lists.ClosureLemmas.{threads-first, close-below, resting-below}
use Rattle.rx_nfa.proofs.lemmas.lists.TargetLemmas.{targets-below, step-first, end-first}
use Rattle.rx_nfa.proofs.lemmas.lists.LaterLemmas.{told_later, told_later-none, seeded-first, begun-below, where_there-none, automaton-steps, sieved-steps}
use Rattle.rx_determinize.specs.Key.{Key, Sight, Sees, accepts_in, arrived, with_pattern, accepted_by, settled, start_key, step_key, end_key}
use Rattle.rx_determinize.specs.Span.{met, run_keys, key_at, told_at}
use Rattle.rx_determinize.specs.Permitted.{Progress, fresh, met_within, run_within}
use Rattle.rx_determinize.specs.Told.{HasRunTo, IsLast, IsLastWhere}
use Rattle.rx_determinize.proofs.lemmas.DeadLemmas.{threads-nil}
use Rattle.rx_determinize.proofs.lemmas.SeenLemmas.{SeesFrom, all-alive-or-none, sees-here, sees-next, seen-start, stays-dead}
use Rattle.rx_determinize.proofs.lemmas.ArrivedLemmas.{arrived-first, arrived-below}
use Rattle.rx_determinize.proofs.lemmas.SpanLemmas.{anywhere, byte-here, accepts-here}
use Rattle.std.proofs.Math.Bool.{and-false, and-true, or-true}

-- The patterns that a list accepts.

pub with_pattern-has : (p : ℕ) (xs : List ℕ) (y : ℕ) → has (with_pattern p xs) y ≡ ((p == y) || has xs y)
with_pattern-has p [] y = refl
with_pattern-has p (x ∷ xs) y =
    by_test (nat_lt p x)
    (λ e. rw e refl)
    (λ e.
    by_test (p == x)
    (λ k. let same : p ≡ x = (Decides-eqb p x).0 k in rw (e, k) (or-absorbs (x == y) (has xs y) ∙ ap (λ z. (z == y) || ((x == y) || has xs y)) (sym same)))
    (λ k. rw (e, k) (ap (λ b. (x == y) || b) (with_pattern-has p xs y) ∙ or-swap (x == y) (p == y) (has xs y))))

-- each is less than those behind it
abbrev Ascends : List ℕ → Type 0
Ascends [] = Unit {0}
Ascends (x ∷ xs) = ((y : ℕ) → has xs y ≡ true → x < y) × Ascends xs

or-cases : {P : Type 0} (a b : Bool) → (a || b) ≡ true → (a ≡ true → P) → (b ≡ true → P) → P
or-cases true b h f g = f refl
or-cases false b h f g = g h

with_pattern-ascends : (p : ℕ) (xs : List ℕ) → Ascends xs → Ascends (with_pattern p xs)
with_pattern-ascends p [] h = (λ y k. absurd (true≢false (sym k)), tt)
with_pattern-ascends p (x ∷ xs) h =
    by_test (nat_lt p x)
    (λ e.
    let lt : p < x = grind (arith, nat_tests) in
    rw e (
      λ y k. or-cases (x == y) (has xs y) k (λ same. let is : x ≡ y = (Decides-eqb x y).0 same in omega arith)
          (λ behind. let more = h.0 y behind in omega arith),
      h,
    ))
    (λ e.
    by_test (p == x)
    (λ k. rw (e, k) h)
    (λ k.
    let lt : x < p = grind (arith, nat_tests) in
    rw (e, k) (
      λ y m. or-cases (p == y) (has xs y) (sym (with_pattern-has p xs y) ∙ m) (λ same. let is : p ≡ y = (Decides-eqb p y).0 same in omega arith)
          (λ behind. h.0 y behind),
      with_pattern-ascends p xs h.1,
    )))

accepted_by-ascends : (states : List State) (qs : List ℕ) → Ascends (accepted_by states qs)
accepted_by-ascends states [] = tt
accepted_by-ascends states (q ∷ qs) =
    elim (tells (accepts_in states q)) [
      | inl none ↦ rw none (accepted_by-ascends states qs)
      | inr some ↦ rw some.1 (with_pattern-ascends some.0 (accepted_by states qs) (accepted_by-ascends states qs))
    ]

-- One pattern, at one place.

abbrev only : (pattern place : ℕ) → Sieve
only pattern place = for_pattern pattern (λ i. i == place)

sifted-none : (ok : Sieve) (i : ℕ) → ((p : ℕ) → ok p i ≡ false) → (o : Option ℕ) → sifted ok i o ≡ None
sifted-none ok i none None = refl
sifted-none ok i none (Some p) = rw (none p) refl

module _ (states : List State) (p end : ℕ) where
  abbrev accepts_only : ℕ → Option ℕ
  accepts_only q = sifted (only p end) end (accepts_in states q)

  told-has : (qs : List ℕ) → is_some (first_told accepts_only qs) ≡ has (accepted_by states qs) p
  told-has [] = refl
  told-has (q ∷ qs) =
      let here : (end == end) ≡ true = (Decides-eqb end end).1 refl in
      some-or (accepts_only q) (first_told accepts_only qs)
      ∙ elim (tells (accepts_in states q)) [
        | inl none ↦ rw none (told-has qs)
        | inr some ↦
            rw some.1
            (by_test (some.0 == p)
            (λ e. rw (e, here) (sym (with_pattern-has some.0 (accepted_by states qs) p ∙ ap (λ b. b || has (accepted_by states qs) p) e)))
            (λ e. rw e (told-has qs ∙ sym (with_pattern-has some.0 (accepted_by states qs) p ∙ ap (λ b. b || has (accepted_by states qs) p) e))))
      ]

-- where nothing is accepted, nothing is cut off
uncut : (qs : List ℕ) → cut (λ q. None) qs ≡ qs
uncut [] = refl
uncut (q ∷ qs) = ap (λ xs. q ∷ xs) (uncut qs)

no-match : (i : ℕ) (qs : List ℕ) → match_here (λ q. None) i qs ≡ None
no-match i qs = ap (option_map (λ p. record { pattern = p; offset = i })) (first_told-none (λ q. None) qs (λ q. refl))

module _ (around : Surroundings) (size : ℕ) (states : List State) (names : Each (NamesBelow (length states)) states) (end start : ℕ)
    (inside : start < length states) (sight : Sight) (short : end ≤ size) (p : ℕ) where
  abbrev whole : PriorityGraph
  whole = automaton_over around states end

  abbrev g : PriorityGraph
  g = sieved (only p end) whole

  has_steps : HasSteps around states end g
  has_steps = sieved-steps (only p end) around states end whole (automaton-steps around states end)

  abbrev first : ℕ → List ℕ → Option HalfMatchValue
  first i qs = first_on g nowhere i qs

  abbrev later : (n i : ℕ) → Option HalfMatchValue
  later n i = told_later g anywhere start n i

  silent : (i : ℕ) → i < end → accepts_at g i ≡ (λ q. None)
  silent i lt k q = each k
    where
      apart : (i == end) ≡ false
      apart = grind (arith, nat_tests)

      each : sifted (only p end) i (whole.accepted (at q i)) ≡ None
      each = sifted-none (only p end) i (λ x. ap (λ b. (x == p) && b) apart ∙ and-false (x == p)) (whole.accepted (at q i))

  accepted-here : accepts_at g end ≡ accepts_only states p end
  accepted-here =
      let le : end ≤ end = omega arith in λ k q. sifted (only p end) end (accepts-here around size states names end start inside sight short end le k q)

  over-end : (xs : List ℕ) → is_some (first end (resting states xs)) ≡ has (accepted_by states (resting states xs)) p
  over-end xs =
      ap is_some (end-first around states end g has_steps xs ∙ ap (λ a. match_here a end (resting states xs)) accepted-here)
      ∙ mapped (first_told (accepts_only states p end) (resting states xs))
      ∙ told-has states p end (resting states xs)
    where
      mapped : (o : Option ℕ) → is_some {T = HalfMatchValue} (option_map (λ p. record { pattern = p; offset = end }) o) ≡ is_some o
      mapped None = refl
      mapped (Some x) = refl

  over-byte : (i : ℕ) → i < end → (xs : List ℕ) → first i (resting states xs) ≡ first (i + 1) (targets states (around.byte i) (resting states xs))
  over-byte i lt xs =
      let ts = resting states xs in
      step-first around states end g has_steps i lt xs
      ∙ (λ k. option_or (first (i + 1) (targets states (around.byte i) (cut (silent i lt k) ts))) (match_here (silent i lt k) i ts))
      ∙ (λ k. option_or (first (i + 1) (targets states (around.byte i) (uncut ts k))) (no-match i ts k))
      ∙ or-none_right (first (i + 1) (targets states (around.byte i) ts))

  abbrev stays : (model.Look → Bool) → List ℕ → List ℕ
  stays holding qs = close states holding (length states) qs []

  abbrev onto : List ℕ → ℕ → List ℕ
  onto xs i = targets states (around.byte i) (resting states xs)

  abbrev piled : List ℕ → Bool → ℕ → List ℕ
  piled xs loops i = onto xs i ++ begun start loops

  piled-below : (xs : List ℕ) (loops : Bool) (i : ℕ) → AreBelow (length states) xs → AreBelow (length states) (piled xs loops i)
  piled-below xs loops i below =
      All-append (λ q. q < length states) (onto xs i) (begun start loops)
      (targets-below states names (around.byte i) (resting states xs) (resting-below (length states) states xs below))
      (begun-below (length states) start loops inside)

  stays-below : (holding : model.Look → Bool) (qs : List ℕ) → AreBelow (length states) qs → AreBelow (length states) (stays holding qs)
  stays-below holding qs below = close-below states names holding (length states) qs [] below (All-nil (λ q. q < length states))

  -- a key without threads and without the loop tells nothing
  told-dead : (n i : ℕ) (loops : Bool) (matches : List ℕ) (before : Option ℕ) (qs : List ℕ) → qs ≡ [] → loops ≡ false
      → has (told_at All states start sight around size n i (settled All states qs loops matches before)) p
      ≡ is_some (option_or (first i qs) (where_there loops (later n (i + 1))))
  unfolding end_key
  told-dead n i loops matches before qs none over =
      let stays = stays-dead All around size states start sight n i (settled All states qs loops matches before) none over in
      let key = key_at All states start sight around n i (settled All states qs loops matches before) in
      (λ k. has (accepted_by states (threads_from states (sight.holds key.before (byte_within around.byte size (i + n))) (stays.0 k))) p)
      ∙ ap (λ qs. has (accepted_by states qs) p) (threads-nil states (sight.holds key.before (byte_within around.byte size (i + n))))
      ∙ (λ k. is_some (option_or (first i (sym none k)) (where_there (sym over k) (later n (i + 1)))))

  pub run-all : (n i : ℕ) → i + n ≡ end → (loops : Bool) (matches : List ℕ) (before : Option ℕ) (qs : List ℕ) → AreBelow (length states) qs
      → SeesFrom All around size states start sight end i (settled All states qs loops matches before)
      → has (told_at All states start sight around size n i (settled All states qs loops matches before)) p
      ≡ is_some (option_or (first i qs) (where_there loops (later n (i + 1))))
  unfolding key_at end_key step_key
  run-all zero i ends loops matches before qs below sees =
      let same : i ≡ end = omega arith in
      let le : i ≤ end = omega arith in
      let place : i + 0 ≡ i = omega arith in
      let holding = sight.holds before (byte_within around.byte size i) in
      let xs = stays holding qs in
      all-alive-or-none states qs loops matches before
      (λ alive.
      ap (λ j. has (accepted_by states (resting states (stays (sight.holds before (byte_within around.byte size j)) qs))) p) place
      ∙ sym (over-end xs)
      ∙ ap (λ j. is_some (first j (resting states xs))) (sym same)
      ∙ ap is_some
      (threads-first around states end g has_steps names holding i le
      (sees-here All around size states start sight end i le (settled All states qs loops matches before) sees alive) qs below
      ∙ sym (or-none_right (first i qs))
      ∙ ap (option_or (first i qs)) (sym (ap (where_there loops) (told_later-none g anywhere start (i + 1)) ∙ where_there-none loops))))
      (λ none over. told-dead zero i loops matches before qs none over)
  run-all (suc n) i ends loops matches before qs below sees =
      let le : i + 1 ≤ end = omega arith in
      let lt : i < end = omega arith in
      let up : i ≤ end = omega arith in
      let byte = byte-here around.byte size i (omega arith) in
      let key = settled All states qs loops matches before in
      all-alive-or-none states qs loops matches before
      (λ alive.
      let holding = sight.holds before (Some (around.byte i)) in
      let holds-byte : HoldsAt around states holding i = subst (λ o. HoldsAt around states (sight.holds before o) i) byte
      (sees-here All around size states start sight end i up key sees alive) in
      let xs = stays holding qs in
      let ys = piled xs loops i in
      let ys-below = piled-below xs loops i (stays-below holding qs below) in
      let place : i + suc n ≡ i + 1 + n = omega arith in
      let here = accepted_by states (resting states xs) in
      let next = settled All states (arrived states ys) loops here (sight.class (around.byte i)) in
      let begins : option_or (first (i + 1) (onto xs i ++ begun start (loops && true))) (where_there loops (later n (i + 1 + 1)))
      ≡ option_or (first (i + 1) (onto xs i)) (where_there loops (later (suc n) (i + 1))) =
      seeded-first g anywhere start n (i + 1) loops (onto xs i) in
      ap (λ j. has (end_key All states sight (key_at All states start sight around n (i + 1) next) (byte_within around.byte size j)).matches p) place
      ∙ run-all n (i + 1) (omega arith) loops here (sight.class (around.byte i)) (arrived states ys) (arrived-below states names ys ys-below)
      (sees-next All around size states start sight end i key sees)
      ∙ ap is_some
      ((λ k. option_or (arrived-first around states names end g has_steps (i + 1) le ys ys-below k) (where_there loops (later n (i + 1 + 1))))
      ∙ (λ k. option_or (first (i + 1) (onto xs i ++ begun start (sym (and-true loops) k))) (where_there loops (later n (i + 1 + 1))))
      ∙ begins
      ∙ ap (λ o. option_or o (where_there loops (later (suc n) (i + 1))))
      (sym (over-byte i lt xs) ∙ threads-first around states end g has_steps names holding i up holds-byte qs below)))
      (λ none over. told-dead (suc n) i loops matches before qs none over)

  later-more : (n i : ℕ) → later (suc n) i ≡ option_or (first i (start ∷ [])) (later n (i + 1))
  later-more n i = sym (seeded-first g anywhere start n i true [])

  -- from the start
  pub start-all : (a : ℕ) (before : Option ℕ) → a ≤ end → (loops : Bool)
      → SeesFrom All around size states start sight end a (start_key All states start loops before)
      → has (told_at All states start sight around size (end - a) a (start_key All states start loops before)) p ≡ is_some
      (later (if loops then suc (end - a) else 1) a)
  unfolding start_key
  start-all a before le loops sees =
      run-all (end - a) a (omega arith) loops [] before (arrived states (start ∷ []))
      (arrived-below states names (start ∷ []) (begun-below (length states) start true inside)) sees
      ∙ ap is_some
      ((λ k. option_or (arrived-first around states names end g has_steps a le (start ∷ []) (begun-below (length states) start true inside) k)
      (where_there loops (later (end - a) (a + 1))))
      ∙ by_loops loops)
    where
      by_loops : (l : Bool) → option_or (first a (start ∷ [])) (where_there l (later (end - a) (a + 1))) ≡ later (if l then suc (end - a) else 1) a
      by_loops true = sym (later-more (end - a) a)
      by_loops false = ap (option_or (first a (start ∷ []))) (sym (told_later-none g anywhere start (a + 1))) ∙ sym (later-more 0 a)

  -- Walks of the sieved automaton, and of the automaton.

  sifted-is : (i : ℕ) (o : Option ℕ) → sifted (only p end) i o ≡ Some p → o ≡ Some p
  sifted-is i None h = none-is-some h
  sifted-is i (Some q) h =
      by_test (q == p)
      (λ e. ap Some ((Decides-eqb q p).0 e))
      (λ e. none-is-some (rw e at h))

  is-sifted : (i : ℕ) (o : Option ℕ) → i ≡ end → o ≡ Some p → sifted (only p end) i o ≡ Some p
  is-sifted i o same is =
      let at_end : (i == end) ≡ true = (Decides-eqb i end).1 same in
      let mine : (p == p) ≡ true = (Decides-eqb p p).1 refl in
      rw is (rw (mine, at_end) refl)

  from-sieved : (n : ℕ) (c : Configuration) → Leads g p end n c → Leads whole p end n c
  from-sieved zero c h = (sifted-is c.place (whole.accepted c) h.0, h.1)
  from-sieved (suc n) c h = (h.0, h.1, from-sieved n h.0 h.2)

  to-sieved : (n : ℕ) (c : Configuration) → Leads whole p end n c → Leads g p end n c
  to-sieved zero c h = (is-sifted c.place (whole.accepted c) h.1 h.0, h.1)
  to-sieved (suc n) c h = (h.0, h.1, to-sieved n h.0 h.2)

  -- what is accepted in the sieved automaton is the pattern, at the end
  accepted-is_it : (i : ℕ) (o : Option ℕ) → is_some (sifted (only p end) i o) ≡ true → (sifted (only p end) i o ≡ Some p) × (i ≡ end)
  accepted-is_it i None h = absurd (true≢false (sym h))
  accepted-is_it i (Some q) h =
      by_test (q == p)
      (λ e. by_test (i == end)
      (λ k. (let same : q ≡ p = (Decides-eqb q p).0 e in rw (e, k) (ap Some same), (Decides-eqb i end).0 k))
      (λ k. absurd (true≢false (sym (rw (e, k) at h)))))
      (λ e. absurd (true≢false (sym (rw e at h))))

  tell-leads : (i : ℕ) → is_some (first i (start ∷ [])) ≡ true → (n : ℕ) × Leads whole p end n (at start i)
  tell-leads i h = of_run (first_past g nowhere c) refl (sym (mapped (first_past g nowhere c)) ∙ h)
    where
      c : Configuration
      c = at start i

      mapped : (o : Option (List Configuration)) → is_some (option_or (option_map half (option_map (trace g (at start i)) o)) None) ≡ is_some o
      mapped None = refl
      mapped (Some run) = refl

      of_run : (o : Option (List Configuration)) → first_past g nowhere (at start i) ≡ o → is_some o ≡ true → (n : ℕ) × Leads whole p end n (at start i)
      of_run None e k = absurd (true≢false (sym k))
      of_run (Some run) e k =
          let is = found-is_run g has_steps.bounded run nowhere (at start i) e in
          let last = last_of (at start i) run in
          let it = accepted-is_it last.place (whole.accepted last) (run-accepts g nowhere (at start i) run is) in
          let walk = run-Leads g p end nowhere (at start i) run is it.0 it.1 in
          (walk.0, from-sieved walk.0 (at start i) walk.1)

  leads-tell : (i n : ℕ) → Leads whole p end n (at start i) → is_some (first i (start ∷ [])) ≡ true
  leads-tell i n h =
      let r = Leads-run g p end n (at start i) (to-sieved n (at start i) h) in
      let r' = run-is_found g has_steps.bounded r.0 nowhere (at start i) r.1 in
      ap (λ o. is_some (option_or (option_map half (option_map (trace g (at start i)) o)) None)) r'.1

  -- The starts.

  later-some : (n i : ℕ) → is_some (later n i) ≡ true → (s : ℕ) × (i ≤ s) × (s < i + n) × (is_some (first s (start ∷ [])) ≡ true)
  later-some zero i h = absurd (true≢false (sym (sym (ap is_some (told_later-none g anywhere start i)) ∙ h)))
  later-some (suc n) i h =
      by_test (is_some (first i (start ∷ [])))
      (λ e. (i, omega arith, omega arith, e))
      (λ e.
      let rest : is_some (later n (i + 1)) ≡ true = rw e at (sym (ap is_some (later-more n i) ∙ some-or (first i (start ∷ [])) (later n (i + 1))) ∙ h) in
      let r = later-some n (i + 1) rest in
      let low = r.1 in
      let high = r.2 in
      (r.0, omega arith, omega arith, r.3))

  some-later : (n i s : ℕ) → i ≤ s → s < i + n → is_some (first s (start ∷ [])) ≡ true → is_some (later n i) ≡ true
  some-later zero i s low high h = absurd (omega arith)
  some-later (suc n) i s low high h =
      ap is_some (later-more n i)
      ∙ some-or (first i (start ∷ [])) (later n (i + 1))
      ∙ by_test (nat_lt i s)
      (λ e.
      let up : i < s = grind (arith, nat_tests) in
      ap (λ b. is_some (first i (start ∷ [])) || b) (some-later n (i + 1) s (omega arith) (omega arith) h) ∙ or-true (is_some (first i (start ∷ []))))
      (λ e.
      let same : s ≡ i = grind (arith, nat_tests) in
      ap (λ b. b || is_some (later n (i + 1))) (ap (λ k. is_some (first k (start ∷ []))) (sym same) ∙ h))

  -- each pattern that is told has a run that ends there
  pub told-runs : (a : ℕ) (before : Option ℕ) → a ≤ end → (loops : Bool)
      → SeesFrom All around size states start sight end a (start_key All states start loops before)
      → has (told_at All states start sight around size (end - a) a (start_key All states start loops before)) p ≡ true
      → HasRunTo around states start loops a p end
  told-runs a before le loops sees h = by_loops loops (sym (start-all a before le loops sees) ∙ h)
    where
      by_loops : (l : Bool) → is_some (later (if l then suc (end - a) else 1) a) ≡ true → HasRunTo around states start l a p end
      by_loops true k =
          let r = later-some (suc (end - a)) a k in
          let walk = tell-leads r.0 r.3 in
          let high = r.2 in
          record { from = r.0; low = r.1; high = omega arith; anchored = λ no_loop. absurd (true≢false no_loop); steps = walk.0; leads = walk.1 }
      by_loops false k =
          let r = later-some 1 a k in
          let walk = tell-leads r.0 r.3 in
          let low = r.1 in
          let high = r.2 in
          record { from = r.0; low = r.1; high = omega arith; anchored = λ no_loop. omega arith; steps = walk.0; leads = walk.1 }

  -- and each that has one is told
  pub runs-told : (a : ℕ) (before : Option ℕ) → a ≤ end → (loops : Bool)
      → SeesFrom All around size states start sight end a (start_key All states start loops before)
      → HasRunTo around states start loops a p end → has (told_at All states start sight around size (end - a) a (start_key All states start loops before))
      p ≡ true
  runs-told a before le loops sees r = start-all a before le loops sees ∙ by_loops loops r
    where
      by_loops : (l : Bool) → HasRunTo around states start l a p end → is_some (later (if l then suc (end - a) else 1) a) ≡ true
      by_loops true r =
          let low = r.low in
          let high = r.high in
          some-later (suc (end - a)) a r.from low (omega arith) (leads-tell r.from r.steps r.leads)
      by_loops false r =
          let same = r.anchored refl in
          some-later 1 a r.from r.low (omega arith) (leads-tell r.from r.steps r.leads)

-- The last place of which something is told.

-- nothing is told of the n places, and the best stays; or of the last of which something is told the first pattern is met
abbrev LastMet : (told : ℕ → List ℕ) → (i n : ℕ) → (best result : Option HalfMatchValue) → Type 0
LastMet told i n best result =
    (((j : ℕ) → j ≤ n → told j ≡ []) × (result ≡ best))
    ⊎ ((j : ℕ) × (p : ℕ) × (ps : List ℕ) × (j ≤ n) × (told j ≡ p ∷ ps) × (result ≡ Some (record { pattern = p; offset = i + j }))
    × ((more : ℕ) → j < more → more ≤ n → told more ≡ []))

-- what was met where each place may be an end is what is met
met-best : (may : ℕ → Bool) (ms : List ℕ) (i : ℕ) (r : Progress) → (met_within may ms i r).best ≡ met (if may i then ms else []) i r.best
met-best may [] i r = by_test (may i) (λ e. rw e refl) (λ e. rw e refl)
met-best may (p ∷ ps) i r = by_test (may i) (λ e. rw e refl) (λ e. rw e refl)

module _ (states : List State) (start : ℕ) (sight : Sight) (around : Surroundings) (may : ℕ → Bool) (size : ℕ) where
  -- what is told of a place at which a match may end
  abbrev tells_of : Key → (i j : ℕ) → List ℕ
  tells_of k i j = if may (i + j) then told_at All states start sight around size j i k else []

  next-tells : (k : Key) (i j : ℕ) → tells_of k i (suc j) ≡ tells_of (step_key All states start sight k (around.byte i)) (i + 1) j
  unfolding key_at
  next-tells k i j =
      let place : i + suc j ≡ i + 1 + j = omega arith in
      ap
      (λ x. if may x then (end_key All states sight (key_at All states start sight around j (i + 1) (step_key All states start sight k (around.byte i)))
      (byte_within around.byte size x)).matches else []) place

  first-tells : (k : Key) (i : ℕ) → tells_of k i 0 ≡ (if may i then (end_key All states sight k (byte_within around.byte size i)).matches else [])
  unfolding key_at
  first-tells k i =
      let place : i + 0 ≡ i = omega arith in
      ap (λ x. if may x then (end_key All states sight k (byte_within around.byte size x)).matches else []) place

  byte-tells : (k : Key) (i : ℕ) → i < size → tells_of k i 0 ≡ (if may i then (step_key All states start sight k (around.byte i)).matches else [])
  unfolding end_key step_key
  byte-tells k i lt =
      first-tells k i
      ∙ ap (λ o. if may i then accepted_by states (threads_from states (sight.holds k.before o) k.threads) else []) (byte-here around.byte size i lt)

  pub run-last : (n i : ℕ) → i + n ≤ size → (k : Key) (r : Progress)
      → LastMet (tells_of k i) i n r.best (run_within All states start sight around may size n i k r).best
  unfolding run_within
  run-last zero i le k r =
      subst (LastMet (tells_of k i) i 0 r.best) (sym (met-best may (end_key All states sight k (byte_within around.byte size i)).matches i r))
      (by_list (if may i then (end_key All states sight k (byte_within around.byte size i)).matches else []) (first-tells k i))
    where
      by_list : (ms : List ℕ) → tells_of k i 0 ≡ ms → LastMet (tells_of k i) i 0 r.best (met ms i r.best)
      by_list [] e = inl (λ j le. let zero_is : 0 ≡ j = omega arith in ap (tells_of k i) (sym zero_is) ∙ e, refl)
      by_list (p ∷ ps) e =
          let place : i ≡ i + 0 = omega arith in
          inr (0, p, ps, omega arith, e, ap (λ x. Some (record { pattern = p; offset = x })) place, λ more lt le. absurd (omega arith))
  run-last (suc n) i le k r =
      let next = step_key All states start sight k (around.byte i) in
      let result = (run_within All states start sight around may size n (i + 1) next (met_within may next.matches i r)).best in
      by_later (if may i then next.matches else []) (byte-tells k i (omega arith)) result
      (subst (λ o. LastMet (tells_of next (i + 1)) (i + 1) n o result) (met-best may next.matches i r)
      (run-last n (i + 1) (omega arith) next (met_within may next.matches i r)))
    where
      further : ℕ → List ℕ
      further j = tells_of (step_key All states start sight k (around.byte i)) (i + 1) j

      back-empty : ((j : ℕ) → j ≤ n → further j ≡ []) → (j : ℕ) → 0 < j → j ≤ suc n → tells_of k i j ≡ []
      back-empty none zero up high = absurd (omega arith)
      back-empty none (suc j) up high = next-tells k i j ∙ none j (omega arith)

      by_later : (ms : List ℕ) → tells_of k i 0 ≡ ms → (result : Option HalfMatchValue) → LastMet further (i + 1) n (met ms i r.best) result
          → LastMet (tells_of k i) i (suc n) r.best result
      by_later [] e result (inl l) = inl (each, l.1)
        where
          each : (j : ℕ) → j ≤ suc n → tells_of k i j ≡ []
          each zero high = e
          each (suc j) high = next-tells k i j ∙ l.0 j (omega arith)
      by_later (p ∷ ps) e result (inl l) =
          let place : i ≡ i + 0 = omega arith in
          inr (0, p, ps, omega arith, e, l.1 ∙ ap (λ x. Some (record { pattern = p; offset = x })) place, λ more lt high. back-empty l.0 more lt high)
      by_later ms e result (inr l) =
          let j = l.0 in
          let high = l.3 in
          let place : i + 1 + j ≡ i + suc j = omega arith in
          inr (suc j, l.1, l.2, omega arith, next-tells k i j ∙ l.4, l.5 ∙ ap (λ x. Some (record { pattern = l.1; offset = x })) place, latest l)
        where
          latest : (l : (j : ℕ) × (p : ℕ) × (ps : List ℕ) × (j ≤ n) × (further j ≡ p ∷ ps) × (result ≡ Some (record { pattern = p; offset = i + 1 + j }))
              × ((more : ℕ) → j < more → more ≤ n → further more ≡ []))
              → (more : ℕ) → suc l.0 < more → more ≤ suc n → tells_of k i more ≡ []
          latest l zero lt high = absurd (omega arith)
          latest l (suc more) lt high = next-tells k i more ∙ l.6 more (omega arith) (omega arith)

-- The last match that is met is the best of what is recorded, where a match may end at each place.
pub keys-within : (states : List State) (start : ℕ) (sight : Sight) (around : Surroundings) (size n i : ℕ) (k : Key) (r : Progress)
    → run_keys All states start sight around size n i k r.best ≡ (run_within All states start sight around anywhere size n i k r).best
unfolding run_keys run_within
keys-within states start sight around size zero i k r = sym (met-best anywhere (end_key All states sight k (byte_within around.byte size i)).matches i r)
keys-within states start sight around size (suc n) i k r =
    let next = step_key All states start sight k (around.byte i) in
    ap (run_keys All states start sight around size n (i + 1) next) (sym (met-best anywhere next.matches i r))
    ∙ keys-within states start sight around size n (i + 1) next (met_within anywhere next.matches i r)

module _ (around : Surroundings) (size : ℕ) (states : List State) (names : Each (NamesBelow (length states)) states) (start : ℕ)
    (inside : start < length states) (sight : Sight) (may : ℕ → Bool)
    (b a : ℕ) (in_order : a ≤ b) (short : b ≤ size) (before : Option ℕ) (loops : Bool)
    (sees : SeesFrom All around size states start sight b a (start_key All states start loops before)) where
  abbrev first_key : Key
  first_key = start_key All states start loops before

  abbrev said : (j : ℕ) → List ℕ
  said j = told_at All states start sight around size j a first_key

  -- what is told of a place at which a match may end
  abbrev counted : (j : ℕ) → List ℕ
  counted j = if may (a + j) then said j else []

  -- what is told of a place is what has a run that ends there
  has-run : (p j : ℕ) → a + j ≤ b → has (said j) p ≡ true → HasRunTo around states start loops a p (a + j)
  has-run p j le h =
      let n : j ≡ a + j - a = omega arith in
      told-runs around size states names (a + j) start inside sight (omega arith) p a before (omega arith) loops
      (λ i low high alive. sees i low (omega arith) alive)
      (subst (λ m. has (said m) p ≡ true) n h)

  run-has : (p e : ℕ) → a ≤ e → e ≤ b → HasRunTo around states start loops a p e → has (said (e - a)) p ≡ true
  run-has p e low high r =
      runs-told around size states names e start inside sight (omega arith) p a before low loops
      (λ i from to alive. sees i from (omega arith) alive) r

  told-ascends : (j : ℕ) → Ascends (said j)
  unfolding end_key
  told-ascends j =
      let k = key_at All states start sight around j a first_key in
      accepted_by-ascends states (threads_from states (sight.holds k.before (byte_within around.byte size (a + j))) k.threads)

  -- of an ascending list the first is least
  least-of : (p : ℕ) (ps : List ℕ) → Ascends (p ∷ ps) → (x : ℕ) → has (p ∷ ps) x ≡ true → p ≤ x
  least-of p ps up x h =
      or-cases (p == x) (has ps x) h (λ same. let is : p ≡ x = (Decides-eqb p x).0 same in omega arith) (λ behind. let more = up.0 x behind in omega arith)

  -- a place of which something counts is one at which a match may end
  counted-some : (t : Bool) (xs : List ℕ) (p : ℕ) (ps : List ℕ) → (if t then xs else []) ≡ p ∷ ps → (t ≡ true) × (xs ≡ p ∷ ps)
  counted-some true xs p ps e = (refl, e)
  counted-some false xs p ps e = cc

  counted-none : (t : Bool) (xs : List ℕ) → t ≡ true → (if t then xs else []) ≡ [] → xs ≡ []
  counted-none true xs on e = e
  counted-none false xs on e = absurd (true≢false (sym on))

  abbrev answer : Option HalfMatchValue
  answer = (run_within All states start sight around may size (b - a) a first_key fresh).best

  last : LastMet counted a (b - a) None answer
  last = run-last states start sight around may size (b - a) a (omega arith) first_key fresh

  -- nothing is told of a later place at which a match may end
  none-at : (e : ℕ) → a ≤ e → e ≤ b → may e ≡ true → counted (e - a) ≡ [] → said (e - a) ≡ []
  none-at e low high on none =
      let place : e ≡ a + (e - a) = omega arith in
      counted-none (may (a + (e - a))) (said (e - a)) (ap may (sym place) ∙ on) none

  pub last-none : answer ≡ None → (p e : ℕ) → a ≤ e → e ≤ b → may e ≡ true → HasRunTo around states start loops a p e → ⊥
  last-none none p e low high on r =
      elim last [
        | inl l ↦ true≢false (sym (run-has p e low high r) ∙ ap (λ ps. has ps p) (none-at e low high on (l.0 (e - a) (omega arith))))
        | inr l ↦ none-is-some (sym none ∙ l.5)
      ]

  pub last-some : (h : HalfMatchValue) → answer ≡ Some h → IsLastWhere may around states start loops b a h
  last-some h is =
      elim last [
        | inl l ↦ none-is-some (sym l.1 ∙ is)
        | inr l ↦ of_last l.0 l.1 l.2 l.3 (counted-some (may (a + l.0)) (said l.0) l.1 l.2 l.4) (some-is (sym l.5 ∙ is)) l.6
      ]
    where
      of_last : (j p : ℕ) (ps : List ℕ) → j ≤ b - a → (may (a + j) ≡ true) × (said j ≡ p ∷ ps) → (record { pattern = p; offset = a + j }) ≡ h
          → ((more : ℕ) → j < more → more ≤ b - a → counted more ≡ []) → IsLastWhere may around states start loops b a h
      of_last j p ps le told same later_none =
          let mine : has (p ∷ ps) p ≡ true = let e : (p == p) ≡ true = (Decides-eqb p p).1 refl in rw e refl in
          subst (IsLastWhere may around states start loops b a) same
          (record {
            from = omega arith;
            to = omega arith;
            ends = told.0;
            runs = has-run p j (omega arith) (ap (λ xs. has xs p) told.1 ∙ mine);
            latest = λ pattern e low high on r.
                by_test (nat_lt (a + j) e)
                (λ t.
                let up : a + j < e = grind (arith, nat_tests) in
                absurd (true≢false (sym (run-has pattern e low high r)
                ∙ ap (λ xs. has xs pattern) (none-at e low high on (later_none (e - a) (omega arith) (omega arith))))))
                (λ t. grind (arith, nat_tests));
            least = λ pattern r.
                let n : a + j - a ≡ j = omega arith in
                let found : has (said j) pattern ≡ true = subst (λ m. has (said m) pattern ≡ true) n (run-has pattern (a + j) (omega arith) (omega arith) r) in
                least-of p ps (subst Ascends told.1 (told-ascends j)) pattern (sym (ap (λ xs. has xs pattern) told.1) ∙ found);
          })

-- Where a match may end at each place.
module _ (around : Surroundings) (size : ℕ) (states : List State) (names : Each (NamesBelow (length states)) states) (start : ℕ)
    (inside : start < length states) (sight : Sight)
    (b a : ℕ) (in_order : a ≤ b) (short : b ≤ size) (before : Option ℕ) (sees : Sees sight around size states before b a) (loops : Bool) where
  seen : SeesFrom All around size states start sight b a (start_key All states start loops before)
  seen = seen-start All around size states start sight b a before loops sees

  within-answer : run_keys All states start sight around size (b - a) a (start_key All states start loops before) None
      ≡ (run_within All states start sight around anywhere size (b - a) a (start_key All states start loops before) fresh).best
  within-answer = keys-within states start sight around size (b - a) a (start_key All states start loops before) fresh

  pub all-last-none : run_keys All states start sight around size (b - a) a (start_key All states start loops before) None ≡ None
      → (p e : ℕ) → a ≤ e → e ≤ b → HasRunTo around states start loops a p e → ⊥
  all-last-none none p e low high r =
      last-none around size states names start inside sight anywhere b a in_order short before loops seen (sym within-answer ∙ none) p e low high refl r

  pub all-last-some : (h : HalfMatchValue) → run_keys All states start sight around size (b - a) a (start_key All states start loops before) None ≡ Some h
      → IsLast around states start loops b a h
  all-last-some h is =
      let l = last-some around size states names start inside sight anywhere b a in_order short before loops seen h (sym within-answer ∙ is) in
      record {
        from = l.from;
        to = l.to;
        runs = l.runs;
        latest = λ pattern e low high r. l.latest pattern e low high refl r;
        least = l.least;
      }
