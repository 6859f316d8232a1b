-- The prefixes of an expression without look-around tell its first run as long as the first that lie there are exact.
use Rattle.std.proofs.Common.{◌≡◌, ℕ, zero, suc, ◌+◌, ◌-◌, ◌≤◌, ◌<◌, min, ◌⊎◌, Bool, true, false, ◌&&◌, List, [], ◌∷◌, length, map, refl, sym, ap, ◌∙◌, subst, inl, inr, arith, true≢false, length-append}
use Rattle.std.specs.Prelude.{nat_lt, nat_le, nat_eq, Option, Some, None, option_map, if◌then◌else◌, Contains}
use Rattle.std.specs.List.{list_any, list_all}
use Rattle.std.specs.Option.{option_or}
use Rattle.std.proofs.lemmas.Bool.{and_parts, or_right}
use Rattle.std.proofs.lemmas.Bool.Decides.{nat_tests}
use Rattle.rx_model.specs.Text.{Class, stands_at, scalar_ranges, byte_ranges}
use Rattle.rx_model.specs.Length.{minimum_len, is_positive}
use Rattle.rx_model.specs.Meaning.{Pieces, Means}
use Rattle.rx_model.specs.Runs.{Configuration, Passed, nowhere, and_at, first_some, first_past, IsClosed, Trace, trace, found, last_of, IsRun}
use Rattle.rx_model.specs.Expression.{Expression, Expressions, AreOrdered, AllOrdered, empty, literal, class, look, repetition, capture, concat, alternation, nil, cons}
use Rattle.rx_model.specs.Graph.{State, text, set, slot, choice, Builder, build_nothing, build_state, build_then, prefer, loop, loop_once, build_optional, copies, options, build_repetition, build_group, Parts, no_parts, build_beside, build_choice, build, build_in_turn, build_each, at, state_step}
use Rattle.rx_model.proofs.lemmas.runs.RunLemmas.{by_test}
use Rattle.rx_model.proofs.lemmas.runs.FirstLemmas.{found-is_run, none-is-some}
use Rattle.rx_model.proofs.lemmas.runs.MemberLemmas.{choice-member, none-among}
use Rattle.rx_model.proofs.lemmas.runs.FoundLemmas.{found-step}
use Rattle.rx_model.proofs.lemmas.runs.ReachLemmas.{found-outside}
use Rattle.rx_model.proofs.lemmas.meaning.CutLemmas.{run-Leads}
use Rattle.rx_model.proofs.lemmas.meaning.CoverLemmas.{run-pattern}
use Rattle.rx_model.proofs.lemmas.graphs.PlacedLemmas.{Placed, Placed-back, Placed-first, Placed-rest}
use Rattle.rx_model.proofs.lemmas.meaning.SpellLemmas.{Goes, Spells, Spells-build, Spells-loop_once}
use Rattle.rx_model.proofs.lemmas.graphs.GraphLemmas.{runs_of-bounded}
use Rattle.rx_model.proofs.lemmas.meaning.EmptyLemmas.{means-rises}
use Rattle.rx_literal.specs.Literals.{Literal, exact, inexact, Seq, infinite, finite, is_exact, loose, cut, one_empty, loosened, union, cross_on, cross_times}
use Rattle.rx_literal.specs.declared.side.Side.TheVariants.{Front as front}
use Rattle.rx_literal.specs.Extract.{class_literals, each_exact, copies as copied, repeated, with_empty, at_most_one, literals, in_turn, of_one}
use Rattle.rx_literal.specs.Spans.{Begins, OneOf, OneIn}
use Rattle.rx_literal.specs.First.{lies, all_exact, listed, IsLookFree, AreLookFree}
use Rattle.rx_model.specs.Onward.{after, either_first}
use Rattle.rx_literal.proofs.lemmas.prefixes.PieceLemmas.{pieces-rise}
use Rattle.rx_literal.proofs.lemmas.prefixes.BeginLemmas.{means-begins, stands-none}
use Rattle.rx_model.proofs.lemmas.runs.OrderLemmas.{g, ends, end_of, end-written, Inside, Stands, Closes, ends-past, ends-state, stands-first, stands-second, beside-first, beside-others, choice-parts, choice-is, starts-past, prefer-ends, prefer-past, Leads-slot, Leads-text, Leads-set, Closes-state, Closes-then, slot-target}
use Rattle.rx_model.proofs.lemmas.graphs.LocalLemmas.{Target, Local, LocalOne, Local-Closes, Local-copies, Local-options, local, local_in_turn, local_each}
use Rattle.rx_literal.proofs.lemmas.first_runs.ExactLemmas.{one, first_end, no_exact}
use Rattle.rx_literal.proofs.lemmas.first_runs.FirstLemmas.{class-first}
use Rattle.rx_literal.proofs.lemmas.first_runs.AgreeLemmas.{Agrees, AgreesIn, EndsBy, agrees-union, some_lies, loosened-agrees, gives-none, lies-longer, cross_on-agrees}
use Rattle.rx_model.proofs.lemmas.graphs.StateLemmas.{IsStateOf, successors-at, accepted-at, successors-past, accepted-past, prefer-cases, prefer-accepts}
use Rattle.rx_model.proofs.lemmas.runs.OptionLemmas.{or-none_right}

module _ (terminator : ℕ) (hay : List ℕ) (end : ℕ) (whole : List State) where
  -- where first runs from a state end
  abbrev pub from : ℕ → ℕ → Option ℕ
  from q j = ends terminator hay end whole (at q j)

  from-past : (q : ℕ) → EndsBy hay end (from q)
  from-past q k past = ends-past terminator hay end whole (at q k) past

  pub record Tells (b : Builder) (ss : Seq) : Type 1 where
    pub tells : (A : ℕ → Type 0) (next base : ℕ) → Stands terminator hay end whole A next base (b next base).states
        → (i : ℕ) → AgreesIn hay end (from next) i (from (b next base).start i) ss

  empty-agrees : (f : ℕ → Option ℕ) (i : ℕ) → AgreesIn hay end f i (f i) one_empty
  empty-agrees f i =
      let place : i + 0 ≡ i = omega arith in
      let same : one hay [] f i ≡ f i = rw (stands-none hay i) (ap f place) in
      ((λ x e. sym same ∙ e), (λ e. sym same ∙ e))

  Tells-nothing : Tells build_nothing one_empty
  Tells-nothing = record { tells = λ A next base s i. empty-agrees (from next) i }

  Tells-text : (bytes : List ℕ) → Tells (build_state (text bytes)) (finite (cut front 100 (exact bytes) ∷ []))
  unfolding cut
  Tells-text bytes = record {
    tells = λ A next base s i.
        (let leads = Leads-text terminator hay end whole bytes in
        whole-agrees (from next) (from-past next) i (from base i) (leads.leads A next base s i ∙ split (stands_at hay i bytes) (from next) i));
  }
    where
      split : (b : Bool) (f : ℕ → Option ℕ) (i : ℕ) → after f (if b then Some (length bytes) else None) i ≡ (if b then f (i + length bytes) else None)
      split true f i = refl
      split false f i = refl

      whole-agrees : (f : ℕ → Option ℕ) → EndsBy hay end f → (i : ℕ) (v : Option ℕ) → v ≡ one hay bytes f i
          → Agrees hay end f i v (cut front 100 (exact bytes) ∷ [])
      whole-agrees f past i v e =
          by_test (nat_lt 100 (length bytes))
          (λ more. rw more (λ not. e ∙ gives-none hay end f past i bytes (lies-longer hay end f f past past i v bytes more not)))
          (λ few. rw few ((λ x given. e ∙ given), (λ given. e ∙ given)))

  exact-agrees : (f : ℕ → Option ℕ) (i : ℕ) (v : Option ℕ) (ls : List Literal) → list_all is_exact ls ≡ true → v ≡ first_end hay f i ls
      → Agrees hay end f i v ls
  exact-agrees f i v [] all e = e
  exact-agrees f i v (exact s ∷ ls) all e = (
    (λ x given. e ∙ ap (λ o. option_or o (first_end hay f i ls)) given),
    (λ given. exact-agrees f i v ls all (e ∙ ap (λ o. option_or o (first_end hay f i ls)) given)),
  )
  exact-agrees f i v (inexact s ∷ ls) all e = no_exact all

  class-exact : (c : Class) → (class_literals c ≡ infinite) ⊎ (all_exact (class_literals c) ≡ true)
  unfolding class_literals each_exact
  class-exact (scalar_ranges rs) = each _
    where
      all-map : (bs : List (List ℕ)) → list_all is_exact (map exact bs) ≡ true
      all-map [] = refl
      all-map (b ∷ bs) = all-map bs

      each : (bs : List (List ℕ)) → (each_exact bs ≡ infinite) ⊎ (all_exact (each_exact bs) ≡ true)
      each bs = by_test (nat_lt 10 (length bs)) (λ e. rw e (inl refl)) (λ e. rw e (inr (all-map bs)))
  class-exact (byte_ranges rs) = each _
    where
      all-map : (bs : List (List ℕ)) → list_all is_exact (map exact bs) ≡ true
      all-map [] = refl
      all-map (b ∷ bs) = all-map bs

      each : (bs : List (List ℕ)) → (each_exact bs ≡ infinite) ⊎ (all_exact (each_exact bs) ≡ true)
      each bs = by_test (nat_lt 10 (length bs)) (λ e. rw e (inl refl)) (λ e. rw e (inr (all-map bs)))

  Tells-set : (c : Class) → IsLookFree (class c) → Tells (build_state (set c)) (class_literals c)
  Tells-set c plain = record {
    tells = λ A next base s i.
        (let leads = Leads-set terminator hay end whole c in
        elim (class-exact c) [
          | inl e ↦ subst (λ ss. AgreesIn hay end (from next) i (from base i) ss) (sym e) tt
          | inr all ↦ listed-agrees (from next) i (from base i) (class_literals c) all (leads.leads A next base s i ∙ class-first hay c plain all (from next) i)
        ]);
  }
    where
      listed-agrees : (f : ℕ → Option ℕ) (i : ℕ) (v : Option ℕ) (ss : Seq) → all_exact ss ≡ true → v ≡ first_end hay f i (listed ss) → AgreesIn hay end f i v ss
      listed-agrees f i v infinite all e = tt
      listed-agrees f i v (finite ls) all e = exact-agrees f i v ls all e

  pub Tells-group : (number : Option ℕ) (body : Builder) (ss : Seq) → Local terminator hay end whole body → Tells body ss → Tells (build_group number body) ss
  Tells-group None body ss l t = t
  Tells-group (Some number) body ss l t = record {
    tells = λ A next base s i.
        (let last = build_state (slot (suc number)) in
        let inner = build_then body last in
        let last_closes = Closes-state terminator hay end whole (slot (suc number)) (slot-target terminator hay end whole (suc number)) in
        let leads = Leads-slot terminator hay end whole number in
        let leads' = Leads-slot terminator hay end whole (suc number) in
        let standing = stands-second terminator hay end whole A (build_state (slot number)) inner next base s in
        let two = last next base in
        let x = t.tells (Inside A base (length two.states)) two.start (base + length two.states)
        (stands-first terminator hay end whole A body last last_closes next base standing) i in
        let after_body : from two.start ≡ from next =
        λ k j. leads'.leads A next base (stands-second terminator hay end whole A body last next base standing) j k in
        let before : from (build_group (Some number) body next base).start i ≡ from (inner next base).start i
        = leads.leads (Inside A base (length (inner next base).states)) (inner next base).start (base + length (inner next base).states)
        (stands-first terminator hay end whole A (build_state (slot number)) inner (inner_closes last_closes) next base s) i in
        subst (λ v. AgreesIn hay end (from next) i v ss) (sym before) (subst (λ f. AgreesIn hay end f i (from (inner next base).start i) ss) after_body x));
  }
    where
      inner_closes : Closes terminator hay end whole (build_state (slot (suc number)))
          → Closes terminator hay end whole (build_then body (build_state (slot (suc number))))
      inner_closes c = Closes-then terminator hay end whole body (build_state (slot (suc number))) (Local-Closes terminator hay end whole body l) c

  pub record TellsOne (parts : (next base : ℕ) → Parts) (ss : Seq) : Type 1 where
    pub tells : (A : ℕ → Type 0) (next base : ℕ) → Stands terminator hay end whole A next base (parts next base).states
        → (i : ℕ) → AgreesIn hay end (from next) i (first_some (ends terminator hay end whole) (map (λ q. at q i) (parts next base).starts)) ss

  TellsOne-none : TellsOne no_parts (finite [])
  TellsOne-none = record { tells = λ A next base s i. refl }

  TellsOne-beside : (first : Builder) (others : (next base : ℕ) → Parts) (ss ts : Seq) → Tells first ss → TellsOne others ts
      → TellsOne (build_beside first others) (union ss ts)
  TellsOne-beside first others ss ts a b = record {
    tells = λ A next base s i.
        (let f = first next base in
        let o = others next (base + length f.states) in
        agrees-union hay end (from next) i (from f.start i) (first_some (ends terminator hay end whole) (map (λ q. at q i) o.starts)) ss ts
        (a.tells A next base (beside-first terminator hay end whole A first others next base s) i)
        (b.tells A next (base + length f.states) (beside-others terminator hay end whole A first others next base s) i));
  }

  Tells-choice : (parts : (next base : ℕ) → Parts) (ss : Seq) → LocalOne terminator hay end whole parts → TellsOne parts ss → Tells (build_choice parts) ss
  Tells-choice parts ss l t = record {
    tells = λ A next base s i.
        (let p = parts next base in
        let n = length p.states in
        let long = length-append p.states (choice p.starts ∷ []) in
        let inner = choice-parts terminator hay end whole A parts next base s in
        let to : (q : ℕ) → Target next base n q → Inside A base n q = λ q u. elim u [ inl e ↦ inl (subst A e s.next_in) | inr r ↦ inr r ] in
        let closed : IsClosed (g terminator hay end whole) (Inside A base n)
        = λ c d h m. elim h [ inl a ↦ inl (s.closed c d a m) | inr r ↦ to d.state (l.goes next base inner.placed c d r.0 r.1 m) ] in
        let is = choice-is terminator hay end whole A parts next base s in
        let same : from (base + n) i ≡ first_some (ends terminator hay end whole) (map (λ q. at q i) p.starts) =
        by_test (nat_le i end)
        (λ e.
        let le : i ≤ end = grind (arith, nat_tests) in
        ends-state terminator hay end whole (Inside A base n) closed (base + n) i (choice p.starts) is refl
        (λ h. elim h [ inl c' ↦ s.apart (base + n) c' (omega arith) (omega arith) | inr r ↦ (let up = r.1 in omega arith) ])
        (λ d m. let y = choice-member p.starts i d m in
        subst (λ q. Inside A base n q) (ap (λ (z : Configuration). z.state) y.2) (to y.0 (l.starts next base y.0 y.1))) le)
        (λ e.
        let past : end < i = grind (arith, nat_tests) in
        ends-past terminator hay end whole (at (base + n) i) past ∙ sym (starts-past terminator hay end whole p.starts i past)) in
        subst (λ v. AgreesIn hay end (from next) i v ss) (sym same) (t.tells A next base inner i));
  }

  -- a walk that leads on from a state stands within the end
  within-end : (pattern final m q j : ℕ) → Goes terminator hay end whole pattern final m q j → j ≤ end
  within-end pattern final zero q j h =
      by_test (nat_le j end)
      (λ e. grind (arith, nat_tests))
      (λ e. let past : end < j = grind (arith, nat_tests) in none-is-some (sym (accepted-past terminator hay end whole (at q j) past) ∙ h.0))
  within-end pattern final (suc m) q j h =
      by_test (nat_le j end)
      (λ e. grind (arith, nat_tests))
      (λ e.
      let past : end < j = grind (arith, nat_tests) in
      absurd (none-among h.0 (subst (λ ds. Contains ds h.0) (successors-past terminator hay end whole (at q j) past) h.1)))

  -- a part that means nothing within the end leads nowhere, whatever was passed
  module _ (b : Builder) (M : ℕ → ℕ → Type 0) (spells : (pattern final : ℕ) → Spells terminator hay end whole pattern final M b) (next base : ℕ)
      (placed : Placed whole base (b next base).states) (i : ℕ) (nothing : (j : ℕ) → j ≤ end → M i j → ⊥) (p : Passed) where
    no-run : (run : List Configuration) → IsRun (g terminator hay end whole) p (at (b next base).start i) run → ⊥
    no-run run r =
        let c = at (b next base).start i in
        let accepts = run-pattern (g terminator hay end whole) p c run r in
        let last = last_of c run in
        let goes = run-Leads (g terminator hay end whole) accepts.0 last.place p c run r accepts.1 refl in
        let x = (spells accepts.0 last.place).walked next base goes.0 i placed goes.1 in
        nothing x.0 (within-end accepts.0 last.place x.1 next x.0 x.4) x.2

    dead : option_map end_of (found (g terminator hay end whole) p (at (b next base).start i)) ≡ None
    dead = by_run (first_past (g terminator hay end whole) p (at (b next base).start i)) refl
      where
        by_run : (o : Option (List Configuration)) → first_past (g terminator hay end whole) p (at (b next base).start i) ≡ o
            → option_map end_of (found (g terminator hay end whole) p (at (b next base).start i)) ≡ None
        by_run None e = ap (λ o. option_map end_of (option_map (trace (g terminator hay end whole) (at (b next base).start i)) o)) e
        by_run (Some run) e = absurd
            (no-run run (found-is_run (g terminator hay end whole) (runs_of-bounded terminator hay end whole) run p (at (b next base).start i) e))

  -- what is left of a choice between a body and the next state
  module _ (A : ℕ → Type 0) (closed : IsClosed (g terminator hay end whole) A) (next : ℕ) (next_in : A next) (greedy : Bool) (q body : ℕ) (out : A q → ⊥)
      (is : IsStateOf whole q (prefer greedy body next)) (i : ℕ) where
    from-choice : (from q i ≡ either_first greedy (option_map end_of (found (g terminator hay end whole) (and_at (at q i) nowhere) (at body i))) (from next i))
        ⊎ (from q i ≡ either_first greedy None (from next i))
    from-choice =
        let G = g terminator hay end whole in
        let passed = and_at (at q i) nowhere in
        by_test (nat_le i end)
        (λ e.
        let le : i ≤ end = grind (arith, nat_tests) in
        let exit : option_map end_of (found G passed (at next i)) ≡ from next i =
        ap (option_map end_of) (found-outside G A closed (at q i) out nowhere (at next i) next_in) in
        inl (
        ap (option_map end_of) (found-step G nowhere (runs_of-bounded terminator hay end whole) (at q i) refl
        (accepted-at terminator hay end whole q i (prefer greedy body next) is le ∙ prefer-accepts greedy body next))
        ∙ end-written (G.written (at q i)) i (first_some (found G passed) (G.successors (at q i)))
        ∙ ap (λ ds. option_map end_of (first_some (found G passed) ds)) (successors-at terminator hay end whole q i (prefer greedy body next) is le)
        ∙ two greedy (found G passed (at body i)) (found G passed (at next i)) (found G passed) refl refl
        ∙ ap (either_first greedy (option_map end_of (found G passed (at body i)))) exit
        ))
        (λ e.
        let past : end < i = grind (arith, nat_tests) in
        inr (ends-past terminator hay end whole (at q i) past ∙ sym (none-left greedy (from next i) (from-past next i past))))
      where
        two : (greedy : Bool) (x y : Option Trace) (go : Configuration → Option Trace) → go (at body i) ≡ x → go (at next i) ≡ y
            → option_map end_of (first_some go (state_step terminator hay end (prefer greedy body next) i)) ≡ either_first greedy (option_map end_of x)
            (option_map end_of y)
        two true x y go a b = (λ k. option_map end_of (option_or (a k) (option_or (b k) None))) ∙ both x y
          where
            both : (x y : Option Trace) → option_map end_of (option_or x (option_or y None)) ≡ option_or (option_map end_of x) (option_map end_of y)
            both None None = refl
            both None (Some t) = refl
            both (Some t) y = refl
        two false x y go a b = (λ k. option_map end_of (option_or (b k) (option_or (a k) None))) ∙ both y x
          where
            both : (x y : Option Trace) → option_map end_of (option_or x (option_or y None)) ≡ option_or (option_map end_of x) (option_map end_of y)
            both None None = refl
            both None (Some t) = refl
            both (Some t) y = refl

        none-left : (greedy : Bool) (y : Option ℕ) → y ≡ None → either_first greedy None y ≡ None
        none-left true y e = e
        none-left false y e = ap (λ o. option_or o None) e

    -- the body's literals, loosened, and the empty one
    choice-agrees : (ts : Seq)
        → (some_lies hay end i ts ≡ false → option_map end_of (found (g terminator hay end whole) (and_at (at q i) nowhere) (at body i)) ≡ None)
        → AgreesIn hay end (from next) i (from q i) (with_empty greedy (loosened ts))
    choice-agrees ts dead' = elim from-choice [
      | inl e ↦ subst (λ v. AgreesIn hay end (from next) i v (with_empty greedy (loosened ts))) (sym e) (either_agrees greedy _ dead')
      | inr e ↦ subst (λ v. AgreesIn hay end (from next) i v (with_empty greedy (loosened ts))) (sym e) (either_agrees greedy None (λ n. refl))
    ]
      where
        either_agrees : (greedy : Bool) (x : Option ℕ) → (some_lies hay end i ts ≡ false → x ≡ None)
            → AgreesIn hay end (from next) i (either_first greedy x (from next i)) (with_empty greedy (loosened ts))
        either_agrees true x h = agrees-union hay end (from next) i x (from next i) (loosened ts) one_empty (loosened-agrees hay end (from next) i x ts h)
            (empty-agrees (from next) i)
        either_agrees false x h = agrees-union hay end (from next) i (from next i) x one_empty (loosened ts) (empty-agrees (from next) i)
            (loosened-agrees hay end (from next) i x ts h)

-- by the value of a test, one universe up
by_test_large : {P : Type 1} (b : Bool) → (b ≡ true → P) → (b ≡ false → P) → P
by_test_large true so otherwise = so refl
by_test_large false so otherwise = otherwise refl

-- a literal that begins what ends within the end lies there
one-lies : (hay : List ℕ) (end i j : ℕ) → j ≤ end → (ls : List Literal) → OneOf (Begins hay i j) ls → list_any (lies hay end i) ls ≡ true
one-lies hay end i j le [] h = absurd h
one-lies hay end i j le (exact s ∷ ls) h = elim h [
  | inl b ↦ let ends' = b.1 in let fits : nat_le (i + length s) end ≡ true = grind (arith, nat_tests) in rw (b.0, fits) refl
  | inr later ↦ or_right (lies hay end i (exact s)) (list_any (lies hay end i) ls) (one-lies hay end i j le ls later)
]
one-lies hay end i j le (inexact s ∷ ls) h = elim h [
  | inl b ↦ let ends' = b.1 in let fits : nat_le (i + length s) end ≡ true = grind (arith, nat_tests) in rw (b.0, fits) refl
  | inr later ↦ or_right (lies hay end i (inexact s)) (list_any (lies hay end i) ls) (one-lies hay end i j le ls later)
]

-- where none of an expression's prefixes lies, it means nothing within the end
means-nothing : (terminator : ℕ) (hay : List ℕ) (end i : ℕ) (h : Expression) → some_lies hay end i (literals front h) ≡ false → (j : ℕ) → j ≤ end
    → Means terminator hay h i j → ⊥
means-nothing terminator hay end i h none j le m = in_seq (literals front h) none (means-begins hay terminator h i j m)
  where
    in_seq : (ss : Seq) → some_lies hay end i ss ≡ false → OneIn (Begins hay i j) ss → ⊥
    in_seq infinite none b = true≢false none
    in_seq (finite ls) none b = true≢false (sym (one-lies hay end i j le ls b) ∙ none)

loosened-lies : (hay : List ℕ) (end i : ℕ) (ss : Seq) → some_lies hay end i ss ≡ false → some_lies hay end i (loosened ss) ≡ false
loosened-lies hay end i infinite h = h
loosened-lies hay end i (finite ls) h = each ls h
  where
    each : (ls : List Literal) → list_any (lies hay end i) ls ≡ false → list_any (lies hay end i) (map loose ls) ≡ false
    each [] h = h
    each (l ∷ ls) h = by_test (lies hay end i l) (λ e. absurd (true≢false (rw e at h))) (λ e. rw e (each ls (rw e at h)))

module _ (terminator : ℕ) (hay : List ℕ) (end : ℕ) (whole : List State) where
  -- what is known of the body of a repetition
  module _ (body : Builder) (M : ℕ → ℕ → Type 0) (ts : Seq) (greedy : Bool) (l : Local terminator hay end whole body)
      (t : Tells terminator hay end whole body ts)
      (spells : (pattern final : ℕ) → Spells terminator hay end whole pattern final M body) (rises : (i j : ℕ) → M i j → i ≤ j)
      (nothing : (i : ℕ) → some_lies hay end i ts ≡ false → (j : ℕ) → j ≤ end → M i j → ⊥) where
    tells-loop : Tells terminator hay end whole (loop greedy body) (with_empty greedy (loosened ts))
    tells-loop = record {
      tells = λ A next base s i.
          (let b = body base (suc base) in
          choice-agrees terminator hay end whole A s.closed next s.next_in greedy base b.start (λ a. s.apart base a (omega arith) (omega arith))
          (Placed-first whole base (prefer greedy b.start next) b.states s.placed) i ts
          (λ none. dead terminator hay end whole body M spells base (suc base) (Placed-rest whole base (prefer greedy b.start next) b.states s.placed) i
          (nothing i none) (and_at (at base i) nowhere)));
    }

    tells-many : Tells terminator hay end whole (build_optional greedy (loop_once greedy body)) (with_empty greedy (loosened ts))
    tells-many = record {
      tells = λ A next base s i.
          (let b = loop_once greedy body next (suc base) in
          choice-agrees terminator hay end whole A s.closed next s.next_in greedy base b.start (λ a. s.apart base a (omega arith) (omega arith))
          (Placed-first whole base (prefer greedy b.start next) b.states s.placed) i ts
          (λ none. dead terminator hay end whole (loop_once greedy body) (λ x y. (k : ℕ) × Pieces M (suc k) x y)
          (λ pattern final. Spells-loop_once terminator hay end whole pattern final M greedy body (spells pattern final))
          next (suc base) (Placed-rest whole base (prefer greedy b.start next) b.states s.placed) i
          (λ j le m. let up = pieces-rise M rises m.0 m.1.0 j m.1.2 in nothing i none m.1.0 (omega arith) m.1.1) (and_at (at base i) nowhere)));
    }

    tells-options : (x : ℕ) → Tells terminator hay end whole (options greedy x body) (with_empty greedy (if at_most_one (Some x) then ts else loosened ts))
    tells-options zero = record {
      tells = λ A next base s i. none_agrees greedy (from terminator hay end whole next) i;
    }
      where
        none_agrees : (greedy : Bool) (f : ℕ → Option ℕ) (i : ℕ) → AgreesIn hay end f i (f i) (with_empty greedy (loosened ts))
        none_agrees true f i = agrees-union hay end f i None (f i) (loosened ts) one_empty (loosened-agrees hay end f i None ts (λ n. refl))
            (empty-agrees terminator hay end whole f i)
        none_agrees false f i =
            subst (λ v. AgreesIn hay end f i v (with_empty false (loosened ts))) (or-none_right (f i))
            (agrees-union hay end f i (f i) None one_empty (loosened ts) (empty-agrees terminator hay end whole f i)
            (loosened-agrees hay end f i None ts (λ n. refl)))
    tells-options (suc zero) = record {
      tells = λ A next base s i.
          (let q = base + 0 in
          let b = body next (suc q) in
          let back = Placed-back whole base [] (prefer greedy b.start next ∷ b.states) s.placed in
          let is = Placed-first whole q (prefer greedy b.start next) b.states back in
          let inner : Stands terminator hay end whole A next (suc q) b.states = record {
            placed = Placed-rest whole q (prefer greedy b.start next) b.states back;
            closed = s.closed;
            next_in = s.next_in;
            apart = λ x a low high. s.apart x a (omega arith) (omega arith);
          } in
          let closes = Local-Closes terminator hay end whole body l in
          let c = closes.closes A next (suc q) inner in
          let F = from terminator hay end whole in
          let same : F q i ≡ either_first greedy (F b.start i) (F next i) =
          by_test (nat_le i end)
          (λ e.
          let le : i ≤ end = grind (arith, nat_tests) in
          ends-state terminator hay end whole (Inside A (suc q) (length b.states)) c.0 q i (prefer greedy b.start next) is (prefer-accepts greedy b.start next)
          (λ h. elim h [ inl c' ↦ s.apart q c' (omega arith) (omega arith) | inr r ↦ (let low = r.0 in omega arith) ])
          (λ d m. elim (prefer-cases terminator hay end greedy b.start next i d m) [
            | inl e' ↦ subst (λ x. Inside A (suc q) (length b.states) x) (ap (λ (z : Configuration). z.state) e') c.1
            | inr e' ↦ inl (subst A (ap (λ (z : Configuration). z.state) e') s.next_in)
          ]) le
          ∙ prefer-ends terminator hay end whole greedy b.start next i)
          (λ e.
          let past : end < i = grind (arith, nat_tests) in
          ends-past terminator hay end whole (at q i) past
          ∙ sym (prefer-past terminator hay end whole greedy (F b.start i) (F next i) (ends-past terminator hay end whole (at b.start i) past)
          (ends-past terminator hay end whole (at next i) past))) in
          subst (λ v. AgreesIn hay end (F next) i v (with_empty greedy ts)) (sym same)
          (option_agrees greedy (F next) i (F b.start i) (t.tells A next (suc q) inner i)));
    }
      where
        option_agrees : (greedy : Bool) (f : ℕ → Option ℕ) (i : ℕ) (v : Option ℕ) → AgreesIn hay end f i v ts
            → AgreesIn hay end f i (either_first greedy v (f i)) (with_empty greedy ts)
        option_agrees true f i v a = agrees-union hay end f i v (f i) ts one_empty a (empty-agrees terminator hay end whole f i)
        option_agrees false f i v a = agrees-union hay end f i (f i) v one_empty ts (empty-agrees terminator hay end whole f i) a
    tells-options (suc (suc n)) =
        let more : nat_eq (suc (suc n)) 1 ≡ false = grind (arith, nat_tests) in
        rw more (record {
          tells = λ A next base s i.
              (let inner = options greedy (suc n) body next base in
              let q = base + length inner.states in
              let b = body inner.start (suc q) in
              let long = length-append inner.states (prefer greedy b.start next ∷ b.states) in
              let back = Placed-back whole base inner.states (prefer greedy b.start next ∷ b.states) s.placed in
              choice-agrees terminator hay end whole A s.closed next s.next_in greedy q b.start (λ a. s.apart q a (omega arith) (omega arith))
              (Placed-first whole q (prefer greedy b.start next) b.states back) i ts
              (λ none. dead terminator hay end whole body M spells inner.start (suc q) (Placed-rest whole q (prefer greedy b.start next) b.states back) i
              (nothing i none) (and_at (at q i) nowhere)));
        })

    -- copies, and a last part that is nothing
    tells-times : (last : Builder) → Local terminator hay end whole last → ((next base : ℕ) → (last next base).start ≡ next)
        → (c : ℕ) (A : ℕ → Type 0) (next base : ℕ)
        → Stands terminator hay end whole A next base (copies c body last next base).states → (i : ℕ) (v : Option ℕ) (ss : Seq)
        → AgreesIn hay end (from terminator hay end whole (copies c body last next base).start) i v ss
        → AgreesIn hay end (from terminator hay end whole next) i v (cross_times front c ss ts)
    tells-times last k id zero A next base s i v ss a = subst (λ q. AgreesIn hay end (from terminator hay end whole q) i v ss) (id next base) a
    tells-times last k id (suc c) A next base s i v ss a =
        let two = copies c body last next base in
        let one = body two.start (base + length two.states) in
        let closes = Local-Closes terminator hay end whole (copies c body last) (Local-copies terminator hay end whole body last l k c) in
        tells-times last k id c A next base (stands-second terminator hay end whole A body (copies c body last) next base s) i v (cross_on front ss ts)
        (cross_on-agrees hay end (from terminator hay end whole one.start) (from terminator hay end whole two.start)
        (from-past terminator hay end whole one.start) (from-past terminator hay end whole two.start) i v ss ts a
        (λ j. t.tells (Inside A base (length two.states)) two.start (base + length two.states)
        (stands-first terminator hay end whole A body (copies c body last) closes next base s) j))

    tells-exactly : (n m : ℕ) → m ≡ suc n → Tells terminator hay end whole (copies (suc n) body (options greedy (m - suc n) body))
        (cross_times front (suc n) one_empty ts)
    tells-exactly n m e = record {
      tells = λ A next base s i.
          (let last = options greedy (m - suc n) body in
          let none : 0 ≡ m - suc n = omega arith in
          let id : (x y : ℕ) → (last x y).start ≡ x = λ x y. subst (λ z. (options greedy z body x y).start ≡ x) none refl in
          let start = (copies (suc n) body last next base).start in
          tells-times last (Local-options terminator hay end whole greedy body l (m - suc n)) id (suc n) A next base s i (from terminator hay end whole start i)
          one_empty
          (empty-agrees terminator hay end whole (from terminator hay end whole start) i));
    }

  tells-unbounded : (consumes greedy : Bool) (body : Builder) (M : ℕ → ℕ → Type 0) (ts : Seq) → Local terminator hay end whole body
      → Tells terminator hay end whole body ts
      → ((pattern final : ℕ) → Spells terminator hay end whole pattern final M body) → ((i j : ℕ) → M i j → i ≤ j)
      → ((i : ℕ) → some_lies hay end i ts ≡ false → (j : ℕ) → j ≤ end → M i j → ⊥)
      → Tells terminator hay end whole (build_repetition consumes zero None greedy body) (with_empty greedy (loosened ts))
  tells-unbounded true greedy body M ts l t spells rises nothing = tells-loop body M ts greedy l t spells rises nothing
  tells-unbounded false greedy body M ts l t spells rises nothing = tells-many body M ts greedy l t spells rises nothing

  module _ (slots : ℕ → Option ℕ) where
    -- where all is inexact
    tells-loose : (h : Expression) → AreOrdered h → (ss : Seq) → literals front h ≡ loosened ss → Tells terminator hay end whole (build slots h) (loosened ss)
    tells-loose h ordered ss e = record {
      tells = λ A next base s i.
          loosened-agrees hay end (from terminator hay end whole next) i (from terminator hay end whole (build slots h next base).start i) ss
          (λ none. dead terminator hay end whole (build slots h) (Means terminator hay h)
          (λ pattern final. Spells-build terminator hay end whole pattern final slots h ordered) next base s.placed i
          (λ j le m. means-nothing terminator hay end i h (ap (some_lies hay end i) e ∙ loosened-lies hay end i ss none) j le m) nowhere);
    }

    mutual
      unfolding build literals repeated copied AreOrdered IsLookFree

      pub tells-all : (h : Expression) → AreOrdered h → IsLookFree h → Tells terminator hay end whole (build slots h) (literals front h)
      tells-all empty o free = Tells-nothing terminator hay end whole
      tells-all (literal bytes) o free = Tells-text terminator hay end whole bytes
      tells-all (class (scalar_ranges rs)) o free = Tells-set terminator hay end whole (scalar_ranges rs) free
      tells-all (class (byte_ranges rs)) o free = Tells-set terminator hay end whole (byte_ranges rs) free
      tells-all (look kind) o free = absurd free
      tells-all (repetition zero None greedy sub) o free =
          tells-unbounded (is_positive (minimum_len sub)) greedy (build slots sub) (Means terminator hay sub) (literals front sub)
          (local terminator hay end whole slots sub) (tells-all sub o.1 free)
          (λ pattern final. Spells-build terminator hay end whole pattern final slots sub o.1) (λ i j m. means-rises terminator hay sub i j m)
          (λ i none j le m. means-nothing terminator hay end i sub none j le m)
      tells-all (repetition zero (Some m) greedy sub) o free =
          let is : m ≡ m - zero = omega arith in
          subst (λ x. Tells terminator hay end whole (options greedy x (build slots sub))
          (with_empty greedy (if at_most_one (Some m) then literals front sub else loosened (literals front sub)))) is
          (tells-options (build slots sub) (Means terminator hay sub) (literals front sub) greedy (local terminator hay end whole slots sub)
          (tells-all sub o.1 free)
          (λ pattern final. Spells-build terminator hay end whole pattern final slots sub o.1) (λ i j m'. means-rises terminator hay sub i j m')
          (λ i none j le m'. means-nothing terminator hay end i sub none j le m') m)
      tells-all (repetition (suc n) None greedy sub) o free = tells-loose (repetition (suc n) None greedy sub) o (literals front sub) refl
      tells-all (repetition (suc n) (Some m) greedy sub) o free =
          by_test_large (nat_eq (suc n) m && nat_le (suc n) 10)
          (λ e.
          let both = and_parts (nat_eq (suc n) m) (nat_le (suc n) 10) e in
          let same : m ≡ suc n = grind (arith, nat_tests) in
          let all : suc n ≡ min (suc n) 10 = grind (arith, nat_tests) in
          rw e
          (subst (λ c. Tells terminator hay end whole (copies (suc n) (build slots sub) (options greedy (m - suc n) (build slots sub)))
          (cross_times front c one_empty (literals front sub))) all
          (tells-exactly (build slots sub) (Means terminator hay sub) (literals front sub) greedy (local terminator hay end whole slots sub)
          (tells-all sub o.1 free)
          (λ pattern final. Spells-build terminator hay end whole pattern final slots sub o.1) (λ i j m'. means-rises terminator hay sub i j m')
          (λ i none j le m'. means-nothing terminator hay end i sub none j le m') n m same)))
          (λ e. rw e (tells-loose (repetition (suc n) (Some m) greedy sub) o (cross_times front (min (suc n) 10) one_empty (literals front sub)) (rw e refl)))
      tells-all (capture group name sub) o free = Tells-group terminator hay end whole (slots group) (build slots sub) (literals front sub)
          (local terminator hay end whole slots sub) (tells-all sub o free)
      tells-all (concat subs) o free = record {
        tells = λ A next base s i.
            (let start = (build_in_turn slots subs next base).start in
            turn-tells subs o free A next base s i (from terminator hay end whole start i) one_empty
            (empty-agrees terminator hay end whole (from terminator hay end whole start) i));
      }
      tells-all (alternation subs) o free = Tells-choice terminator hay end whole (build_each slots subs) (of_one front subs)
          (local_each terminator hay end whole slots subs) (each-tells subs o free)

      turn-tells : (hs : Expressions) → AllOrdered hs → AreLookFree hs → (A : ℕ → Type 0) (next base : ℕ)
          → Stands terminator hay end whole A next base (build_in_turn slots hs next base).states
          → (i : ℕ) (v : Option ℕ) (ss : Seq) → AgreesIn hay end (from terminator hay end whole (build_in_turn slots hs next base).start) i v ss
          → AgreesIn hay end (from terminator hay end whole next) i v (in_turn front ss hs)
      turn-tells nil o free A next base s i v ss a = a
      turn-tells (cons sub subs) o free A next base s i v ss a =
          let two = build_in_turn slots subs next base in
          let one = build slots sub two.start (base + length two.states) in
          let closes = Local-Closes terminator hay end whole (build_in_turn slots subs) (local_in_turn terminator hay end whole slots subs) in
          let t = tells-all sub o.0 free.0 in
          turn-tells subs o.1 free.1 A next base (stands-second terminator hay end whole A (build slots sub) (build_in_turn slots subs) next base s) i v
          (cross_on front ss (literals front sub))
          (cross_on-agrees hay end (from terminator hay end whole one.start) (from terminator hay end whole two.start)
          (from-past terminator hay end whole one.start) (from-past terminator hay end whole two.start) i v ss (literals front sub) a
          (λ j. t.tells (Inside A base (length two.states)) two.start (base + length two.states)
          (stands-first terminator hay end whole A (build slots sub) (build_in_turn slots subs) closes next base s) j))

      each-tells : (hs : Expressions) → AllOrdered hs → AreLookFree hs → TellsOne terminator hay end whole (build_each slots hs) (of_one front hs)
      each-tells nil o free = TellsOne-none terminator hay end whole
      each-tells (cons sub subs) o free =
          TellsOne-beside terminator hay end whole (build slots sub) (build_each slots subs) (literals front sub) (of_one front subs) (tells-all sub o.0 free.0)
          (each-tells subs o.1 free.1)
