-- The states of a part in an order in which each step that keeps its place leads down, where each loop takes a byte.
use Rattle.std.proofs.Common.{◌≡◌, ℕ, zero, suc, ◌+◌, ◌-◌, ◌*◌, ◌≤◌, ◌<◌, ◌⊎◌, Bool, true, false, List, [], ◌∷◌, length, refl, sym, ap, ◌∙◌, subst, inl, inr, arith, length-append, true≢false}
use Rattle.std.specs.Prelude.{nat_lt, nat_eq, Option, Some, None, Contains, if◌then◌else◌}
use Rattle.std.proofs.lemmas.Bool.Decides.{nat_tests}
use Rattle.std.proofs.lemmas.Option.{none-some, same_Some}
use Rattle.rx_model.specs.Text.{stands_at, member_len}
use Rattle.rx_model.specs.Length.{minimum_len, is_positive, sum_of_minimum_len, least_minimum_len}
use Rattle.rx_model.specs.Runs.{Configuration}
use Rattle.rx_model.specs.Expression.{Expression, Expressions, empty, literal, class, look, repetition, capture, concat, alternation, nil, cons}
use Rattle.rx_model.specs.Graph.{State, text, set, assertion, slot, choice, Builder, build_nothing, build_state, build_then, prefer, loop, loop_once, copies, options, build_repetition, build_group, Parts, no_parts, build_beside, build_choice, build, build_in_turn, build_each, go_by, state_step}
use Rattle.rx_model.specs.Onward.{IsPlain, ArePlain}
use Rattle.rx_model.proofs.lemmas.runs.RunLemmas.{by_test}
use Rattle.rx_model.proofs.lemmas.runs.MemberLemmas.{choice-member, split-among}
use Rattle.rx_model.proofs.lemmas.graphs.PlacedLemmas.{Placed, Placed-front, Placed-back, Placed-first, Placed-rest}
use Rattle.rx_model.proofs.lemmas.runs.OrderLemmas.{g, slot-target}
use Rattle.rx_model.proofs.lemmas.graphs.StateLemmas.{IsStateOf, successors-in, go_by-member, go_by-target, prefer-cases}
use Rattle.rx_model.proofs.lemmas.graphs.LocalLemmas.{Target, Local, LocalOne, Local-state, Local-then, Local-copies, Local-options, Local-repetition, look-target, local, local_in_turn, local_each}
use Rattle.rx_model.proofs.lemmas.meaning.LengthLemmas.{class-known, plus-some, lesser-some, times-some}

-- one of the n states from base on
abbrev pub Among : (base n : ℕ) → ℕ → Type 0
Among base n s = (base ≤ s) × (s < base + n)

-- the one below the limit, the other from it on
abbrev parted : (limit : ℕ) → (ℕ → ℕ) → (ℕ → ℕ) → ℕ → ℕ
parted limit f h s = if nat_lt s limit then f s else h s

parted-below : (limit : ℕ) (f h : ℕ → ℕ) (s : ℕ) → s < limit → parted limit f h s ≡ f s
parted-below limit f h s lt = let e : nat_lt s limit ≡ true = grind (arith, nat_tests) in rw e refl

parted-above : (limit : ℕ) (f h : ℕ → ℕ) (s : ℕ) → limit ≤ s → parted limit f h s ≡ h s
parted-above limit f h s le = let e : nat_lt s limit ≡ false = grind (arith, nat_tests) in rw e refl

-- a choice between those that are tried before it and those that lead to it
abbrev around : (base : ℕ) (early : ℕ → Bool) (rank : ℕ → ℕ) (height s : ℕ) → ℕ
around base early rank height s = if nat_eq s base then height else (if early s then rank s else rank s + suc height)

around-choice : (base : ℕ) (early : ℕ → Bool) (rank : ℕ → ℕ) (height s : ℕ) → base ≡ s → around base early rank height s ≡ height
around-choice base early rank height s is = let e : nat_eq s base ≡ true = grind (arith, nat_tests) in rw e refl

around-early : (base : ℕ) (early : ℕ → Bool) (rank : ℕ → ℕ) (height s : ℕ) → suc base ≤ s → early s ≡ true → around base early rank height s ≡ rank s
around-early base early rank height s le is = let e : nat_eq s base ≡ false = grind (arith, nat_tests) in rw e (rw is refl)

around-late : (base : ℕ) (early : ℕ → Bool) (rank : ℕ → ℕ) (height s : ℕ) → suc base ≤ s → early s ≡ false
    → around base early rank height s ≡ rank s + suc height
around-late base early rank height s le is = let e : nat_eq s base ≡ false = grind (arith, nat_tests) in rw e (rw is refl)

around-body : (base : ℕ) (early : ℕ → Bool) (rank : ℕ → ℕ) (height s : ℕ) → suc base ≤ s
    → (around base early rank height s ≤ rank s + suc height)
around-body base early rank height s le =
    by_test (early s)
    (λ e. let is = around-early base early rank height s le e in omega arith)
    (λ e. let is = around-late base early rank height s le e in omega arith)

module _ (terminator : ℕ) (hay : List ℕ) (end : ℕ) (whole : List State) where
  -- the step keeps its place
  abbrev pub Keeps : Configuration → Configuration → Type 0
  Keeps c d = Contains ((g terminator hay end whole).successors c) d × (d.place ≡ c.place)

  -- A number for each state of a part, which falls with each step that keeps its place and doesn't leave the part.
  pub record RankedAt (Leaves : ℕ → Type 0) (base n : ℕ) : Type 0 where
    pub rank : ℕ → ℕ
    pub height : ℕ
    pub low : (s : ℕ) → Among base n s → rank s < height
    pub falls : (c d : Configuration) → Among base n c.state → Keeps c d → Leaves d.state ⊎ (Among base n d.state × (rank d.state < rank c.state))

  pub record Ranked (b : Builder) : Type 0 where
    pub ranks : (next base : ℕ) → Placed whole base (b next base).states → RankedAt (λ s. next ≡ s) base (length (b next base).states)

  pub record RankedOne (parts : (next base : ℕ) → Parts) : Type 0 where
    pub ranks : (next base : ℕ) → Placed whole base (parts next base).states → RankedAt (λ s. next ≡ s) base (length (parts next base).states)

  -- The states that come before a byte is taken: those that start the part, and no step leads from them out of it.
  pub record TakesAt (base n : ℕ) (IsStart : ℕ → Type 0) : Type 0 where
    pub early : ℕ → Bool
    pub starts : (s : ℕ) → IsStart s → Among base n s × (early s ≡ true)
    pub stays : (c d : Configuration) → Among base n c.state → early c.state ≡ true → Keeps c d → Among base n d.state × (early d.state ≡ true)

  pub record Takes (b : Builder) : Type 0 where
    pub takes : (next base : ℕ) → Placed whole base (b next base).states → TakesAt base (length (b next base).states) (λ s. (b next base).start ≡ s)

  pub record TakesOne (parts : (next base : ℕ) → Parts) : Type 0 where
    pub takes : (next base : ℕ) → Placed whole base (parts next base).states
        → TakesAt base (length (parts next base).states) (λ s. Contains (parts next base).starts s)

  ranked-none : (Leaves : ℕ → Type 0) (base : ℕ) → RankedAt Leaves base 0
  ranked-none Leaves base = record {
    rank = λ s. 0;
    height = 0;
    low = λ s at_s. absurd (let low = at_s.0 in let high = at_s.1 in omega arith);
    falls = λ c d at_c k. absurd (let low = at_c.0 in let high = at_c.1 in omega arith);
  }

  -- one state, which doesn't lead to itself
  ranked-one : (Leaves : ℕ → Type 0) (base : ℕ) (s : State) → Placed whole base (s ∷ [])
      → ((i : ℕ) (d : Configuration) → Contains (state_step terminator hay end s i) d → Leaves d.state) → RankedAt Leaves base 1
  ranked-one Leaves base state placed target = record {
    rank = λ s. 0;
    height = 1;
    low = λ s at_s. omega arith;
    falls = λ c d at_c k.
        (let is = Placed-first whole base state [] placed in
        let low = at_c.0 in
        let high = at_c.1 in
        let same : base ≡ c.state = omega arith in
        inl (target c.place d (successors-in terminator hay end whole c d state (subst (λ q. IsStateOf whole q state) same is) k.0)));
  }

  Ranked-nothing : Ranked build_nothing
  Ranked-nothing = record { ranks = λ next base placed. ranked-none (λ s. next ≡ s) base }

  Ranked-state : (state : ℕ → State) → ((next i : ℕ) (d : Configuration) → Contains (state_step terminator hay end (state next) i) d → next ≡ d.state)
      → Ranked (build_state state)
  Ranked-state state target = record { ranks = λ next base placed. ranked-one (λ s. next ≡ s) base (state next) placed (target next) }

  -- states that leave only to those before them, and to the next state
  ranked-over : (next base n k : ℕ) (Leaves : ℕ → Type 0) → RankedAt (λ s. next ≡ s) base n → ((s : ℕ) → Leaves s → Target next base n s)
      → RankedAt Leaves (base + n) k → RankedAt (λ s. next ≡ s) base (n + k)
  ranked-over next base n k Leaves b t a = record {
    rank = parted (base + n) b.rank (λ s. a.rank s + b.height);
    height = a.height + b.height;
    low = λ s at_s. (let high = at_s.1 in by_test (nat_lt s (base + n))
        (λ e. let lt : s < base + n = grind (arith, nat_tests) in
        let is = parted-below (base + n) b.rank (λ x. a.rank x + b.height) s lt in
        let low = b.low s (at_s.0, lt) in omega arith)
        (λ e. let le : base + n ≤ s = grind (arith, nat_tests) in
        let is = parted-above (base + n) b.rank (λ x. a.rank x + b.height) s le in
        let low = a.low s (le, omega arith) in omega arith));
    falls = λ c d at_c kept. (let high = at_c.1 in by_test (nat_lt c.state (base + n))
        (λ e. let lt : c.state < base + n = grind (arith, nat_tests) in
        let is = parted-below (base + n) b.rank (λ x. a.rank x + b.height) c.state lt in
        elim (b.falls c d (at_c.0, lt) kept) [
          | inl e' ↦ inl e'
          | inr r ↦
              let low' = r.0.0 in
              let high' = r.0.1 in
              let is' = parted-below (base + n) b.rank (λ x. a.rank x + b.height) d.state high' in
              let less = r.1 in
              inr ((low', omega arith), omega arith)
        ])
        (λ e. let le : base + n ≤ c.state = grind (arith, nat_tests) in
        let is = parted-above (base + n) b.rank (λ x. a.rank x + b.height) c.state le in
        elim (a.falls c d (le, omega arith) kept) [
          | inl out ↦ elim (t d.state out) [
            | inl e' ↦ inl e'
            | inr r ↦
                let low' = r.0 in
                let high' = r.1 in
                let is' = parted-below (base + n) b.rank (λ x. a.rank x + b.height) d.state high' in
                let less = b.low d.state r in
                inr ((low', omega arith), omega arith)
          ]
          | inr r ↦
              let low' = r.0.0 in
              let high' = r.0.1 in
              let is' = parted-above (base + n) b.rank (λ x. a.rank x + b.height) d.state low' in
              let less = r.1 in
              inr ((omega arith, omega arith), omega arith)
        ]));
  }

  Ranked-then : (first second : Builder) → Ranked first → Ranked second → Local terminator hay end whole second → Ranked (build_then first second)
  Ranked-then first second a b l = record {
    ranks = λ next base placed.
        (let two = second next base in
        let one = first two.start (base + length two.states) in
        subst (λ n. RankedAt (λ s. next ≡ s) base n) (sym (length-append two.states one.states))
        (ranked-over next base (length two.states) (length one.states) (λ s. two.start ≡ s)
        (b.ranks next base (Placed-front whole base two.states one.states placed))
        (λ s e. subst (Target next base (length two.states)) e (l.starts next base))
        (a.ranks two.start (base + length two.states) (Placed-back whole base two.states one.states placed))));
  }

  -- a choice before a body, which comes back to it only after a byte
  ranked-loop : (greedy : Bool) (next base start : ℕ) (states : List State) → Placed whole base (prefer greedy start next ∷ states)
      → RankedAt (λ s. base ≡ s) (suc base) (length states) → TakesAt (suc base) (length states) (λ s. start ≡ s)
      → RankedAt (λ s. next ≡ s) base (suc (length states))
  ranked-loop greedy next base start states placed a t = record {
    rank = around base t.early a.rank a.height;
    height = a.height + suc a.height;
    low = λ s at_s. by_test (nat_eq s base)
        (λ e. let same : base ≡ s = grind (arith, nat_tests) in let is = around-choice base t.early a.rank a.height s same in omega arith)
        (λ e. let low' = at_s.0 in
        let high = at_s.1 in
        let le : suc base ≤ s = grind (arith, nat_tests) in
        let up = around-body base t.early a.rank a.height s le in
        let low = a.low s (le, omega arith) in omega arith);
    falls = λ c d at_c k. by_test (nat_eq c.state base)
        (λ e.
        let same : base ≡ c.state = grind (arith, nat_tests) in
        let is = Placed-first whole base (prefer greedy start next) states placed in
        let m = successors-in terminator hay end whole c d (prefer greedy start next) (subst (λ q. IsStateOf whole q (prefer greedy start next)) same is) k.0 in
        let here = around-choice base t.early a.rank a.height c.state same in
        elim (prefer-cases terminator hay end greedy start next c.place d m) [
          | inl e' ↦
              let s = t.starts d.state (ap (λ (z : Configuration). z.state) e') in
              let low = s.0.0 in
              let high = s.0.1 in
              let there = around-early base t.early a.rank a.height d.state low s.1 in
              let less = a.low d.state s.0 in
              inr ((omega arith, omega arith), omega arith)
          | inr e' ↦ inl (ap (λ (z : Configuration). z.state) e')
        ])
        (λ e.
        let low' = at_c.0 in
        let high = at_c.1 in
        let le : suc base ≤ c.state = grind (arith, nat_tests) in
        let at_b : Among (suc base) (length states) c.state = (le, omega arith) in
        by_test (t.early c.state)
        (λ early.
        let here = around-early base t.early a.rank a.height c.state le early in
        let s = t.stays c d at_b early k in
        let there = around-early base t.early a.rank a.height d.state s.0.0 s.1 in
        elim (a.falls c d at_b k) [
          | inl e' ↦ absurd (let low = s.0.0 in omega arith)
          | inr r ↦ let low = r.0.0 in let high' = r.0.1 in let less = r.1 in inr ((omega arith, omega arith), omega arith)
        ])
        (λ late.
        let here = around-late base t.early a.rank a.height c.state le late in
        elim (a.falls c d at_b k) [
          | inl e' ↦ let there = around-choice base t.early a.rank a.height d.state e' in inr ((omega arith, omega arith), omega arith)
          | inr r ↦
              let low = r.0.0 in
              let high' = r.0.1 in
              let less = r.1 in
              let up = around-body base t.early a.rank a.height d.state low in
              inr ((omega arith, omega arith), omega arith)
        ]));
  }

  Ranked-loop : (greedy : Bool) (body : Builder) → Ranked body → Takes body → Ranked (loop greedy body)
  Ranked-loop greedy body a t = record {
    ranks = λ next base placed.
        (let b = body base (suc base) in
        let inner = Placed-rest whole base (prefer greedy b.start next) b.states placed in
        ranked-loop greedy next base b.start b.states placed (a.ranks base (suc base) inner) (t.takes base (suc base) inner));
  }

  Ranked-loop_once : (greedy : Bool) (body : Builder) → Ranked body → Takes body → Ranked (loop_once greedy body)
  Ranked-loop_once greedy body a t = record {
    ranks = λ next base placed.
        (let b = body base (suc base) in
        let inner = Placed-rest whole base (prefer greedy b.start next) b.states placed in
        ranked-loop greedy next base b.start b.states placed (a.ranks base (suc base) inner) (t.takes base (suc base) inner));
  }

  Ranked-copies : (body last : Builder) → Ranked body → Local terminator hay end whole body → Ranked last → Local terminator hay end whole last → (n : ℕ)
      → Ranked (copies n body last)
  Ranked-copies body last a la b lb zero = b
  Ranked-copies body last a la b lb (suc n) =
      Ranked-then body (copies n body last) a (Ranked-copies body last a la b lb n) (Local-copies terminator hay end whole body last la lb n)

  -- a choice between a body and the next state, where the body goes on elsewhere
  ranked-option : (greedy : Bool) (next back base start : ℕ) (states : List State) → Placed whole base (prefer greedy start next ∷ states)
      → RankedAt (λ s. back ≡ s) (suc base) (length states) → Target back (suc base) (length states) start
      → RankedAt (λ s. (next ≡ s) ⊎ (back ≡ s)) base (suc (length states))
  ranked-option greedy next back base start states placed a t = record {
    rank = parted (suc base) (λ s. a.height) a.rank;
    height = suc a.height;
    low = λ s at_s. (let high = at_s.1 in by_test (nat_lt s (suc base))
        (λ e. let is = parted-below (suc base) (λ x. a.height) a.rank s (grind (arith, nat_tests)) in omega arith)
        (λ e. let le : suc base ≤ s = grind (arith, nat_tests) in
        let is = parted-above (suc base) (λ x. a.height) a.rank s le in
        let low = a.low s (le, omega arith) in omega arith));
    falls = λ c d at_c k. (let low = at_c.0 in let high = at_c.1 in by_test (nat_lt c.state (suc base))
        (λ e.
        let lt : c.state < suc base = grind (arith, nat_tests) in
        let same : base ≡ c.state = omega arith in
        let is = Placed-first whole base (prefer greedy start next) states placed in
        let m = successors-in terminator hay end whole c d (prefer greedy start next) (subst (λ q. IsStateOf whole q (prefer greedy start next)) same is) k.0 in
        let here = parted-below (suc base) (λ x. a.height) a.rank c.state lt in
        elim (prefer-cases terminator hay end greedy start next c.place d m) [
          | inl e' ↦ elim (subst (Target back (suc base) (length states)) (ap (λ (z : Configuration). z.state) e') t) [
            | inl e2 ↦ inl (inr e2)
            | inr r ↦
                let low' = r.0 in
                let high' = r.1 in
                let there = parted-above (suc base) (λ x. a.height) a.rank d.state low' in
                let less = a.low d.state r in
                inr ((omega arith, omega arith), omega arith)
          ]
          | inr e' ↦ inl (inl (ap (λ (z : Configuration). z.state) e'))
        ])
        (λ e.
        let le : suc base ≤ c.state = grind (arith, nat_tests) in
        let here = parted-above (suc base) (λ x. a.height) a.rank c.state le in
        elim (a.falls c d (le, omega arith) k) [
          | inl e' ↦ inl (inr e')
          | inr r ↦
              let low' = r.0.0 in
              let high' = r.0.1 in
              let there = parted-above (suc base) (λ x. a.height) a.rank d.state low' in
              let less = r.1 in
              inr ((omega arith, omega arith), omega arith)
        ]));
  }

  Ranked-options : (greedy : Bool) (body : Builder) → Ranked body → Local terminator hay end whole body → (n : ℕ) → Ranked (options greedy n body)
  Ranked-options greedy body a la zero = Ranked-nothing
  Ranked-options greedy body a la (suc n) = record {
    ranks = λ next base placed.
        (let later = Ranked-options greedy body a la n in
        let l = Local-options terminator hay end whole greedy body la n in
        let inner = options greedy n body next base in
        let c = base + length inner.states in
        let b = body inner.start (suc c) in
        let back = Placed-back whole base inner.states (prefer greedy b.start next ∷ b.states) placed in
        subst (λ k. RankedAt (λ s. next ≡ s) base k) (sym (length-append inner.states (prefer greedy b.start next ∷ b.states)))
        (ranked-over next base (length inner.states) (suc (length b.states)) (λ s. (next ≡ s) ⊎ (inner.start ≡ s))
        (later.ranks next base (Placed-front whole base inner.states (prefer greedy b.start next ∷ b.states) placed))
        (λ s out. elim out [ inl e ↦ inl e | inr e ↦ subst (Target next base (length inner.states)) e (l.starts next base) ])
        (ranked-option greedy next inner.start c b.start b.states back
        (a.ranks inner.start (suc c) (Placed-rest whole c (prefer greedy b.start next) b.states back)) (la.starts inner.start (suc c)))));
  }

  pub Ranked-group : (number : Option ℕ) (body : Builder) → Ranked body → Local terminator hay end whole body → Ranked (build_group number body)
  Ranked-group None body a l = a
  Ranked-group (Some number) body a l =
      Ranked-then (build_state (slot number)) (build_then body (build_state (slot (suc number))))
      (Ranked-state (slot number) (slot-target terminator hay end whole number))
      (Ranked-then body (build_state (slot (suc number))) a (Ranked-state (slot (suc number)) (slot-target terminator hay end whole (suc number)))
      (Local-state terminator hay end whole (slot (suc number)) (slot-target terminator hay end whole (suc number))))
      (Local-then terminator hay end whole body (build_state (slot (suc number))) l
      (Local-state terminator hay end whole (slot (suc number)) (slot-target terminator hay end whole (suc number))))

  RankedOne-none : RankedOne no_parts
  RankedOne-none = record { ranks = λ next base placed. ranked-none (λ s. next ≡ s) base }

  RankedOne-beside : (first : Builder) (others : (next base : ℕ) → Parts) → Ranked first → RankedOne others → RankedOne (build_beside first others)
  RankedOne-beside first others a b = record {
    ranks = λ next base placed.
        (let f = first next base in
        let o = others next (base + length f.states) in
        subst (λ k. RankedAt (λ s. next ≡ s) base k) (sym (length-append f.states o.states))
        (ranked-over next base (length f.states) (length o.states) (λ s. next ≡ s) (a.ranks next base (Placed-front whole base f.states o.states placed))
        (λ s e. inl e) (b.ranks next (base + length f.states) (Placed-back whole base f.states o.states placed))));
  }

  Ranked-choice : (parts : (next base : ℕ) → Parts) → RankedOne parts → LocalOne terminator hay end whole parts → Ranked (build_choice parts)
  Ranked-choice parts a l = record {
    ranks = λ next base placed.
        (let p = parts next base in
        subst (λ k. RankedAt (λ s. next ≡ s) base k) (sym (length-append p.states (choice p.starts ∷ [])))
        (ranked-over next base (length p.states) 1 (λ s. Contains p.starts s)
        (a.ranks next base (Placed-front whole base p.states (choice p.starts ∷ []) placed)) (λ s m. l.starts next base s m)
        (ranked-one (λ s. Contains p.starts s) (base + length p.states) (choice p.starts)
        (Placed-back whole base p.states (choice p.starts ∷ []) placed)
        (λ i d m. let y = choice-member p.starts i d m in subst (Contains p.starts) (ap (λ (z : Configuration). z.state) y.2) y.1))));
  }

  -- one state that takes a byte with each step
  Takes-state : (state : ℕ → State) → ((next i : ℕ) (d : Configuration) → Contains (state_step terminator hay end (state next) i) d → i < d.place)
      → Takes (build_state state)
  Takes-state state up = record {
    takes = λ next base placed. record {
      early = λ s. true;
      starts = λ s e. ((omega arith, omega arith), refl);
      stays = λ c d at_c early k.
          (let is = Placed-first whole base (state next) [] placed in
          let low = at_c.0 in
          let high = at_c.1 in
          let same : base ≡ c.state = omega arith in
          let more = up next c.place d (successors-in terminator hay end whole c d (state next) (subst (λ q. IsStateOf whole q (state next)) same is) k.0) in
          let e = k.1 in
          absurd (omega arith));
    };
  }

  -- the test of the one below the limit, that of the other from it on
  abbrev cut : (limit : ℕ) → (ℕ → Bool) → (ℕ → Bool) → ℕ → Bool
  cut limit f h s = if nat_lt s limit then f s else h s

  cut-below : (limit : ℕ) (f h : ℕ → Bool) (s : ℕ) → s < limit → cut limit f h s ≡ f s
  cut-below limit f h s lt = let e : nat_lt s limit ≡ true = grind (arith, nat_tests) in rw e refl

  cut-above : (limit : ℕ) (f h : ℕ → Bool) (s : ℕ) → limit ≤ s → cut limit f h s ≡ h s
  cut-above limit f h s le = let e : nat_lt s limit ≡ false = grind (arith, nat_tests) in rw e refl

  -- the states from `base + n` on take a byte, whatever stands before them
  takes-above : (base n k : ℕ) (IsStart : ℕ → Type 0) → TakesAt (base + n) k IsStart → TakesAt base (n + k) IsStart
  takes-above base n k IsStart a = record {
    early = cut (base + n) (λ s. false) a.early;
    starts = λ s is.
        (let x = a.starts s is in
        let low = x.0.0 in
        let high = x.0.1 in
        ((omega arith, omega arith), cut-above (base + n) (λ x. false) a.early s low ∙ x.1));
    stays = λ c d at_c early k'. by_test (nat_lt c.state (base + n))
        (λ e.
        let lt : c.state < base + n = grind (arith, nat_tests) in
        absurd (true≢false (sym early ∙ cut-below (base + n) (λ x. false) a.early c.state lt)))
        (λ e.
        let le : base + n ≤ c.state = grind (arith, nat_tests) in
        let high = at_c.1 in
        let x = a.stays c d (le, omega arith) (sym (cut-above (base + n) (λ x. false) a.early c.state le) ∙ early) k' in
        let low' = x.0.0 in
        let high' = x.0.1 in
        ((omega arith, omega arith), cut-above (base + n) (λ x. false) a.early d.state low' ∙ x.1));
  }

  Takes-first : (first second : Builder) → Takes first → Takes (build_then first second)
  Takes-first first second a = record {
    takes = λ next base placed.
        (let two = second next base in
        let one = first two.start (base + length two.states) in
        subst (λ n. TakesAt base n (λ s. one.start ≡ s)) (sym (length-append two.states one.states))
        (takes-above base (length two.states) (length one.states) (λ s. one.start ≡ s)
        (a.takes two.start (base + length two.states) (Placed-back whole base two.states one.states placed))));
  }

  -- states that take a byte, and others before them that lead only to them and to each other
  takes-over : (base n k : ℕ) (IsStart Top : ℕ → Type 0) → TakesAt base n IsStart
      → ((s : ℕ) → Top s → IsStart s ⊎ Among (base + n) k s)
      → ((c d : Configuration) → Among (base + n) k c.state → Keeps c d → IsStart d.state ⊎ Among (base + n) k d.state)
      → TakesAt base (n + k) Top
  takes-over base n k IsStart Top b starts goes = record {
    early = cut (base + n) b.early (λ s. true);
    starts = λ s top. into s (starts s top);
    stays = λ c d at_c early k'. by_test (nat_lt c.state (base + n))
        (λ e.
        let lt : c.state < base + n = grind (arith, nat_tests) in
        low d.state (b.stays c d (at_c.0, lt) (sym (cut-below (base + n) b.early (λ x. true) c.state lt) ∙ early) k'))
        (λ e.
        let le : base + n ≤ c.state = grind (arith, nat_tests) in
        let high = at_c.1 in
        into d.state (goes c d (le, omega arith) k'));
  }
    where
      low : (s : ℕ) → Among base n s × (b.early s ≡ true) → Among base (n + k) s × (cut (base + n) b.early (λ s. true) s ≡ true)
      low s x = let high = x.0.1 in ((x.0.0, omega arith), cut-below (base + n) b.early (λ x. true) s x.0.1 ∙ x.1)

      into : (s : ℕ) → IsStart s ⊎ Among (base + n) k s → Among base (n + k) s × (cut (base + n) b.early (λ s. true) s ≡ true)
      into s x = elim x [
        | inl is ↦ low s (b.starts s is)
        | inr r ↦ let low' = r.0 in let high = r.1 in ((omega arith, omega arith), cut-above (base + n) b.early (λ x. true) s low')
      ]

  Takes-second : (first second : Builder) → Local terminator hay end whole first → Takes second → Takes (build_then first second)
  Takes-second first second l b = record {
    takes = λ next base placed.
        (let two = second next base in
        let base1 = base + length two.states in
        let one = first two.start base1 in
        subst (λ n. TakesAt base n (λ s. one.start ≡ s)) (sym (length-append two.states one.states))
        (takes-over base (length two.states) (length one.states) (λ s. two.start ≡ s) (λ s. one.start ≡ s)
        (b.takes next base (Placed-front whole base two.states one.states placed))
        (λ s e. subst (λ x. (two.start ≡ x) ⊎ Among base1 (length one.states) x) e (l.starts two.start base1))
        (λ c d at_c k. l.goes two.start base1 (Placed-back whole base two.states one.states placed) c d at_c.0 at_c.1 k.0)));
  }

  Takes-loop_once : (greedy : Bool) (body : Builder) → Takes body → Takes (loop_once greedy body)
  Takes-loop_once greedy body a = record {
    takes = λ next base placed.
        (let b = body base (suc base) in
        let one : base + 1 ≡ suc base = omega arith in
        let inner = a.takes base (suc base) (Placed-rest whole base (prefer greedy b.start next) b.states placed) in
        let more : 1 + length b.states ≡ suc (length b.states) = omega arith in
        subst (λ n. TakesAt base n (λ s. b.start ≡ s)) more
        (takes-above base 1 (length b.states) (λ s. b.start ≡ s) (subst (λ x. TakesAt x (length b.states) (λ s. b.start ≡ s)) (sym one) inner)));
  }

  Takes-copies : (body last : Builder) → Takes body → (n : ℕ) → Takes (copies (suc n) body last)
  Takes-copies body last a n = Takes-first body (copies n body last) a

  Takes-group : (number : Option ℕ) (body : Builder) → Takes body → Takes (build_group number body)
  Takes-group None body a = a
  Takes-group (Some number) body a =
      Takes-second (build_state (slot number)) (build_then body (build_state (slot (suc number))))
      (Local-state terminator hay end whole (slot number) (slot-target terminator hay end whole number)) (Takes-first body (build_state (slot (suc number))) a)

  TakesOne-none : TakesOne no_parts
  TakesOne-none = record {
    takes = λ next base placed. record {
      early = λ s. true;
      starts = λ s m. absurd (let lt = m.1 in omega arith);
      stays = λ c d at_c early k. absurd (let low = at_c.0 in let high = at_c.1 in omega arith);
    };
  }

  TakesOne-beside : (first : Builder) (others : (next base : ℕ) → Parts) → Takes first → TakesOne others → TakesOne (build_beside first others)
  TakesOne-beside first others a b = record {
    takes = λ next base placed.
        (let f = first next base in
        let o = others next (base + length f.states) in
        subst (λ n. TakesAt base n (λ s. Contains (f.start ∷ o.starts) s)) (sym (length-append f.states o.states))
        (takes-both base (length f.states) (length o.states) f.start o.starts
        (a.takes next base (Placed-front whole base f.states o.states placed))
        (b.takes next (base + length f.states) (Placed-back whole base f.states o.states placed))));
  }
    where
      takes-both : (base n k start : ℕ) (starts : List ℕ) → TakesAt base n (λ s. start ≡ s) → TakesAt (base + n) k (λ s. Contains starts s)
          → TakesAt base (n + k) (λ s. Contains (start ∷ starts) s)
      takes-both base n k start starts x y = record {
        early = cut (base + n) x.early y.early;
        starts = λ s m. elim (split-among start s starts m) [ inl e ↦ low s (x.starts s e) | inr more ↦ high s (y.starts s more) ];
        stays = λ c d at_c early k'. by_test (nat_lt c.state (base + n))
            (λ e.
            let lt : c.state < base + n = grind (arith, nat_tests) in
            low d.state (x.stays c d (at_c.0, lt) (sym (cut-below (base + n) x.early y.early c.state lt) ∙ early) k'))
            (λ e.
            let le : base + n ≤ c.state = grind (arith, nat_tests) in
            let up = at_c.1 in
            high d.state (y.stays c d (le, omega arith) (sym (cut-above (base + n) x.early y.early c.state le) ∙ early) k'));
      }
        where
          low : (s : ℕ) → Among base n s × (x.early s ≡ true) → Among base (n + k) s × (cut (base + n) x.early y.early s ≡ true)
          low s h = let up = h.0.1 in ((h.0.0, omega arith), cut-below (base + n) x.early y.early s h.0.1 ∙ h.1)

          high : (s : ℕ) → Among (base + n) k s × (y.early s ≡ true) → Among base (n + k) s × (cut (base + n) x.early y.early s ≡ true)
          high s h = let down = h.0.0 in let up = h.0.1 in ((omega arith, omega arith), cut-above (base + n) x.early y.early s h.0.0 ∙ h.1)

  Takes-choice : (parts : (next base : ℕ) → Parts) → TakesOne parts → Takes (build_choice parts)
  Takes-choice parts a = record {
    takes = λ next base placed.
        (let p = parts next base in
        let base1 = base + length p.states in
        let is = Placed-first whole base1 (choice p.starts) [] (Placed-back whole base p.states (choice p.starts ∷ []) placed) in
        subst (λ n. TakesAt base n (λ s. base1 ≡ s)) (sym (length-append p.states (choice p.starts ∷ [])))
        (takes-over base (length p.states) 1 (λ s. Contains p.starts s) (λ s. base1 ≡ s)
        (a.takes next base (Placed-front whole base p.states (choice p.starts ∷ []) placed))
        (λ s e. inr (omega arith, omega arith))
        (λ c d at_c k.
        let low = at_c.0 in
        let high = at_c.1 in
        let same : base1 ≡ c.state = omega arith in
        let m = successors-in terminator hay end whole c d (choice p.starts) (subst (λ q. IsStateOf whole q (choice p.starts)) same is) k.0 in
        let y = choice-member p.starts c.place d m in
        inl (subst (Contains p.starts) (ap (λ (z : Configuration). z.state) y.2) y.1))));
  }

  takes_unbounded : (n : ℕ) (greedy : Bool) (body : Builder) → Takes body → Takes (copies n body (loop_once greedy body))
  takes_unbounded zero greedy body a = Takes-loop_once greedy body a
  takes_unbounded (suc n) greedy body a = Takes-copies body (loop_once greedy body) a n

  -- a step by at least one byte
  go_by-up : (o : Option ℕ) (next i : ℕ) → ((n : ℕ) → o ≡ Some n → 0 < n) → (d : Configuration) → Contains (go_by terminator hay end o next i) d → i < d.place
  go_by-up o next i up d m =
      let x = go_by-member terminator hay end o next i d m in
      let more = up x.0 x.1 in
      let e : i + x.0 ≡ d.place = ap (λ (z : Configuration). z.place) x.2 in
      omega arith

  positive : (n m k : ℕ) → k * n ≡ m → 0 < m → 0 < k
  positive n m zero is up = let none : zero * n ≡ 0 = omega arith in absurd (omega arith)
  positive n m (suc k) is up = omega arith

  module _ (slots : ℕ → Option ℕ) where
    mutual
      unfolding build

      -- what means no empty string takes a byte
      pub takes : (h : Expression) (m : ℕ) → minimum_len h ≡ Some m → 0 < m → Takes (build slots h)
      takes empty m e up = absurd (let is = same_Some 0 m e in omega arith)
      takes (literal bytes) m e up =
          let long = same_Some (length bytes) m e in
          Takes-state (text bytes) (λ next i d mem. go_by-up (if stands_at hay i bytes then Some (length bytes) else None) next i
          (λ n is. by_test (stands_at hay i bytes)
          (λ yes'. let same = same_Some (length bytes) n (rw yes' at is) in omega arith) (λ no'. absurd (none-some n (rw no' at is)))) d mem)
      takes (class members) m e up =
          Takes-state (set members) (λ next i d mem. go_by-up (member_len hay members i) next i
          (λ n is.
          let x = class-known hay members i n is in
          let same = same_Some x.0 m (sym x.1 ∙ e) in
          let le = x.2 in
          omega arith) d mem)
      takes (look kind) m e up = absurd (let is = same_Some 0 m e in omega arith)
      takes (repetition zero most greedy sub) m e up =
          absurd (let x = times-some (minimum_len sub) zero m e in let is = x.2 in let none : x.0 * zero ≡ 0 = omega arith in omega arith)
      takes (repetition (suc n) None greedy sub) m e up =
          let x = times-some (minimum_len sub) (suc n) m e in
          takes_unbounded n greedy (build slots sub) (takes sub x.0 x.1 (positive (suc n) m x.0 x.2 up))
      takes (repetition (suc n) (Some k) greedy sub) m e up =
          let x = times-some (minimum_len sub) (suc n) m e in
          Takes-copies (build slots sub) (options greedy (k - suc n) (build slots sub)) (takes sub x.0 x.1 (positive (suc n) m x.0 x.2 up)) n
      takes (capture group name sub) m e up = Takes-group (slots group) (build slots sub) (takes sub m e up)
      takes (concat subs) m e up = takes_in_turn subs m e up
      takes (alternation subs) m e up = Takes-choice (build_each slots subs) (takes_each subs m e up)

      takes_in_turn : (hs : Expressions) (m : ℕ) → sum_of_minimum_len hs ≡ Some m → 0 < m → Takes (build_in_turn slots hs)
      takes_in_turn nil m e up = absurd (let is = same_Some 0 m e in omega arith)
      takes_in_turn (cons sub subs) m e up =
          let x = plus-some (minimum_len sub) (sum_of_minimum_len subs) m e in
          let sum = x.4 in
          by_test (nat_lt 0 x.0)
          (λ e'. Takes-first (build slots sub) (build_in_turn slots subs) (takes sub x.0 x.2 (grind (arith, nat_tests))))
          (λ e'.
          let none : x.0 ≡ 0 = grind (arith, nat_tests) in
          Takes-second (build slots sub) (build_in_turn slots subs) (local terminator hay end whole slots sub) (takes_in_turn subs x.1 x.3 (omega arith)))

      takes_each : (hs : Expressions) (m : ℕ) → least_minimum_len hs ≡ Some m → 0 < m → TakesOne (build_each slots hs)
      takes_each nil m e up = absurd (none-some m e)
      takes_each (cons sub nil) m e up = TakesOne-beside (build slots sub) no_parts (takes sub m e up) TakesOne-none
      takes_each (cons sub (cons next subs)) m e up =
          let x = lesser-some (minimum_len sub) (least_minimum_len (cons next subs)) m e in
          let first = x.4 in
          let other = x.5 in
          TakesOne-beside (build slots sub) (build_each slots (cons next subs)) (takes sub x.0 x.2 (omega arith))
          (takes_each (cons next subs) x.1 x.3 (omega arith))

    takes-tested : (sub : Expression) → is_positive (minimum_len sub) ≡ true → Takes (build slots sub)
    takes-tested sub e = by_option (minimum_len sub) refl e
      where
        by_option : (o : Option ℕ) → minimum_len sub ≡ o → is_positive o ≡ true → Takes (build slots sub)
        by_option None e h = absurd (true≢false (sym h))
        by_option (Some k) e h = takes sub k e (grind (arith, nat_tests))

    mutual
      unfolding build IsPlain

      pub ranked : (h : Expression) → IsPlain h → Ranked (build slots h)
      ranked empty plain = Ranked-nothing
      ranked (literal bytes) plain = Ranked-state (text bytes) (λ next i d m. go_by-target terminator hay end
          (if stands_at hay i bytes then Some (length bytes) else None) next i d m)
      ranked (class members) plain = Ranked-state (set members) (λ next i d m. go_by-target terminator hay end (member_len hay members i) next i d m)
      ranked (look kind) plain = Ranked-state (assertion kind) (look-target terminator hay end whole kind)
      ranked (repetition zero None greedy sub) plain =
          subst (λ b. Ranked (build_repetition b zero None greedy (build slots sub))) (sym plain.0)
          (Ranked-loop greedy (build slots sub) (ranked sub plain.1) (takes-tested sub plain.0))
      ranked (repetition (suc n) None greedy sub) plain =
          let a = ranked sub plain.1 in
          let la = local terminator hay end whole slots sub in
          Ranked-copies (build slots sub) (loop_once greedy (build slots sub)) a la
          (Ranked-loop_once greedy (build slots sub) a (takes-tested sub plain.0))
          (Local-repetition terminator hay end whole true greedy (build slots sub) la 1 None) n
      ranked (repetition zero (Some m) greedy sub) plain =
          Ranked-options greedy (build slots sub) (ranked sub plain.1) (local terminator hay end whole slots sub) (m - zero)
      ranked (repetition (suc n) (Some m) greedy sub) plain =
          let a = ranked sub plain.1 in
          let la = local terminator hay end whole slots sub in
          Ranked-copies (build slots sub) (options greedy (m - suc n) (build slots sub)) a la
          (Ranked-options greedy (build slots sub) a la (m - suc n)) (Local-options terminator hay end whole greedy (build slots sub) la (m - suc n)) (suc n)
      ranked (capture group name sub) plain =
          Ranked-group (slots group) (build slots sub) (ranked sub plain) (local terminator hay end whole slots sub)
      ranked (concat subs) plain = ranked_in_turn subs plain
      ranked (alternation subs) plain =
          Ranked-choice (build_each slots subs) (ranked_each subs plain) (local_each terminator hay end whole slots subs)

      ranked_in_turn : (hs : Expressions) → ArePlain hs → Ranked (build_in_turn slots hs)
      ranked_in_turn nil plain = Ranked-nothing
      ranked_in_turn (cons sub subs) plain =
          Ranked-then (build slots sub) (build_in_turn slots subs) (ranked sub plain.0) (ranked_in_turn subs plain.1)
          (local_in_turn terminator hay end whole slots subs)

      ranked_each : (hs : Expressions) → ArePlain hs → RankedOne (build_each slots hs)
      ranked_each nil plain = RankedOne-none
      ranked_each (cons sub subs) plain = RankedOne-beside (build slots sub) (build_each slots subs) (ranked sub plain.0) (ranked_each subs plain.1)
