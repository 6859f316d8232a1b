-- The states of a part lead to themselves and to its next state, also where there are loops.
use Rattle.std.proofs.Common.{◌≡◌, ℕ, zero, suc, ◌+◌, ◌-◌, ◌≤◌, ◌<◌, ◌⊎◌, Bool, true, false, List, [], ◌∷◌, ◌++◌, length, refl, ap, subst, inl, inr, arith, length-append}
use Rattle.std.specs.Prelude.{nat_lt, nat_eq, Option, Some, None, Contains, if◌then◌else◌}
use Rattle.std.proofs.lemmas.Bool.Decides.{nat_tests}
use Rattle.rx_model.specs.Text.{stands_at, member_len}
use Rattle.rx_model.specs.Length.{minimum_len, is_positive}
use Rattle.rx_model.specs.Look.{Look, holds}
use Rattle.rx_model.specs.Runs.{Configuration}
use Rattle.rx_model.specs.Expression.{Expression, Expressions, empty, literal, class, look, repetition, capture, concat, alternation, nil, cons}
use Rattle.rx_model.specs.Graph.{State, text, set, assertion, slot, choice, Builder, build_nothing, build_state, build_then, prefer, loop, loop_once, build_optional, copies, options, build_repetition, build_group, Parts, no_parts, build_beside, build_choice, build, build_in_turn, build_each, at, state_step}
use Rattle.rx_model.proofs.lemmas.runs.RunLemmas.{by_test}
use Rattle.rx_model.proofs.lemmas.runs.MemberLemmas.{choice-member, split-among, only-among, none-among}
use Rattle.rx_model.proofs.lemmas.graphs.PlacedLemmas.{Placed, Placed-front, Placed-back, Placed-first, Placed-rest}
use Rattle.rx_model.proofs.lemmas.runs.OrderLemmas.{g, Inside, Closes, slot-target}
use Rattle.rx_model.proofs.lemmas.graphs.StateLemmas.{IsStateOf, successors-in, go_by-target, prefer-cases}

-- the next state, or one of the n states from base on
abbrev pub Target : (next base n : ℕ) → ℕ → Type 0
Target next base n s = (next ≡ s) ⊎ ((base ≤ s) × (s < base + n))

module _ (terminator : ℕ) (hay : List ℕ) (end : ℕ) (whole : List State) where
  pub record Local (b : Builder) : Type 0 where
    pub starts : (next base : ℕ) → Target next base (length (b next base).states) (b next base).start
    pub goes : (next base : ℕ) → Placed whole base (b next base).states → (c d : Configuration) → base ≤ c.state → c.state < base + length (b next base).states
        → Contains ((g terminator hay end whole).successors c) d → Target next base (length (b next base).states) d.state

  pub Local-Closes : (b : Builder) → Local b → Closes terminator hay end whole b
  Local-Closes b l = record {
    closes = λ A next base s.
        (let n = length (b next base).states in
        let to : (q : ℕ) → Target next base n q → Inside A base n q = λ q t. elim t [ inl e ↦ inl (subst A e s.next_in) | inr r ↦ inr r ] in (
          λ c d h m. elim h [ inl a ↦ inl (s.closed c d a m) | inr r ↦ to d.state (l.goes next base s.placed c d r.0 r.1 m) ],
          to (b next base).start (l.starts next base),
        ));
  }

  Local-nothing : Local build_nothing
  Local-nothing = record {
    starts = λ next base. inl refl;
    goes = λ next base placed c d low high m. absurd (omega arith);
  }

  pub Local-state : (state : ℕ → State) → ((next i : ℕ) (d : Configuration) → Contains (state_step terminator hay end (state next) i) d → next ≡ d.state)
      → Local (build_state state)
  Local-state state target = record {
    starts = λ next base. inr (omega arith, omega arith);
    goes = λ next base placed c d low high m.
        (let is = Placed-first whole base (state next) [] placed in
        let same : base ≡ c.state = omega arith in
        inl (target next c.place d (successors-in terminator hay end whole c d (state next) (subst (λ q. IsStateOf whole q (state next)) same is) m)));
  }

  pub Local-then : (first second : Builder) → Local first → Local second → Local (build_then first second)
  Local-then first second a b = record {
    starts = λ next base.
        (let two = second next base in
        let one = first two.start (base + length two.states) in
        let long = length-append two.states one.states in
        up next base (a.starts two.start (base + length two.states)) (b.starts next base));
    goes = λ next base placed c d low high m.
        (let two = second next base in
        let one = first two.start (base + length two.states) in
        let long = length-append two.states one.states in
        by_test (nat_lt c.state (base + length two.states))
        (λ e. wide next base d.state (b.goes next base (Placed-front whole base two.states one.states placed) c d low (grind (arith, nat_tests)) m))
        (λ e. up next base (a.goes two.start (base + length two.states) (Placed-back whole base two.states one.states placed) c d (grind (arith, nat_tests))
        (omega arith) m) (b.starts next base)));
  }
    where
      wide : (next base q : ℕ) → Target next base (length (second next base).states) q → Target next base (length (build_then first second next base).states) q
      wide next base q t =
          let two = second next base in
          let one = first two.start (base + length two.states) in
          let long = length-append two.states one.states in
          elim t [ inl e ↦ inl e | inr r ↦ inr (r.0, (let high = r.1 in omega arith)) ]

      up : (next base : ℕ) {q : ℕ} → Target (second next base).start (base + length (second next base).states)
          (length (first (second next base).start (base + length (second next base).states)).states) q
          → Target next base (length (second next base).states) (second next base).start
          → Target next base (length (build_then first second next base).states) q
      up next base {q} t s =
          let two = second next base in
          let one = first two.start (base + length two.states) in
          let long = length-append two.states one.states in
          elim t [
            | inl e ↦ wide next base q (subst (λ x. Target next base (length two.states) x) e s)
            | inr r ↦ inr ((let low = r.0 in omega arith), (let high = r.1 in omega arith))
          ]

  -- a choice at a state, before a part that lies after it; the part's own next state is known
  module _ (greedy : Bool) (body : Builder) (a : Local body) where
    prefer-goes : (next back base : ℕ) → Placed whole base (prefer greedy (body back (suc base)).start next ∷ (body back (suc base)).states)
        → (c d : Configuration) → base ≤ c.state → c.state < base + suc (length (body back (suc base)).states)
        → Contains ((g terminator hay end whole).successors c) d
        → (next ≡ d.state) ⊎ Target back (suc base) (length (body back (suc base)).states) d.state
    prefer-goes next back base placed c d low high m =
        let b = body back (suc base) in
        let is = Placed-first whole base (prefer greedy b.start next) b.states placed in
        by_test (nat_eq c.state base)
        (λ e.
        let same : base ≡ c.state = grind (arith, nat_tests) in
        let m' =
        successors-in terminator hay end whole c d (prefer greedy b.start next) (subst (λ q. IsStateOf whole q (prefer greedy b.start next)) same is) m in
        elim (prefer-cases terminator hay end greedy b.start next c.place d m') [
          | inl e' ↦ inr (subst (λ q. Target back (suc base) (length b.states) q) (ap (λ (z : Configuration). z.state) e') (a.starts back (suc base)))
          | inr e' ↦ inl (ap (λ (z : Configuration). z.state) e')
        ])
        (λ e.
        let above : suc base ≤ c.state = grind (arith, nat_tests) in
        inr (a.goes back (suc base) (Placed-rest whole base (prefer greedy b.start next) b.states placed) c d above (omega arith) m))

    -- where the part comes back to the choice
    around : (next base q : ℕ) → (next ≡ q) ⊎ Target base (suc base) (length (body base (suc base)).states) q
        → Target next base (suc (length (body base (suc base)).states)) q
    around next base q t = elim t [
      | inl e ↦ inl e
      | inr t' ↦ elim t' [ inl e ↦ inr (omega arith, omega arith) | inr r ↦ inr ((let low = r.0 in omega arith), (let high = r.1 in omega arith)) ]
    ]

    Local-loop : Local (loop greedy body)
    Local-loop = record {
      starts = λ next base. inr (omega arith, omega arith);
      goes = λ next base placed c d low high m. around next base d.state (prefer-goes next base base placed c d low high m);
    }

    Local-loop_once : Local (loop_once greedy body)
    Local-loop_once = record {
      starts = λ next base. around next base (body base (suc base)).start (inr (a.starts base (suc base)));
      goes = λ next base placed c d low high m. around next base d.state (prefer-goes next base base placed c d low high m);
    }

    Local-optional : Local (build_optional greedy body)
    Local-optional = record {
      starts = λ next base. inr (omega arith, omega arith);
      goes = λ next base placed c d low high m.
          (elim (prefer-goes next next base placed c d low high m) [
            | inl e ↦ inl e
            | inr t' ↦ elim t' [ inl e ↦ inl e | inr r ↦ inr ((let low' = r.0 in omega arith), (let high' = r.1 in omega arith)) ]
          ]);
    }

    pub Local-options : (n : ℕ) → Local (options greedy n body)
    Local-options zero = record {
      starts = λ next base. inl refl;
      goes = λ next base placed c d low high m. absurd (omega arith);
    }
    Local-options (suc n) = record {
      starts = λ next base.
          (let inner = options greedy n body next base in
          let b = body inner.start (suc (base + length inner.states)) in
          let long = length-append inner.states (prefer greedy b.start next ∷ b.states) in
          inr (omega arith, omega arith));
      goes = λ next base placed c d low high m.
          (let later = Local-options n in
          let inner = options greedy n body next base in
          let at_c = base + length inner.states in
          let b = body inner.start (suc at_c) in
          let long = length-append inner.states (prefer greedy b.start next ∷ b.states) in
          let wide : (q : ℕ) → Target next base (length inner.states) q → Target next base (length (inner.states ++ (prefer greedy b.start next ∷ b.states))) q
          = λ q t. elim t [ inl e ↦ inl e | inr r ↦ inr (r.0, (let high' = r.1 in omega arith)) ] in
          by_test (nat_lt c.state at_c)
          (λ e. wide d.state (later.goes next base (Placed-front whole base inner.states (prefer greedy b.start next ∷ b.states) placed) c d low
          (grind (arith, nat_tests)) m))
          (λ e.
          let above : at_c ≤ c.state = grind (arith, nat_tests) in
          elim (prefer-goes next inner.start at_c (Placed-back whole base inner.states (prefer greedy b.start next ∷ b.states) placed) c d above (omega arith)
          m) [
            | inl e' ↦ inl e'
            | inr t' ↦ elim t' [
              | inl e' ↦ wide d.state (subst (λ x. Target next base (length inner.states) x) e' (later.starts next base))
              | inr r ↦ inr ((let low' = r.0 in omega arith), (let high' = r.1 in omega arith))
            ]
          ]));
    }

  pub Local-copies : (body last : Builder) → Local body → Local last → (n : ℕ) → Local (copies n body last)
  Local-copies body last a l zero = l
  Local-copies body last a l (suc n) = Local-then body (copies n body last) a (Local-copies body last a l n)

  pub Local-repetition : (consumes greedy : Bool) (body : Builder) → Local body → (least : ℕ) (most : Option ℕ)
      → Local (build_repetition consumes least most greedy body)
  Local-repetition true greedy body a zero None = Local-loop greedy body a
  Local-repetition false greedy body a zero None = Local-optional greedy (loop_once greedy body) (Local-loop_once greedy body a)
  Local-repetition consumes greedy body a (suc n) None = Local-copies body (loop_once greedy body) a (Local-loop_once greedy body a) n
  Local-repetition consumes greedy body a zero (Some m) = Local-options greedy body a (m - zero)
  Local-repetition consumes greedy body a (suc n) (Some m) = Local-copies body (options greedy (m - suc n) body) a (Local-options greedy body a (m - suc n))
      (suc n)

  Local-group : (number : Option ℕ) (body : Builder) → Local body → Local (build_group number body)
  Local-group None body a = a
  Local-group (Some number) body a =
      Local-then (build_state (slot number)) (build_then body (build_state (slot (suc number))))
      (Local-state (slot number) (slot-target terminator hay end whole number))
      (Local-then body (build_state (slot (suc number))) a (Local-state (slot (suc number)) (slot-target terminator hay end whole (suc number))))

  pub look-target : (kind : Look) (next i : ℕ) (d : Configuration) → Contains (state_step terminator hay end (assertion kind next) i) d → next ≡ d.state
  look-target kind next i d m =
      by_test (holds terminator hay kind i)
      (λ e. ap (λ (c : Configuration). c.state) (only-among (at next i) d (rw e at m)))
      (λ e. absurd (none-among d (rw e at m)))

  pub record LocalOne (parts : (next base : ℕ) → Parts) : Type 0 where
    pub starts : (next base q : ℕ) → Contains (parts next base).starts q → Target next base (length (parts next base).states) q
    pub goes : (next base : ℕ) → Placed whole base (parts next base).states → (c d : Configuration) → base ≤ c.state
        → c.state < base + length (parts next base).states
        → Contains ((g terminator hay end whole).successors c) d → Target next base (length (parts next base).states) d.state

  LocalOne-none : LocalOne no_parts
  LocalOne-none = record {
    starts = λ next base q m. absurd (let lt = m.1 in omega arith);
    goes = λ next base placed c d low high m. absurd (omega arith);
  }

  LocalOne-beside : (first : Builder) (others : (next base : ℕ) → Parts) → Local first → LocalOne others → LocalOne (build_beside first others)
  LocalOne-beside first others a b = record {
    starts = λ next base q m.
        (let f = first next base in
        let o = others next (base + length f.states) in
        elim (split-among f.start q o.starts m) [
          | inl e ↦ left next base q (subst (λ x. Target next base (length f.states) x) e (a.starts next base))
          | inr more ↦ right next base q (b.starts next (base + length f.states) q more)
        ]);
    goes = λ next base placed c d low high m.
        (let f = first next base in
        let o = others next (base + length f.states) in
        let long = length-append f.states o.states in
        by_test (nat_lt c.state (base + length f.states))
        (λ e. left next base d.state (a.goes next base (Placed-front whole base f.states o.states placed) c d low (grind (arith, nat_tests)) m))
        (λ e. right next base d.state (b.goes next (base + length f.states) (Placed-back whole base f.states o.states placed) c d (grind (arith, nat_tests))
        (omega arith) m)));
  }
    where
      left : (next base q : ℕ) → Target next base (length (first next base).states) q → Target next base (length (build_beside first others next base).states) q
      left next base q t =
          let long = length-append (first next base).states (others next (base + length (first next base).states)).states in
          elim t [ inl e ↦ inl e | inr r ↦ inr (r.0, (let high = r.1 in omega arith)) ]

      right : (next base q : ℕ) → Target next (base + length (first next base).states) (length (others next (base + length (first next base).states)).states) q
          → Target next base (length (build_beside first others next base).states) q
      right next base q t =
          let long = length-append (first next base).states (others next (base + length (first next base).states)).states in
          elim t [ inl e ↦ inl e | inr r ↦ inr ((let low = r.0 in omega arith), (let high = r.1 in omega arith)) ]

  Local-choice : (parts : (next base : ℕ) → Parts) → LocalOne parts → Local (build_choice parts)
  Local-choice parts a = record {
    starts = λ next base. (let p = parts next base in let long = length-append p.states (choice p.starts ∷ []) in inr (omega arith, omega arith));
    goes = λ next base placed c d low high m.
        (let p = parts next base in
        let long = length-append p.states (choice p.starts ∷ []) in
        let is = Placed-first whole (base + length p.states) (choice p.starts) [] (Placed-back whole base p.states (choice p.starts ∷ []) placed) in
        let wide : (q : ℕ) → Target next base (length p.states) q → Target next base (length (p.states ++ choice p.starts ∷ [])) q
        = λ q t. elim t [ inl e ↦ inl e | inr r ↦ inr (r.0, (let high' = r.1 in omega arith)) ] in
        by_test (nat_lt c.state (base + length p.states))
        (λ e. wide d.state (a.goes next base (Placed-front whole base p.states (choice p.starts ∷ []) placed) c d low (grind (arith, nat_tests)) m))
        (λ e.
        let same : base + length p.states ≡ c.state = grind (arith, nat_tests) in
        let m' = successors-in terminator hay end whole c d (choice p.starts) (subst (λ q. IsStateOf whole q (choice p.starts)) same is) m in
        let y = choice-member p.starts c.place d m' in
        wide d.state (subst (λ q. Target next base (length p.states) q) (ap (λ (z : Configuration). z.state) y.2) (a.starts next base y.0 y.1))));
  }

  module _ (slots : ℕ → Option ℕ) where
    mutual
      unfolding build

      pub local : (h : Expression) → Local (build slots h)
      local empty = Local-nothing
      local (literal bytes) = Local-state (text bytes) (λ next i d m. go_by-target terminator hay end
          (if stands_at hay i bytes then Some (length bytes) else None) next i d m)
      local (class members) = Local-state (set members) (λ next i d m. go_by-target terminator hay end (member_len hay members i) next i d m)
      local (look kind) = Local-state (assertion kind) (look-target kind)
      local (repetition least most greedy sub) = Local-repetition (is_positive (minimum_len sub)) greedy (build slots sub) (local sub) least most
      local (capture group name sub) = Local-group (slots group) (build slots sub) (local sub)
      local (concat subs) = local_in_turn subs
      local (alternation subs) = Local-choice (build_each slots subs) (local_each subs)

      pub local_in_turn : (hs : Expressions) → Local (build_in_turn slots hs)
      local_in_turn nil = Local-nothing
      local_in_turn (cons sub subs) = Local-then (build slots sub) (build_in_turn slots subs) (local sub) (local_in_turn subs)

      pub local_each : (hs : Expressions) → LocalOne (build_each slots hs)
      local_each nil = LocalOne-none
      local_each (cons sub subs) = LocalOne-beside (build slots sub) (build_each slots subs) (local sub) (local_each subs)
