-- The first run of an alternation of literals ends with the first of them that lies there.
use Rattle.std.proofs.Common.{◌≡◌, ℕ, ◌+◌, ◌*◌, ◌≤◌, ◌<◌, true, false, List, [], ◌∷◌, ◌++◌, length, map, drop, get_or, refl, sym, ap, ◌∙◌, subst, inl, inr, arith, length-append, append_assoc, append-nil}
use Rattle.std.specs.Prelude.{nat_le, nat_lt, Bool, Option, Some, None, IfSome, if◌then◌else◌}
use Rattle.std.specs.Option.{option_map, option_or}
use Rattle.std.specs.List.{list_all}
use Rattle.std.proofs.lemmas.List.{drop_more, drop_all}
use Rattle.std.proofs.lemmas.Option.{none-some, same_Some}
use Rattle.std.proofs.lemmas.Bool.Decides.{nat_tests}
use Rattle.rx_model.specs.Text.{stands_at}
use Rattle.rx_model.specs.Runs.{nowhere, Configuration, IsClosed, Trace, first_some}
use Rattle.rx_model.specs.Onward.{within, after}
use Rattle.rx_model.specs.Expression.{Expression, Expressions, empty, literal, class, look, repetition, capture, concat, alternation, nil, cons}
use Rattle.rx_model.specs.Graph.{State, choice, accept, Parts, build_choice, build_group, build, build_each, build_pattern, at}
use Rattle.rx_model.specs.Search.{Patterns, slot_of, first}
use Rattle.rx_model.proofs.lemmas.runs.RunLemmas.{by_test}
use Rattle.rx_model.proofs.lemmas.runs.FoundLemmas.{found-accepted}
use Rattle.rx_model.proofs.lemmas.runs.MemberLemmas.{choice-member, none-among}
use Rattle.rx_model.proofs.lemmas.runs.OrderLemmas.{g, ends, Stands, Inside, ends-past, ends-state, beside-first, beside-others, choice-parts, choice-is, starts-past, Leads-text}
use Rattle.rx_model.proofs.lemmas.graphs.GraphLemmas.{runs_of-bounded}
use Rattle.rx_model.proofs.lemmas.graphs.LocalLemmas.{Target, LocalOne, local, local_each}
use Rattle.rx_model.proofs.lemmas.graphs.PlacedLemmas.{Placed-first, Placed-rest}
use Rattle.rx_model.proofs.lemmas.graphs.StateLemmas.{IsStateOf, accepted-at, successors-in}
use Rattle.rx_model.proofs.lemmas.meaning.CoverLemmas.{Placed-whole}
use Rattle.rx_hir.specs.Normal.{list_of}
use Rattle.rx_literal.specs.Literals.{exact, Seq, finite, is_exact}
use Rattle.rx_literal.specs.First.{first_there}
use Rattle.rx_literal.proofs.lemmas.first_runs.ExactLemmas.{one, first_end}
use Rattle.rx_literal.proofs.lemmas.first_runs.AgreeLemmas.{Agrees, AgreesIn}
use Rattle.rx_literal.proofs.lemmas.first_runs.TellLemmas.{from, Tells, Tells-group}
use Rattle.rx_literal.proofs.lemmas.first_runs.ExactRunLemmas.{exact-seq}
use Rattle.rx_order.specs.Alternation.{text_of, before_each, texts_of, many_texts, texts_in}

exact-all : (ls : List (List ℕ)) → list_all is_exact (map exact ls) ≡ true
exact-all [] = refl
exact-all (l ∷ ls) = exact-all ls

-- the first text and the others
texts-parts : (o : Option (List ℕ)) (rest : Option (List (List ℕ))) (ls : List (List ℕ)) → before_each o rest ≡ Some ls
    → (bytes : List ℕ) × (later : List (List ℕ)) × (o ≡ Some bytes) × (rest ≡ Some later) × (bytes ∷ later ≡ ls)
texts-parts None rest ls e = absurd (none-some ls e)
texts-parts (Some bytes) None ls e = absurd (none-some ls e)
texts-parts (Some bytes) (Some later) ls e = (bytes, later, refl, refl, same_Some (bytes ∷ later) ls e)

text-is : (h : Expression) (bytes : List ℕ) → text_of h ≡ Some bytes → h ≡ literal bytes
text-is (literal bytes) more e = ap literal (same_Some bytes more e)
text-is empty bytes e = absurd (none-some bytes e)
text-is (class members) bytes e = absurd (none-some bytes e)
text-is (look kind) bytes e = absurd (none-some bytes e)
text-is (repetition least most greedy sub) bytes e = absurd (none-some bytes e)
text-is (capture group name sub) bytes e = absurd (none-some bytes e)
text-is (concat subs) bytes e = absurd (none-some bytes e)
text-is (alternation subs) bytes e = absurd (none-some bytes e)

module _ (terminator : ℕ) (hay : List ℕ) (end : ℕ) (whole : List State) (slots : ℕ → Option ℕ) where
  -- where the first runs from a state end
  abbrev F : ℕ → ℕ → Option ℕ
  F q j = from terminator hay end whole q j

  literal-first : (bytes : List ℕ) (A : ℕ → Type 0) (next base : ℕ) → Stands terminator hay end whole A next base (build slots (literal bytes) next base).states
      → (i : ℕ) → F (build slots (literal bytes) next base).start i ≡ one hay bytes (F next) i
  unfolding build
  literal-first bytes A next base s i = (Leads-text terminator hay end whole bytes).leads A next base s i ∙ split (stands_at hay i bytes) (F next) i
    where
      split : (b : Bool) (f : ℕ → Option ℕ) (i : ℕ) → after f (if b then Some (length bytes) else None) i ≡ (if b then f (i + length bytes) else None)
      split true f i = refl
      split false f i = refl

  text-first : (h : Expression) (bytes : List ℕ) → h ≡ literal bytes → (A : ℕ → Type 0) (next base : ℕ)
      → Stands terminator hay end whole A next base (build slots h next base).states → (i : ℕ) → F (build slots h next base).start i ≡ one hay bytes (F next) i
  text-first h bytes is = subst
      (λ x. (A : ℕ → Type 0) (next base : ℕ) → Stands terminator hay end whole A next base (build slots x next base).states → (i : ℕ)
      → F (build slots x next base).start i ≡ one hay bytes (F next) i)
      (sym is) (literal-first bytes)

  each-first : (subs : Expressions) (ls : List (List ℕ)) → texts_of (list_of subs) ≡ Some ls → (A : ℕ → Type 0) (next base : ℕ)
      → Stands terminator hay end whole A next base (build_each slots subs next base).states → (i : ℕ)
      → first_some (ends terminator hay end whole) (map (λ q. at q i) (build_each slots subs next base).starts) ≡ first_end hay (F next) i (map exact ls)
  unfolding build texts_of
  each-first nil ls e A next base s i = ap (λ ms. first_end hay (F next) i (map exact ms)) (same_Some [] ls e)
  each-first (cons sub subs) ls e A next base s i =
      let parts = texts-parts (text_of sub) (texts_of (list_of subs)) ls e in
      let f = build slots sub next base in
      let here = text-first sub parts.0 (text-is sub parts.0 parts.2) A next base
      (beside-first terminator hay end whole A (build slots sub) (build_each slots subs) next base s) i in
      let later = each-first subs parts.1 parts.3 A next (base + length f.states)
      (beside-others terminator hay end whole A (build slots sub) (build_each slots subs) next base s) i in
      (λ k. option_or (here k) (later k)) ∙ ap (λ ms. first_end hay (F next) i (map exact ms)) parts.4

  choice-first : (parts : (next base : ℕ) → Parts) → LocalOne terminator hay end whole parts → (A : ℕ → Type 0) (next base : ℕ)
      → Stands terminator hay end whole A next base (build_choice parts next base).states → (i : ℕ)
      → F (build_choice parts next base).start i ≡ first_some (ends terminator hay end whole) (map (λ q. at q i) (parts next base).starts)
  choice-first parts l A next base s i =
      let p = parts next base in
      let n = length p.states in
      let long = length-append p.states (choice p.starts ∷ []) in
      let inner = choice-parts terminator hay end whole A parts next base s in
      let to : (q : ℕ) → Target next base n q → Inside A base n q = λ q u. elim u [ inl e ↦ inl (subst A e s.next_in) | inr r ↦ inr r ] in
      let closed : IsClosed (g terminator hay end whole) (Inside A base n)
      = λ c d h m. elim h [ inl a ↦ inl (s.closed c d a m) | inr r ↦ to d.state (l.goes next base inner.placed c d r.0 r.1 m) ] in
      let is = choice-is terminator hay end whole A parts next base s in
      by_test (nat_le i end)
      (λ e.
      let le : i ≤ end = grind (arith, nat_tests) in
      ends-state terminator hay end whole (Inside A base n) closed (base + n) i (choice p.starts) is refl
      (λ h. elim h [ inl c' ↦ s.apart (base + n) c' (omega arith) (omega arith) | inr r ↦ (let up = r.1 in omega arith) ])
      (λ d m. let y = choice-member p.starts i d m in
      subst (λ q. Inside A base n q) (ap (λ (z : Configuration). z.state) y.2) (to y.0 (l.starts next base y.0 y.1))) le)
      (λ e.
      let past : end < i = grind (arith, nat_tests) in
      ends-past terminator hay end whole (at (base + n) i) past ∙ sym (starts-past terminator hay end whole p.starts i past))

  exact-agrees : (f : ℕ → Option ℕ) (i : ℕ) (v : Option ℕ) (ls : List (List ℕ)) → v ≡ first_end hay f i (map exact ls) → Agrees hay end f i v (map exact ls)
  exact-agrees f i v [] e = e
  exact-agrees f i v (s ∷ ls) e = (
    (λ x given. e ∙ ap (λ o. option_or o (first_end hay f i (map exact ls))) given),
    (λ given. exact-agrees f i v ls (e ∙ ap (λ o. option_or o (first_end hay f i (map exact ls))) given)),
  )

  alternation-tells : (subs : Expressions) (ls : List (List ℕ)) → texts_of (list_of subs) ≡ Some ls
      → Tells terminator hay end whole (build slots (alternation subs)) (finite (map exact ls))
  unfolding build
  alternation-tells subs ls e = record {
    tells = λ A next base s i.
        exact-agrees (F next) i (F (build slots (alternation subs) next base).start i) ls
        (choice-first (build_each slots subs) (local_each terminator hay end whole slots subs) A next base s i
        ∙ each-first subs ls e A next base (choice-parts terminator hay end whole A (build_each slots subs) next base s) i);
  }

-- what is told of the part of an expression, whatever is around it, is told of its first run
first-told : (r : Patterns) (hay : List ℕ) (end p : ℕ) (h : Expression) (ss : Seq)
    → ((whole : List State) → Tells r.terminator hay end whole (build (slot_of r p) h) ss) → (i : ℕ)
    → AgreesIn hay end (within end) i (option_map (λ (t : Trace). t.end) (first r hay end p h i)) ss
unfolding first build_pattern
first-told r hay end p h ss told i =
    let b = build_group (Some (2 * p)) (build (slot_of r p) h) in
    let body = b 0 1 in
    let whole = accept p ∷ body.states in
    let is : IsStateOf whole 0 (accept p) = Placed-first whole 0 (accept p) body.states (Placed-whole whole) in
    let A : ℕ → Type 0 = λ s. 0 ≡ s in
    let closed : IsClosed (g r.terminator hay end whole) A = λ c d at_0 m.
    absurd (none-among d (successors-in r.terminator hay end whole c d (accept p) (subst (λ q. IsStateOf whole q (accept p)) at_0 is) m)) in
    let stands : Stands r.terminator hay end whole A 0 1 body.states = record {
      placed = Placed-rest whole 0 (accept p) body.states (Placed-whole whole);
      closed = closed;
      next_in = refl;
      apart = λ s at_0 low high. omega arith;
    } in
    let t = Tells-group r.terminator hay end whole (Some (2 * p)) (build (slot_of r p) h) ss (local r.terminator hay end whole (slot_of r p) h) (told whole) in
    let final : (j : ℕ) → ends r.terminator hay end whole (at 0 j) ≡ within end j = λ j.
    by_test (nat_le j end)
    (λ e.
    let le : j ≤ end = grind (arith, nat_tests) in
    rw e
    (ap (option_map (λ (t : Trace). t.end)) (found-accepted (g r.terminator hay end whole) nowhere (runs_of-bounded r.terminator hay end whole) (at 0 j) p
    refl (accepted-at r.terminator hay end whole 0 j (accept p) is le))))
    (λ e. let past : end < j = grind (arith, nat_tests) in rw e (ends-past r.terminator hay end whole (at 0 j) past)) in
    let same : from r.terminator hay end whole 0 ≡ within end = λ k j. final j k in
    subst (λ f. AgreesIn hay end f i (from r.terminator hay end whole body.start i) ss) same (t.tells A 0 1 stands i)

many-some : (fewest : ℕ) (hs : List Expression) (ls : List (List ℕ)) → many_texts fewest hs ≡ Some ls → texts_of hs ≡ Some ls
unfolding many_texts
many-some fewest hs ls e = by_test (nat_lt (length hs) fewest) (λ few. absurd (none-some ls (rw few at e))) (λ many. rw many at e)

module _ (r : Patterns) (hay : List ℕ) (end p i : ℕ) where
  alternation-run : (subs : Expressions) (ls : List (List ℕ)) → texts_of (list_of subs) ≡ Some ls
      → option_map (λ (t : Trace). t.end) (first r hay end p (alternation subs) i) ≡ first_there hay end i (map exact ls)
  alternation-run subs ls e =
      exact-seq hay end i (option_map (λ (t : Trace). t.end) (first r hay end p (alternation subs) i)) (finite (map exact ls))
      (first-told r hay end p (alternation subs) (finite (map exact ls)) (λ whole. alternation-tells r.terminator hay end whole (slot_of r p) subs ls e) i)
      (exact-all ls)

  pub texts-run : (h : Expression) (ls : List (List ℕ)) → texts_in h ≡ Some ls
      → option_map (λ (t : Trace). t.end) (first r hay end p h i) ≡ first_there hay end i (map exact ls)
  unfolding texts_in
  texts-run (alternation subs) ls e = alternation-run subs ls (many-some 3000 (list_of subs) ls e)
  texts-run (literal bytes) ls e = absurd (none-some ls e)
  texts-run empty ls e = absurd (none-some ls e)
  texts-run (class members) ls e = absurd (none-some ls e)
  texts-run (look kind) ls e = absurd (none-some ls e)
  texts-run (repetition least most greedy sub) ls e = absurd (none-some ls e)
  texts-run (capture group name sub) ls e = absurd (none-some ls e)
  texts-run (concat subs) ls e = absurd (none-some ls e)

-- Of the program: the texts, one by one.
module _ (hs : List Expression) (i : ℕ) (h : Expression) (lt : i < length hs) (at_i : h ≡ get_or hs i h) (done : List (List ℕ))
    (so_far : option_map (λ later. done ++ later) (texts_of (drop i hs)) ≡ texts_of hs) where
  texts-step : texts_of (drop i hs) ≡ before_each (text_of h) (texts_of (drop (i + 1) hs))
  unfolding texts_of
  texts-step = ap texts_of (drop_more hs i h lt ∙ ap (λ x. x ∷ drop (i + 1) hs) (sym at_i))

  pub texts-none : text_of h ≡ None → None ≡ texts_of hs
  texts-none none =
      sym (ap (option_map (λ (later : List (List ℕ)). done ++ later)) (texts-step ∙ ap (λ o. before_each o (texts_of (drop (i + 1) hs))) none)) ∙ so_far

  pub texts-more : (bytes : List ℕ) → text_of h ≡ Some bytes → option_map (λ later. (done ++ bytes ∷ []) ++ later) (texts_of (drop (i + 1) hs)) ≡ texts_of hs
  texts-more bytes some =
      join (texts_of (drop (i + 1) hs))
      ∙ sym (ap (option_map (λ (later : List (List ℕ)). done ++ later)) (texts-step ∙ ap (λ o. before_each o (texts_of (drop (i + 1) hs))) some)) ∙ so_far
    where
      join : (o : Option (List (List ℕ)))
          → option_map (λ later. (done ++ bytes ∷ []) ++ later) o ≡ option_map (λ (later : List (List ℕ)). done ++ later) (before_each (Some bytes) o)
      join None = refl
      join (Some later) = λ k. Some (append_assoc done (bytes ∷ []) later k)

pub texts-past : (hs : List Expression) (i : ℕ) (done : List (List ℕ)) → length hs ≤ i
    → option_map (λ later. done ++ later) (texts_of (drop i hs)) ≡ texts_of hs → Some done ≡ texts_of hs
unfolding texts_of
texts-past hs i done le so_far =
    (λ k. Some (sym (append-nil done) k)) ∙ sym (ap (λ (xs : List Expression). option_map (λ (later : List (List ℕ)). done ++ later) (texts_of xs))
    (drop_all i hs le)) ∙ so_far

pub many-few : (fewest : ℕ) (hs : List Expression) → length hs < fewest → None ≡ many_texts fewest hs
unfolding many_texts
many-few fewest hs lt = let few : nat_lt (length hs) fewest ≡ true = grind (arith, nat_tests) in rw few refl

pub many-is : (fewest : ℕ) (hs : List Expression) → fewest ≤ length hs → texts_of hs ≡ many_texts fewest hs
unfolding many_texts
many-is fewest hs le = let many : nat_lt (length hs) fewest ≡ false = grind (arith, nat_tests) in rw many refl

pub made-runs : {T : Type 0} (view : T → List (List ℕ)) (h : Expression) (made : Option T) → option_map view made ≡ texts_in h
    → IfSome made (λ v. (r : Patterns) (hay : List ℕ) (end p i : ℕ)
    → option_map (λ (t : Trace). t.end) (first r hay end p h i) ≡ first_there hay end i (map exact (view v)))
made-runs view h None e = tt
made-runs view h (Some v) e = λ r hay end p i. texts-run r hay end p i h (view v) (sym e)
