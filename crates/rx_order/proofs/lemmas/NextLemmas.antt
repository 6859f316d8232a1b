-- Where no match starts earlier, the first confirmed candidate starts the next match.
use Rattle.std.proofs.Common.{◌≡◌, ℕ, zero, suc, ◌≤◌, true, List, [], ◌∷◌, Option, Some, None, slice_get, refl, sym, ap, subst, ◌∙◌, arith}
use Rattle.std.proofs.lemmas.Option.{none-some, same_Some}
use Rattle.rx_model.specs.Expression.{Expression, AreOrdered}
use Rattle.rx_model.specs.Runs.{Trace}
use Rattle.rx_model.specs.Search.{Patterns, free, Match, next_match, first, is_permitted}
use Rattle.rx_model.specs.Matches.{HasFirstRun, MayStart}
use Rattle.rx_model.proofs.lemmas.meaning.EmptyLemmas.{means-rises}
use Rattle.rx_model.proofs.lemmas.graphs.GraphLemmas.{first-end, first-means, first-none}
use Rattle.rx_model.proofs.lemmas.matches.MatchLemmas.{next-is, next-none}
use Rattle.rx_order.specs.Order.{IsLeast, IsMatchStart}

by_value : {A : Type 0} {P : Type 0} (o : Option A) → ((x : A) → o ≡ Some x → P) → (o ≡ None → P) → P
by_value None some none = none refl
by_value (Some x) some none = some x refl

only : (h g : Expression) (p : ℕ) → slice_get (h ∷ []) p ≡ Some g → h ≡ g
only h g zero e = same_Some h g e
only h g (suc p) e = absurd (none-some g e)

module _ (r : Patterns) (h : Expression) (one : r.expressions ≡ h ∷ []) (ordered : AreOrdered h) (text : List ℕ) (b a : ℕ)
    (permitted : (i : ℕ) → a ≤ i → IsMatchStart r.terminator text b h i → is_permitted r.utf8_empty text i ≡ true) where
  -- where a match starts, the pattern has a first run
  has-run : (i : ℕ) → IsMatchStart r.terminator text b h i → (t : Trace) × HasFirstRun r text free b i 0 t
  has-run i m =
      by_value (first r text b 0 h i)
      (λ t e. (t, (tt, (h, ap (λ hs. slice_get hs 0) one, e))))
      (λ none. absurd (first-none r text b 0 h ordered i none m.0 m.1 m.2))

  may-start : (i : ℕ) → a ≤ i → IsMatchStart r.terminator text b h i → MayStart r text free b a i
  may-start i low m =
      let up = means-rises r.terminator text h i m.0 m.2 in
      let fits = m.1 in
      ((low, omega arith), permitted i low m)

  run-starts : (i p : ℕ) (t : Trace) → HasFirstRun r text free b i p t → IsMatchStart r.terminator text b h i
  run-starts i p t has =
      let g = has.1.0 in
      let same : h ≡ g = only h g p (ap (λ hs. slice_get hs p) (sym one) ∙ has.1.1) in
      let e : first r text b p h i ≡ Some t = subst (λ d. first r text b p d i ≡ Some t) (sym same) has.1.2 in
      (t.end, (first-end r text b p h i t e).1, first-means r text b p h ordered i t e)

  -- the least start of a match is the next match's
  pub least-next : (i : ℕ) → IsLeast a (IsMatchStart r.terminator text b h) i → (m : Match) × (next_match r text free b a ≡ Some m) × (m.start ≡ i)
  least-next i least =
      let run = has-run i least.has in
      let may = may-start i least.inside least.has in
      by_value (next_match r text free b a)
      (λ m e.
      let is = next-is r text free b a m e in
      let low = is.least_start i 0 run.0 may run.1 in
      let high = least.least m.start is.start.0.0 (run-starts m.start m.trace.pattern m.trace is.run) in
      (m, e, omega arith))
      (λ none. absurd (next-none r text free b a none i 0 run.0 may run.1))

  pub none-next : ((i : ℕ) → a ≤ i → IsMatchStart r.terminator text b h i → ⊥) → next_match r text free b a ≡ None
  none-next none =
      by_value (next_match r text free b a)
      (λ m e.
      let is = next-is r text free b a m e in
      absurd (none m.start is.start.0.0 (run-starts m.start m.trace.pattern m.trace is.run)))
      (λ e. e)
