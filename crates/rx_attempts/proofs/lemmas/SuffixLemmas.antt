-- How the search for the first confirmed candidate of a suffix goes on, and what it comes to.
use Rattle.std.proofs.Common.{◌≡◌, ◌⊎◌, ℕ, ◌+◌, ◌-◌, ◌*◌, ◌<◌, ◌≤◌, List, [], ◌∷◌, length, refl, sym, ◌∙◌, ap, subst, inl, inr, arith, true≢false}
use Rattle.std.specs.Prelude.{Option, Some, None, Contains, nat_lt, slice_get}
use Rattle.std.proofs.lemmas.Bool.Decides.{nat_tests}
use Rattle.std.proofs.lemmas.List.Elements.{All-nil, All-cons}
use Rattle.rx_model.specs.Expression.{AreOrdered}
use Rattle.rx_model.specs.Search.{free, Patterns}
use Rattle.rx_model.proofs.lemmas.runs.RunLemmas.{by_test}
use Rattle.rx_search.specs.Input.{InputValue}
use Rattle.rx_search.specs.Matches.{MatchValue, HalfMatchValue, match_value}
use Rattle.rx_search.specs.declared.anchored.MatchKind.{MatchKind}
use Rattle.rx_search.specs.declared.span.Span.{Span}
use Rattle.rx_dfa.specs.Automaton.{Dfa}
use Rattle.rx_dfa.specs.Search.{IsAnswerFor}
use Rattle.rx_limited.specs.Calls.{calls_backwards}
use Rattle.rx_limited.specs.Limited.{FindsStart}
use Rattle.rx_limited.proofs.lemmas.CountLemmas.{backwards-few}
use Rattle.rx_order.specs.Order.{IsLeast, IsMatchStart}
use Rattle.rx_order.proofs.lemmas.Forms.{only-one}
use Rattle.rx_order.proofs.lemmas.NextLemmas.{least-next, none-next}
use Rattle.rx_attempts.specs.Inputs.{up_to}
use Rattle.rx_attempts.specs.Candidates.{AreNotEmpty, IsCandidate, IsTaken, IsNextCandidate, NoneBetween, IsLeastRead}
use Rattle.rx_attempts.specs.Premises.{IsBySuffix, IsSuffixOf, NoSuffixBefore}
use Rattle.rx_attempts.specs.Suffix.{IsFirstSuffix, FirstSuffix, IsFresh, IsBehind, GoesOn}
use Rattle.rx_attempts.specs.Whole.{IsWhole}
use Rattle.rx_attempts.proofs.lemmas.NeedleLemmas.{taken-is, taken-long}
use Rattle.rx_attempts.proofs.lemmas.StartLemmas.{suffix-permitted, suffix-none, suffix-some}
use Rattle.rx_attempts.proofs.lemmas.EndLemmas.{finds, whole-answer, nothing-answer}

-- the search begins
pub suffix-fresh : (rev : Dfa) (needles : List (List ℕ)) (v : InputValue) → v.start ≤ v.end → (old : ℕ) → GoesOn rev needles v v.start 0 old old
suffix-fresh rev needles v in_order old = record {
  low = omega arith;
  high = in_order;
  none = λ r p c i lt conf. let low = conf.candidate.0 in omega arith;
  course = inl (record { from_is = refl; min_start_is = refl; steps = refl });
}

module _ (rev : Dfa) (needles : List (List ℕ)) (s : List ℕ) (one : needles ≡ s ∷ []) (bytes : 0 < length s) (v : InputValue)
    (within : v.end ≤ length v.haystack) where
  pub not-empty : AreNotEmpty needles
  not-empty = subst AreNotEmpty (sym one) (All-cons (λ (needle : List ℕ). 0 < length needle) s [] bytes (All-nil (λ (needle : List ℕ). 0 < length needle)))

  -- each candidate is as long as the suffix
  long : (now : Span) → IsTaken needles v now → now.end ≡ now.start + length s
  long now taken =
      let h = taken-is needles v within now taken in
      let same : s ≡ h.0 = only-one s h.0 (subst (λ ns. Contains ns h.0) one h.1) in
      h.3 ∙ ap (λ (l : List ℕ). now.start + length l) (sym same)

  -- a confirmed candidate is one
  confirmed-lies : (r : Patterns) (p : IsBySuffix rev needles r v) (c i : ℕ) → IsSuffixOf p c i → IsCandidate needles v c
  confirmed-lies r p c i conf = (p.suffix, subst (λ ns. Contains ns p.suffix) (sym p.needle) (0, omega arith, refl), conf.candidate)

  module _ (from min_start old mid : ℕ) (on : GoesOn rev needles v from min_start old mid) where
    -- none is confirmed before the next one
    none-to : (to : ℕ) → NoneBetween needles v from to → NoSuffixBefore rev needles v to
    none-to to none r p c i lt conf =
        by_test (nat_lt c from)
        (λ e. on.none r p c i (grind (arith, nat_tests)) conf)
        (λ e. none c (grind (arith, nat_tests)) lt (confirmed-lies r p c i conf))

    -- the steps so far
    pub suffix-ended : mid ≤ old + 4 * (v.end - v.start)
    suffix-ended = by_course on.course
      where
        by_course : IsFresh v from min_start old mid ⊎ IsBehind needles v from min_start old mid → mid ≤ old + 4 * (v.end - v.start)
        by_course (inl f) = let same = f.steps in omega (arith, same)
        by_course (inr b) =
            let ends = taken-long needles v within not-empty b.last b.taken in
            let lt = ends.0 in
            let le = ends.1 in
            let inside = b.taken.inside in
            let at = b.from_is in
            let taken = b.steps in
            omega arith

    -- .. and none at all, where there is no next one
    pub suffix-over : IsNextCandidate needles v from None → FirstSuffix rev needles v None
    suffix-over none place = none-to place (λ c low lt. none c low)

    module _ (now : Span) (next : IsNextCandidate needles v from (Some now)) where
      pub suffix-before : NoSuffixBefore rev needles v now.start
      suffix-before = none-to now.start next.2

      pub suffix-least : IsLeastRead needles v min_start now.start
      suffix-least = by_course on.course
        where
          by_course : IsFresh v from min_start old mid ⊎ IsBehind needles v from min_start old mid → IsLeastRead needles v min_start now.start
          by_course (inl f) = inl (f.min_start_is, subst (λ k. NoneBetween needles v k now.start) f.from_is next.2)
          by_course (inr b) =
              let low = next.1 in
              let at = b.from_is in
              inr (
                b.last,
                record {
                  taken = b.taken;
                  before = omega arith;
                  last = subst (λ k. NoneBetween needles v k now.start) b.from_is next.2;
                },
                b.min_start_is,
              )

      -- the steps of the search backwards from it
      pub suffix-few : (new : ℕ) → new ≤ mid + calls_backwards rev (up_to v now.end) → new ≤ mid + (now.end - min_start) + 2
          → new ≤ old + 3 * (now.start + 1 - v.start) + (now.end - now.start)
      suffix-few new most few = by_course on.course
        where
          by_course : IsFresh v from min_start old mid ⊎ IsBehind needles v from min_start old mid
              → new ≤ old + 3 * (now.start + 1 - v.start) + (now.end - now.start)
          by_course (inl f) =
              let all = backwards-few rev (up_to v now.end) in
              let at = f.from_is in
              let taken = f.steps in
              let low = next.1 in
              let ends = (taken-long needles v within not-empty now next.0).0 in
              omega (arith, most, all, taken)
          by_course (inr b) =
              let last = long b.last b.taken in
              let this = long now next.0 in
              let at = b.from_is in
              let least = b.min_start_is in
              let taken = b.steps in
              let low = next.1 in
              let start = on.low in
              omega (arith, few, taken, last, this, at, least)

      pub suffix-total : (new : ℕ) → new ≤ old + 3 * (now.start + 1 - v.start) + (now.end - now.start) → new ≤ old + 4 * (v.end - v.start)
      suffix-total new few =
          let ends = taken-long needles v within not-empty now next.0 in
          let lt = ends.0 in
          let le = ends.1 in
          let low = next.1 in
          let start = on.low in
          omega arith

      -- it is not confirmed, so the search goes on
      pub suffix-on : FindsStart rev (up_to v now.end) None → (new : ℕ) → new ≤ old + 3 * (now.start + 1 - v.start) + (now.end - now.start)
          → GoesOn rev needles v (now.start + 1) now.end old new
      suffix-on back new few =
          let ends = taken-long needles v within not-empty now next.0 in
          let lt = ends.0 in
          let le = ends.1 in
          let low = next.1 in
          let start = on.low in
          record {
            low = omega arith;
            high = omega arith;
            none = λ r p c i below conf. by_test (nat_lt c now.start)
                (λ e. suffix-before r p c i (grind (arith, nat_tests)) conf)
                (λ e.
                let at : c ≡ now.start = grind (arith, nat_tests) in
                suffix-none rev needles not-empty v within r p now next.0 back i (subst (λ k. IsSuffixOf p k i) at conf));
            course = inr (record { last = now; taken = next.0; from_is = refl; min_start_is = refl; steps = few });
          }

      -- or it is the first that is
      pub suffix-found : (start : HalfMatchValue) → FindsStart rev (up_to v now.end) (Some start) → FirstSuffix rev needles v (Some start)
      suffix-found start back = record {
        place = now.start;
        confirmed = λ r p. suffix-some rev needles not-empty v within r p now next.0 start back;
        none = suffix-before;
      }

  -- What the attempt answers.
  module _ (kind : MatchKind) (is_free : v.anchor ≡ free) (r : Patterns) (p : IsBySuffix rev needles r v) where
    ordered : AreOrdered p.expression
    ordered = p.starts.ordered 0 p.expression (ap (λ hs. slice_get hs 0) p.is)

    pub suffix-nothing : FirstSuffix rev needles v None → IsAnswerFor kind r v match_value None
    suffix-nothing none =
        nothing-answer kind r v is_free
        (none-next r p.expression p.is ordered v.haystack v.end v.start (suffix-permitted rev needles not-empty v within r p)
        ((p.order r.terminator v.haystack v.start v.end).none (λ c i conf. none (c + 1) r p c i (omega arith) conf)))

    module _ (start : HalfMatchValue) (first : IsFirstSuffix rev needles v start) where
      confirmed : IsSuffixOf p first.place start.offset × (start.pattern ≡ 0)
      confirmed = first.confirmed r p

      least : IsLeast v.start (IsMatchStart r.terminator v.haystack v.end p.expression) start.offset
      least = (p.order r.terminator v.haystack v.start v.end).some first.place start.offset confirmed.0 (λ d k lt conf. first.none r p d k lt conf)

      pub suffix-answer : (found : Option MatchValue) → IsWhole kind r v start found → IsAnswerFor kind r v match_value found
      suffix-answer None gone =
          let may = suffix-permitted rev needles not-empty v within r p start.offset least.inside least.has in
          absurd (true≢false (sym (finds r p.expression p.is ordered v start confirmed.1 least.has may) ∙ gone))
      suffix-answer (Some m) whole =
          let n = least-next r p.expression p.is ordered v.haystack v.end v.start (suffix-permitted rev needles not-empty v within r p) start.offset least in
          whole-answer r p.expression p.is ordered v start confirmed.1 kind m whole is_free least.inside n.0 n.1 n.2
