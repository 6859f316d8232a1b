-- A search from candidate to candidate.
use Rattle.std.proofs.Common.{◌≡◌, ℕ, zero, suc, ◌+◌, ◌≤◌, ◌<◌, List, [], ◌∷◌, length, refl, sym, ◌∙◌, ap, subst, inl, inr, arith, true≢false}
use Rattle.std.specs.Prelude.{true, false, Option, Some, None, option_map, slice_get}
use Rattle.rx_model.specs.Expression.{Expression}
use Rattle.rx_model.specs.Meaning.{Means}
use Rattle.rx_model.specs.Search.{free, is_anchored, Patterns, next_match, starting_at}
use Rattle.rx_model.proofs.lemmas.graphs.GraphLemmas.{first-end, first-means}
use Rattle.rx_model.proofs.lemmas.matches.MatchLemmas.{starting_at-some}
use Rattle.rx_model.proofs.lemmas.matches.SkipLemmas.{skip-to}
use Rattle.rx_model.proofs.lemmas.runs.FirstLemmas.{none-is-some, some-is, tells}
use Rattle.rx_search.specs.Input.{InputValue, from_place}
use Rattle.rx_search.specs.Matches.{HalfMatchValue, half_match_value}
use Rattle.rx_search.specs.Needles.{MeansSome, OneBegins}
use Rattle.rx_search.specs.Promise.{Premises}
use Rattle.rx_search.specs.declared.anchored.MatchKind.TheVariants.{LeftmostFirst}
use Rattle.rx_nfa.specs.Nfa.{IsNfaOf}
use Rattle.rx_nfa.specs.NextMatch.{next_match_of}
use Rattle.rx_determinize.specs.Permitted.{Progress}
use Rattle.rx_dfa.specs.Automaton.{Dfa, IsSound}
use Rattle.rx_dfa.specs.Candidates.{HasNoneBefore, IsBack, StandsBy}
use Rattle.rx_dfa.specs.Course.{IsMetForwards}
use Rattle.rx_dfa.specs.Search.{AreAllOrdered, IsForwardAnswer}
use Rattle.rx_dfa.proofs.lemmas.AnswerLemmas.{agree-half}
use Rattle.rx_dfa.proofs.lemmas.BothLemmas.{not-anchored}
use Rattle.rx_dfa.proofs.lemmas.ForwardLemmas.{past-none, forwards-between, nothing-found, found-from, unrefused-from, next-from}

-- one of the patterns means what an expression of the list means
some-means : (t : ℕ) (text : List ℕ) (i j : ℕ) (hs : List Expression) (k : ℕ) (h : Expression) → slice_get hs k ≡ Some h → Means t text h i j
    → MeansSome t text hs i j
some-means t text i j [] k h is m = none-is-some is
some-means t text i j (x ∷ hs) zero h is m = inl (subst (λ y. Means t text y i j) (sym (some-is is)) m)
some-means t text i j (x ∷ hs) (suc k) h is m = inr (some-means t text i j hs k h is m)

-- what begins a part of the span begins the span
begins-longer : (text : List ℕ) (i j k : ℕ) → j ≤ k → (needles : List (List ℕ)) → OneBegins text i j needles → OneBegins text i k needles
begins-longer text i j k le [] none = none
begins-longer text i j k le (needle ∷ needles) (inl here) = inl (here.0, let ends = here.1 in omega arith)
begins-longer text i j k le (needle ∷ needles) (inr later) = inr (begins-longer text i j k le needles later)

-- the premises without the needles
abbrev pub without : (d : Dfa) (needles : List (List ℕ)) (r : Patterns) (v : InputValue) → Premises (IsNfaOf d.nfa r) (Some needles) r v
    → Premises (IsNfaOf d.nfa r) None r v
without d needles r v p = record { is_for = p.is_for; begins = λ loose. tt; utf8 = p.utf8 }

module _ (d : Dfa) (needles : List (List ℕ)) (v : InputValue) (spanned : v.end ≤ length v.haystack) (unanchored : is_anchored v.anchor ≡ false) where
  abbrev next_by : (from : ℕ) → Option HalfMatchValue
  next_by from = option_map half_match_value (next_match_of d.nfa d.nfa.utf8 v.haystack v.anchor v.end from)

  -- no match starts where no needle lies
  skipped : (from c : ℕ) → from ≤ c → HasNoneBefore needles v from c → (r : Patterns) → Premises (IsNfaOf d.nfa r) (Some needles) r v → AreAllOrdered r
      → next_by from ≡ next_by c
  skipped from c le none r p ordered =
      let anchor = not-anchored v.anchor unanchored in
      agree-half d.nfa r v spanned (without d needles r v p) v.end from spanned
      ∙ ap (option_map half_match_value)
      (subst (λ a. next_match r v.haystack a v.end from ≡ next_match r v.haystack a v.end c) (sym anchor)
      (skip-to r v.haystack v.end from c le (λ j low high permitted. nowhere j low high)))
      ∙ sym (agree-half d.nfa r v spanned (without d needles r v p) v.end c spanned)
    where
      nowhere : (j : ℕ) → from ≤ j → j < c → starting_at r v.haystack v.end free j ≡ None
      nowhere j low high =
          elim (tells (starting_at r v.haystack v.end free j)) [
            | inl gone ↦ gone
            | inr some ↦
                let run = (starting_at-some r v.haystack v.end free j some.0 some.1).run in
                let h = run.1.0 in
                let ends = first-end r v.haystack v.end some.0.pattern h j some.0 run.1.2 in
                absurd (none j low high
                (begins-longer v.haystack j some.0.end v.end ends.1 needles
                (p.begins unanchored v.haystack j some.0.end
                (some-means r.terminator v.haystack j some.0.end r.expressions some.0.pattern h run.1.1
                (first-means r v.haystack v.end some.0.pattern h (ordered some.0.pattern h run.1.1) j some.0 run.1.2)))))
          ]

  pub stands-start : StandsBy d needles v v.start
  stands-start = record { low = omega arith; next = λ r p ordered. refl }

  -- on to the next candidate
  pub stands-candidate : (from c : ℕ) → from ≤ c → HasNoneBefore needles v from c → StandsBy d needles v from → StandsBy d needles v c
  stands-candidate from c le none stands =
      let first = stands.low in
      record {
        low = omega arith;
        next = λ r p ordered. stands.next r p ordered ∙ skipped from c le none r p ordered;
      }

  -- no candidate is left
  pub none-left : (from : ℕ) → from ≤ v.end + 1 → HasNoneBefore needles v from (v.end + 1) → StandsBy d needles v from
      → (r : Patterns) → Premises (IsNfaOf d.nfa r) (Some needles) r v → AreAllOrdered r → IsForwardAnswer d.nfa v None
  none-left from le none stands r p ordered =
      nothing-found d.nfa v
      (stands.next r p ordered ∙ skipped from (v.end + 1) le none r p ordered
      ∙ ap (option_map half_match_value) (past-none d.nfa d.nfa.utf8 v.haystack v.anchor v.end (v.end + 1) (omega arith)))

  -- the search is past the span's end
  pub by-past : (from : ℕ) → v.end < from → StandsBy d needles v from
      → (r : Patterns) → Premises (IsNfaOf d.nfa r) (Some needles) r v → AreAllOrdered r → IsForwardAnswer d.nfa v None
  by-past from past stands r p ordered =
      nothing-found d.nfa v
      (stands.next r p ordered ∙ ap (option_map half_match_value) (past-none d.nfa d.nfa.utf8 v.haystack v.anchor v.end from past))

  loose : {P : Type 0} → is_anchored v.anchor ≡ true → P
  loose on = absurd (true≢false (sym on ∙ unanchored))

  -- where the search is as if it began there
  pub stands-back : (from place : ℕ) → StandsBy d needles v from → IsBack d (from_place from v) place → StandsBy d needles v place
  stands-back from place stands back =
      let first = stands.low in
      let after = back.after in
      record {
        low = omega arith;
        next = λ r p ordered. stands.next r p ordered ∙ back.alike r (record { is_for = p.is_for; begins = λ loose_there. tt; utf8 = p.utf8 });
      }

  module _ (sound : IsSound d) (leftmost : d.kind ≡ LeftmostFirst) (from : ℕ) (stands : StandsBy d needles v from) (x : Progress)
      (m : IsMetForwards d (from_place from v) x) where
    pub by-found : (h : HalfMatchValue) → x.best ≡ Some h → (r : Patterns) → Premises (IsNfaOf d.nfa r) (Some needles) r v → AreAllOrdered r
        → IsForwardAnswer d.nfa v (Some h)
    by-found h is r p ordered =
        found-from d sound v spanned from stands.low loose x m leftmost r (without d needles r v p) (stands.next r p ordered) h is

    pub by-unrefused : x.best ≡ None → x.refused ≡ None → (r : Patterns) → Premises (IsNfaOf d.nfa r) (Some needles) r v → AreAllOrdered r
        → IsForwardAnswer d.nfa v None
    by-unrefused none is r p ordered =
        unrefused-from d sound v spanned from stands.low loose x m leftmost r (without d needles r v p) (stands.next r p ordered) none is

    pub stands-again : x.best ≡ None → (place : ℕ) → x.refused ≡ Some place → StandsBy d needles v (place + 1)
    stands-again none place is =
        let first = stands.low in
        let within = (forwards-between d (from_place from v) x m).refused place is in
        let low = within.0 in
        record {
          low = omega arith;
          next = λ r p ordered.
              next-from d sound v spanned from stands.low loose x m leftmost r (without d needles r v p) (stands.next r p ordered) none unanchored place is;
        }
