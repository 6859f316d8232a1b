-- What a forward search makes of what it met under `All`.
use Rattle.std.proofs.Common.{◌≡◌, ◌⊎◌, ℕ, ◌≤◌, ◌<◌, length, refl, sym, ◌∙◌, ap, subst, inl, inr, arith, true≢false}
use Rattle.std.specs.Prelude.{Bool, true, false, not, Option, Some, None}
use Rattle.rx_model.specs.Look.{byte_before}
use Rattle.rx_model.specs.Search.{is_anchored, is_permitted}
use Rattle.rx_model.proofs.lemmas.runs.FirstLemmas.{none-is-some, some-is}
use Rattle.rx_search.specs.Input.{InputValue, from_place}
use Rattle.rx_search.specs.Matches.{HalfMatchValue}
use Rattle.rx_search.specs.declared.anchored.MatchKind.TheVariants.{All}
use Rattle.rx_nfa.specs.Automaton.{forwards}
use Rattle.rx_nfa.specs.NextMatch.{start_of}
use Rattle.rx_determinize.specs.Sight.{class_beside}
use Rattle.rx_determinize.specs.Span.{loops_in}
use Rattle.rx_determinize.specs.Permitted.{Progress}
use Rattle.rx_determinize.specs.Told.{HasRunTo, IsLastWhere}
use Rattle.rx_determinize.proofs.lemmas.SpanLemmas.{start-inside}
use Rattle.rx_determinize.proofs.lemmas.ToldLemmas.{last-some, last-none}
use Rattle.rx_dfa.specs.Automaton.{Dfa, IsSound, sight_of}
use Rattle.rx_dfa.specs.Course.{IsMetForwards}
use Rattle.rx_dfa.specs.Search.{HasRunIn, HasNoEnd, IsEnd, IsLastEnd, IsLastAnswer}
use Rattle.rx_dfa.proofs.lemmas.MetLemmas.{run-from, sees-from, nothing-met, to-end}

-- What was met by one search.
module _ (d : Dfa) (sound : IsSound d) (every : d.kind ≡ All) (v : InputValue) (spanned : v.end ≤ length v.haystack) (x : Progress)
    (m : IsMetForwards d v x) where
  abbrev before : Option ℕ
  before = class_beside d.keeps d.classes d.bytes (byte_before v.haystack v.start)

  -- it is the last end up to the place where the automaton stopped
  abbrev IsLastFrom : (q : ℕ) → (e : ℕ) → HalfMatchValue → Type 0
  IsLastFrom q e h =
      IsLastWhere (is_permitted d.nfa.utf8 v.haystack) (forwards d.nfa.terminator v.haystack) d.nfa.states q (loops_in v.anchor) e v.start h

  last-found : (h : HalfMatchValue) → x.best ≡ Some h → (q : ℕ) × (start_of d.nfa v.anchor ≡ Some q) × IsLastFrom q m.stop h
  last-found h is = by_start (start_of d.nfa v.anchor) refl
    where
      by_start : (o : Option ℕ) → start_of d.nfa v.anchor ≡ o → (q : ℕ) × (start_of d.nfa v.anchor ≡ Some q) × IsLastFrom q m.stop h
      by_start None begins = none-is-some (sym (ap (λ (r : Progress). r.best) (nothing-met d v x m begins)) ∙ is)
      by_start (Some q) begins =
          let high = m.high in
          let seen = sees-from d v x m All every q begins in (
            q,
            begins,
            last-some (forwards d.nfa.terminator v.haystack) (length v.haystack) d.nfa.states sound.in_range.names q
                (start-inside d.nfa sound.in_range (sight_of d) v.haystack v.end spanned v.anchor q begins) (sight_of d) (is_permitted d.nfa.utf8 v.haystack)
                m.stop v.start m.low (omega arith) before (loops_in v.anchor) (λ j low to alive. seen.sees j low to alive) h
                (ap (λ (r : Progress). r.best) (sym (run-from d v x m All every q begins)) ∙ is),
          )

  -- nothing was found
  pub no-end : x.best ≡ None → HasNoEnd d.nfa v
  no-end none p e low high on run =
      let q = run.0 in
      let begins = run.1 in
      let to = m.high in
      let far : m.stop ≡ v.end = to-end d v x m none in
      let seen = sees-from d v x m All every q begins in
      last-none (forwards d.nfa.terminator v.haystack) (length v.haystack) d.nfa.states sound.in_range.names q
      (start-inside d.nfa sound.in_range (sight_of d) v.haystack v.end spanned v.anchor q begins) (sight_of d) (is_permitted d.nfa.utf8 v.haystack)
      m.stop v.start m.low (omega arith) before (loops_in v.anchor) (λ j from stop alive. seen.sees j from stop alive)
      (ap (λ (r : Progress). r.best) (sym (run-from d v x m All every q begins)) ∙ none) p e low (omega arith) on run.2

  -- what was found is an end
  pub is-end : (h : HalfMatchValue) → x.best ≡ Some h → IsEnd d.nfa v h
  is-end h is =
      let l = last-found h is in
      let last = l.2 in
      let to = last.to in
      let high = m.high in
      record { from = last.from; to = omega arith; ends = last.ends; runs = (l.0, l.1, last.runs) }

  -- the last one, where not just any will do
  pub is-last : (h : HalfMatchValue) → x.best ≡ Some h → v.earliest ≡ false → IsLastEnd d.nfa v h
  is-last h is whole =
      let l = last-found h is in
      let last : IsLastFrom l.0 v.end h = subst (λ e. IsLastFrom l.0 e h) stops l.2 in
      record {
        is_end = is-end h is;
        latest = λ p e low high on run. last.latest p e low high on (from_there l.0 l.1 p e run);
        least = λ p run. last.least p (from_there l.0 l.1 p h.offset run);
      }
    where
      stops : m.stop ≡ v.end
      stops =
          elim m.whole [
            | inl same ↦ same
            | inr early ↦ absurd (true≢false (sym early.0 ∙ whole))
          ]

      from_there : (q : ℕ) → start_of d.nfa v.anchor ≡ Some q → (p e : ℕ) → HasRunIn d.nfa v p e
          → HasRunTo (forwards d.nfa.terminator v.haystack) d.nfa.states q (loops_in v.anchor) v.start p e
      from_there q begins p e run =
          subst (λ s. HasRunTo (forwards d.nfa.terminator v.haystack) d.nfa.states s (loops_in v.anchor) v.start p e) (some-is (sym run.1 ∙ begins)) run.2

pub answer-some : (d : Dfa) → IsSound d → d.kind ≡ All → (v : InputValue) → v.end ≤ length v.haystack → (x : Progress) → IsMetForwards d v x
    → (h : HalfMatchValue) → x.best ≡ Some h → IsLastAnswer d.nfa v (Some h)
answer-some d sound every v spanned x m h is = record {
  value = λ whole. is-last d sound every v spanned x m h is whole;
  none = tt;
  is_end = is-end d sound every v spanned x m h is;
}

pub answer-none : (d : Dfa) (v : InputValue) → HasNoEnd d.nfa v → IsLastAnswer d.nfa v None
answer-none d v none = record { value = λ whole. tt; none = none; is_end = tt }

-- Where a search began again.

-- a run of a later part of the span is one of the span
run-later : (d : Dfa) (v : InputValue) (from : ℕ) → v.start ≤ from → (is_anchored v.anchor ≡ true → from ≡ v.start) → (p e : ℕ)
    → HasRunIn d.nfa (from_place from v) p e → HasRunIn d.nfa v p e
run-later d v from low begins p e run =
    let r = run.2 in
    let after = r.low in (
      run.0,
      run.1,
      record {
        from = r.from;
        low = omega arith;
        high = r.high;
        anchored = λ off. r.anchored off ∙ begins (no_loop (is_anchored v.anchor) off);
        steps = r.steps;
        leads = r.leads;
      },
    )
  where
    no_loop : (b : Bool) → not b ≡ false → b ≡ true
    no_loop true off = refl
    no_loop false off = absurd (true≢false off)

-- Under `All` a search that begins again finds nothing: all the ends were met before.
abbrev pub IsOver : Dfa → InputValue → (from : ℕ) → Type 0
IsOver d v from = (from ≡ v.start) ⊎ HasNoEnd d.nfa v

module _ (d : Dfa) (sound : IsSound d) (every : d.kind ≡ All) (v : InputValue) (spanned : v.end ≤ length v.haystack) (from : ℕ) (low : v.start ≤ from)
    (begins : is_anchored v.anchor ≡ true → from ≡ v.start) (over : IsOver d v from) (x : Progress) (m : IsMetForwards d (from_place from v) x) where
  at-start : from ≡ v.start → IsMetForwards d v x
  at-start same = subst (λ n. IsMetForwards d (from_place n v) x) same m

  pub last-of-found : (h : HalfMatchValue) → x.best ≡ Some h → IsLastAnswer d.nfa v (Some h)
  last-of-found h is =
      elim over [
        | inl same ↦ answer-some d sound every v spanned x (at-start same) h is
        | inr none ↦
            let end = is-end d sound every (from_place from v) spanned x m h is in
            let after = end.from in
            absurd (none h.pattern h.offset (omega arith) end.to end.ends (run-later d v from low begins h.pattern h.offset end.runs))
      ]

  pub none-of-missing : x.best ≡ None → HasNoEnd d.nfa v
  none-of-missing missing =
      elim over [
        | inl same ↦ no-end d sound every v spanned x (at-start same) missing
        | inr none ↦ none
      ]

-- the search is past the span's end
pub last-past : (d : Dfa) (v : InputValue) (from : ℕ) → v.end < from → IsOver d v from → IsLastAnswer d.nfa v None
last-past d v from past over =
    elim over [
      | inl same ↦ answer-none d v (λ p e low high on run. omega arith)
      | inr none ↦ answer-none d v none
    ]
