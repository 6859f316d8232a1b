-- What a search forwards answers that is anchored.
use Rattle.std.proofs.Common.{◌≡◌, ℕ, ◌≤◌, ◌<◌, length, refl, inl, inr}
use Rattle.std.specs.Prelude.{true, Option, Some, None, IfSome}
use Rattle.rx_model.specs.Search.{Patterns, is_anchored}
use Rattle.rx_search.specs.Input.{InputValue}
use Rattle.rx_search.specs.Matches.{HalfMatchValue, half_match_value}
use Rattle.rx_search.specs.Promise.{Premises}
use Rattle.rx_search.specs.Told.{HalfLiesIn}
use Rattle.rx_search.specs.declared.anchored.MatchKind.TheVariants.{All, LeftmostFirst}
use Rattle.rx_nfa.specs.Nfa.{IsNfaOf}
use Rattle.rx_dfa.specs.Automaton.{Dfa, IsSound}
use Rattle.rx_dfa.specs.Search.{IsForwardAnswer, IsLastAnswer, IsAnswerFor}
use Rattle.rx_dfa.proofs.lemmas.AnswerLemmas.{by_kind, every-answer, leftmost-answer}
use Rattle.rx_dfa.proofs.lemmas.ForwardLemmas.{stands-first, nothing-past, answer-found, answer-anchored, forwards-between}
use Rattle.rx_dfa.proofs.lemmas.LastLemmas.{no-end, answer-some, answer-none, last-past}
use Rattle.rx_dfa.proofs.lemmas.PatternLemmas.{forwards-below, if-below}
use Rattle.rx_limited.specs.Stopat.{IsStop}

-- by either kind
pub answer-by : (d : Dfa) (v : InputValue) → v.end ≤ length v.haystack → (found : Option HalfMatchValue)
    → ((r : Patterns) → Premises (IsNfaOf d.nfa r) None r v → d.kind ≡ LeftmostFirst → IsForwardAnswer d.nfa v found)
    → (d.kind ≡ All → IsLastAnswer d.nfa v found)
    → (r : Patterns) → Premises (IsNfaOf d.nfa r) None r v → IsAnswerFor d.kind r v half_match_value found
answer-by d v spanned found first last r p =
    elim (by_kind d.kind) [
      | inl every ↦ every-answer d.nfa r v spanned p d.kind every found (last every)
      | inr leftmost ↦ leftmost-answer d.nfa r v spanned p d.kind found (first r p leftmost)
    ]

-- a span that begins behind its end
pub past-answer : (d : Dfa) (v : InputValue) → v.end < v.start → (r : Patterns) → Premises (IsNfaOf d.nfa r) None r v → d.kind ≡ LeftmostFirst
    → IsForwardAnswer d.nfa v None
past-answer d v past r p leftmost = nothing-past d v v.start (stands-first d v) past r p leftmost

pub past-last : (d : Dfa) (v : InputValue) → v.end < v.start → d.kind ≡ All → IsLastAnswer d.nfa v None
past-last d v past every = last-past d v v.start past ((stands-first d v).over every)

module _ (d : Dfa) (sound : IsSound d) (v : InputValue) (spanned : v.end ≤ length v.haystack) (anchored : is_anchored v.anchor ≡ true) (old new : ℕ) where
  pub stop-answer : (best : Option HalfMatchValue) (place : ℕ) → IsStop d v old new best place → (r : Patterns) → Premises (IsNfaOf d.nfa r) None r v
      → d.kind ≡ LeftmostFirst → IsForwardAnswer d.nfa v best
  stop-answer None place s r p leftmost =
      answer-anchored d sound v spanned v.start (stands-first d v) (record { best = None; refused = s.refused }) s.met refl anchored r p leftmost
  stop-answer (Some h) place s r p leftmost =
      answer-found d sound v spanned v.start (stands-first d v) (record { best = Some h; refused = s.refused }) s.met h refl r p leftmost

  pub stop-last : (best : Option HalfMatchValue) (place : ℕ) → IsStop d v old new best place → d.kind ≡ All → IsLastAnswer d.nfa v best
  stop-last None place s every = answer-none d v (no-end d sound every v spanned (record { best = None; refused = s.refused }) s.met refl)
  stop-last (Some h) place s every = answer-some d sound every v spanned (record { best = Some h; refused = s.refused }) s.met h refl

  pub stop-within : (best : Option HalfMatchValue) (place : ℕ) → IsStop d v old new best place → IfSome best (HalfLiesIn v)
  stop-within None place s = tt
  stop-within (Some h) place s = (forwards-between d v (record { best = Some h; refused = s.refused }) s.met).best h refl

  pub stop-range : (best : Option HalfMatchValue) (place : ℕ) → IsStop d v old new best place → IfSome best (λ h. h.pattern < length d.nfa.starts)
  stop-range best place s = if-below (length d.nfa.starts) best (forwards-below d sound v (record { best = best; refused = s.refused }) s.met)
